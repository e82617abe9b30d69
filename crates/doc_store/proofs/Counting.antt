-- An opening that is counted: by a commit of the bytes as they were read, or by a snapshot.
use Rattle.std.proofs.Common.{◌≡◌, ◌⊎◌, inl, inr, ℕ, List, length, refl, sym, ◌∙◌, ap, subst, Bool, true, false, if◌then◌else◌, nat_eq, ◌+◌, ◌<◌, ⊎_elim, arith}
use Rattle.std.proofs.lemmas.Bool.{eq-eqb, ne_eqb}
use Rattle.sector_device.specs.Disk.{Disk, Image, IsCoherent, LeavesOnly}
use Rattle.sector_device.specs.Sectors.{sectors_of}
use Rattle.sector_device.proofs.Moments.{started}
use Rattle.store_journal.specs.Calls.{Became, Broke, CallFault, CommitFault, Counted, Migrated, Refused}
use Rattle.slot_commits.specs.Loads.{number_end}
use Rattle.store_journal.specs.Carries.{Carried, Carries, EitherCarried, counted, migrated}
use Rattle.store_journal.specs.JournalView.{JournalView, IsKept, carried_of}
use Rattle.store_journal.specs.Models.{model}
use Rattle.store_journal.specs.Writes.{count_calls}
use Rattle.refusals.specs.declared.numbers.TheConstants.{DEVICE}
use Rattle.doc_changes.specs.State.{State}
use Rattle.store_commits.specs.Snapshot.{snapshot_bytes}
use Rattle.doc_store.specs.Found.{IsSettled, carried_in}
use Rattle.doc_store.specs.Opening.{calls_to_settle, carried_after}

-- a working journal that has a number is refused for its device alone
pub commit_device : {D : Type 0} (view : JournalView D) (number : ℕ) → view.broken ≡ false → view.next < number_end → CommitFault view number → number ≡ DEVICE
commit_device view number works fits (inl is) = let contrary = sym works ∙ is.1 in absurd (cc contrary)
commit_device view number works fits (inr (inl is)) = let over = is.2 in absurd (omega (arith, over, fits))
commit_device view number works fits (inr (inr is)) = is.0

pub call_device : {D : Type 0} (view : JournalView D) (number : ℕ) → view.broken ≡ false → CallFault view number → number ≡ DEVICE
call_device view number works (inl is) = let contrary = sym works ∙ is.1 in absurd (cc contrary)
call_device view number works (inr is) = is.0

pub refused_broke : {D : Type 0} (disk new_disk : Disk) (calls : ℕ) (old new : JournalView D) (number : ℕ) → number ≡ DEVICE → Refused disk new_disk calls old new number → Broke disk new_disk calls old new
refused_broke disk new_disk calls old new number is (inl hit) = hit.1
refused_broke disk new_disk calls old new number is (inr other) = absurd (other.0 is)

module _ {D : Type 0} (disk : D → Disk) (old new : JournalView D) (bytes : List ℕ) (state : State) (size : length bytes ≡ length old.bytes) (are : (disk old.device).honest → bytes ≡ old.bytes) where
  abbrev was : Carried
  was = carried_in old bytes

  abbrev snapshot : List ℕ
  snapshot = snapshot_bytes false state.documents state.marks

  was_is : (disk old.device).honest → was ≡ carried_of old
  was_is honest = λ i. record (carried_of old) { bytes = are honest i }

  -- no more is done: the images carry what was read
  pub still_carried : ((disk old.device).honest → IsCoherent (model old.rides (disk old.device))) → IsKept (disk old.device) old → old.broken ≡ false → (disk old.device).honest
      → LeavesOnly (model old.rides (disk old.device)) (model old.rides (disk old.device)) (EitherCarried was (carried_after was state))
  still_carried coherent kept works honest =
      started (model old.rides (disk old.device)) (EitherCarried was (carried_after was state)) (coherent honest) (λ image left. inl (subst (λ (c : Carried). Carries c image) (sym (was_is honest)) (kept.carried honest works image left)))

  -- ---- in format 2 or 3

  module _ (other : old.version ≡ 1 → ⊥) where
    after_is : carried_after was state ≡ counted was
    after_is = ap (λ (b : Bool). if b then migrated was snapshot else counted was) (ne_eqb old.version 1 other)

    calls_are : (old.rides ≡ true → old.settled ≡ false) → calls_to_settle was state old.blocks ≡ count_calls old.rides old.settled (length old.bytes) old.blocks
    calls_are fresh =
        ap (λ (b : Bool). if b then sectors_of (length snapshot) + 3 else count_calls old.rides false (length bytes) old.blocks) (ne_eqb old.version 1 other)
        ∙ ap (λ (n : ℕ). count_calls old.rides false n old.blocks) size ∙ by old.rides fresh
      where
        by : (r : Bool) → (r ≡ true → old.settled ≡ false) → count_calls r false (length old.bytes) old.blocks ≡ count_calls r old.settled (length old.bytes) old.blocks
        by false none = refl
        by true none = ap (λ (b : Bool). count_calls true b (length old.bytes) old.blocks) (sym (none refl))

    pub counted_settles : (old.rides ≡ true → old.settled ≡ false) → Counted (disk old.device) (disk new.device) old new → IsSettled (disk old.device) (disk new.device) was old new state
    counted_settles fresh is =
        subst (λ (n : ℕ). Became (disk old.device) (disk new.device) old new (carried_after was state) (length (carried_after was state).bytes) n) (sym (calls_are fresh))
        (subst (λ (c : Carried). Became (disk old.device) (disk new.device) old new c (length c.bytes) (count_calls old.rides old.settled (length old.bytes) old.blocks)) (sym after_is) became)
      where
        became : Became (disk old.device) (disk new.device) old new (counted was) (length bytes) (count_calls old.rides old.settled (length old.bytes) old.blocks)
        became = record {
          bytes = λ honest. is.bytes honest ∙ sym (are honest);
          used = is.used ∙ sym size;
          version = is.version;
          rides = is.rides;
          half = is.half;
          seq = is.seq;
          opens = is.opens;
          identity = is.identity;
          sectors = is.sectors;
          works = is.works;
          settled = is.settled;
          next = is.next;
          made = is.made;
        }

    pub counted_broke : (old.rides ≡ true → old.settled ≡ false) → Broke (disk old.device) (disk new.device) (count_calls old.rides old.settled (length old.bytes) old.blocks) old new → Broke (disk old.device) (disk new.device) (calls_to_settle was state old.blocks) old new
    counted_broke fresh = subst (λ (n : ℕ). Broke (disk old.device) (disk new.device) n old new) (sym (calls_are fresh))

    pub counted_leaves : (disk old.device).honest → LeavesOnly (model old.rides (disk old.device)) (model old.rides (disk new.device)) (EitherCarried (carried_of old) (counted (carried_of old)))
        → LeavesOnly (model old.rides (disk old.device)) (model old.rides (disk new.device)) (EitherCarried was (carried_after was state))
    counted_leaves honest leaves =
        subst (λ (c : Carried). LeavesOnly (model old.rides (disk old.device)) (model old.rides (disk new.device)) (EitherCarried was c)) (sym after_is)
        (subst (λ (c : Carried). LeavesOnly (model old.rides (disk old.device)) (model old.rides (disk new.device)) (EitherCarried c (counted c))) (sym (was_is honest)) leaves)

  -- ---- in format 1

  module _ (one : old.version ≡ 1) (target : List ℕ) (target_is : target ≡ snapshot) where
    first_is : carried_after was state ≡ migrated was snapshot
    first_is = ap (λ (b : Bool). if b then migrated was snapshot else counted was) (eq-eqb old.version 1 one)

    first_calls : calls_to_settle was state old.blocks ≡ sectors_of (length snapshot) + 3
    first_calls = ap (λ (b : Bool). if b then sectors_of (length snapshot) + 3 else count_calls old.rides false (length bytes) old.blocks) (eq-eqb old.version 1 one)

    pub migrated_settles : Migrated (disk old.device) (disk new.device) old new target → IsSettled (disk old.device) (disk new.device) was old new state
    migrated_settles is =
        subst (λ (n : ℕ). Became (disk old.device) (disk new.device) old new (carried_after was state) (length (carried_after was state).bytes) n) (sym first_calls)
        (subst (λ (c : Carried). Became (disk old.device) (disk new.device) old new c (length c.bytes) (sectors_of (length snapshot) + 3)) (sym first_is)
        (subst (λ (l : List ℕ). Became (disk old.device) (disk new.device) old new (migrated was l) (length l) (sectors_of (length l) + 3)) target_is is.became))

    pub migrated_broke : Broke (disk old.device) (disk new.device) (sectors_of (length target) + 3) old new → Broke (disk old.device) (disk new.device) (calls_to_settle was state old.blocks) old new
    migrated_broke broke = subst (λ (n : ℕ). Broke (disk old.device) (disk new.device) n old new) (sym (first_calls ∙ ap (λ (l : List ℕ). sectors_of (length l) + 3) (sym target_is))) broke

    pub migrated_leaves : (disk old.device).honest → LeavesOnly (model old.rides (disk old.device)) (model old.rides (disk new.device)) (EitherCarried (carried_of old) (migrated (carried_of old) target))
        → LeavesOnly (model old.rides (disk old.device)) (model old.rides (disk new.device)) (EitherCarried was (carried_after was state))
    migrated_leaves honest leaves =
        subst (λ (c : Carried). LeavesOnly (model old.rides (disk old.device)) (model old.rides (disk new.device)) (EitherCarried was c)) (sym first_is)
        (subst (λ (l : List ℕ). LeavesOnly (model old.rides (disk old.device)) (model old.rides (disk new.device)) (EitherCarried was (migrated was l))) target_is
        (subst (λ (c : Carried). LeavesOnly (model old.rides (disk old.device)) (model old.rides (disk new.device)) (EitherCarried c (migrated c target))) (sym (was_is honest)) leaves))
