-- An opening that is counted, said of what a journal carries.
use Rattle.std.proofs.Common.{◌≡◌, inl, inr, ⊎_elim, ℕ, ◌+◌, ◌<◌, List, length, Bool, true, None, Some, ap, subst, sym, ◌∙◌, arith, Result, Ok, Err, IsErr, OnErr}
use Rattle.sector_device.specs.Disk.{Disk, Image, IsCoherent, IsTearing, LeavesOnly, tearing}
use Rattle.sector_device.proofs.Moments.{left_now}
use Rattle.commit_slots.specs.declared.slot.Slot.{Slot}
use Rattle.slot_commits.specs.Firsts.{KeepsFirst, LeavesFirst}
use Rattle.slot_commits.specs.Loads.{number_end}
use Rattle.slot_commits.specs.Puts.{EitherBelow}
use Rattle.slot_commits.specs.Renewals.{Renewed}
use Rattle.slot_commits.specs.States.{CarriesInSlots, HoldsBlocks, Stands, State}
use Rattle.slot_commits.proofs.Copies.{no_ok}
use Rattle.slot_journal.specs.Journaled.{opened, slot_opened}
use Rattle.slot_journal.specs.Known.{Knows as SlotKnows}
use Rattle.slot_journal.specs.declared.known.Known.{Known}
use Rattle.half_journal.specs.Layout.{HasNoSector}
use Rattle.store_journal.specs.Carries.{Carried, EitherCarried, state_of}
use Rattle.store_journal.specs.Held.{IsAwaiting, IsRidingFormed, Tried}
use Rattle.store_journal.specs.Models.{IsTold, model}
use Rattle.store_journal.specs.declared.held.Awaiting.{Awaiting}
use Rattle.store_journal.specs.declared.held.Held.TheVariants.{InSlots}
use Rattle.store_journal.proofs.Seen.{awaiting_bytes}
use Rattle.store_journal.proofs.Slots.{first_none, riding_at}
use Rattle.store_journal.proofs.Weak.{leaves_both, never, told_never, weak_leaves}

pub always_err : {T E P : Type 0} (result : Result T E) → P → OnErr result P
always_err (Ok value) p = tt
always_err (Err fault) p = p

module _ (old new : Disk) (known : Known) (awaiting : Awaiting) (c next : Carried) (opens : ℕ) (tears : (t : List ℕ → Bool) → IsTearing t old) (coherent_old : IsCoherent old) (coherent : IsCoherent new) (tears_new : (t : List ℕ → Bool) → IsTearing t new)
    (size : new.sectors ≡ old.sectors) (formed : IsRidingFormed old.sectors known (Some awaiting)) (end : awaiting.number < number_end) (is : IsAwaiting old awaiting known c)
    (next_is : next ≡ record { version = c.version; rides = c.rides; half = c.half; bytes = c.bytes; seq = c.seq; opens = opens; identity = c.identity }) where
  abbrev was : State
  was = state_of c known.slot.blocks

  rides_next : next.rides ≡ true
  rides_next = ap (λ (d : Carried). d.rides) next_is ∙ is.rides_is

  version_next : next.version ≡ 2
  version_next = ap (λ (d : Carried). d.version) next_is ∙ is.version_is

  state_next : opened was opens ≡ state_of next known.slot.blocks
  state_next = ap (λ (d : Carried). state_of d known.slot.blocks) (sym next_is)

  -- the images before
  before_is : (torn : List ℕ → Bool) → IsTold old.sectors torn → (before : Image) → (tearing torn old).left before → (length before ≡ old.sectors) × HasNoSector before
  before_is torn told before left =
      subst (λ (m : Image). (length m ≡ old.sectors) × HasNoSector m) (sym (is.alone before (torn, told, left))) ((coherent_old.shape old.seen coherent_old.seen).count, is.none)

  module _ {T E : Type 0} (result : Result T E) (renewed : (torn : List ℕ → Bool) → IsTold old.sectors torn → Renewed (Some torn) old new awaiting.number was (opened was opens) result) (first : (torn : List ℕ → Bool) → LeavesFirst (Some torn) old new) where
    moment : LeavesOnly (model c.rides old) (model c.rides new) (EitherCarried c next)
    moment =
        subst (λ (b : Bool). LeavesOnly (model b old) (model b new) (EitherCarried c next)) (sym is.rides_is)
        (weak_leaves old new (λ torn image. EitherBelow (awaiting.number + 1) was (opened was opens) image × KeepsFirst (Some torn) (tearing torn old).left image) (EitherCarried c next) size
        (λ torn told. leaves_both (tearing torn old) (tearing torn new) (EitherBelow (awaiting.number + 1) was (opened was opens)) (KeepsFirst (Some torn) (tearing torn old).left) (renewed torn told).any_moment (first torn))
        (λ torn image told wide both.
        let none = first_none old.sectors torn (tearing torn old).left image told wide (before_is torn told) both.1 in
        let least = formed.formed.at_least in
        let most = formed.formed.at_most in
        ⊎_elim (λ carries. inl (riding_at c is.rides_is is.version_is old.sectors least most known.slot.blocks (awaiting.number + 1) image (omega (arith, end)) wide none both.0.1 carries))
        (λ carries. inr (riding_at next rides_next version_next old.sectors least most known.slot.blocks (awaiting.number + 1) image (omega (arith, end)) wide none both.0.1 (subst (λ (s : State). CarriesInSlots s image) state_next carries))) both.0.0))

    holds : HoldsBlocks known.slot.blocks was new.seen
    holds =
        let now = left_now (tearing never old) (tearing never new) (EitherBelow (awaiting.number + 1) was (opened was opens)) (tears_new never).coherent (renewed never (told_never old.sectors)).any_moment new.seen ((tears_new never).adds new.seen coherent.seen) in
        ⊎_elim (λ carries. carries.begins) (λ carries. carries.begins) now.0

    pub renewal_failed : {F : Type 0} (answer : Result T F) → IsErr answer → Tried old new (InSlots known (Some awaiting)) c next answer
    renewal_failed answer err = record {
      any_moment = moment;
      done = no_ok _ answer err;
      stays = always_err answer (awaiting_bytes new.seen known awaiting c is.knows formed.formed.blocks_fit ((coherent.shape new.seen coherent.seen).count ∙ size ∙ sym formed.formed.size) holds);
    }

  pub renewal_done : {T E : Type 0} (value : T) (now : Known) → ((torn : List ℕ → Bool) → IsTold old.sectors torn → Renewed {T = T} {E = E} (Some torn) old new awaiting.number was (opened was opens) (Ok value)) → ((torn : List ℕ → Bool) → LeavesFirst (Some torn) old new)
      → now.slot ≡ slot_opened known.slot awaiting.number opens → SlotKnows now (opened was opens) → Tried {T = T} {E = E} old new (InSlots now None) c next (Ok value)
  renewal_done {T} {E} value now renewed first slot_is knows = record {
    any_moment = moment {T = T} {E = E} (Ok value) renewed first;
    done = record {
      rides_is = rides_next;
      version_is = version_next;
      knows = subst (λ (s : Slot). SlotKnows now (state_of next s.blocks)) (sym slot_is) (subst (SlotKnows now) state_next knows);
      stands = λ image left.
          let told = subst (λ (n : ℕ). IsTold n left.0) size left.1 in
          subst (λ (s : Slot). Stands s.number (state_of next s.blocks) image) (sym slot_is) (subst (λ (s : State). Stands awaiting.number s image) state_next ((renewed left.0 told).done image left.2));
      none = λ image left.
          let told = subst (λ (n : ℕ). IsTold n left.0) size left.1 in
          first_none old.sectors left.0 (tearing left.0 old).left image told (((tears_new left.0).coherent.shape image left.2).count ∙ size) (before_is left.0 told)
          (left_now (tearing left.0 old) (tearing left.0 new) (KeepsFirst (Some left.0) (tearing left.0 old).left) (tears_new left.0).coherent (first left.0) image left.2);
    };
    stays = tt;
  }
