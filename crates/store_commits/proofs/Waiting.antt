-- Transactions that are committed together: what the images stand for meanwhile, and what becomes of the account.
use Rattle.std.proofs.Common.{Bool, ◌≡◌, inl, inr, ⊎_elim, ℕ, ◌+◌, ◌≤◌, List, [], ◌∷◌, ◌++◌, length, length-append, refl, sym, ◌∙◌, ap, subst, take, arith, false, true, if◌then◌else◌, Option, None, Some}
use Rattle.std.proofs.lemmas.List.{append-nil, take-append-le}
use Rattle.sector_device.specs.Disk.{Disk, Image, LeavesOnly}
use Rattle.sector_device.proofs.Moments.{leaves_weaker}
use Rattle.sector_device.specs.Charges.{Made, Failed}
use Rattle.store_journal.specs.Layout.{capacity_of}
use Rattle.store_journal.specs.Calls.{Appended, BeginsWith, Broke, Takes}
use Rattle.store_journal.specs.Carries.{EitherCarried, appended}
use Rattle.store_journal.specs.JournalView.{JournalView, carried_of}
use Rattle.store_journal.specs.Models.{model}
use Rattle.store_journal.specs.Writes.{append_calls}
use Rattle.doc_machine.specs.Transaction.{Transaction, after_in, changes_of}
use Rattle.doc_changes.specs.State.{State, Good}
use Rattle.store_commits.specs.Account.{Account, Copy, account_broken, with_copy, EndsWith, Extent, extent_of}
use Rattle.store_commits.specs.Batch.{Commit, IsBatch, IsForced, commit_for, commit_in_doubt, commit_made, failed, passed, to_append, Slot, waits, said, asked, waiting, copy_with, size_of, sizes_of, account_behind, account_committed, AreJudged, AreCommitted, AreInDoubt, calls_for, replies_done, replies_in_doubt}
use Rattle.store_commits.specs.Copying.{IsCopied, Target, copy_of, target_with}
use Rattle.store_commits.specs.Folds.{AreFramedEach, after_each, all_changes, frames_for, StandsAfter}
use Rattle.store_commits.specs.Inside.{AreGoodEach, IsHeld, IsStored, LeavesNumbers, account_of, IsAppended, AnswersPart}
use Rattle.store_commits.specs.Images.{Holds, profile_in, version_of_frames}
use Rattle.store_commits.proofs.Changes.{AcceptedEach, HaveSome, good_end, holds_each, profile_each, seq_counts, sizes_are, some_accepted}
use Rattle.store_commits.proofs.Extents.{broken_as, either_as, ending_as}
use Rattle.store_commits.proofs.Moves.{Moved, done_answered, in_doubt_answered, moved_nowhere}
use Rattle.store_commits.proofs.Slots.{slots_done, slots_in_doubt}
use Rattle.store_commits.proofs.Standing.{broke_is, held_broke, held_by, stands_by, stands_now}
use Rattle.store_commits.proofs.Modelled.{AreCoherent}

-- ---- over lists

pub accepted_all : (a : Account) (slots : List Slot) → AreJudged a slots → AcceptedEach a.state (waiting slots)
accepted_all a [] judged = tt
accepted_all a (waits c ∷ slots) judged = (judged.0, accepted_all (account_behind a c) slots judged.2)
accepted_all a (said c r ∷ slots) judged = accepted_all a slots judged.1

-- each that waits has a change
pub some_all : (a : Account) (slots : List Slot) → AreJudged a slots → HaveSome (waiting slots)
some_all a [] judged = tt
some_all a (waits c ∷ slots) judged = (some_accepted a.state c judged.0, some_all (account_behind a c) slots judged.2)
some_all a (said c r ∷ slots) judged = some_all a slots judged.1

-- all that wait fit
pub room_all : (a : Account) (slots : List Slot) → AreJudged a slots → a.used ≤ capacity_of a.rides a.sectors → a.used + sizes_of (waiting slots) ≤ capacity_of a.rides a.sectors
room_all a [] judged fits = omega (arith, fits)
room_all a (waits c ∷ slots) judged fits = let rest = room_all (account_behind a c) slots judged.2 judged.1 in omega (arith, rest)
room_all a (said c r ∷ slots) judged fits = room_all a slots judged.1 fits

-- the calls where one waits at least
calls_some : (rides : Bool) (used : ℕ) (cs : List Transaction) (first : Transaction) (others : List Transaction) → cs ≡ first ∷ others → calls_for rides used cs ≡ append_calls rides used (sizes_of cs)
calls_some rides used [] first others some = absurd (cc some)
calls_some rides used (c ∷ cs) first others some = refl

-- there is one commit then
one_commit : (cs : List Transaction) (k : Commit) (first : Transaction) (others : List Transaction) → cs ≡ first ∷ others → commit_for cs k ≡ k ∷ []
one_commit [] k first others some = absurd (cc some)
one_commit (c ∷ cs) k first others some = refl

abbrev some_copy : Copy → Option Copy
some_copy k = Some k

copy_with_none : (k : Option Copy) → k ≡ copy_with k 0
copy_with_none None = refl
copy_with_none (Some k) = let same : k.target ≡ k.target + 0 = omega arith in ap (λ (n : ℕ). some_copy (record k { target = n })) same

copy_with_more : (k : Option Copy) (c : Transaction) (more : ℕ) → copy_with (copy_with k (size_of c)) more ≡ copy_with k (size_of c + more)
copy_with_more None c more = refl
copy_with_more (Some k) c more =
    let sum : k.target + size_of c + more ≡ k.target + (size_of c + more) = omega arith in
    ap (λ (n : ℕ). some_copy (record k { target = n })) sum

-- the account with all that wait
pub committed_is : (a : Account) (slots : List Slot)
    → account_committed a slots ≡ record a { state = after_each a.state (waiting slots); used = a.used + sizes_of (waiting slots); copy = copy_with a.copy (sizes_of (waiting slots)) }
committed_is a [] = let same : a.used ≡ a.used + 0 = omega arith in λ i. record a { used = same i; copy = copy_with_none a.copy i }
committed_is a (waits c ∷ slots) =
    let sum : (a.used + size_of c) + sizes_of (waiting slots) ≡ a.used + (size_of c + sizes_of (waiting slots)) = omega arith in
    committed_is (account_behind a c) slots
    ∙ (λ i. record a { state = after_each (after_in a.state c) (waiting slots); used = sum i; copy = copy_with_more a.copy c (sizes_of (waiting slots)) i })
committed_is a (said c r ∷ slots) = committed_is a slots

-- where nothing waits
committed_none : (a : Account) (slots : List Slot) → waiting slots ≡ [] → account_committed a slots ≡ a
committed_none a [] none = refl
committed_none a (waits c ∷ slots) none = absurd (cc none)
committed_none a (said c r ∷ slots) none = committed_none a slots none

-- the number of the next commit, after one
pub next_most : (rides : Bool) (n : ℕ) → (if rides then n + 1 else 0) ≤ n + 1
next_most true n = omega arith
next_most false n = omega arith

-- ---- one append, behind the bytes of a journal that works

module _ {D : Type 0} (disk : D → Disk) (coherent : AreCoherent disk) (before : JournalView D) (state : State) (copy : Option Target) (slots : List Slot) (works : before.broken ≡ false)
    (judged : AreJudged (with_copy (account_of before state) (copy_of copy)) slots) (framed : AreFramedEach state.seq (waiting slots)) (good : AreGoodEach state (waiting slots)) (stored : IsStored (disk before.device) before state copy) (numbers : LeavesNumbers before 2) where
  abbrev a : Account
  a = with_copy (account_of before state) (copy_of copy)

  abbrev cs : List Transaction
  cs = waiting slots

  abbrev adds : ℕ
  adds = length (all_changes (waiting slots))

  abbrev frames : List ℕ
  frames = frames_for before.rides state.seq (waiting slots)

  size : length frames ≡ sizes_of cs
  size = sizes_are before.rides state.seq cs

  good_then : Good (after_each state cs)
  good_then = good_end state cs good

  room : length before.bytes + length frames ≤ capacity_of before.rides before.sectors
  room = let all = room_all a slots judged stored.held.kept.used_fits in let sizes = size in omega (arith, all, sizes)

  -- the journal takes them
  pub takes : Takes before (length frames) adds
  takes = record { works = works; fits = room; next_fits = (let left = numbers in omega (arith, left)); seq_fits = (let counted = good_then.counted in let sum = seq_counts state cs in let is = stored.held.seq in omega (arith, counted, sum, is)) }

  holds_behind : (bytes : List ℕ) → Holds state.profile (version_of_frames before.rides 2) state.seq bytes state.documents state.marks → Holds (after_each state cs).profile (version_of_frames before.rides 2) (after_each state cs).seq (bytes ++ frames) (after_each state cs).documents (after_each state cs).marks
  holds_behind bytes holds = holds_each before.rides bytes state cs stored.held.profile holds (accepted_all a slots judged) framed good

  more : (disk before.device).honest → Holds (after_each state cs).profile (version_of_frames before.rides 2) (after_each state cs).seq (before.bytes ++ frames) (after_each state cs).documents (after_each state cs).marks
  more honest = holds_behind before.bytes (stored.held.held honest)

  seq_then : before.seq + adds ≡ (after_each state cs).seq
  seq_then = ap (λ (n : ℕ). n + adds) stored.held.seq ∙ sym (seq_counts state cs)

  profile_then : profile_in before.rides ≡ (after_each state cs).profile
  profile_then = stored.held.profile ∙ sym (profile_each state cs)

  either_stands : (disk before.device).honest → (image : Image) → EitherCarried (carried_of before) (appended (carried_of before) frames adds) image → StandsAfter state cs image
  either_stands honest image (inl carries) = stands_now state cs image (stands_by state (carried_of before) stored.held.version stored.held.seq stored.held.profile (stored.held.held honest) image carries)
  either_stands honest image (inr carries) = record {
    kept = cs;
    rest = [];
    parts = append-nil cs;
    stands = stands_by (after_each state cs) (appended (carried_of before) frames adds) stored.held.version seq_then profile_then (more honest) image carries;
  }

  -- ---- it ended

  module _ (first : Transaction) (others : List Transaction) (some : waiting slots ≡ first ∷ others) (now : JournalView D) (fine : Bool) (is : IsAppended disk before now frames adds fine) where
    moments : (disk before.device).honest → LeavesOnly (model before.rides (disk before.device)) (model before.rides (disk now.device)) (StandsAfter state cs)
    moments honest = leaves_weaker (model before.rides (disk before.device)) (model before.rides (disk now.device)) (EitherCarried (carried_of before) (appended (carried_of before) frames adds)) (StandsAfter state cs) (either_stands honest) (is.any_moment honest)

    -- the calls of the commit
    calls_are : append_calls before.rides (length before.bytes) (length frames) ≡ calls_for a.rides a.used (waiting slots)
    calls_are = ap (λ (n : ℕ). append_calls before.rides (length before.bytes) n) size ∙ sym (calls_some before.rides (length before.bytes) (waiting slots) first others some)

    -- ---- it succeeded

    module _ (ok : Appended (disk before.device) (disk now.device) before now frames adds) where
      held_then : IsHeld (disk now.device) now (after_each state cs)
      held_then = record {
        kept = is.kept;
        version = ok.version ∙ stored.held.version;
        settled = ok.settled;
        seq = ok.seq ∙ seq_then;
        profile = ap profile_in ok.rides ∙ profile_then;
        good = good_then;
        held = λ honest. let h = is.honest.1 honest in held_by before now (after_each state cs) ok.rides (before.bytes ++ frames) (ok.bytes h) (more h);
      }

      -- the target of a copy that runs
      copied_then : (t : Option Target) → IsCopied (disk before.device) before state t → IsCopied (disk now.device) now (after_each state cs) (target_with frames t)
      copied_then None copied = tt
      copied_then (Some t) copied = record {
        holds = subst (λ (r : Bool). Holds (after_each state cs).profile (version_of_frames r 2) (after_each state cs).seq (t.bytes ++ frames) (after_each state cs).documents (after_each state cs).marks) (sym ok.rides) (holds_behind t.bytes copied.holds);
        within = (let w = copied.within in omega (arith, w, length-append t.bytes frames));
        copied = λ honest fine. (let h = is.honest.1 honest in
            subst (BeginsWith (take t.standing (t.bytes ++ frames))) (sym (is.outcome.2 h))
            (subst (λ (l : List ℕ). BeginsWith l before.copied) (sym (take-append-le t.standing t.bytes frames copied.within)) (copied.copied h works)));
        numbered = (let left = numbers in let is = ok.next in let most = next_most before.rides before.next in omega (arith, left, is, most));
      }

      copy_then : (t : Option Target) → copy_of (target_with frames t) ≡ copy_with (copy_of t) (length frames)
      copy_then None = refl
      copy_then (Some t) = ap (λ (n : ℕ). some_copy (record { target = n; standing = t.standing })) (length-append t.bytes frames)

      pub account_then : with_copy (account_of now (after_each state cs)) (copy_of (target_with frames copy)) ≡ account_committed a slots
      account_then =
          (λ i. record {
            state = after_each state cs;
            used = (ok.used ∙ ap (λ (n : ℕ). length before.bytes + n) size) i;
            half = ok.half i;
            rides = ok.rides i;
            opens = ok.opens i;
            identity = ok.identity i;
            sectors = ok.sectors i;
            broken = (ok.works ∙ sym works) i;
            copy = (copy_then copy ∙ ap (copy_with (copy_of copy)) size) i;
          })
          ∙ sym (committed_is a slots)

      pub moved_done : Moved disk before state now (target_with frames copy) cs [] (passed (to_append a slots) ∷ [])
      moved_done = record {
        stored = record { held = held_then; copied = copied_then copy stored.copied };
        honest = is.honest;
        rides = ok.rides;
        any_moment = λ honest. subst (λ (l : List Transaction). LeavesOnly (model before.rides (disk before.device)) (model before.rides (disk now.device)) (StandsAfter state l)) (sym (append-nil cs)) (moments honest);
        made = (
          now.device,
          record {
            passed = subst (Made (disk before.device) (disk now.device)) calls_are ok.made;
            leaves = ending_as (disk now.device) now (after_each state cs) (coherent now.rides now.device) held_then ok.works before.bytes frames (λ honest. ok.bytes (is.honest.1 honest)) (account_committed a slots) (ap extent_of account_then);
          },
          refl,
        );
      }

      are_committed : AreCommitted a slots (with_copy (account_of now (after_each state cs)) (copy_of (target_with frames copy)))
      are_committed = record { works = works; judged = judged; new_is = account_then }

      pub was_made : (left : List Transaction) → IsForced (account_committed a slots) left → AnswersPart disk before state copy slots left (account_committed a slots) now (target_with frames copy) (replies_done state.seq slots)
      was_made left forced =
          let b = with_copy (account_of now (after_each state cs)) (copy_of (target_with frames copy)) in
          let k = passed (to_append a slots) in
          done_answered disk coherent before state copy works now slots (k ∷ []) left (account_committed a slots) (target_with frames copy) moved_done ok.works account_then (slots_done a state.seq slots judged)
          (λ qs rest end batch. subst (λ (ks : List Commit). IsBatch a (asked slots ++ left) (replies_done state.seq slots ++ qs) (ks ++ rest) end) (one_commit (waiting slots) k first others some)
          (commit_made a b end slots left qs rest are_committed (subst (λ (x : Account). IsForced x left) (sym account_then) forced) batch))

    -- ---- the device failed

    module _ (broke : Broke (disk before.device) (disk now.device) (append_calls before.rides (length before.bytes) (length frames)) before now) where
      new_is : account_of now state ≡ account_broken a
      new_is = broke_is (disk before.device) (disk now.device) before now state (append_calls before.rides (length before.bytes) (length frames)) broke

      -- what it would have made
      abbrev made_as : Extent
      made_as = record { state = after_each state cs; used = length (before.bytes ++ frames); half = before.half; rides = before.rides; identity = before.identity; sectors = before.sectors }

      made_is : made_as ≡ extent_of (account_committed a slots)
      made_is = (λ i. record { state = after_each state cs; used = (length-append before.bytes frames ∙ ap (λ (n : ℕ). length before.bytes + n) size) i; half = before.half; rides = before.rides; identity = before.identity; sectors = before.sectors })
          ∙ ap extent_of (sym (committed_is a slots))

      pub moved_in_doubt : Moved disk before state now None [] cs (failed (to_append a slots) (account_of now state) ∷ [])
      moved_in_doubt = record {
        stored = record { held = held_broke (disk before.device) (disk now.device) before now state (append_calls before.rides (length before.bytes) (length frames)) broke stored.held is.honest is.kept; copied = tt };
        honest = is.honest;
        rides = broke.stays.rides;
        any_moment = moments;
        made = (
          now.device,
          record {
            failed = subst (Failed (disk before.device) (disk now.device)) calls_are broke.failed;
            leaves = λ honest image left. ⊎_elim (λ old. inl (broken_as a (account_of now state) image new_is old)) (λ new. inr (subst (λ (l : Extent). EndsWith frames l image) made_is new))
                (either_as disk coherent before now state stored.held is.honest is.kept broke.stays.sectors (appended (carried_of before) frames adds) made_as more refl refl refl seq_then refl refl profile_then refl refl before.bytes frames refl is.any_moment honest image (subst (λ (r : Bool). (model r (disk now.device)).left image) broke.stays.rides left));
          },
          refl,
        );
      }

      are_in_doubt : AreInDoubt a slots (account_of now state)
      are_in_doubt = record { works = works; judged = judged; some = λ none. (let contrary = sym some ∙ none in absurd (cc contrary)); new_is = new_is }

      pub was_in_doubt : (left : List Transaction) → IsForced (account_committed a slots) left → AnswersPart disk before state copy slots left (account_committed a slots) now None (replies_in_doubt slots)
      was_in_doubt left forced =
          in_doubt_answered disk coherent before state copy works now slots (failed (to_append a slots) (account_of now state) ∷ []) left (account_committed a slots) moved_in_doubt broke.broken first others some
          (slots_in_doubt a slots judged) (λ qs rest end batch. commit_in_doubt a (account_of now state) end slots left qs rest are_in_doubt forced batch)

  -- ---- nothing waits

  pub was_nothing : waiting slots ≡ [] → (left : List Transaction) → IsForced (account_committed a slots) left → AnswersPart disk before state copy slots left (account_committed a slots) before copy (replies_done state.seq slots)
  was_nothing none left forced =
      let b = with_copy (account_of before (after_each state (waiting slots))) (copy_of copy) in
      let after : b ≡ account_committed a slots = ap (λ (ts : List Transaction). with_copy (account_of before (after_each state ts)) (copy_of copy)) none ∙ sym (committed_none a slots none) in
      let are : AreCommitted a slots b = record { works = works; judged = judged; new_is = after } in
      let moved = subst (λ (ts : List Transaction). Moved disk before state before copy ts [] []) (sym none) (moved_nowhere disk coherent before state copy stored works) in
      done_answered disk coherent before state copy works before slots [] left (account_committed a slots) copy moved works after (slots_done a state.seq slots judged)
      (λ qs rest end batch. subst (λ (ts : List Transaction). IsBatch a (asked slots ++ left) (replies_done state.seq slots ++ qs) (commit_for ts (passed (to_append a slots)) ++ rest) end) none
      (commit_made a b end slots left qs rest are (subst (λ (x : Account). IsForced x left) (sym after) forced) batch))

-- ---- some wait

-- one that waits has a change
pub none_in : (a : Account) (slots : List Slot) → AreJudged a slots → length (all_changes (waiting slots)) ≡ 0 → waiting slots ≡ []
none_in a [] judged h = refl
none_in a (waits c ∷ slots) judged h =
    let some = some_accepted a.state c judged.0 in
    let sum = length-append (changes_of c) (all_changes (waiting slots)) in
    absurd (omega (arith, h, some, sum))
none_in a (said c r ∷ slots) judged h = none_in a slots judged.1 h

pub some_in : (l : List Transaction) → (length (all_changes l) ≡ 0 → ⊥) → (first : Transaction) × (others : List Transaction) × (l ≡ first ∷ others)
some_in [] h = absurd (h refl)
some_in (c ∷ cs) h = (c, cs, refl)
