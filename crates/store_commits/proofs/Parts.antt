-- Segments of a batch: what becomes of the account, however their commits end.
use Rattle.std.proofs.Common.{◌≡◌, inl, inr, ⊎_elim, ℕ, ◌+◌, ◌<◌, ◌≤◌, ◌^◌, List, [], ◌∷◌, length, length-append, map, refl, sym, ◌∙◌, ap, subst, arith, Bool, true, false, Option, None, Vec, Global}
use Rattle.sector_device.specs.Disk.{Disk}
use Rattle.sector_device.proofs.Moments.{leaves_weaker}
use Rattle.sector_device.specs.Sectors.{sectors_of}
use Rattle.store_journal.specs.Layout.{capacity_of}
use Rattle.store_journal.specs.Calls.{Broke, Switched, Takes}
use Rattle.store_journal.specs.Carries.{switched}
use Rattle.store_journal.specs.JournalView.{JournalView, carried_of}
use Rattle.store_journal.specs.Models.{model}
use Rattle.store_journal.specs.Writes.{switch_calls}
use Rattle.doc_machine.specs.Transaction.{Transaction, after_in, changes_of, refusal_in}
use Rattle.refusals.specs.declared.numbers.TheConstants.{BROKEN, DEVICE, FULL}
use Rattle.doc_changes.proofs.Framed.{framed_storable}
use Rattle.doc_changes.specs.Refusals.{plain}
use Rattle.doc_changes.specs.State.{State}
use Rattle.store_commits.specs.Account.{Account, account_broken, with_copy, extent_of}
use Rattle.store_commits.specs.Batch.{GoesBehind, IsBatch, behind_in_doubt, failed, is_full, passed, room_in_doubt, room_made, to_append, to_snapshot, Slot, AreCommitted, AreInDoubt, AreJudged, waits, said, asked, waiting, size_of, sizes_of, account_committed, replies_done, replies_in_doubt}
use Rattle.store_commits.specs.Copying.{Target, copy_of, target_with}
use Rattle.store_commits.specs.Folds.{AreFramedEach, all_changes, frames_for, StandsAfter}
use Rattle.store_commits.specs.Inside.{AreGoodEach, IsStored, LeavesNumbers, account_of, store_view, ArePlanned, IsAppended, IsAppendedBehind, IsPart, IsReplaced, IsSegment, IsTried, AnswersPart, answered, behind, bytes_in, fate_of, full, instead, none_planned, one_planned, replies_in, together}
use Rattle.store_commits.specs.Snapshot.{NeedsSnapshot, RemakesAll, snapshot_bytes, account_with_snapshot}
use Rattle.store_commits.specs.Run.{Refused}
use Rattle.store_commits.specs.declared.event.Reply.{Reply}
use Rattle.store_commits.specs.declared.segment.Fate.TheVariants.{Committed, InDoubt, NotBegun}
use Rattle.store_commits.specs.declared.segment.Base.{Base}
use Rattle.store_commits.specs.declared.segment.Base.TheVariants.{After, Before, Used}
use Rattle.store_commits.specs.declared.segment.Segment.{Segment}
use Rattle.store_commits.proofs.Batches.{all_broken}
use Rattle.store_commits.proofs.Changes.{HaveSome, good_end, seq_counts, some_accepted, some_append, sizes_append, sizes_are}
use Rattle.store_commits.proofs.Extents.{broken_as, ending_as, switched_as}
use Rattle.store_commits.proofs.Instead.{instead_done, instead_hit}
use Rattle.store_commits.proofs.Migrating.{snapshot_holds}
use Rattle.store_commits.proofs.Moves.{Moved, done_answered, in_doubt_answered, moved_both, moved_nowhere}
use Rattle.store_commits.proofs.Running.{widened}
use Rattle.store_commits.proofs.Slots.{asked_append, length_replies, slots_done, slots_in_doubt, waiting_append}
use Rattle.store_commits.proofs.SnapshotOutcomes.{held_snapped, snapped_is, snapshot_moments}
use Rattle.store_commits.proofs.Snapshots.{remakes_all}
use Rattle.store_commits.proofs.Standing.{broke_is, held_broke, not_both, standing}
use Rattle.store_commits.proofs.Waiting.{next_most, account_then, moved_done, moved_in_doubt, none_in, some_all, some_in, takes, was_in_doubt, was_made, was_nothing}
use Rattle.store_commits.proofs.Modelled.{AreCoherent}

-- ---- replies

pub all_committed : (rs : List Reply) → map (answered Committed) rs ≡ rs
all_committed [] = refl
all_committed (r ∷ rs) = ap (λ (l : List Reply). r ∷ l) (all_committed rs)

pub all_in_doubt : (seq : ℕ) (slots : List Slot) → map (answered InDoubt) (replies_done seq slots) ≡ replies_in_doubt slots
all_in_doubt seq [] = refl
all_in_doubt seq (waits c ∷ slots) = ap (λ (l : List Reply). Refused (plain DEVICE) ∷ l) (all_in_doubt (seq + length (changes_of c)) slots)
all_in_doubt seq (said c q ∷ slots) = ap (λ (l : List Reply). Refused q ∷ l) (all_in_doubt seq slots)

pub all_not_begun : (rs : List Reply) (cs : List Transaction) → length rs ≡ length cs → map (answered NotBegun) rs ≡ map (λ _. Refused (plain BROKEN)) cs
all_not_begun [] [] same = refl
all_not_begun [] (c ∷ cs) same = absurd (omega (arith, same))
all_not_begun (r ∷ rs) [] same = absurd (omega (arith, same))
all_not_begun (r ∷ rs) (c ∷ cs) same = ap (λ (l : List Reply). Refused (plain BROKEN) ∷ l) (all_not_begun rs cs (omega (arith, same)))

-- those of a commit that ended, or in which the device failed
abbrev pub replies_by : Bool → ℕ → List Slot → List Reply
replies_by true seq slots = replies_done seq slots
replies_by false seq slots = replies_in_doubt slots

said_by : (fine : Bool) (seq : ℕ) (slots : List Slot) (rs : List Reply) → rs ≡ replies_done seq slots → map (answered (fate_of fine)) rs ≡ replies_by fine seq slots
said_by true seq slots rs is = all_committed rs ∙ is
said_by false seq slots rs is = ap (map (answered InDoubt)) is ∙ all_in_doubt seq slots

-- ---- how many

pub part_replies : (a : Account) (left : List Transaction) (segment : Segment) (slots : List Slot) (b : Account) → IsPart a left segment slots b → length segment.replies.items ≡ length (asked slots)
part_replies a left segment slots b part = ap length part.replies ∙ length_replies a.state.seq slots

pub planned_replies : (a : Account) (segments : List Segment) (slots : List Slot) (end : Account) → ArePlanned a segments slots end → replies_in segments ≡ length (asked slots)
planned_replies _ _ _ _ (none_planned a) = refl
planned_replies _ _ _ _ (one_planned a b end segment segments slots more part rest) =
    let one = part_replies a (asked more) segment slots b part in
    let others = planned_replies b segments more end rest in
    let both = ap length (asked_append slots more) ∙ length-append (asked slots) (asked more) in
    omega (arith, one, others, both)

-- each that waits has a change
segment_some : (a : Account) (left : List Transaction) (o : Base) (slots : List Slot) (b : Account) → IsSegment a left o slots b → HaveSome (waiting slots)
segment_some a left _ _ _ (together slots judged forced) = some_all a slots judged
segment_some a left _ _ _ (behind t v bytes accepted needs) = (some_accepted a.state t accepted, tt)
segment_some a left _ _ _ (instead t v bytes accepted nowhere fits) = (some_accepted a.state t accepted, tt)
segment_some a left _ _ _ (full t accepted no_room) = tt

pub planned_some : (a : Account) (segments : List Segment) (slots : List Slot) (end : Account) → ArePlanned a segments slots end → HaveSome (waiting slots)
planned_some _ _ _ _ (none_planned a) = tt
planned_some _ _ _ _ (one_planned a b end segment segments slots more part rest) =
    subst HaveSome (sym (waiting_append slots more)) (some_append (waiting slots) (waiting more) (segment_some a (asked more) segment.base slots b part.is) (planned_some b segments more end rest))

pub planned_bytes : (a : Account) (segments : List Segment) (slots : List Slot) (end : Account) → ArePlanned a segments slots end → bytes_in segments ≡ sizes_of (waiting slots)
planned_bytes _ _ _ _ (none_planned a) = refl
planned_bytes _ _ _ _ (one_planned a b end segment segments slots more part rest) =
    let one = ap length part.has.frames ∙ sizes_are a.rides a.state.seq (waiting slots) in
    let others = planned_bytes b segments more end rest in
    let both = ap sizes_of (waiting_append slots more) ∙ sizes_append (waiting slots) (waiting more) in
    omega (arith, one, others, both)

-- ---- a transaction behind a snapshot

module _ {D : Type 0} (disk : D → Disk) (coherent : AreCoherent disk) (before : JournalView D) (state : State) (copy : Option Target) (works : before.broken ≡ false) (stored : IsStored (disk before.device) before state copy) (numbers : LeavesNumbers before 3) where
  abbrev d : Account
  d = with_copy (account_of before state) (copy_of copy)

  abbrev snapshot : List ℕ
  snapshot = snapshot_bytes before.rides state.documents state.marks

  -- the snapshot's own commit ended so
  abbrev Tried : JournalView D → Type 0 → Type 0
  Tried now Outcome = IsTried disk before now (switched (carried_of before) snapshot) Outcome

  remakes : RemakesAll state
  remakes = remakes_all framed_storable state stored.held.good

  -- it was made
  snapshot_made : (mid : JournalView D) → Tried mid (Switched (disk before.device) (disk mid.device) before mid snapshot (sectors_of (length snapshot) + switch_calls before.rides (length snapshot))) → Moved disk before state mid None [] [] (passed (to_snapshot d) ∷ [])
  snapshot_made mid is =
      let held = held_snapped (disk before.device) (disk mid.device) before mid state remakes stored.held is.honest is.kept is.outcome in
      let then = snapped_is (disk before.device) (disk mid.device) before mid state remakes stored.held is.honest is.kept (copy_of copy) works is.outcome in
      record {
        stored = record { held = held; copied = tt };
        honest = is.honest;
        rides = is.outcome.rides;
        any_moment = λ honest. snapshot_moments (disk before.device) (disk mid.device) before mid state remakes stored.held is.honest is.kept honest (is.any_moment honest);
        made = (
          mid.device,
          record {
            passed = is.outcome.made;
            leaves = ending_as (disk mid.device) mid state (coherent mid.rides mid.device) held is.outcome.works [] snapshot (λ honest. is.outcome.bytes (is.honest.1 honest)) (account_with_snapshot d) (ap extent_of then);
          },
          refl,
        );
      }

  -- or the device failed in it
  snapshot_missed : (now : JournalView D) → Tried now (Broke (disk before.device) (disk now.device) (sectors_of (length snapshot) + switch_calls before.rides (length snapshot)) before now) → (in_doubt : List Transaction) → Moved disk before state now None [] in_doubt (failed (to_snapshot d) (account_of now state) ∷ [])
  snapshot_missed now is in_doubt = record {
    stored = record { held = held_broke (disk before.device) (disk now.device) before now state _ is.outcome stored.held is.honest is.kept; copied = tt };
    honest = is.honest;
    rides = is.outcome.stays.rides;
    any_moment = λ honest. leaves_weaker (model before.rides (disk before.device)) (model before.rides (disk now.device)) (StandsAfter state []) (StandsAfter state in_doubt) (widened state [] in_doubt)
        (snapshot_moments (disk before.device) (disk now.device) before now state remakes stored.held is.honest is.kept honest (is.any_moment honest));
    made = (
      now.device,
      record {
        failed = is.outcome.failed;
        leaves = λ honest image left. ⊎_elim (λ old. inl (broken_as d (account_of now state) image (broke_is (disk before.device) (disk now.device) before now state _ is.outcome) old)) (λ new. inr new)
            (switched_as disk coherent before now state stored.held is.honest is.kept is.outcome.stays.sectors snapshot (snapshot_holds before.rides state state.seq refl stored.held.profile remakes) is.any_moment honest image (subst (λ (r : Bool). (model r (disk now.device)).left image) is.outcome.stays.rides left));
      },
      refl,
    );
  }

  module _ (left : List Transaction) (c : Transaction) (accepted : refusal_in state c ≡ None) (needs : NeedsSnapshot d (size_of c)) (framed : AreFramedEach state.seq (c ∷ [])) (good : AreGoodEach state (c ∷ [])) where
    goes : GoesBehind d c
    goes = record { works = works; accepted = accepted; needs = needs }

    abbrev slots : List Slot
    slots = waits c ∷ []

    -- the account with the snapshot, and then with the transaction
    abbrev snapped : Account
    snapped = account_with_snapshot d

    abbrev end : Account
    end = account_committed snapped slots

    judged : AreJudged snapped slots
    judged = (accepted, needs.1, tt)

    -- the snapshot was made, and left the journal as mid

    module _ (mid : JournalView D) (turned_over : Tried mid (Switched (disk before.device) (disk mid.device) before mid snapshot (sectors_of (length snapshot) + switch_calls before.rides (length snapshot)))) where
      first : Moved disk before state mid None [] [] (passed (to_snapshot d) ∷ [])
      first = snapshot_made mid turned_over

      mid_is : account_of mid state ≡ snapped
      mid_is = snapped_is (disk before.device) (disk mid.device) before mid state remakes stored.held turned_over.honest turned_over.kept (copy_of copy) works turned_over.outcome

      numbers_there : LeavesNumbers mid 2
      numbers_there = let left = numbers in let is = turned_over.outcome.next in let most = next_most before.rides before.next in omega (arith, left, is, most)

      judged_there : AreJudged (account_of mid state) slots
      judged_there = subst (λ (x : Account). AreJudged x slots) (sym mid_is) judged

      turned : (now : JournalView D) (fine : Bool) → IsAppended disk mid now (frames_for mid.rides state.seq (c ∷ [])) (length (all_changes (c ∷ []))) fine
          → AnswersPart disk before state copy slots left end now None (replies_by fine state.seq slots)
      turned now true appended =
          let ok = appended.outcome.0 refl in
          let then = account_then disk coherent mid state None slots turned_over.outcome.works judged_there framed good first.stored numbers_there c [] refl now true appended ok ∙ ap (λ (x : Account). account_committed x slots) mid_is in
          let are : AreCommitted snapped slots (account_of now (after_in state c)) = record { works = works; judged = judged; new_is = then } in
          let moved = subst (λ (x : Account). Moved disk before state now None (c ∷ []) [] (passed (to_snapshot d) ∷ passed (to_append x slots) ∷ [])) mid_is
          (moved_both disk coherent before state mid now None None (c ∷ []) [] (passed (to_snapshot d) ∷ []) (passed (to_append (account_of mid state) slots) ∷ []) first
          (moved_done disk coherent mid state None slots turned_over.outcome.works judged_there framed good first.stored numbers_there c [] refl now true appended ok)) in
          done_answered disk coherent before state copy works now slots (passed (to_snapshot d) ∷ passed (to_append snapped slots) ∷ []) left end None moved ok.works then (slots_done snapped state.seq slots judged)
          (λ qs rest last batch. room_made d (account_of now (after_in state c)) last c left qs rest goes are batch)
      turned now false appended =
          let broke = appended.outcome.1 refl in
          let then : account_of now state ≡ account_broken snapped = broke_is (disk mid.device) (disk now.device) mid now state _ broke ∙ ap account_broken mid_is in
          let are : AreInDoubt snapped slots (account_of now state) = record { works = works; judged = judged; some = λ none. absurd (cc none); new_is = then } in
          let moved = subst (λ (x : Account). Moved disk before state now None [] (c ∷ []) (passed (to_snapshot d) ∷ failed (to_append x slots) (account_of now state) ∷ [])) mid_is
          (moved_both disk coherent before state mid now None None [] (c ∷ []) (passed (to_snapshot d) ∷ []) (failed (to_append (account_of mid state) slots) (account_of now state) ∷ []) first
          (moved_in_doubt disk coherent mid state None slots turned_over.outcome.works judged_there framed good first.stored numbers_there c [] refl now false appended broke)) in
          in_doubt_answered disk coherent before state copy works now slots (passed (to_snapshot d) ∷ failed (to_append snapped slots) (account_of now state) ∷ []) left end moved broke.broken c [] refl (slots_in_doubt snapped slots judged)
          (λ qs rest last batch. behind_in_doubt d (account_of now state) last c left qs rest goes are batch)

    -- or a fault hit it
    missed : (now : JournalView D) → Tried now (Broke (disk before.device) (disk now.device) (sectors_of (length snapshot) + switch_calls before.rides (length snapshot)) before now) → AnswersPart disk before state copy slots left end now None (replies_in_doubt slots)
    missed now is =
        let then : account_of now state ≡ account_broken d = broke_is (disk before.device) (disk now.device) before now state _ is.outcome in
        in_doubt_answered disk coherent before state copy works now slots (failed (to_snapshot d) (account_broken d) ∷ []) left end
        (subst (λ (x : Account). Moved disk before state now None [] (c ∷ []) (failed (to_snapshot d) x ∷ [])) then (snapshot_missed now is (c ∷ []))) is.outcome.broken c [] refl (slots_in_doubt snapped slots judged)
        (λ qs rest last batch. room_in_doubt d last c left qs rest goes (subst (λ (x : Account). IsBatch x left qs rest last) then batch))

    behind_answered : (now : JournalView D) (fine : Bool) → IsAppendedBehind disk before now snapshot (frames_for before.rides state.seq (c ∷ [])) (length (all_changes (c ∷ []))) fine
        → AnswersPart disk before state copy slots left end now None (replies_by fine state.seq slots)
    behind_answered now fine (inl was) = turned was.0 was.1 now fine (subst (λ (r : Bool). IsAppended disk was.0 now (frames_for r state.seq (c ∷ [])) (length (all_changes (c ∷ []))) fine) (sym was.1.outcome.rides) was.2)
    behind_answered now fine (inr none) = subst (λ (b : Bool). AnswersPart disk before state copy slots left end now None (replies_by b state.seq slots)) (sym none.0) (missed now none.1)

  -- ---- whatever the segment is

  few_left : LeavesNumbers before 2
  few_left = let left = numbers in omega (arith, left)

  -- nothing waits
  nothing_by : (left : List Transaction) (slots : List Slot) (b : Account) → IsSegment d left Used slots b → AreFramedEach state.seq (waiting slots) → AreGoodEach state (waiting slots) → length (all_changes (waiting slots)) ≡ 0
      → AnswersPart disk before state copy slots left b before copy (replies_done state.seq slots)
  nothing_by left _ _ (together slots judged forced) framed good few = was_nothing disk coherent before state copy slots works judged framed good stored few_left (none_in d slots judged few) left forced
  nothing_by left _ _ (full c accepted no_room) framed good few =
      done_answered disk coherent before state copy works before (said c (plain FULL) ∷ []) [] left d copy (moved_nowhere disk coherent before state copy stored works) works refl
      (record { paired = refl; dones_are = refl; hits_are = refl }) (λ qs rest end batch. is_full d end c left qs rest works accepted no_room batch)

  -- some wait
  some_by : (left : List Transaction) (slots : List Slot) (b : Account) → IsSegment d left Used slots b → AreFramedEach state.seq (waiting slots) → AreGoodEach state (waiting slots) → (length (all_changes (waiting slots)) ≡ 0 → ⊥)
      → (now : JournalView D) (fine : Bool) → IsAppended disk before now (frames_for before.rides state.seq (waiting slots)) (length (all_changes (waiting slots))) fine
      → (copied : Option Target) → (fine ≡ true → copied ≡ target_with (frames_for before.rides state.seq (waiting slots)) copy) → (fine ≡ false → copied ≡ None)
      → AnswersPart disk before state copy slots left b now copied (replies_by fine state.seq slots)
  some_by left _ _ (together slots judged forced) framed good some now true appended copied grown dropped =
      let first = some_in (waiting slots) some in
      subst (λ (t : Option Target). AnswersPart disk before state copy slots left (account_committed d slots) now t (replies_done state.seq slots)) (sym (grown refl))
      (was_made disk coherent before state copy slots works judged framed good stored few_left first.0 first.1 first.2 now true appended (appended.outcome.0 refl) left forced)
  some_by left _ _ (together slots judged forced) framed good some now false appended copied grown dropped =
      let first = some_in (waiting slots) some in
      subst (λ (t : Option Target). AnswersPart disk before state copy slots left (account_committed d slots) now t (replies_in_doubt slots)) (sym (dropped refl))
      (was_in_doubt disk coherent before state copy slots works judged framed good stored few_left first.0 first.1 first.2 now false appended (appended.outcome.1 refl) left forced)
  some_by left _ _ (full c accepted no_room) framed good some now fine appended copied grown dropped = absurd (some refl)

  takes_by : (left : List Transaction) (slots : List Slot) (b : Account) → IsSegment d left Used slots b → AreFramedEach state.seq (waiting slots) → AreGoodEach state (waiting slots) → (length (all_changes (waiting slots)) ≡ 0 → ⊥)
      → Takes before (length (frames_for before.rides state.seq (waiting slots))) (length (all_changes (waiting slots)))
  takes_by left _ _ (together slots judged forced) framed good some = takes disk coherent before state copy slots works judged framed good stored few_left
  takes_by left _ _ (full c accepted no_room) framed good some = absurd (some refl)

  -- one waits behind a snapshot
  behind_by : (left : List Transaction) (v : Vec ℕ Global) (slots : List Slot) (b : Account) → IsSegment d left (Before v) slots b → AreFramedEach state.seq (waiting slots) → AreGoodEach state (waiting slots)
      → (now : JournalView D) (fine : Bool) → IsAppendedBehind disk before now v.items (frames_for before.rides state.seq (waiting slots)) (length (all_changes (waiting slots))) fine
      → AnswersPart disk before state copy slots left b now None (replies_by fine state.seq slots)
  behind_by left _ _ _ (behind c v bytes accepted needs) framed good now fine appended =
      behind_answered left c accepted needs framed good now fine
      (subst (λ (l : List ℕ). IsAppendedBehind disk before now l (frames_for before.rides state.seq (c ∷ [])) (length (all_changes (c ∷ []))) fine) bytes appended)

  fits_by : (left : List Transaction) (v : Vec ℕ Global) (slots : List Slot) (b : Account) → IsSegment d left (Before v) slots b → AreGoodEach state (waiting slots)
      → (length v.items + length (frames_for before.rides state.seq (waiting slots)) ≤ capacity_of before.rides before.sectors) × (before.seq + length (all_changes (waiting slots)) < 2 ^ 64)
  fits_by left _ _ _ (behind c v bytes accepted needs) good =
      let long = ap length bytes in
      let size = sizes_are before.rides state.seq (c ∷ []) in
      let counted = (good_end state (c ∷ []) good).counted in
      let last = seq_counts state (c ∷ []) in
      let seq = stored.held.seq in
      let fits = needs.1 in
      (omega (arith, long, fits, size), omega (arith, counted, last, seq))

  -- one is committed as the snapshot of the documents after it
  instead_by : (left : List Transaction) (v : Vec ℕ Global) (slots : List Slot) (b : Account) → IsSegment d left (After v) slots b → AreGoodEach state (waiting slots)
      → (now : JournalView D) (fine : Bool) → IsReplaced disk before now v.items (length (all_changes (waiting slots))) fine → AnswersPart disk before state copy slots left b now None (replies_by fine state.seq slots)
  instead_by left _ _ _ (instead c v bytes accepted nowhere fits) good now true replaced =
      let here = subst (λ (l : List ℕ). IsReplaced disk before now l (length (all_changes (c ∷ []))) true) bytes replaced in
      instead_done disk coherent before state copy works stored c good (record { works = works; accepted = accepted; nowhere = nowhere; fits = fits }) now true here (here.outcome.0 refl) left
  instead_by left _ _ b (instead c v bytes accepted nowhere fits) good now false replaced =
      let here = subst (λ (l : List ℕ). IsReplaced disk before now l (length (all_changes (c ∷ []))) false) bytes replaced in
      instead_hit disk coherent before state copy works stored c good (record { works = works; accepted = accepted; nowhere = nowhere; fits = fits }) now false here (here.outcome.1 refl) left b

  fits_after : (left : List Transaction) (v : Vec ℕ Global) (slots : List Slot) (b : Account) → IsSegment d left (After v) slots b → AreGoodEach state (waiting slots)
      → (length v.items ≤ capacity_of before.rides before.sectors) × (before.seq + length (all_changes (waiting slots)) < 2 ^ 64)
  fits_after left _ _ _ (instead c v bytes accepted nowhere fits) good =
      let long = ap length bytes in
      let counted = (good_end state (c ∷ []) good).counted in
      let last = seq_counts state (c ∷ []) in
      let seq = stored.held.seq in
      let room = fits.1 in
      (omega (arith, long, room), omega (arith, counted, last, seq))

  module _ (left : List Transaction) (segment : Segment) (slots : List Slot) (b : Account) (part : IsPart d left segment slots b) where
    abbrev frames : List ℕ
    frames = frames_for before.rides state.seq (waiting slots)

    abbrev adds : ℕ
    adds = length (all_changes (waiting slots))

    as_one : (o : Base) → segment.base ≡ o → IsSegment d left o slots b
    as_one o is = subst (λ (v : Base). IsSegment d left v slots b) is part.is

    pub none_waits : segment.base ≡ Used → segment.adds ≡ 0 → AnswersPart disk before state copy slots left b before copy (map (answered Committed) segment.replies.items)
    none_waits none few = subst (AnswersPart disk before state copy slots left b before copy) (sym (said_by true state.seq slots segment.replies.items part.replies))
        (nothing_by left slots b (as_one Used none) part.has.framed part.has.good (sym part.has.adds ∙ few))

    pub some_wait : segment.base ≡ Used → (segment.adds ≡ 0 → ⊥) → (now : JournalView D) (fine : Bool) → IsAppended disk before now segment.frames.items segment.adds fine
        → (copied : Option Target) → (fine ≡ true → copied ≡ target_with segment.frames.items copy) → (fine ≡ false → copied ≡ None)
        → AnswersPart disk before state copy slots left b now copied (map (answered (fate_of fine)) segment.replies.items)
    some_wait none some now fine appended copied grown dropped = subst (AnswersPart disk before state copy slots left b now copied) (sym (said_by fine state.seq slots segment.replies.items part.replies))
        (some_by left slots b (as_one Used none) part.has.framed part.has.good (λ few. some (part.has.adds ∙ few)) now fine
        (subst (λ (q : List ℕ × ℕ). IsAppended disk before now q.0 q.1 fine) (λ i. (part.has.frames i, part.has.adds i)) appended)
        copied (λ made. grown made ∙ ap (λ (l : List ℕ). target_with l copy) part.has.frames) dropped)

    pub one_behind : (v : Vec ℕ Global) → segment.base ≡ Before v → (now : JournalView D) (fine : Bool) → IsAppendedBehind disk before now v.items segment.frames.items segment.adds fine
        → AnswersPart disk before state copy slots left b now None (map (answered (fate_of fine)) segment.replies.items)
    one_behind v is now fine appended = subst (AnswersPart disk before state copy slots left b now None) (sym (said_by fine state.seq slots segment.replies.items part.replies))
        (behind_by left v slots b (as_one (Before v) is) part.has.framed part.has.good now fine
        (subst (λ (q : List ℕ × ℕ). IsAppendedBehind disk before now v.items q.0 q.1 fine) (λ i. (part.has.frames i, part.has.adds i)) appended))

    pub one_instead : (v : Vec ℕ Global) → segment.base ≡ After v → (now : JournalView D) (fine : Bool) → IsReplaced disk before now v.items segment.adds fine
        → AnswersPart disk before state copy slots left b now None (map (answered (fate_of fine)) segment.replies.items)
    one_instead v is now fine replaced = subst (AnswersPart disk before state copy slots left b now None) (sym (said_by fine state.seq slots segment.replies.items part.replies))
        (instead_by left v slots b (as_one (After v) is) part.has.good now fine (subst (λ (n : ℕ). IsReplaced disk before now v.items n fine) part.has.adds replaced))

    -- what the calls of the journal ask
    pub part_takes : segment.base ≡ Used → (segment.adds ≡ 0 → ⊥) → Takes before (length segment.frames.items) segment.adds
    part_takes none some = subst (λ (q : List ℕ × ℕ). Takes before (length q.0) q.1) (λ i. (sym part.has.frames i, sym part.has.adds i))
        (takes_by left slots b (as_one Used none) part.has.framed part.has.good (λ few. some (part.has.adds ∙ few)))

    pub part_fits : (v : Vec ℕ Global) → segment.base ≡ Before v → (length v.items + length segment.frames.items ≤ capacity_of before.rides before.sectors) × (before.seq + segment.adds < 2 ^ 64)
    part_fits v is = subst (λ (q : List ℕ × ℕ). (length v.items + length q.0 ≤ capacity_of before.rides before.sectors) × (before.seq + q.1 < 2 ^ 64)) (λ i. (sym part.has.frames i, sym part.has.adds i))
        (fits_by left v slots b (as_one (Before v) is) part.has.good)

    pub part_fits_after : (v : Vec ℕ Global) → segment.base ≡ After v → (length v.items ≤ capacity_of before.rides before.sectors) × (before.seq + segment.adds < 2 ^ 64)
    part_fits_after v is = subst (λ (n : ℕ). (length v.items ≤ capacity_of before.rides before.sectors) × (before.seq + n < 2 ^ 64)) (sym part.has.adds)
        (fits_after left v slots b (as_one (After v) is) part.has.good)

-- ---- the device failed before

pub not_begun : {D : Type 0} (disk : D → Disk) (coherent : AreCoherent disk) (before : JournalView D) (state : State) (copy : Option Target) → IsStored (disk before.device) before state copy → before.broken ≡ true
    → (a : Account) (left : List Transaction) (segment : Segment) (slots : List Slot) (b : Account) → IsPart a left segment slots b
    → AnswersPart disk before state copy slots left b before copy (map (answered NotBegun) segment.replies.items)
not_begun disk coherent before state copy stored broken a left segment slots b part = subst (AnswersPart disk before state copy slots left b before copy) (sym (all_not_begun segment.replies.items (asked slots) (part_replies a left segment slots b part))) (record {
  told = record {
    first = [];
    lost = slots;
    parts = refl;
    none_lost = λ works. not_both before.broken works broken;
    none_first = λ _. refl;
  };
  stored = stored;
  account = λ works. not_both before.broken works broken;
  went = all_broken disk coherent (store_view before state copy) left (standing (disk before.device) before state stored.held) broken (asked slots);
})
