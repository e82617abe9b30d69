-- What is given back of segments: the frames of what was done.
use Rattle.std.proofs.Common.{◌≡◌, ℕ, ◌+◌, ◌≤◌, List, [], ◌∷◌, ◌++◌, length, length-append, map, refl, sym, ◌∙◌, ap, subst, arith, Bool, true, false, Option, suc, Vec, Global}
use Rattle.std.proofs.lemmas.List.{append-nil, length-map}
use Rattle.sector_device.specs.Disk.{Disk}
use Rattle.store_journal.specs.JournalView.{JournalView}
use Rattle.doc_machine.specs.Transaction.{Transaction, changes_of}
use Rattle.refusals.specs.declared.numbers.TheConstants.{BROKEN}
use Rattle.doc_changes.specs.Refusals.{plain}
use Rattle.doc_changes.specs.State.{State}
use Rattle.store_commits.specs.Account.{Account, with_copy}
use Rattle.store_commits.specs.Batch.{Slot, waits, said, asked, waiting, changes, replies_done, replies_in_doubt}
use Rattle.store_commits.specs.Copying.{Target, copy_of}
use Rattle.store_commits.specs.Events.{Reply, Refused, dones_of}
use Rattle.store_commits.specs.Folds.{AreFramedEach, after_each, all_changes, frames_each}
use Rattle.store_commits.specs.Given.{bytes_each}
use Rattle.store_commits.specs.Inside.{AnswersPart, ArePlanned, IsPart, account_of, answered, each_in, given, none_planned, one_planned}
use Rattle.store_commits.specs.declared.segment.Fate.{Fate}
use Rattle.store_commits.specs.declared.segment.Fate.TheVariants.{Committed, InDoubt, NotBegun}
use Rattle.store_commits.specs.declared.segment.Segment.{Segment}
use Rattle.store_commits.proofs.Changes.{each_append, framed_append, seq_counts}
use Rattle.store_commits.proofs.Parts.{all_committed, all_in_doubt, all_not_begun, part_replies}
use Rattle.store_commits.proofs.Running.{changes_append, changes_length, dones_append}
use Rattle.store_commits.proofs.Slots.{asked_append, waiting_append}

-- ---- what replies say was done

-- the transactions of one commit
dones_made : (seq : ℕ) (slots : List Slot) → dones_of (changes (asked slots)) (replies_done seq slots) ≡ waiting slots
dones_made seq [] = refl
dones_made seq (waits t ∷ slots) = ap (λ (l : List Transaction). t ∷ l) (dones_made (seq + length (changes_of t)) slots)
dones_made seq (said t r ∷ slots) = dones_made seq slots

-- none of one that a fault hit
dones_hit : (slots : List Slot) → dones_of (changes (asked slots)) (replies_in_doubt slots) ≡ []
dones_hit [] = refl
dones_hit (waits t ∷ slots) = dones_hit slots
dones_hit (said t r ∷ slots) = dones_hit slots

-- none of a store that is broken
pub dones_broken : {X : Type 0} (ts : List Transaction) (xs : List X) → dones_of (changes ts) (map (λ _. Refused (plain BROKEN)) xs) ≡ []
dones_broken [] xs = refl
dones_broken (t ∷ ts) [] = refl
dones_broken (t ∷ ts) (x ∷ xs) = dones_broken ts xs

-- of two parts that are none the first is none
none_before : {X : Type 0} (xs ys : List X) → xs ++ ys ≡ [] → xs ≡ []
none_before [] ys is = refl
none_before (x ∷ xs) ys is = absurd (cc is)

-- ---- one segment

module _ (a : Account) (left : List Transaction) (segment : Segment) (slots : List Slot) (b : Account) (part : IsPart a left segment slots b) where
  abbrev said_as : Fate → List Reply
  said_as fate = map (answered fate) segment.replies.items

  abbrev dones : Fate → List Transaction
  dones fate = dones_of (changes (asked slots)) (said_as fate)

  -- its frames are those of the account's seq
  given_by : (fate : Fate) → bytes_each (given fate segment.each.items) ≡ frames_each a.rides a.state.seq (dones fate)
  given_by Committed =
      let replies = all_committed segment.replies.items ∙ part.replies in
      part.has.each ∙ sym (ap (λ (rs : List Reply). frames_each a.rides a.state.seq (dones_of (changes (asked slots)) rs)) replies ∙ ap (frames_each a.rides a.state.seq) (dones_made a.state.seq slots))
  given_by InDoubt =
      let replies = ap (map (answered InDoubt)) part.replies ∙ all_in_doubt a.state.seq slots in
      sym (ap (λ (rs : List Reply). frames_each a.rides a.state.seq (dones_of (changes (asked slots)) rs)) replies ∙ ap (frames_each a.rides a.state.seq) (dones_hit slots))
  given_by NotBegun =
      let replies = all_not_begun segment.replies.items (asked slots) (part_replies a left segment slots b part) in
      sym (ap (λ (rs : List Reply). frames_each a.rides a.state.seq (dones_of (changes (asked slots)) rs)) replies ∙ ap (frames_each a.rides a.state.seq) (dones_broken (asked slots) (asked slots)))

  -- which a journal can hold
  framed_by : (fate : Fate) → AreFramedEach a.state.seq (dones fate)
  framed_by Committed =
      let replies = all_committed segment.replies.items ∙ part.replies in
      subst (AreFramedEach a.state.seq) (sym (ap (dones_of (changes (asked slots))) replies ∙ dones_made a.state.seq slots)) part.has.framed
  framed_by InDoubt =
      let replies = ap (map (answered InDoubt)) part.replies ∙ all_in_doubt a.state.seq slots in
      subst (AreFramedEach a.state.seq) (sym (ap (dones_of (changes (asked slots))) replies ∙ dones_hit slots)) tt
  framed_by NotBegun =
      let replies = all_not_begun segment.replies.items (asked slots) (part_replies a left segment slots b part) in
      subst (AreFramedEach a.state.seq) (sym (ap (dones_of (changes (asked slots))) replies ∙ dones_broken (asked slots) (asked slots))) tt

  -- which are those of the store: of a broken one nothing is done
  pub given_of : {D : Type 0} (disk : D → Disk) (journal : JournalView D) (s : State) (copy : Option Target) (fate : Fate) (new : JournalView D) (copied : Option Target)
      → (journal.broken ≡ false → with_copy (account_of journal s) (copy_of copy) ≡ a)
      → AnswersPart disk journal s copy slots left b new copied (said_as fate)
      → bytes_each (given fate segment.each.items) ≡ frames_each journal.rides s.seq (dones fate)
  given_of {D} disk journal s copy fate new copied same part_is = by journal.broken refl
    where
      none : (l : List Transaction) → l ≡ [] → frames_each a.rides a.state.seq l ≡ frames_each journal.rides s.seq l
      none l is = ap (frames_each a.rides a.state.seq) is ∙ sym (ap (frames_each journal.rides s.seq) is)

      by : (broken : Bool) → journal.broken ≡ broken → bytes_each (given fate segment.each.items) ≡ frames_each journal.rides s.seq (dones fate)
      by true broken = given_by fate ∙ none (dones fate) (none_before (dones fate) _ (part_is.went.lasts.still broken).1)
      by false works = given_by fate ∙ ap (λ (x : Account). frames_each x.rides x.state.seq (dones fate)) (sym (same works))

  pub framed_of : {D : Type 0} (disk : D → Disk) (journal : JournalView D) (s : State) (copy : Option Target) (fate : Fate) (new : JournalView D) (copied : Option Target)
      → (journal.broken ≡ false → with_copy (account_of journal s) (copy_of copy) ≡ a)
      → AnswersPart disk journal s copy slots left b new copied (said_as fate)
      → AreFramedEach s.seq (dones fate)
  framed_of {D} disk journal s copy fate new copied same part_is = by journal.broken refl
    where
      by : (broken : Bool) → journal.broken ≡ broken → AreFramedEach s.seq (dones fate)
      by true broken = subst (AreFramedEach s.seq) (sym (none_before (dones fate) _ (part_is.went.lasts.still broken).1)) tt
      by false works = subst (λ (x : Account). AreFramedEach x.state.seq (dones fate)) (sym (same works)) (framed_by fate)

-- nothing is given back
pub none_more : {X : Type 0} (xs : List X) → xs ≡ xs ++ []
none_more xs = sym (append-nil xs)

-- ---- segments one after another

-- the seq of the journal after these, and what was done of these and of those
module _ {D : Type 0} (disk : D → Disk) (start now : JournalView D) (s : State) (copy copied : Option Target) where
  seq_behind : (slots : List Slot) (left : List Transaction) (mid : Account) (rs : List Reply) (first : AnswersPart disk start s copy slots left mid now copied rs)
      → (after_each s (waiting first.told.first)).seq ≡ s.seq + length (all_changes (dones_of (changes (asked slots)) rs))
  seq_behind slots left mid rs first = ap (λ (u : State). u.seq) first.went.lasts.state_is ∙ seq_counts s (dones_of (changes (asked slots)) rs)

  dones_both : (slots more : List Slot) (left : List Transaction) (mid : Account) (rs qs : List Reply) → AnswersPart disk start s copy slots left mid now copied rs
      → dones_of (changes (asked (slots ++ more))) (rs ++ qs) ≡ dones_of (changes (asked slots)) rs ++ dones_of (changes (asked more)) qs
  dones_both slots more left mid rs qs first =
      ap (λ (l : List Transaction). dones_of (changes l) (rs ++ qs)) (asked_append slots more) ∙ ap (λ es. dones_of es (rs ++ qs)) (changes_append (asked slots) (asked more))
      ∙ dones_append (changes (asked slots)) (changes (asked more)) rs qs (changes_length (asked slots) ∙ first.went.paired)

-- what was given back of these and of those
pub given_both : {D : Type 0} (disk : D → Disk) (start now : JournalView D) (s : State) (copy copied : Option Target) (slots more : List Slot) (left : List Transaction) (mid : Account) (rs qs : List Reply)
    → (first : AnswersPart disk start s copy slots left mid now copied rs) → (frames : List (List ℕ)) → frames ≡ frames_each start.rides s.seq (dones_of (changes (asked slots)) rs)
    → frames ++ frames_each now.rides (after_each s (waiting first.told.first)).seq (dones_of (changes (asked more)) qs) ≡ frames_each start.rides s.seq (dones_of (changes (asked (slots ++ more))) (rs ++ qs))
given_both disk start now s copy copied slots more left mid rs qs first frames so_far =
    let ts = dones_of (changes (asked slots)) rs in
    let us = dones_of (changes (asked more)) qs in
    let lasts = first.went.lasts in
    let seq = seq_behind disk start now s copy copied slots left mid rs first in
    let all = dones_both disk start now s copy copied slots more left mid rs qs first in
    (λ i. so_far i ++ frames_each (lasts.rides_is i) (seq i) us)
    ∙ sym (ap (frames_each start.rides s.seq) all ∙ each_append start.rides s.seq ts us)

-- a journal can hold all of them
pub framed_both : {D : Type 0} (disk : D → Disk) (start now : JournalView D) (s : State) (copy copied : Option Target) (slots more : List Slot) (left : List Transaction) (mid : Account) (rs qs : List Reply)
    → (first : AnswersPart disk start s copy slots left mid now copied rs) → AreFramedEach s.seq (dones_of (changes (asked slots)) rs)
    → AreFramedEach (after_each s (waiting first.told.first)).seq (dones_of (changes (asked more)) qs) → AreFramedEach s.seq (dones_of (changes (asked (slots ++ more))) (rs ++ qs))
framed_both disk start now s copy copied slots more left mid rs qs first so_far others =
    let ts = dones_of (changes (asked slots)) rs in
    let us = dones_of (changes (asked more)) qs in
    let seq = seq_behind disk start now s copy copied slots left mid rs first in
    subst (AreFramedEach s.seq) (sym (dones_both disk start now s copy copied slots more left mid rs qs first))
    (framed_append s.seq ts us so_far (subst (λ (n : ℕ). AreFramedEach n us) seq others))

-- ---- how many

pub length_each : (rides : Bool) (seq : ℕ) (ts : List Transaction) → length (frames_each rides seq ts) ≡ length ts
length_each rides seq [] = refl
length_each rides seq (t ∷ ts) = ap suc (length_each rides (seq + length (changes_of t)) ts)

waiting_few : (slots : List Slot) → length (waiting slots) ≤ length (asked slots)
waiting_few [] = omega arith
waiting_few (waits t ∷ slots) = let few = waiting_few slots in omega (arith, few)
waiting_few (said t r ∷ slots) = let few = waiting_few slots in omega (arith, few)

-- no more than are asked
pub planned_each : (a : Account) (segments : List Segment) (slots : List Slot) (end : Account) → ArePlanned a segments slots end → each_in segments ≤ length (asked slots)
planned_each _ _ _ _ (none_planned a) = omega arith
planned_each _ _ _ _ (one_planned a b end segment segments slots more part rest) =
    let count = sym (length-map segment.each.items (λ (v : Vec ℕ Global). v.items)) ∙ ap length part.has.each ∙ length_each a.rides a.state.seq (waiting slots) in
    let few = waiting_few slots in
    let others = planned_each b segments more end rest in
    let both = ap length (asked_append slots more) ∙ length-append (asked slots) (asked more) in
    omega (arith, count, few, others, both)
