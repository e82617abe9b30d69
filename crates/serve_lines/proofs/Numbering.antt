-- The numbers by which the transactions of a batch are answered.
use Rattle.std.proofs.Common.{◌≡◌, ◌⊎◌, inl, inr, ⊎_elim, Option, None, Some, ℕ, ◌+◌, Bool, true, false, List, [], ◌∷◌, ◌++◌, length, map, arith, nat_eq, if◌then◌else◌, refl, sym, ◌∙◌, ap, subst}
use Rattle.std.specs.Bool.{⊤}
use Rattle.std.proofs.lemmas.Bool.{eqb-true, ne_eqb}
use Rattle.std.proofs.lemmas.List.{append_assoc}
use Rattle.doc_tree.specs.Doc.{Doc}
use Rattle.record_text.specs.Change.{Change}
use Rattle.doc_changes.specs.Marks.{Mark, mark_of}
use Rattle.doc_changes.specs.Refusals.{plain}
use Rattle.doc_changes.specs.State.{State}
use Rattle.doc_changes.specs.Step.{after}
use Rattle.doc_changes.specs.declared.refusal.Refusal.{Refusal}
use Rattle.doc_machine.specs.Transaction.{Transaction, after_all, after_in, changes_of, refusal_in}
use Rattle.doc_machine.proofs.Transactions.{own_transaction}
use Rattle.refusals.specs.declared.numbers.TheConstants.{BROKEN, DEVICE, FULL, MARK, MEMORY}
use Rattle.store_commits.specs.Account.{Account, account_broken}
use Rattle.store_commits.specs.Batch.{Commit, IsBatch, as_snapshot, as_snapshot_in_doubt, behind_in_doubt, commit_in_doubt, commit_made, is_full, no_more, room_in_doubt, room_made, stays_broken, AreJudged, Slot, account_behind, account_committed, asked, changes, replies_done, replies_in_doubt, said, waiting, waits}
use Rattle.store_commits.specs.Events.{dones_of, hit_by, hits_of, change as change_event}
use Rattle.store_commits.specs.Folds.{after_each}
use Rattle.store_commits.specs.Replacing.{account_after}
use Rattle.store_commits.specs.Snapshot.{account_with_snapshot}
use Rattle.store_commits.specs.declared.event.Reply.{Reply}
use Rattle.store_commits.specs.declared.event.Reply.TheVariants.{Done, Snapped, Pumped, Sealed, Refused}
use Rattle.protocol.specs.Request.{change}
use Rattle.protocol.specs.Reply.{change_reply, other_mark_reply, refusal_reply}
use Rattle.serve_lines.specs.Kept.{IsRefusal, Known, Refuses, Replied, known_after, no_line, was_done, was_hit, was_told}
use Rattle.serve_lines.specs.Session.{AreTold, AskFor, IsTold, asks_another_mark, key_of, shown_reply, told_in}
use Rattle.serve_lines.proofs.Answering.{asks_for, is_refusal, other_mark_refuses, refuses, refuses_by}
use Rattle.recorded_store.proofs.Counting.{Counts}

-- ---- its lines

module _ (left : State) (key : Option (List ℕ)) where
  -- the store's reply is told as it is, if it isn't the refusal of a mark
  told_plainly : (one : Reply) → asks_another_mark one ≡ false → told_in left key one ≡ shown_reply one
  told_plainly one other = elim key as (λ (k : Option (List ℕ)). told_in left k one ≡ shown_reply one) [
    | None ↦ refl
    | Some k ↦ ap (λ (b : Bool). if b then other_mark_reply (mark_of k left.marks) else shown_reply one) other
  ]

  plainly : (one : Reply) (reply : Doc) → asks_another_mark one ≡ false → IsTold left key one reply → reply ≡ shown_reply one
  plainly one reply other (inl told) = told ∙ told_plainly one other
  plainly one reply other (inr memory) = let both = sym other ∙ memory.0 in absurd (cc both)

  -- and the refusal of a mark refuses
  told_refuses : (r : Refusal) (reply : Doc) → IsTold left key (Refused r) reply → IsRefusal reply
  told_refuses r reply (inr memory) = is_refusal reply (plain MEMORY) memory.1
  told_refuses r reply (inl told) = elim key as (λ (k : Option (List ℕ)). reply ≡ told_in left k (Refused r) → IsRefusal reply) [
    | None ↦ λ is. is_refusal reply r is
    | Some k ↦ λ is. either (nat_eq r.number MARK) (mark_of k left.marks) is
  ] told
    where
      either : (b : Bool) (present : Option Mark) → reply ≡ (if b then other_mark_reply present else refusal_reply r) → IsRefusal reply
      either true present is = other_mark_refuses reply present is
      either false present is = is_refusal reply r is

-- a fault of the device is no refusal of a mark
device_plain : (r : Refusal) → nat_eq r.number DEVICE ≡ true → asks_another_mark (Refused r) ≡ false
device_plain r is = ap (λ (n : ℕ). nat_eq n MARK) (eqb-true r.number DEVICE is)

module _ (s : Known) (left : State) (line : List ℕ) (t : Transaction) (reply : Doc) (lines : List (List ℕ)) (replies : List Doc) (r : Refusal) (done hit : List Transaction) (asks : AskFor (line ∷ []) (t ∷ [])) (told : IsTold left (key_of t) (Refused r) reply)
    (rest : Replied s lines replies done hit) where
  -- a transaction was refused, for a fault of the device, after which none is done, or for another reason
  line_refused : (fault : Bool) → nat_eq r.number DEVICE ≡ fault → (nat_eq r.number DEVICE ≡ true → done ≡ []) → Replied s (line ∷ lines) (reply ∷ replies) done ((if fault then t ∷ [] else []) ++ hit)
  line_refused true is none =
      let by = refuses_by reply r (plainly left (key_of t) (Refused r) reply (device_plain r is) told) in
      subst (λ (ds : List Transaction). Replied s (line ∷ lines) (reply ∷ replies) ds (t ∷ hit)) (sym (none is))
      (was_hit s line t reply lines replies hit (asks_for line (change t) asks.0) (subst (Refuses reply) (eqb-true r.number DEVICE is) by) (subst (λ (ds : List Transaction). Replied s lines replies ds hit) (none is) rest))
  line_refused false is none = was_told s line reply lines replies done hit (inl (change t, asks_for line (change t) asks.0, told_refuses left (key_of t) r reply told)) rest

-- the lines that asked for the transactions were answered so, in the state that was left
pub batch_replied : (s : Known) (left : State) (lines : List (List ℕ)) (ts : List Transaction) (rs : List Reply) (replies : List Doc) → AskFor lines ts → Counts s.state ts rs → AreTold left (map key_of ts) rs replies
    → Replied s lines replies (dones_of (changes ts) rs) (hits_of (changes ts) rs)
batch_replied s left [] [] [] [] asks counts told = no_line s
batch_replied s left [] [] [] (reply ∷ replies) asks counts told = absurd told
batch_replied s left [] [] (r ∷ rs) replies asks counts told = absurd counts
batch_replied s left [] (t ∷ ts) rs replies asks counts told = absurd asks
batch_replied s left (line ∷ lines) [] rs replies asks counts told = absurd asks
batch_replied s left (line ∷ lines) (t ∷ ts) [] replies asks counts told = absurd counts
batch_replied s left (line ∷ lines) (t ∷ ts) (r ∷ rs) [] asks counts told = absurd told
batch_replied s left (line ∷ lines) (t ∷ ts) (Done seq ∷ rs) (reply ∷ replies) asks counts told =
    let is : change_reply (known_after s t).state.seq ≡ reply = sym (plainly left (key_of t) (Done seq) reply refl told.0 ∙ ap change_reply counts.0) in
    subst (λ (d : Doc). Replied s (line ∷ lines) (d ∷ replies) (t ∷ dones_of (changes ts) rs) (hits_of (changes ts) rs)) is
    (was_done s line t lines replies (dones_of (changes ts) rs) (hits_of (changes ts) rs) (asks_for line (change t) asks.0) (batch_replied (known_after s t) left lines ts rs replies asks.1 counts.1 told.1))
batch_replied s left (line ∷ lines) (t ∷ ts) (Refused r ∷ rs) (reply ∷ replies) asks counts told =
    line_refused s left line t reply lines replies r (dones_of (changes ts) rs) (hits_of (changes ts) rs) (asks.0, tt) told.0 (batch_replied s left lines ts rs replies asks.1 counts.1 told.1) (nat_eq r.number DEVICE) refl counts.0
batch_replied s left (line ∷ lines) (t ∷ ts) (Snapped used ∷ rs) (reply ∷ replies) asks counts told = absurd counts
batch_replied s left (line ∷ lines) (t ∷ ts) (Pumped p ∷ rs) (reply ∷ replies) asks counts told = absurd counts
batch_replied s left (line ∷ lines) (t ∷ ts) (Sealed ∷ rs) (reply ∷ replies) asks counts told = absurd counts

-- where memory was refused to the whole batch
pub batch_unmade : (s : Known) (lines : List (List ℕ)) (ts : List Transaction) → AskFor lines ts → Replied s lines (map (λ _. refusal_reply (plain MEMORY)) ts) [] []
batch_unmade s [] [] asks = no_line s
batch_unmade s [] (t ∷ ts) asks = absurd asks
batch_unmade s (line ∷ lines) [] asks = absurd asks
batch_unmade s (line ∷ lines) (t ∷ ts) asks =
    was_told s line (refusal_reply (plain MEMORY)) lines (map (λ _. refusal_reply (plain MEMORY)) ts) [] [] (inr (inr (inl (refuses (plain MEMORY), (asks_for line (change t) asks.0).0)))) (batch_unmade s lines ts asks.1)
