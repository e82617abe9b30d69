-- The numbers by which the transactions of a batch are answered, and what becomes of the state and the format.
use Rattle.std.proofs.Common.{◌≡◌, ◌⊎◌, inl, inr, ⊎_elim, Some, ℕ, ◌+◌, Bool, true, false, List, [], ◌∷◌, ◌++◌, length, arith, nat_eq, if◌then◌else◌, refl, sym, ◌∙◌, ap, subst}
use Rattle.std.specs.Bool.{⊤}
use Rattle.std.proofs.lemmas.Bool.{ne_eqb}
use Rattle.std.proofs.lemmas.List.{append_assoc}
use Rattle.record_text.specs.Change.{Change}
use Rattle.doc_changes.specs.Refusals.{plain}
use Rattle.doc_changes.specs.State.{State}
use Rattle.doc_changes.specs.Step.{after}
use Rattle.doc_changes.specs.declared.refusal.Refusal.{Refusal}
use Rattle.doc_machine.specs.Transaction.{RefusesTransaction, Transaction, after_all, after_in, changes_of}
use Rattle.doc_machine.proofs.Transactions.{own_refuses}
use Rattle.refusals.specs.declared.numbers.TheConstants.{BROKEN, DEVICE, FULL}
use Rattle.store_commits.specs.Account.{Account, account_broken}
use Rattle.store_commits.specs.Batch.{Commit, IsBatch, as_snapshot, as_snapshot_in_doubt, behind_in_doubt, commit_in_doubt, commit_made, is_full, no_more, room_in_doubt, room_made, stays_broken, AreJudged, Slot, account_behind, account_committed, asked, changes, replies_done, replies_in_doubt, said, waiting, waits}
use Rattle.store_commits.specs.Events.{dones_of, hit_by, hits_of, change as change_event}
use Rattle.store_commits.specs.Folds.{after_each}
use Rattle.store_commits.specs.Replacing.{account_after}
use Rattle.store_commits.specs.Snapshot.{account_with_snapshot}
use Rattle.store_commits.specs.declared.event.Reply.{Reply}
use Rattle.store_commits.specs.declared.event.Reply.TheVariants.{Done, Snapped, Pumped, Sealed, Refused}

-- each change counts one
pub seq_all : (s : State) (cs : List Change) → s.seq + length cs ≡ (after_all s cs).seq
seq_all s [] = omega arith
seq_all s (c ∷ cs) = (let one : s.seq + length (c ∷ cs) ≡ (s.seq + 1) + length cs = omega arith in one) ∙ seq_all (after s c) cs

-- Transactions after one another, from a state, with their replies: one that was done is answered by the seq after it, and the others change nothing. After one that the device's fault hit none was done.
abbrev pub Counts : State → List Transaction → List Reply → Type 0
Counts s [] [] = ⊤
Counts s (t ∷ ts) (Done seq ∷ rs) = (seq ≡ (after_in s t).seq) × Counts (after_in s t) ts rs
Counts s (t ∷ ts) (Refused r ∷ rs) = (nat_eq r.number DEVICE ≡ true → dones_of (changes ts) rs ≡ []) × Counts s ts rs
Counts s _ _ = ⊥

-- of two parts one has none
none_before : {X : Type 0} (xs ys : List X) → xs ++ ys ≡ [] → ys ≡ []
none_before [] ys none = none
none_before (x ∷ xs) ys none = absurd (cc none)

dones_both : (s : State) (ts us : List Transaction) (rs qs : List Reply) → Counts s ts rs → dones_of (changes (ts ++ us)) (rs ++ qs) ≡ dones_of (changes ts) rs ++ dones_of (changes us) qs
dones_both s [] us [] qs first = refl
dones_both s [] us (r ∷ rs) qs first = absurd first
dones_both s (t ∷ ts) us [] qs first = absurd first
dones_both s (t ∷ ts) us (Done seq ∷ rs) qs first = ap (λ (l : List Transaction). t ∷ l) (dones_both (after_in s t) ts us rs qs first.1)
dones_both s (t ∷ ts) us (Refused r ∷ rs) qs first = dones_both s ts us rs qs first.1
dones_both s (t ∷ ts) us (Snapped used ∷ rs) qs first = absurd first
dones_both s (t ∷ ts) us (Pumped p ∷ rs) qs first = absurd first
dones_both s (t ∷ ts) us (Sealed ∷ rs) qs first = absurd first

hits_both : (s : State) (ts us : List Transaction) (rs qs : List Reply) → Counts s ts rs → hits_of (changes (ts ++ us)) (rs ++ qs) ≡ hits_of (changes ts) rs ++ hits_of (changes us) qs
hits_both s [] us [] qs first = refl
hits_both s [] us (r ∷ rs) qs first = absurd first
hits_both s (t ∷ ts) us [] qs first = absurd first
hits_both s (t ∷ ts) us (Done seq ∷ rs) qs first = hits_both (after_in s t) ts us rs qs first.1
hits_both s (t ∷ ts) us (Refused r ∷ rs) qs first =
    ap (λ (l : List Transaction). hit_by (change_event t) (Refused r) ++ l) (hits_both s ts us rs qs first.1) ∙ sym (append_assoc (hit_by (change_event t) (Refused r)) (hits_of (changes ts) rs) (hits_of (changes us) qs))
hits_both s (t ∷ ts) us (Snapped used ∷ rs) qs first = absurd first
hits_both s (t ∷ ts) us (Pumped p ∷ rs) qs first = absurd first
hits_both s (t ∷ ts) us (Sealed ∷ rs) qs first = absurd first

-- the first has no hit, or the second nothing that was done
abbrev AreApart : List Transaction → List Reply → List Transaction → List Reply → Type 0
AreApart ts rs us qs = (hits_of (changes ts) rs ≡ []) ⊎ (dones_of (changes us) qs ≡ [])

-- of one more in front
apart_from : (t : Transaction) (r : Refusal) (ts us : List Transaction) (rs qs : List Reply) → AreApart (t ∷ ts) (Refused r ∷ rs) us qs → AreApart ts rs us qs
apart_from t r ts us rs qs (inl none) = inl (none_before (hit_by (change_event t) (Refused r)) (hits_of (changes ts) rs) none)
apart_from t r ts us rs qs (inr none) = inr none

-- one that was hit in front
apart_hit : (t : Transaction) (r : Refusal) (ts us : List Transaction) (rs qs : List Reply) → nat_eq r.number DEVICE ≡ true → AreApart (t ∷ ts) (Refused r ∷ rs) us qs → dones_of (changes us) qs ≡ []
apart_hit t r ts us rs qs hit (inl none) =
    let some : t ∷ hits_of (changes ts) rs ≡ [] = ap (λ (b : Bool). (if b then t ∷ [] else []) ++ hits_of (changes ts) rs) (sym hit) ∙ none in
    absurd (cc some)
apart_hit t r ts us rs qs hit (inr none) = none

counts_behind : (s : State) (ts us : List Transaction) (rs qs : List Reply) → Counts s ts rs → Counts (after_each s (dones_of (changes ts) rs)) us qs → AreApart ts rs us qs → Counts s (ts ++ us) (rs ++ qs)
counts_behind s [] us [] qs first second apart = second
counts_behind s [] us (r ∷ rs) qs first second apart = absurd first
counts_behind s (t ∷ ts) us [] qs first second apart = absurd first
counts_behind s (t ∷ ts) us (Done seq ∷ rs) qs first second apart = (first.0, counts_behind (after_in s t) ts us rs qs first.1 second apart)
counts_behind s (t ∷ ts) us (Refused r ∷ rs) qs first second apart = (
  (λ hit. (let none = apart_hit t r ts us rs qs hit apart in dones_both s ts us rs qs first.1 ∙ (λ i. first.0 hit i ++ none i))),
  counts_behind s ts us rs qs first.1 second (apart_from t r ts us rs qs apart),
)
counts_behind s (t ∷ ts) us (Snapped used ∷ rs) qs first second apart = absurd first
counts_behind s (t ∷ ts) us (Pumped p ∷ rs) qs first second apart = absurd first
counts_behind s (t ∷ ts) us (Sealed ∷ rs) qs first second apart = absurd first

state_behind : (s : State) (ts us : List Transaction) (rs qs : List Reply) → Counts s ts rs
    → after_each s (dones_of (changes (ts ++ us)) (rs ++ qs)) ≡ after_each (after_each s (dones_of (changes ts) rs)) (dones_of (changes us) qs)
state_behind s [] us [] qs first = refl
state_behind s [] us (r ∷ rs) qs first = absurd first
state_behind s (t ∷ ts) us [] qs first = absurd first
state_behind s (t ∷ ts) us (Done seq ∷ rs) qs first = state_behind (after_in s t) ts us rs qs first.1
state_behind s (t ∷ ts) us (Refused r ∷ rs) qs first = state_behind s ts us rs qs first.1
state_behind s (t ∷ ts) us (Snapped used ∷ rs) qs first = absurd first
state_behind s (t ∷ ts) us (Pumped p ∷ rs) qs first = absurd first
state_behind s (t ∷ ts) us (Sealed ∷ rs) qs first = absurd first

-- from an account to an account, transactions of a batch: a hit breaks the store, and a broken one does nothing
pub record Counted (a b : Account) (ts : List Transaction) (rs : List Reply) : Type 0 where
  pub counts : Counts a.state ts rs
  pub state : b.state ≡ after_each a.state (dones_of (changes ts) rs)
  pub hit : (hits_of (changes ts) rs ≡ []) ⊎ (b.broken ≡ true)
  pub broke : a.broken ≡ true → (dones_of (changes ts) rs ≡ []) × (b.broken ≡ true)

behind : (a b d : Account) (ts us : List Transaction) (rs qs : List Reply) → Counted a b ts rs → Counted b d us qs → Counted a d (ts ++ us) (rs ++ qs)
behind a b d ts us rs qs first second = record {
  counts = counts_behind a.state ts us rs qs first.counts (subst (λ (s : State). Counts s us qs) first.state second.counts) (⊎_elim inl (λ broken. inr (second.broke broken).0) first.hit);
  state = second.state ∙ ap (λ (s : State). after_each s (dones_of (changes us) qs)) first.state ∙ sym (state_behind a.state ts us rs qs first.counts);
  hit = ⊎_elim (λ none. ⊎_elim (λ no_more. inl (hits_both a.state ts us rs qs first.counts ∙ (λ i. none i ++ no_more i))) inr second.hit) (λ broken. inr (second.broke broken).1) first.hit;
  broke = λ broken. (let one = first.broke broken in let two = second.broke one.1 in (dones_both a.state ts us rs qs first.counts ∙ (λ i. one.0 i ++ two.0 i), two.1));
}

-- a working store is not broken
works_not : {A : Type 0} (a : Account) → a.broken ≡ false → a.broken ≡ true → A
works_not a works broken = let both = sym works ∙ broken in absurd (cc both)

-- one that wasn't done
refused : (a b : Account) (t : Transaction) (r : Refusal) → b.state ≡ a.state → (hits_of (changes (t ∷ [])) (Refused r ∷ []) ≡ []) ⊎ (b.broken ≡ true) → (a.broken ≡ true → b.broken ≡ true) → Counted a b (t ∷ []) (Refused r ∷ [])
refused a b t r same hit still = record { counts = ((λ _. refl), tt); state = same; hit = hit; broke = λ broken. (refl, still broken) }

-- ---- one commit

-- a refusal of a judgement is no fault of the device
own_refusal : (a : Account) (t : Transaction) (r : Refusal) → RefusesTransaction a.state t r → nat_eq r.number DEVICE ≡ false
own_refusal a t r is = ne_eqb r.number DEVICE (own_refuses a.state t r is).1

done_counts : (a : Account) (seq : ℕ) (slots : List Slot) → seq ≡ a.state.seq → AreJudged a slots → Counts a.state (asked slots) (replies_done seq slots)
done_counts a seq [] is judged = tt
done_counts a seq (waits t ∷ slots) is judged =
    let next = ap (λ (n : ℕ). n + length (changes_of t)) is ∙ seq_all a.state (changes_of t) in
    (next, done_counts (account_behind a t) (seq + length (changes_of t)) slots next judged.2)
done_counts a seq (said t r ∷ slots) is judged = (
  (λ hit. (let both = sym hit ∙ own_refusal a t r judged.0 in absurd (cc both))),
  done_counts a seq slots is judged.1,
)

-- none of these was hit
done_unhit : (a : Account) (seq : ℕ) (slots : List Slot) → AreJudged a slots → hits_of (changes (asked slots)) (replies_done seq slots) ≡ []
done_unhit a seq [] judged = refl
done_unhit a seq (waits t ∷ slots) judged = done_unhit (account_behind a t) (seq + length (changes_of t)) slots judged.2
done_unhit a seq (said t r ∷ slots) judged =
    ap (λ (b : Bool). (if b then t ∷ [] else []) ++ hits_of (changes (asked slots)) (replies_done seq slots)) (own_refusal a t r judged.0) ∙ done_unhit a seq slots judged.1

done_are : (seq : ℕ) (slots : List Slot) → dones_of (changes (asked slots)) (replies_done seq slots) ≡ waiting slots
done_are seq [] = refl
done_are seq (waits t ∷ slots) = ap (λ (ts : List Transaction). t ∷ ts) (done_are (seq + length (changes_of t)) slots)
done_are seq (said t r ∷ slots) = done_are seq slots

committed_state : (a : Account) (slots : List Slot) → (account_committed a slots).state ≡ after_each a.state (waiting slots)
committed_state a [] = refl
committed_state a (waits t ∷ slots) = committed_state (account_behind a t) slots
committed_state a (said t r ∷ slots) = committed_state a slots

none_in_doubt_done : (slots : List Slot) → dones_of (changes (asked slots)) (replies_in_doubt slots) ≡ []
none_in_doubt_done [] = refl
none_in_doubt_done (waits t ∷ slots) = none_in_doubt_done slots
none_in_doubt_done (said t r ∷ slots) = none_in_doubt_done slots

doubt_counts : (s : State) (slots : List Slot) → Counts s (asked slots) (replies_in_doubt slots)
doubt_counts s [] = tt
doubt_counts s (waits t ∷ slots) = ((λ _. none_in_doubt_done slots), doubt_counts s slots)
doubt_counts s (said t r ∷ slots) = ((λ _. none_in_doubt_done slots), doubt_counts s slots)

-- ---- a batch

pub batch_counts : (a b : Account) (ts : List Transaction) (rs : List Reply) (commits : List Commit) → IsBatch a ts rs commits b → Counted a b ts rs
batch_counts _ _ _ _ _ (no_more a) = record { counts = tt; state = refl; hit = inl refl; broke = λ broken. (refl, broken) }
batch_counts _ _ _ _ _ (commit_made a b d slots ts rs more made forced rest) =
    behind a b d (asked slots) ts (replies_done a.state.seq slots) rs (record {
      counts = done_counts a a.state.seq slots refl made.judged;
      state = ap (λ (x : Account). x.state) made.new_is ∙ committed_state a slots ∙ ap (after_each a.state) (sym (done_are a.state.seq slots));
      hit = inl (done_unhit a a.state.seq slots made.judged);
      broke = λ broken. works_not a made.works broken;
    }) (batch_counts b d ts rs more rest)
batch_counts _ _ _ _ _ (commit_in_doubt a b d slots ts rs more hit forced rest) =
    behind a b d (asked slots) ts (replies_in_doubt slots) rs (record {
      counts = doubt_counts a.state slots;
      state = ap (λ (x : Account). x.state) hit.new_is ∙ ap (after_each a.state) (sym (none_in_doubt_done slots));
      hit = inr (ap (λ (x : Account). x.broken) hit.new_is);
      broke = λ broken. works_not a hit.works broken;
    }) (batch_counts b d ts rs more rest)
batch_counts _ _ _ _ _ (room_made a b d t ts rs more goes made rest) =
    let state = ap (λ (x : Account). x.state) made.new_is in
    behind a b d (t ∷ []) ts (replies_done a.state.seq (waits t ∷ [])) rs (record {
      counts = (seq_all a.state (changes_of t), tt);
      state = state;
      hit = inl refl;
      broke = λ broken. works_not a goes.works broken;
    }) (batch_counts b d ts rs more rest)
batch_counts _ _ _ _ _ (behind_in_doubt a b d t ts rs more goes hit rest) =
    let broken = ap (λ (x : Account). x.broken) hit.new_is in
    behind a b d (t ∷ []) ts (Refused (plain DEVICE) ∷ []) rs (refused a b t (plain DEVICE) (ap (λ (x : Account). x.state) hit.new_is) (inr broken) (λ _. broken)) (batch_counts b d ts rs more rest)
batch_counts _ _ _ _ _ (room_in_doubt a d t ts rs more goes rest) =
    let b = account_broken a in
    behind a b d (t ∷ []) ts (Refused (plain DEVICE) ∷ []) rs (refused a b t (plain DEVICE) refl (inr refl) (λ _. refl)) (batch_counts b d ts rs more rest)
batch_counts _ _ _ _ _ (as_snapshot a d t ts rs more goes rest) =
    let b = account_with_snapshot (account_after a t) in
    behind a b d (t ∷ []) ts (replies_done a.state.seq (waits t ∷ [])) rs (record {
      counts = (seq_all a.state (changes_of t), tt);
      state = refl;
      hit = inl refl;
      broke = λ broken. works_not a goes.works broken;
    }) (batch_counts b d ts rs more rest)
batch_counts _ _ _ _ _ (as_snapshot_in_doubt a d t ts rs more goes rest) =
    let b = account_broken a in
    behind a b d (t ∷ []) ts (Refused (plain DEVICE) ∷ []) rs (refused a b t (plain DEVICE) refl (inr refl) (λ _. refl)) (batch_counts b d ts rs more rest)
batch_counts _ _ _ _ _ (is_full a d t ts rs more works accepted none rest) =
    behind a a d (t ∷ []) ts (Refused (plain FULL) ∷ []) rs (refused a a t (plain FULL) refl (inl refl) (λ is. is)) (batch_counts a d ts rs more rest)
batch_counts _ _ _ _ _ (stays_broken a d t ts rs more broken rest) =
    behind a a d (t ∷ []) ts (Refused (plain BROKEN) ∷ []) rs (refused a a t (plain BROKEN) refl (inl refl) (λ is. is)) (batch_counts a d ts rs more rest)

-- a batch leaves the store in its format
committed_rides : (a : Account) (slots : List Slot) → (account_committed a slots).rides ≡ a.rides
committed_rides a [] = refl
committed_rides a (waits t ∷ slots) = committed_rides (account_behind a t) slots
committed_rides a (said t r ∷ slots) = committed_rides a slots

pub batch_rides : (a b : Account) (ts : List Transaction) (rs : List Reply) (commits : List Commit) → IsBatch a ts rs commits b → b.rides ≡ a.rides
batch_rides _ _ _ _ _ (no_more a) = refl
batch_rides _ _ _ _ _ (commit_made a b d slots ts rs more made forced rest) = batch_rides b d ts rs more rest ∙ ap (λ (x : Account). x.rides) made.new_is ∙ committed_rides a slots
batch_rides _ _ _ _ _ (commit_in_doubt a b d slots ts rs more hit forced rest) = batch_rides b d ts rs more rest ∙ ap (λ (x : Account). x.rides) hit.new_is
batch_rides _ _ _ _ _ (room_made a b d t ts rs more goes made rest) = batch_rides b d ts rs more rest ∙ ap (λ (x : Account). x.rides) made.new_is
batch_rides _ _ _ _ _ (behind_in_doubt a b d t ts rs more goes hit rest) = batch_rides b d ts rs more rest ∙ ap (λ (x : Account). x.rides) hit.new_is
batch_rides _ _ _ _ _ (room_in_doubt a d t ts rs more goes rest) = batch_rides (account_broken a) d ts rs more rest
batch_rides _ _ _ _ _ (as_snapshot a d t ts rs more goes rest) = batch_rides (account_with_snapshot (account_after a t)) d ts rs more rest
batch_rides _ _ _ _ _ (as_snapshot_in_doubt a d t ts rs more goes rest) = batch_rides (account_broken a) d ts rs more rest
batch_rides _ _ _ _ _ (is_full a d t ts rs more works accepted none rest) = batch_rides a d ts rs more rest
batch_rides _ _ _ _ _ (stays_broken a d t ts rs more broken rest) = batch_rides a d ts rs more rest
