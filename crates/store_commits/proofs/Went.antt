-- What batches and runs did: how their commits ended, which transactions were accepted, and what is left of the account.
use Rattle.std.proofs.Common.{◌≡◌, ◌≢◌, inl, inr, ⊎_elim, ℕ, ◌+◌, List, [], ◌∷◌, ◌++◌, length, refl, sym, ◌∙◌, ap, subst, arith, true, false, Bool, None, Result, Ok, Err, if◌then◌else◌}
use Rattle.std.specs.Bool.{⊤}
use Rattle.std.proofs.lemmas.Bool.{ne_eqb}
use Rattle.std.proofs.lemmas.List.{append-nil}
use Rattle.doc_changes.specs.Refusals.{plain}
use Rattle.doc_changes.specs.State.{State}
use Rattle.doc_changes.specs.declared.refusal.Refusal.{Refusal}
use Rattle.doc_machine.specs.Transaction.{Transaction, after_in, changes_of, refusal_in}
use Rattle.refusals.specs.declared.numbers.TheConstants.{BROKEN, DEVICE, FULL, MEMORY}
use Rattle.store_commits.specs.Account.{Account, account_broken}
use Rattle.store_commits.specs.Batch.{Commit, Intent, IsBatch, as_snapshot, as_snapshot_in_doubt, behind_in_doubt, commit_for, commit_in_doubt, commit_made, failed, is_full, no_more, passed, room_in_doubt, room_made, stays_broken, to_append, to_replace, to_snapshot, Slot, waits, said, AreJudged, account_behind, account_committed, asked, changes, replies_done, replies_in_doubt, waiting}
use Rattle.store_commits.specs.Events.{Event, Reply, Done, Refused, dones_of, hits_of, reply_of}
use Rattle.store_commits.specs.Folds.{after_each}
use Rattle.store_commits.specs.Copying.{PumpAnswers}
use Rattle.store_commits.specs.Replacing.{account_after}
use Rattle.store_commits.specs.Run.{IsDone, IsRun, a_batch, a_seal, a_snapshot, a_step, commits_of, no_memory, nothing, one_more, to_step}
use Rattle.store_commits.specs.Sealing.{SealAnswers, to_seal}
use Rattle.store_commits.specs.Snapshot.{IsSnapshotRefused, SnapshotAnswers, StopsBefore, account_with_snapshot}
use Rattle.store_commits.specs.declared.pump.Pump.{Pump}
use Rattle.store_commits.proofs.Changes.{after_append}
use Rattle.store_commits.proofs.Running.{changes_append, changes_length, dones_append, hits_append, pumped_state, pumped_works, batch_paired, run_paired}
use Rattle.store_commits.proofs.Slots.{Tells, slots_done, slots_in_doubt}
use Rattle.store_commits.proofs.Standing.{not_both}

-- each of these transactions is accepted after those before it
abbrev pub AllAccepted : State → List Transaction → Type 0
AllAccepted s [] = ⊤
AllAccepted s (t ∷ ts) = (refusal_in s t ≡ None) × AllAccepted (after_in s t) ts

accepted_both : (s : State) (ts us : List Transaction) → AllAccepted s ts → AllAccepted (after_each s ts) us → AllAccepted s (ts ++ us)
accepted_both s [] us first second = second
accepted_both s (t ∷ ts) us first second = (first.0, accepted_both (after_in s t) ts us first.1 second)

-- ---- how commits ended

-- none follows one that failed
abbrev pub Stop : List Commit → Type 0
Stop [] = ⊤
Stop (passed k ∷ ks) = Stop ks
Stop (failed k kept ∷ ks) = ks ≡ []

abbrev pub has_failed : List Commit → Bool
has_failed [] = false
has_failed (passed k ∷ ks) = has_failed ks
has_failed (failed k kept ∷ ks) = true

stop_both : (ks ls : List Commit) → Stop ks → (has_failed ks ≡ true → ls ≡ []) → Stop ls → Stop (ks ++ ls)
stop_both [] ls first none second = second
stop_both (passed k ∷ ks) ls first none second = stop_both ks ls first none second
stop_both (failed k kept ∷ ks) ls first none second = λ i. first i ++ none refl i

fails_first : (ks ls : List Commit) → has_failed ks ≡ true → has_failed (ks ++ ls) ≡ true
fails_first [] ls is = absurd (cc is)
fails_first (passed k ∷ ks) ls is = fails_first ks ls is
fails_first (failed k kept ∷ ks) ls is = refl

fails_second : (ks ls : List Commit) → has_failed ks ≡ false → has_failed (ks ++ ls) ≡ has_failed ls
fails_second [] ls is = refl
fails_second (passed k ∷ ks) ls is = fails_second ks ls is
fails_second (failed k kept ∷ ks) ls is = absurd (cc is)

-- ---- from an account to an account

-- These commits ended so, these transactions were accepted and done, and those accepted and hit.
pub record Went (a b : Account) (ks : List Commit) (dones hits : List Transaction) : Type 0 where
  pub stop : Stop ks
  pub broke : has_failed ks ≡ true → b.broken ≡ true
  pub works : has_failed ks ≡ false → a.broken ≡ false → b.broken ≡ false
  pub still : a.broken ≡ true → (ks ≡ []) × (dones ≡ []) × (hits ≡ []) × (b.broken ≡ true)
  pub accepted : AllAccepted a.state dones
  pub state : b.state ≡ after_each a.state dones
  pub in_doubt : AllAccepted b.state hits
  pub none_in_doubt : b.broken ≡ false → hits ≡ []

module _ (a b d : Account) (ks ls : List Commit) (dones more_dones hits more_hits : List Transaction) (first : Went a b ks dones hits) (second : Went b d ls more_dones more_hits) where
  broke_both : (f : Bool) → has_failed ks ≡ f → has_failed (ks ++ ls) ≡ true → d.broken ≡ true
  broke_both true is any = (second.still (first.broke is)).3
  broke_both false is any = second.broke (sym (fails_second ks ls is) ∙ any)

  works_both : (f : Bool) → has_failed ks ≡ f → has_failed (ks ++ ls) ≡ false → a.broken ≡ false → d.broken ≡ false
  works_both true is none works = let both = sym (fails_first ks ls is) ∙ none in absurd (cc both)
  works_both false is none works = second.works (sym (fails_second ks ls is) ∙ none) (first.works is works)

  still_both : a.broken ≡ true → (ks ++ ls ≡ []) × (dones ++ more_dones ≡ []) × (hits ++ more_hits ≡ []) × (d.broken ≡ true)
  still_both broken =
      let one = first.still broken in
      let two = second.still one.3 in
      ((λ i. one.0 i ++ two.0 i), (λ i. one.1 i ++ two.1 i), (λ i. one.2 i ++ two.2 i), two.3)

  -- the store works between them, or it broke before
  hits_accepted : (x : Bool) → b.broken ≡ x → AllAccepted d.state (hits ++ more_hits)
  hits_accepted false works = rw (first.none_in_doubt works) second.in_doubt
  hits_accepted true broken =
      let stays = second.still broken in
      let same : d.state ≡ b.state = second.state ∙ ap (after_each b.state) stays.1 in
      rw (stays.2, append-nil) (rw same first.in_doubt)

  none_both : (x : Bool) → b.broken ≡ x → d.broken ≡ false → hits ++ more_hits ≡ []
  none_both false works fine = λ i. first.none_in_doubt works i ++ second.none_in_doubt fine i
  none_both true broken fine = let contrary = sym (second.still broken).3 ∙ fine in absurd (cc contrary)

  went_both : Went a d (ks ++ ls) (dones ++ more_dones) (hits ++ more_hits)
  went_both = record {
    stop = stop_both ks ls first.stop (λ fails. (second.still (first.broke fails)).0) second.stop;
    broke = broke_both (has_failed ks) refl;
    works = works_both (has_failed ks) refl;
    still = still_both;
    accepted = accepted_both a.state dones more_dones first.accepted (subst (λ (s : State). AllAccepted s more_dones) first.state second.accepted);
    state = second.state ∙ ap (λ (s : State). after_each s more_dones) first.state ∙ sym (after_append a.state dones more_dones);
    in_doubt = hits_accepted b.broken refl;
    none_in_doubt = none_both b.broken refl;
  }

-- no transaction is done and none is hit
went_untouched : (a b : Account) (ks : List Commit) → Stop ks → (has_failed ks ≡ true → b.broken ≡ true) → (has_failed ks ≡ false → a.broken ≡ false → b.broken ≡ false) → (a.broken ≡ true → (ks ≡ []) × (b.broken ≡ true)) → b.state ≡ a.state → Went a b ks [] []
went_untouched a b ks stop broke works still state = record {
  stop = stop;
  broke = broke;
  works = works;
  still = λ broken. (let is = still broken in (is.0, refl, refl, is.1));
  accepted = tt;
  state = state;
  in_doubt = tt;
  none_in_doubt = λ _. refl;
}

went_nowhere : (a : Account) → Went a a [] [] []
went_nowhere a = went_untouched a a [] tt (λ e. absurd (cc e)) (λ _ works. works) (λ broken. (refl, broken)) refl

-- a commit passed: transactions were done
went_done : (a b : Account) (ks : List Commit) (dones : List Transaction) → Stop ks → has_failed ks ≡ false → a.broken ≡ false → b.broken ≡ false → AllAccepted a.state dones → b.state ≡ after_each a.state dones → Went a b ks dones []
went_done a b ks dones stop none works works_then accepted state = record {
  stop = stop;
  broke = λ fails. (let both = sym none ∙ fails in absurd (cc both));
  works = λ _ _. works_then;
  still = λ broken. not_both a.broken works broken;
  accepted = accepted;
  state = state;
  in_doubt = tt;
  none_in_doubt = λ _. refl;
}

-- a commit failed: transactions were hit
went_hit : (a b : Account) (ks : List Commit) (hits : List Transaction) → Stop ks → has_failed ks ≡ true → a.broken ≡ false → b.broken ≡ true → AllAccepted a.state hits → b.state ≡ a.state → Went a b ks [] hits
went_hit a b ks hits stop fails works broken accepted state = record {
  stop = stop;
  broke = λ _. broken;
  works = λ none. (let both = sym fails ∙ none in absurd (cc both));
  still = λ was. not_both a.broken works was;
  accepted = tt;
  state = state;
  in_doubt = subst (λ (s : State). AllAccepted s hits) (sym state) accepted;
  none_in_doubt = λ fine. not_both b.broken fine broken;
}

-- ---- batches

waiting_accepted : (a : Account) (slots : List Slot) → AreJudged a slots → AllAccepted a.state (waiting slots)
waiting_accepted a [] judged = tt
waiting_accepted a (waits t ∷ slots) judged = (judged.0, waiting_accepted (account_behind a t) slots judged.2)
waiting_accepted a (said t r ∷ slots) judged = waiting_accepted a slots judged.1

committed_state : (a : Account) (slots : List Slot) → (account_committed a slots).state ≡ after_each a.state (waiting slots)
committed_state a [] = refl
committed_state a (waits t ∷ slots) = committed_state (account_behind a t) slots
committed_state a (said t r ∷ slots) = committed_state a slots

committed_broken : (a : Account) (slots : List Slot) → (account_committed a slots).broken ≡ a.broken
committed_broken a [] = refl
committed_broken a (waits t ∷ slots) = committed_broken (account_behind a t) slots
committed_broken a (said t r ∷ slots) = committed_broken a slots

committed_none : (a : Account) (slots : List Slot) → waiting slots ≡ [] → account_committed a slots ≡ a
committed_none a [] none = refl
committed_none a (waits t ∷ slots) none = absurd (cc none)
committed_none a (said t r ∷ slots) none = committed_none a slots none

one_stops : (ts : List Transaction) (k : Intent) → Stop (commit_for ts (passed k))
one_stops [] k = tt
one_stops (t ∷ ts) k = tt

one_passed : (ts : List Transaction) (k : Intent) → has_failed (commit_for ts (passed k)) ≡ false
one_passed [] k = refl
one_passed (t ∷ ts) k = refl

-- some, and the others behind them
module _ (a b d : Account) (ks more : List Commit) (ts us : List Transaction) (rs qs : List Reply) (dones hits : List Transaction) (tells : Tells ts rs dones hits) where
  paired : length (changes ts) ≡ length rs
  paired = changes_length ts ∙ tells.paired

  pub dones_both : dones ++ dones_of (changes us) qs ≡ dones_of (changes (ts ++ us)) (rs ++ qs)
  dones_both = ap (λ (l : List Transaction). l ++ dones_of (changes us) qs) tells.dones_are ∙ sym (dones_append (changes ts) (changes us) rs qs paired) ∙ ap (λ (es : List Event). dones_of es (rs ++ qs)) (sym (changes_append ts us))

  pub hits_both : hits ++ hits_of (changes us) qs ≡ hits_of (changes (ts ++ us)) (rs ++ qs)
  hits_both = ap (λ (l : List Transaction). l ++ hits_of (changes us) qs) tells.hits_are ∙ sym (hits_append (changes ts) (changes us) rs qs paired) ∙ ap (λ (es : List Event). hits_of es (rs ++ qs)) (sym (changes_append ts us))

  went_on : Went a b ks dones hits → Went b d more (dones_of (changes us) qs) (hits_of (changes us) qs) → Went a d (ks ++ more) (dones_of (changes (ts ++ us)) (rs ++ qs)) (hits_of (changes (ts ++ us)) (rs ++ qs))
  went_on first second = subst (λ (p : List Transaction × List Transaction). Went a d (ks ++ more) p.0 p.1) (λ i. (dones_both i, hits_both i))
      (went_both a b d ks more dones (dones_of (changes us) qs) hits (hits_of (changes us) qs) first second)

-- one that is refused, but not for the device
tells_refused : (t : Transaction) (r : Refusal) → r.number ≢ DEVICE → Tells (t ∷ []) (Refused r ∷ []) [] []
tells_refused t r ne = record { paired = refl; dones_are = refl; hits_are = ap (λ (b : Bool). (if b then t ∷ [] else []) ++ []) (sym (ne_eqb r.number DEVICE ne)) }

-- one that was hit
tells_hit : (t : Transaction) → Tells (t ∷ []) (Refused (plain DEVICE) ∷ []) [] (t ∷ [])
tells_hit t = record { paired = refl; dones_are = refl; hits_are = refl }

pub batch_went : (a b : Account) (ts : List Transaction) (rs : List Reply) (ks : List Commit) → IsBatch a ts rs ks b → Went a b ks (dones_of (changes ts) rs) (hits_of (changes ts) rs)
batch_went _ _ _ _ _ (no_more a) = went_nowhere a
batch_went _ _ _ _ _ (commit_made a b d slots ts rs more made forced rest) =
    let k = to_append a slots in
    went_on a b d (commit_for (waiting slots) (passed k)) more (asked slots) ts (replies_done a.state.seq slots) rs (waiting slots) [] (slots_done a a.state.seq slots made.judged)
    (went_done a b (commit_for (waiting slots) (passed k)) (waiting slots) (one_stops (waiting slots) k) (one_passed (waiting slots) k) made.works (ap (λ (x : Account). x.broken) made.new_is ∙ committed_broken a slots ∙ made.works)
    (waiting_accepted a slots made.judged) (ap (λ (x : Account). x.state) made.new_is ∙ committed_state a slots)) (batch_went b d ts rs more rest)
batch_went _ _ _ _ _ (commit_in_doubt a b d slots ts rs more hit forced rest) =
    went_on a b d (failed (to_append a slots) b ∷ []) more (asked slots) ts (replies_in_doubt slots) rs [] (waiting slots) (slots_in_doubt a slots hit.judged)
    (went_hit a b (failed (to_append a slots) b ∷ []) (waiting slots) refl refl hit.works (ap (λ (x : Account). x.broken) hit.new_is) (waiting_accepted a slots hit.judged) (ap (λ (x : Account). x.state) hit.new_is)) (batch_went b d ts rs more rest)
batch_went _ _ _ _ _ (room_made a b d t ts rs more goes made rest) =
    let snapped = account_with_snapshot a in
    let ks = passed (to_snapshot a) ∷ passed (to_append snapped (waits t ∷ [])) ∷ [] in
    went_on a b d ks more (t ∷ []) ts (replies_done a.state.seq (waits t ∷ [])) rs (t ∷ []) [] (slots_done snapped a.state.seq (waits t ∷ []) made.judged)
    (went_done a b ks (t ∷ []) tt refl goes.works (ap (λ (x : Account). x.broken) made.new_is ∙ goes.works) (goes.accepted, tt) (ap (λ (x : Account). x.state) made.new_is)) (batch_went b d ts rs more rest)
batch_went _ _ _ _ _ (behind_in_doubt a b d t ts rs more goes hit rest) =
    let ks = passed (to_snapshot a) ∷ failed (to_append (account_with_snapshot a) (waits t ∷ [])) b ∷ [] in
    went_on a b d ks more (t ∷ []) ts (Refused (plain DEVICE) ∷ []) rs [] (t ∷ []) (tells_hit t)
    (went_hit a b ks (t ∷ []) refl refl goes.works (ap (λ (x : Account). x.broken) hit.new_is) (goes.accepted, tt) (ap (λ (x : Account). x.state) hit.new_is)) (batch_went b d ts rs more rest)
batch_went _ _ _ _ _ (room_in_doubt a d t ts rs more goes rest) =
    let b = account_broken a in
    went_on a b d (failed (to_snapshot a) b ∷ []) more (t ∷ []) ts (Refused (plain DEVICE) ∷ []) rs [] (t ∷ []) (tells_hit t)
    (went_hit a b (failed (to_snapshot a) b ∷ []) (t ∷ []) refl refl goes.works refl (goes.accepted, tt) refl) (batch_went b d ts rs more rest)
batch_went _ _ _ _ _ (as_snapshot a d t ts rs more goes rest) =
    let b = account_with_snapshot (account_after a t) in
    went_on a b d (passed (to_replace a t) ∷ []) more (t ∷ []) ts (replies_done a.state.seq (waits t ∷ [])) rs (t ∷ []) [] (record { paired = refl; dones_are = refl; hits_are = refl })
    (went_done a b (passed (to_replace a t) ∷ []) (t ∷ []) tt refl goes.works goes.works (goes.accepted, tt) refl) (batch_went b d ts rs more rest)
batch_went _ _ _ _ _ (as_snapshot_in_doubt a d t ts rs more goes rest) =
    let b = account_broken a in
    went_on a b d (failed (to_replace a t) b ∷ []) more (t ∷ []) ts (Refused (plain DEVICE) ∷ []) rs [] (t ∷ []) (tells_hit t)
    (went_hit a b (failed (to_replace a t) b ∷ []) (t ∷ []) refl refl goes.works refl (goes.accepted, tt) refl) (batch_went b d ts rs more rest)
batch_went _ _ _ _ _ (is_full a d t ts rs more works accepted none rest) =
    went_on a a d [] more (t ∷ []) ts (Refused (plain FULL) ∷ []) rs [] [] (tells_refused t (plain FULL) (λ e. absurd (omega (arith, e)))) (went_nowhere a) (batch_went a d ts rs more rest)
batch_went _ _ _ _ _ (stays_broken a d t ts rs more broken rest) =
    went_on a a d [] more (t ∷ []) ts (Refused (plain BROKEN) ∷ []) rs [] [] (tells_refused t (plain BROKEN) (λ e. absurd (omega (arith, e)))) (went_nowhere a) (batch_went a d ts rs more rest)

-- ---- a batch of which none was accepted

-- both parts are none
none_each : (xs ys : List Transaction) → xs ++ ys ≡ [] → (xs ≡ []) × (ys ≡ [])
none_each [] ys none = (refl, none)
none_each (x ∷ xs) ys none = absurd (cc none)

-- there was no commit, and nothing has changed
pub batch_none : (a b : Account) (ts : List Transaction) (rs : List Reply) (ks : List Commit) → IsBatch a ts rs ks b → dones_of (changes ts) rs ≡ [] → hits_of (changes ts) rs ≡ [] → (ks ≡ []) × (b ≡ a)
batch_none _ _ _ _ _ (no_more a) undone unhit = (refl, refl)
batch_none _ _ _ _ _ (commit_made a b d slots ts rs more made forced rest) undone unhit =
    let tells = slots_done a a.state.seq slots made.judged in
    let ks = commit_for (waiting slots) (passed (to_append a slots)) in
    let none = none_each (waiting slots) (dones_of (changes ts) rs) (dones_both a b d ks more (asked slots) ts (replies_done a.state.seq slots) rs (waiting slots) [] tells ∙ undone) in
    let others = batch_none b d ts rs more rest none.1 (hits_both a b d ks more (asked slots) ts (replies_done a.state.seq slots) rs (waiting slots) [] tells ∙ unhit) in (
      (λ i. commit_for (none.0 i) (passed (to_append a slots)) ++ others.0 i),
      others.1 ∙ made.new_is ∙ committed_none a slots none.0,
    )
batch_none _ _ _ _ _ (commit_in_doubt a b d slots ts rs more hit forced rest) undone unhit =
    let ks = failed (to_append a slots) b ∷ [] in
    let none = none_each (waiting slots) (hits_of (changes ts) rs) (hits_both a b d ks more (asked slots) ts (replies_in_doubt slots) rs [] (waiting slots) (slots_in_doubt a slots hit.judged) ∙ unhit) in
    absurd (hit.some none.0)
batch_none _ _ _ _ _ (room_made a b d t ts rs more goes made rest) undone unhit = absurd (cc undone)
batch_none _ _ _ _ _ (behind_in_doubt a b d t ts rs more goes hit rest) undone unhit = absurd (cc unhit)
batch_none _ _ _ _ _ (room_in_doubt a d t ts rs more goes rest) undone unhit = absurd (cc unhit)
batch_none _ _ _ _ _ (as_snapshot a d t ts rs more goes rest) undone unhit = absurd (cc undone)
batch_none _ _ _ _ _ (as_snapshot_in_doubt a d t ts rs more goes rest) undone unhit = absurd (cc unhit)
batch_none _ _ _ _ _ (is_full a d t ts rs more works accepted none rest) undone unhit = batch_none a d ts rs more rest undone unhit
batch_none _ _ _ _ _ (stays_broken a d t ts rs more broken rest) undone unhit = batch_none a d ts rs more rest undone unhit

-- ---- a snapshot, and a step of a copy

-- what stops an event before it does anything is no fault of the device
pub stops_own : (a : Account) (r : Refusal) → StopsBefore a r → r.number ≢ DEVICE
stops_own a r (inl broken) = λ device. (let contrary : BROKEN ≡ DEVICE = sym (ap (λ (x : Refusal). x.number) broken.0) ∙ device in absurd (omega (arith, contrary)))
stops_own a r (inr memory) = λ device. (let contrary : MEMORY ≡ DEVICE = sym (ap (λ (x : Refusal). x.number) memory) ∙ device in absurd (omega (arith, contrary)))

-- nor is what else refuses a snapshot
pub snapshot_otherwise : (a b : Account) (r : Refusal) → IsSnapshotRefused a r b → r.number ≢ DEVICE
snapshot_otherwise a b r (inl is) = stops_own a r is.0
snapshot_otherwise a b r (inr is) = λ e. (let n = ap (λ (x : Refusal). x.number) is.0 in omega (arith, n, e))

-- then there was no commit
pub no_commit : (A : Type 0) (r : Refusal) (k : Intent) (b : Account) → r.number ≢ DEVICE → commits_of {A = A} (Err r) k b ≡ []
no_commit A r k b ne = ap (λ (x : Bool). if x then failed k b ∷ [] else []) (ne_eqb r.number DEVICE ne)

-- else it failed
pub one_failed : (A : Type 0) (r : Refusal) (k : Intent) (b : Account) → r ≡ plain DEVICE → commits_of {A = A} (Err r) k b ≡ failed k b ∷ []
one_failed A r k b is = ap (λ (q : Refusal). commits_of {A = A} (Err q) k b) is

-- it was refused, and the state and whether the store works stayed
kept_went : (A : Type 0) (a b : Account) (r : Refusal) (k : Intent) → r.number ≢ DEVICE → b.state ≡ a.state → b.broken ≡ a.broken → Went a b (commits_of {A = A} (Err r) k b) [] []
kept_went A a b r k ne state same = subst (λ (ks : List Commit). Went a b ks [] []) (sym (no_commit A r k b ne))
    (went_untouched a b [] tt (λ e. absurd (cc e)) (λ _ works. same ∙ works) (λ broken. (refl, same ∙ broken)) state)

-- a fault hit it
hit_went : (A : Type 0) (a b : Account) (r : Refusal) (k : Intent) → r ≡ plain DEVICE → a.broken ≡ false → b ≡ account_broken a → Went a b (commits_of {A = A} (Err r) k b) [] []
hit_went A a b r k is works new_is = subst (λ (ks : List Commit). Went a b ks [] []) (sym (one_failed A r k b is))
    (went_hit a b (failed k b ∷ []) [] refl refl works (ap (λ (x : Account). x.broken) new_is) tt (ap (λ (x : Account). x.state) new_is))

snapshot_went : (a b : Account) (r : Result ℕ Refusal) → SnapshotAnswers a r b → Went a b (commits_of r (to_snapshot a) b) [] []
snapshot_went a b (Ok used) is = went_done a b (passed (to_snapshot a) ∷ []) [] tt refl is.can.works (ap (λ (x : Account). x.broken) is.new_is ∙ is.can.works) tt (ap (λ (x : Account). x.state) is.new_is)
snapshot_went a b (Err r) (inl hit) = hit_went ℕ a b r (to_snapshot a) hit.0 hit.1.can.works hit.1.new_is
snapshot_went a b (Err r) (inr kept) = kept_went ℕ a b r (to_snapshot a) (snapshot_otherwise a b r kept)
    (⊎_elim (λ stops. ap (λ (x : Account). x.state) stops.1) (λ long. ap (λ (x : Account). x.state) long.1.new_is) kept)
    (⊎_elim (λ stops. ap (λ (x : Account). x.broken) stops.1) (λ long. ap (λ (x : Account). x.broken) long.1.new_is) kept)

step_went : (a b : Account) (most : ℕ) (r : Result Pump Refusal) → PumpAnswers a most r b → Went a b (commits_of r (to_step a most) b) [] []
step_went a b most (Ok p) is = went_done a b (passed (to_step a most) ∷ []) [] tt refl (pumped_works a b most p is)
    (⊎_elim (λ off. ap (λ (x : Account). x.broken) off.1.new_is ∙ off.1.works) (⊎_elim (λ on. ap (λ (x : Account). x.broken) on.new_is ∙ on.can.works) (λ over. ap (λ (x : Account). x.broken) over.new_is ∙ over.can.works)) is) tt (pumped_state a b most p is)
step_went a b most (Err r) (inl hit) = hit_went Pump a b r (to_step a most) hit.0 hit.1.can.works hit.1.new_is
step_went a b most (Err r) (inr kept) = kept_went Pump a b r (to_step a most) (stops_own a r kept.0) (ap (λ (x : Account). x.state) kept.1) (ap (λ (x : Account). x.broken) kept.1)

seal_went : (a b : Account) (r : Result (Unit {0}) Refusal) → SealAnswers a r b → Went a b (commits_of r (to_seal a) b) [] []
seal_went a b (Ok done) is = went_done a b (passed (to_seal a) ∷ []) [] tt refl is.works (ap (λ (x : Account). x.broken) is.new_is ∙ is.works) tt (ap (λ (x : Account). x.state) is.new_is)
seal_went a b (Err r) (inl hit) = hit_went (Unit {0}) a b r (to_seal a) hit.0 hit.1.works hit.1.new_is
seal_went a b (Err r) (inr kept) = kept_went (Unit {0}) a b r (to_seal a) (stops_own a r kept.0) (ap (λ (x : Account). x.state) kept.1) (ap (λ (x : Account). x.broken) kept.1)

-- ---- runs

done_went : (a b : Account) (es : List Event) (rs : List Reply) (ks : List Commit) → IsDone a es rs ks b → Went a b ks (dones_of es rs) (hits_of es rs)
done_went _ _ _ _ _ (a_batch a b ts rs ks is) = batch_went a b ts rs ks is
done_went _ _ _ _ _ (a_snapshot a b (Ok used) is) = snapshot_went a b (Ok used) is
done_went _ _ _ _ _ (a_snapshot a b (Err r) is) = snapshot_went a b (Err r) is
done_went _ _ _ _ _ (a_step a b most (Ok p) is) = step_went a b most (Ok p) is
done_went _ _ _ _ _ (a_step a b most (Err r) is) = step_went a b most (Err r) is
done_went _ _ _ _ _ (a_seal a b (Ok done) is) = seal_went a b (Ok done) is
done_went _ _ _ _ _ (a_seal a b (Err r) is) = seal_went a b (Err r) is
done_went _ _ _ _ _ (no_memory a t) = went_nowhere a

pub run_went : (a b : Account) (es : List Event) (rs : List Reply) (ks : List Commit) → IsRun a es rs ks b → Went a b ks (dones_of es rs) (hits_of es rs)
run_went _ _ _ _ _ (nothing a) = went_nowhere a
run_went _ _ _ _ _ (one_more a b d es fs rs qs ks ls run more) =
    let paired = run_paired a b es rs ks run in
    subst (λ (p : List Transaction × List Transaction). Went a d (ks ++ ls) p.0 p.1) (λ i. (sym (dones_append es fs rs qs paired) i, sym (hits_append es fs rs qs paired) i))
    (went_both a b d ks ls (dones_of es rs) (dones_of fs qs) (hits_of es rs) (hits_of fs qs) (run_went a b es rs ks run) (done_went b d fs qs ls more))

-- ---- the replies of a batch

-- each says that a transaction was done, or why not
abbrev AllTell : List Reply → Type 0
AllTell [] = ⊤
AllTell (r ∷ rs) = ((outcome : Result ℕ Refusal) × (r ≡ reply_of Done outcome)) × AllTell rs

tell_both : (rs qs : List Reply) → AllTell rs → AllTell qs → AllTell (rs ++ qs)
tell_both [] qs first second = second
tell_both (r ∷ rs) qs first second = (first.0, tell_both rs qs first.1 second)

done_tell : (seq : ℕ) (slots : List Slot) → AllTell (replies_done seq slots)
done_tell seq [] = tt
done_tell seq (waits t ∷ slots) = ((Ok (seq + length (changes_of t)), refl), done_tell (seq + length (changes_of t)) slots)
done_tell seq (said t r ∷ slots) = ((Err r, refl), done_tell seq slots)

doubt_tell : (slots : List Slot) → AllTell (replies_in_doubt slots)
doubt_tell [] = tt
doubt_tell (waits t ∷ slots) = ((Err (plain DEVICE), refl), doubt_tell slots)
doubt_tell (said t r ∷ slots) = ((Err r, refl), doubt_tell slots)

batch_tell : (a b : Account) (ts : List Transaction) (rs : List Reply) (ks : List Commit) → IsBatch a ts rs ks b → AllTell rs
batch_tell _ _ _ _ _ (no_more a) = tt
batch_tell _ _ _ _ _ (commit_made a b d slots ts rs more made forced rest) = tell_both (replies_done a.state.seq slots) rs (done_tell a.state.seq slots) (batch_tell b d ts rs more rest)
batch_tell _ _ _ _ _ (commit_in_doubt a b d slots ts rs more hit forced rest) = tell_both (replies_in_doubt slots) rs (doubt_tell slots) (batch_tell b d ts rs more rest)
batch_tell _ _ _ _ _ (room_made a b d t ts rs more goes made rest) = ((Ok (a.state.seq + length (changes_of t)), refl), batch_tell b d ts rs more rest)
batch_tell _ _ _ _ _ (behind_in_doubt a b d t ts rs more goes hit rest) = ((Err (plain DEVICE), refl), batch_tell b d ts rs more rest)
batch_tell _ _ _ _ _ (room_in_doubt a d t ts rs more goes rest) = ((Err (plain DEVICE), refl), batch_tell (account_broken a) d ts rs more rest)
batch_tell _ _ _ _ _ (as_snapshot a d t ts rs more goes rest) = ((Ok (a.state.seq + length (changes_of t)), refl), batch_tell (account_with_snapshot (account_after a t)) d ts rs more rest)
batch_tell _ _ _ _ _ (as_snapshot_in_doubt a d t ts rs more goes rest) = ((Err (plain DEVICE), refl), batch_tell (account_broken a) d ts rs more rest)
batch_tell _ _ _ _ _ (is_full a d t ts rs more works accepted none rest) = ((Err (plain FULL), refl), batch_tell a d ts rs more rest)
batch_tell _ _ _ _ _ (stays_broken a d t ts rs more broken rest) = ((Err (plain BROKEN), refl), batch_tell a d ts rs more rest)

one_outcome : (rs : List Reply) → AllTell rs → 1 ≡ length rs → (outcome : Result ℕ Refusal) × (rs ≡ reply_of Done outcome ∷ [])
one_outcome [] tell one = absurd (omega (arith, one))
one_outcome (r ∷ []) tell one = (tell.0.0, ap (λ (q : Reply). q ∷ []) tell.0.1)
one_outcome (r ∷ q ∷ rs) tell one = absurd (omega (arith, one))

-- a batch of one has one answer
pub one_answer : (a b : Account) (t : Transaction) (rs : List Reply) (ks : List Commit) → IsBatch a (t ∷ []) rs ks b → (outcome : Result ℕ Refusal) × (rs ≡ reply_of Done outcome ∷ [])
one_answer a b t rs ks is = one_outcome rs (batch_tell a b (t ∷ []) rs ks is) (batch_paired a b (t ∷ []) rs ks is)
