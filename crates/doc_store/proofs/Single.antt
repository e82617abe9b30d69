-- One event as a run: a transaction is a batch of one, and a snapshot or a step of a copy makes no change.
use Rattle.std.proofs.Common.{◌≡◌, ◌≢◌, inl, inr, ⊎_elim, ℕ, [], ◌∷◌, List, refl, sym, ap, subst, OnOk, IfErr, Result, Ok, Err, ◌∙◌, false, ◌↔◌, Bool, if◌then◌else◌, ◌++◌, ◌⊎◌}
use Rattle.sector_device.specs.Disk.{Disk, LeavesOnly}
use Rattle.store_journal.specs.Models.{model}
use Rattle.doc_machine.specs.Transaction.{Transaction}
use Rattle.refusals.specs.declared.numbers.TheConstants.{DEVICE, MEMORY}
use Rattle.doc_changes.specs.Refusals.{plain}
use Rattle.doc_changes.specs.declared.refusal.Refusal.{Refusal}
use Rattle.store_commits.specs.Account.{Account, StoreView, IsStanding}
use Rattle.store_commits.specs.Batch.{AreMade, BatchIsMade, Commit, FailedCommit, Intent, PassedCommit, failed, passed, to_snapshot, changes}
use Rattle.store_commits.specs.Run.{Batched, Ran, Transacts, a_snapshot, a_step, change, commits_of, no_memory, pump, reply_of, snapshot, to_step}
use Rattle.store_commits.specs.declared.event.Reply.{Reply}
use Rattle.store_commits.specs.declared.event.Reply.TheVariants.{Done, Snapped, Pumped, Refused}
use Rattle.store_commits.specs.Snapshot.{SnapshotAnswers}
use Rattle.store_commits.specs.Copying.{PumpAnswers}
use Rattle.store_commits.specs.Folds.{StandsAfter}
use Rattle.store_commits.specs.declared.pump.Pump.{Pump}
use Rattle.store_commits.proofs.Running.{lasts_nothing, lasts_unchanged, one_done, pumped_state, pumped_works}
use Rattle.store_commits.proofs.Modelled.{AreCoherent}
use Rattle.store_commits.proofs.Standing.{stays}
use Rattle.store_commits.proofs.Went.{batch_none, no_commit, one_answer, one_failed, snapshot_otherwise, stops_own}
use Rattle.std.proofs.lemmas.Bool.{ne_eqb}
use Rattle.doc_store.proofs.Rides.{pumped_rides}

-- ---- a transaction

module _ {D : Type 0} (disk : D → Disk) (coherent : AreCoherent disk) where
  -- memory ran out for it
  pub ran_no_memory : (old new : StoreView D) (t : Transaction) (r : Refusal) → new ≡ old → r ≡ plain MEMORY → IsStanding (disk old.device) old.account → Ran disk old new (change t ∷ []) (Refused r ∷ [])
  ran_no_memory old new t r same is standing = subst (λ (q : Refusal). Ran disk old new (change t ∷ []) (Refused q ∷ [])) (sym is) (subst (λ (v : StoreView D). Ran disk old v (change t ∷ []) (Refused (plain MEMORY) ∷ [])) (sym same) (record {
    commits = [];
    run = one_done old.account old.account (change t ∷ []) (Refused (plain MEMORY) ∷ []) [] (no_memory old.account t);
    made = refl;
    lasts = lasts_nothing disk coherent old standing;
  }))

module _ {D : Type 0} (disk : D → Disk) (x y : StoreView D) (t : Transaction) (ts : List Transaction) (rs : List Reply) (only : ts ≡ t ∷ []) (batched : Batched disk x y ts rs) where
  made_alone : BatchIsMade disk x (t ∷ []) rs y
  made_alone = subst (λ (l : List Transaction). BatchIsMade disk x l rs y) only batched.is

  -- there is one answer
  pub answer_alone : (outcome : Result ℕ Refusal) × (rs ≡ reply_of Done outcome ∷ [])
  answer_alone = one_answer x.account y.account t rs made_alone.commits made_alone.batch

  -- refused, but not for the device, it changed nothing
  untouched : (r : Refusal) → BatchIsMade disk x (t ∷ []) (Refused r ∷ []) y → r.number ≢ DEVICE → y ≡ x
  untouched r made ne =
      let unhit = ap (λ (b : Bool). (if b then t ∷ [] else []) ++ []) (ne_eqb r.number DEVICE ne) in
      let none = batch_none x.account y.account (t ∷ []) (Refused r ∷ []) made.commits made.batch refl unhit in
      let device : y.device ≡ x.device = subst (λ (ks : List Commit). AreMade disk x.device ks y.device) none.0 made.made in
      λ i. record { device = device i; account = none.1 i }

  unchanged_by : (r : Result ℕ Refusal) → BatchIsMade disk x (t ∷ []) (reply_of Done r ∷ []) y → IfErr r (λ refusal. refusal.number ≢ DEVICE → y ≡ x)
  unchanged_by (Ok seq) made = tt
  unchanged_by (Err r) made = untouched r made

  module _ (r : Result ℕ Refusal) (is : (outcome : Result ℕ Refusal) → rs ≡ reply_of Done outcome ∷ [] → r ≡ outcome) where
    says : rs ≡ reply_of Done r ∷ []
    says = answer_alone.1 ∙ ap (λ (q : Result ℕ Refusal). reply_of Done q ∷ []) (sym (is answer_alone.0 answer_alone.1))

    made_so : BatchIsMade disk x (t ∷ []) (reply_of Done r ∷ []) y
    made_so = subst (λ (l : List Reply). BatchIsMade disk x (t ∷ []) l y) says made_alone

    pub alone_transacts : Transacts disk x t r y
    alone_transacts = inl made_so

    pub alone_ran : Ran disk x y (change t ∷ []) (reply_of Done r ∷ [])
    alone_ran = subst (λ (l : List Reply). Ran disk x y (change t ∷ []) l) says (subst (λ (l : List Transaction). Ran disk x y (changes l) rs) only batched.ran)

    pub alone_unchanged : IfErr r (λ refusal. refusal.number ≢ DEVICE → y ≡ x)
    alone_unchanged = unchanged_by r made_so

-- ---- a snapshot, or a step of a copy

module _ {D : Type 0} (disk : D → Disk) (x y : StoreView D) (k : Intent) where
  one_passed : PassedCommit disk x.device y.device k → AreMade disk x.device (passed k ∷ []) y.device
  one_passed is = (y.device, is, refl)

  one_missed : FailedCommit disk x.device y.device k y.account → AreMade disk x.device (failed k y.account ∷ []) y.device
  one_missed is = (y.device, is, refl)

  pub commits_made : {A : Type 0} (r : Result A Refusal) → OnOk r (PassedCommit disk x.device y.device k) → IfErr r (λ q. q.number ≡ DEVICE → FailedCommit disk x.device y.device k y.account)
      → IfErr r (λ q. (q ≡ plain DEVICE) ⊎ (q.number ≢ DEVICE)) → IfErr r (λ q. q.number ≢ DEVICE → y.device ≡ x.device) → AreMade disk x.device (commits_of r k y.account) y.device
  commits_made (Ok a) is hit why uncalled = one_passed is
  commits_made {A} (Err r) is hit why uncalled =
      ⊎_elim (λ device. subst (λ (ks : List Commit). AreMade disk x.device ks y.device) (sym (one_failed A r k y.account device)) (one_missed (hit (ap (λ (q : Refusal). q.number) device))))
      (λ other. subst (λ (ks : List Commit). AreMade disk x.device ks y.device) (sym (no_commit A r k y.account other)) (uncalled other)) why

pub snapshot_why : (a b : Account) (r : Result ℕ Refusal) → SnapshotAnswers a r b → IfErr r (λ q. (q ≡ plain DEVICE) ⊎ (q.number ≢ DEVICE))
snapshot_why a b (Ok used) is = tt
snapshot_why a b (Err r) (inl hit) = inl hit.0
snapshot_why a b (Err r) (inr kept) = inr (snapshot_otherwise a b r kept)

pub step_why : (a b : Account) (most : ℕ) (r : Result Pump Refusal) → PumpAnswers a most r b → IfErr r (λ q. (q ≡ plain DEVICE) ⊎ (q.number ≢ DEVICE))
step_why a b most (Ok p) is = tt
step_why a b most (Err r) (inl hit) = inl hit.0
step_why a b most (Err r) (inr kept) = inr (stops_own a r kept.0)

module _ {D : Type 0} (disk : D → Disk) (coherent : AreCoherent disk) (x y : StoreView D) (stands : IsStanding (disk x.device) x.account) (same : (disk x.device).honest ↔ (disk y.device).honest) where
  abbrev Moments : Type 0
  Moments = (disk x.device).honest → x.account.broken ≡ false → LeavesOnly (model x.account.rides (disk x.device)) (model x.account.rides (disk y.device)) (StandsAfter x.account.state [])

  unmoved : y.device ≡ x.device → Moments
  unmoved is honest works = subst (λ (d : D). LeavesOnly (model x.account.rides (disk x.device)) (model x.account.rides (disk d)) (StandsAfter x.account.state [])) (sym is) (stays (disk x.device) x.account [] (coherent x.account.rides x.device) stands honest works)

  pub ran_snapshot : (r : Result ℕ Refusal) → SnapshotAnswers x.account r y.account → AreMade disk x.device (commits_of r (to_snapshot x.account) y.account) y.device → IfErr r (λ q. q.number ≢ DEVICE → y.device ≡ x.device)
      → OnOk r Moments → IfErr r (λ q. q.number ≡ DEVICE → Moments) → Ran disk x y (snapshot ∷ []) (reply_of Snapped r ∷ [])
  ran_snapshot (Ok used) is made uncalled moments moments_err = record {
    commits = commits_of (Ok used) (to_snapshot x.account) y.account;
    run = one_done x.account y.account (snapshot ∷ []) (Snapped used ∷ []) (commits_of (Ok used) (to_snapshot x.account) y.account) (a_snapshot x.account y.account (Ok used) is);
    made = made;
    lasts = lasts_unchanged disk coherent x y same (λ broken. (let contrary = sym is.can.works ∙ broken in absurd (cc contrary))) (ap (λ (a : Account). a.state) is.new_is) (ap (λ (a : Account). a.rides) is.new_is) moments;
  }
  ran_snapshot (Err r) (inl hit) made uncalled moments moments_err = record {
    commits = commits_of {A = ℕ} (Err r) (to_snapshot x.account) y.account;
    run = one_done x.account y.account (snapshot ∷ []) (Refused r ∷ []) (commits_of {A = ℕ} (Err r) (to_snapshot x.account) y.account) (a_snapshot x.account y.account (Err r) (inl hit));
    made = made;
    lasts = lasts_unchanged disk coherent x y same (λ broken. (let contrary = sym hit.1.can.works ∙ broken in absurd (cc contrary))) (ap (λ (a : Account). a.state) hit.1.new_is) (ap (λ (a : Account). a.rides) hit.1.new_is) (moments_err (ap (λ (q : Refusal). q.number) hit.0));
  }
  ran_snapshot (Err r) (inr kept) made uncalled moments moments_err =
      let is = uncalled (snapshot_otherwise x.account y.account r kept) in
      record {
        commits = commits_of {A = ℕ} (Err r) (to_snapshot x.account) y.account;
        run = one_done x.account y.account (snapshot ∷ []) (Refused r ∷ []) (commits_of {A = ℕ} (Err r) (to_snapshot x.account) y.account) (a_snapshot x.account y.account (Err r) (inr kept));
        made = made;
        lasts = lasts_unchanged disk coherent x y same (λ broken. ⊎_elim (λ stops. (λ i. record { device = is i; account = stops.1 i })) (λ long. (let contrary = sym long.1.works ∙ broken in absurd (cc contrary))) kept)
            (⊎_elim (λ stops. ap (λ (a : Account). a.state) stops.1) (λ long. ap (λ (a : Account). a.state) long.1.new_is) kept) (⊎_elim (λ stops. ap (λ (a : Account). a.rides) stops.1) (λ long. ap (λ (a : Account). a.rides) long.1.new_is) kept) (unmoved is);
      }

  pub ran_step : (most : ℕ) (r : Result Pump Refusal) → PumpAnswers x.account most r y.account → AreMade disk x.device (commits_of r (to_step x.account most) y.account) y.device → IfErr r (λ q. q.number ≢ DEVICE → y ≡ x)
      → OnOk r Moments → IfErr r (λ q. q.number ≡ DEVICE → Moments) → Ran disk x y (pump most ∷ []) (reply_of Pumped r ∷ [])
  ran_step most (Ok p) is made unchanged moments moments_err = record {
    commits = commits_of (Ok p) (to_step x.account most) y.account;
    run = one_done x.account y.account (pump most ∷ []) (Pumped p ∷ []) (commits_of (Ok p) (to_step x.account most) y.account) (a_step x.account y.account most (Ok p) is);
    made = made;
    lasts = lasts_unchanged disk coherent x y same (λ broken. (let contrary = sym (pumped_works x.account y.account most p is) ∙ broken in absurd (cc contrary))) (pumped_state x.account y.account most p is) (pumped_rides x.account y.account most p is) moments;
  }
  ran_step most (Err r) (inl hit) made unchanged moments moments_err = record {
    commits = commits_of {A = Pump} (Err r) (to_step x.account most) y.account;
    run = one_done x.account y.account (pump most ∷ []) (Refused r ∷ []) (commits_of {A = Pump} (Err r) (to_step x.account most) y.account) (a_step x.account y.account most (Err r) (inl hit));
    made = made;
    lasts = lasts_unchanged disk coherent x y same (λ broken. (let contrary = sym hit.1.can.works ∙ broken in absurd (cc contrary))) (ap (λ (a : Account). a.state) hit.1.new_is) (ap (λ (a : Account). a.rides) hit.1.new_is) (moments_err (ap (λ (q : Refusal). q.number) hit.0));
  }
  ran_step most (Err r) (inr kept) made unchanged moments moments_err =
      let is = unchanged (stops_own x.account r kept.0) in
      record {
        commits = commits_of {A = Pump} (Err r) (to_step x.account most) y.account;
        run = one_done x.account y.account (pump most ∷ []) (Refused r ∷ []) (commits_of {A = Pump} (Err r) (to_step x.account most) y.account) (a_step x.account y.account most (Err r) (inr kept));
        made = made;
        lasts = lasts_unchanged disk coherent x y same (λ broken. is) (ap (λ (v : StoreView D). v.account.state) is) (ap (λ (v : StoreView D). v.account.rides) is) (unmoved (ap (λ (v : StoreView D). v.device) is));
      }
