-- A store stays in its format: in each commit of a run, and in each state that it comes to.
use Rattle.std.proofs.Common.{◌≡◌, ⊎_elim, List, [], ◌∷◌, ◌++◌, refl, sym, ◌∙◌, ap, subst, Bool, true, false, if◌then◌else◌, nat_eq, Result, Ok, Err, ℕ, arith}
use Rattle.std.specs.Bool.{⊤}
use Rattle.sector_device.specs.Disk.{Disk, Image, IsTearing}
use Rattle.store_journal.specs.Carries.{Carried, Carries, CarriesIn}
use Rattle.store_journal.specs.Models.{model}
use Rattle.store_journal.proofs.Unique.{carries_one}
use Rattle.store_journal.proofs.Weak.{never, told_never}
use Rattle.refusals.specs.declared.numbers.TheConstants.{DEVICE}
use Rattle.schema_rules.specs.declared.profile.Profile.{Profile}
use Rattle.doc_machine.specs.Transaction.{Transaction}
use Rattle.doc_changes.specs.declared.refusal.Refusal.{Refusal}
use Rattle.doc_changes.specs.State.{State}
use Rattle.store_commits.specs.Account.{Account, account_broken}
use Rattle.store_commits.specs.Batch.{Commit, Intent, IsBatch, Slot, account_behind, account_committed, as_snapshot, as_snapshot_in_doubt, behind_in_doubt, commit_for, commit_in_doubt, commit_made, failed, is_full, no_more, passed, room_in_doubt, room_made, said, stays_broken, to_append, to_snapshot, waiting, waits}
use Rattle.store_commits.specs.Copying.{IsPumped, PumpAnswers}
use Rattle.store_commits.specs.Events.{Event}
use Rattle.store_commits.specs.Images.{Stands, profile_in, rides_for}
use Rattle.store_commits.specs.Replacing.{account_after}
use Rattle.store_commits.specs.Run.{IsDone, IsRun, a_batch, a_seal, a_snapshot, a_step, commits_of, no_memory, nothing, one_more, to_step}
use Rattle.store_commits.specs.Sealing.{SealAnswers, to_seal}
use Rattle.store_commits.specs.Snapshot.{SnapshotAnswers, account_with_snapshot}
use Rattle.store_commits.specs.declared.event.Reply.{Reply}
use Rattle.store_commits.specs.declared.pump.Pump.{Pump}
use Rattle.doc_store.specs.Opening.{IsOfFormat}

-- ---- the commits of a run

-- an account that a failed commit kept is in that format
abbrev pub AreOf : Bool → List Commit → Type 0
AreOf rides [] = ⊤
AreOf rides (passed k ∷ commits) = AreOf rides commits
AreOf rides (failed k kept ∷ commits) = (kept.rides ≡ rides) × AreOf rides commits

of_append : (rides : Bool) (ks ls : List Commit) → AreOf rides ks → AreOf rides ls → AreOf rides (ks ++ ls)
of_append rides [] ls first second = second
of_append rides (passed k ∷ ks) ls first second = of_append rides ks ls first second
of_append rides (failed k kept ∷ ks) ls first second = (first.0, of_append rides ks ls first.1 second)

of_for : (rides : Bool) (ts : List Transaction) (k : Intent) (ks : List Commit) → AreOf rides ks → AreOf rides (commit_for ts (passed k) ++ ks)
of_for rides [] k ks are = are
of_for rides (t ∷ ts) k ks are = are

-- what is known of a batch, a snapshot or a step
abbrev Stays : Account → Account → List Commit → Type 0
Stays a b ks = (b.rides ≡ a.rides) × AreOf a.rides ks

then_stays : (a b d : Account) (ks : List Commit) → b.rides ≡ a.rides → Stays b d ks → Stays a d ks
then_stays a b d ks same more = (more.0 ∙ same, subst (λ (r : Bool). AreOf r ks) same more.1)

committed_rides : (a : Account) (slots : List Slot) → (account_committed a slots).rides ≡ a.rides
committed_rides a [] = refl
committed_rides a (waits t ∷ slots) = committed_rides (account_behind a t) slots
committed_rides a (said t r ∷ slots) = committed_rides a slots

batch_rides : (a b : Account) (ts : List Transaction) (rs : List Reply) (ks : List Commit) → IsBatch a ts rs ks b → Stays a b ks
batch_rides _ _ _ _ _ (no_more a) = (refl, tt)
batch_rides _ _ _ _ _ (commit_made a b d slots ts rs more made forced rest) =
    let all = then_stays a b d more (ap (λ (x : Account). x.rides) made.new_is ∙ committed_rides a slots) (batch_rides b d ts rs more rest) in
    (all.0, of_for a.rides (waiting slots) (to_append a slots) more all.1)
batch_rides _ _ _ _ _ (commit_in_doubt a b d slots ts rs more hit forced rest) =
    let same = ap (λ (x : Account). x.rides) hit.new_is in
    let all = then_stays a b d more same (batch_rides b d ts rs more rest) in
    (all.0, (same, all.1))
batch_rides _ _ _ _ _ (room_made a b d t ts rs more goes made rest) = then_stays a b d more (ap (λ (x : Account). x.rides) made.new_is) (batch_rides b d ts rs more rest)
batch_rides _ _ _ _ _ (behind_in_doubt a b d t ts rs more goes hit rest) =
    let same = ap (λ (x : Account). x.rides) hit.new_is in
    let all = then_stays a b d more same (batch_rides b d ts rs more rest) in
    (all.0, (same, all.1))
batch_rides _ _ _ _ _ (room_in_doubt a d t ts rs more goes rest) = let all = batch_rides (account_broken a) d ts rs more rest in (all.0, (refl, all.1))
batch_rides _ _ _ _ _ (as_snapshot a d t ts rs more goes rest) = batch_rides (account_with_snapshot (account_after a t)) d ts rs more rest
batch_rides _ _ _ _ _ (as_snapshot_in_doubt a d t ts rs more goes rest) = let all = batch_rides (account_broken a) d ts rs more rest in (all.0, (refl, all.1))
batch_rides _ _ _ _ _ (is_full a d t ts rs more works accepted none rest) = batch_rides a d ts rs more rest
batch_rides _ _ _ _ _ (stays_broken a d t ts rs more broken rest) = batch_rides a d ts rs more rest

of_commits : {A : Type 0} (rides : Bool) (r : Result A Refusal) (k : Intent) (b : Account) → b.rides ≡ rides → AreOf rides (commits_of r k b)
of_commits rides (Ok x) k b same = tt
of_commits rides (Err r) k b same = by (nat_eq r.number DEVICE)
  where
    by : (hit : Bool) → AreOf rides (if hit then failed k b ∷ [] else [])
    by true = (same, tt)
    by false = tt

snapshot_rides : (a b : Account) (r : Result ℕ Refusal) → SnapshotAnswers a r b → b.rides ≡ a.rides
snapshot_rides a b (Ok used) is = ap (λ (x : Account). x.rides) is.new_is
snapshot_rides a b (Err r) is = ⊎_elim (λ hit. ap (λ (x : Account). x.rides) hit.1.new_is) (⊎_elim (λ stops. ap (λ (x : Account). x.rides) stops.1) (λ long. ap (λ (x : Account). x.rides) long.1.new_is)) is

pub pumped_rides : (a b : Account) (most : ℕ) (p : Pump) → IsPumped a most p b → b.rides ≡ a.rides
pumped_rides a b most p is = ⊎_elim (λ off. ap (λ (x : Account). x.rides) off.1.new_is) (⊎_elim (λ on. ap (λ (x : Account). x.rides) on.new_is) (λ over. ap (λ (x : Account). x.rides) over.new_is)) is

step_rides : (a b : Account) (most : ℕ) (r : Result Pump Refusal) → PumpAnswers a most r b → b.rides ≡ a.rides
step_rides a b most (Ok p) is = pumped_rides a b most p is
step_rides a b most (Err r) is = ⊎_elim (λ hit. ap (λ (x : Account). x.rides) hit.1.new_is) (λ stops. ap (λ (x : Account). x.rides) stops.1) is

seal_rides : (a b : Account) (r : Result (Unit {0}) Refusal) → SealAnswers a r b → b.rides ≡ a.rides
seal_rides a b (Ok done) is = ap (λ (x : Account). x.rides) is.new_is
seal_rides a b (Err r) is = ⊎_elim (λ hit. ap (λ (x : Account). x.rides) hit.1.new_is) (λ stops. ap (λ (x : Account). x.rides) stops.1) is

done_rides : (a b : Account) (es : List Event) (rs : List Reply) (ks : List Commit) → IsDone a es rs ks b → Stays a b ks
done_rides _ _ _ _ _ (a_batch a b ts rs ks is) = batch_rides a b ts rs ks is
done_rides _ _ _ _ _ (a_snapshot a b r is) = let same = snapshot_rides a b r is in (same, of_commits a.rides r (to_snapshot a) b same)
done_rides _ _ _ _ _ (a_step a b most r is) = let same = step_rides a b most r is in (same, of_commits a.rides r (to_step a most) b same)
done_rides _ _ _ _ _ (a_seal a b r is) = let same = seal_rides a b r is in (same, of_commits a.rides r (to_seal a) b same)
done_rides _ _ _ _ _ (no_memory a t) = (refl, tt)

pub run_rides : (a b : Account) (es : List Event) (rs : List Reply) (ks : List Commit) → IsRun a es rs ks b → (b.rides ≡ a.rides) × AreOf a.rides ks
run_rides _ _ _ _ _ (nothing a) = (refl, tt)
run_rides _ _ _ _ _ (one_more a b d es fs rs qs ks ls run more) =
    let first = run_rides a b es rs ks run in
    let second = then_stays a b d ls first.0 (done_rides b d fs qs ls more) in
    (second.0, of_append a.rides ks ls first.1 second.1)

-- ---- states

pub rides_of_profile : (b : Bool) → rides_for (profile_in b) ≡ b
rides_of_profile true = refl
rides_of_profile false = refl

-- what an image of a state carries is in the format of its profile
pub stands_rides : (s : State) (image : Image) (stands : Stands s image) → stands.carried.rides ≡ rides_for s.profile
stands_rides s image stands = sym (rides_of_profile stands.carried.rides) ∙ ap rides_for stands.profile_is

pub of_format : (s : State) (image : Image) → Stands s image → IsOfFormat (rides_for s.profile) image
of_format s image stands c carries = ap (λ (x : Carried). x.rides) (carries_one image c stands.carried carries stands.carries) ∙ stands_rides s image stands

-- in format 3 that is in format 2 of frames
pub riding_version : (c : Carried) (image : Image) → c.rides ≡ true → Carries c image → c.version ≡ 2
riding_version c image is carries = let riding : CarriesIn true c image = subst (λ (r : Bool). CarriesIn r c image) is carries in riding.1.version_is

-- ---- images

-- where no sector tears an image is one of either model
pub model_adds : (rides : Bool) (disk : Disk) → ((torn : List ℕ → Bool) → IsTearing torn disk) → (image : Image) → disk.left image → (model rides disk).left image
model_adds false disk tears image left = left
model_adds true disk tears image left = (never, told_never disk.sectors, (tears never).adds image left)
