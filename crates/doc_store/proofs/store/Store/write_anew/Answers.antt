use Rattle.std.proofs.Common.{◌≡◌, ◌∙◌, [], arith, sym, ap, length, false}
use Rattle.std.proofs.lemmas.Result.{IfErr-weaker, IfOk-weaker}
use Rattle.sector_device.specs.Disk.{LeavesOnly}
use Rattle.store_journal.specs.Models.{model}
use Rattle.doc_changes.proofs.Framed.{framed_storable}
use Rattle.store_commits.specs.Account.{StoreView}
use Rattle.store_commits.specs.Copying.{copy_of, target_of}
use Rattle.store_commits.specs.Inside.{account_of}
use Rattle.store_commits.specs.Snapshot.{CanHold, snapshot_size, snapshot_bytes}
use Rattle.store_commits.specs.Folds.{StandsAfter}
use Rattle.store_commits.proofs.Modelled.{both_models}
use Rattle.store_commits.proofs.SnapshotOutcomes.{snapped_held, snapshot_moments}
use Rattle.store_commits.proofs.Snapshots.{remakes_all}
use Rattle.store_commits.proofs.Standing.{standing}
use Rattle.doc_store.proofs.Pumps.{snapshot_failed, snapshot_passed}
use Rattle.doc_store.proofs.store.Store.write_anew.Given.{Over}
use Rattle.doc_store.proofs.store.Store.write_anew.Goals as goal

bytes_are : (g : Over) (c : goal.After-drop-frames-2 g) → c.deref.result.now ≡ snapshot_bytes c.self.inside.journal.rides c.self.inside.machine.documents c.self.inside.machine.marks
bytes_are g c = c.deref.ensures.value ∙ c.in_ok-frames.ensures.frames ∙ ap (λ (v : StoreView g.row.D.Denot). snapshot_bytes v.account.rides v.account.state.documents v.account.state.marks) (sym c.self.view_is)

can_snapshot : (g : Over) (c : goal.After-drop-frames-2 g) → (let a = account_of c.self.inside.journal c.self.inside.machine in CanHold a (snapshot_size a))
can_snapshot g c = record {
  works = ap (λ (v : StoreView g.row.D.Denot). v.account.broken) c.self.view_is ∙ c.in_ok-frames.ensures.works;
  fits = omega (arith, c.if-capacity-len.false, c.capacity.ensures, c.len.ensures, ap length (bytes_are g c), c.deref.ensures.len);
}

pub invariant_of-self-2 : goal.invariant_of-self-2
invariant_of-self-2 g c =
    let told = c.commit_snapshot.ensures in
    let bytes = bytes_are g c in
    record {
      held = snapped_held g.D.SectorDevice.disk (both_models g.D.SectorDevice.disk g.met.D.SectorDevice.coherent g.met.D.SectorDevice.torn_coherent) c.self.inside.journal c.commit_snapshot.new.journal c.self.inside.machine c.self.invariant.held (can_snapshot g c) told.kept told.honest c.commit_snapshot.result
          (rw bytes at told.ok) (rw bytes at told.err);
      copied = tt;
    }

no_change : (g : Over) (c : goal.After-drop-frames-2 g) → (g.D.SectorDevice.disk c.args.self.now.device).honest → c.args.self.now.account.broken ≡ false
    → LeavesOnly (model c.args.self.now.account.rides (g.D.SectorDevice.disk c.args.self.now.device)) (model c.args.self.now.account.rides (g.D.SectorDevice.disk c.commit_snapshot.new.journal.device)) (StandsAfter c.args.self.now.account.state [])
no_change g c =
    let disk = g.D.SectorDevice.disk in
    let before = c.self.inside.journal in
    let now = c.commit_snapshot.new.journal in
    let state = c.self.inside.machine in
    let held = c.self.invariant.held in
    let told = c.commit_snapshot.ensures in
    let bytes = bytes_are g c in
    rw (← c.self.view_is) (λ honest works. snapshot_moments (disk before.device) (disk now.device) before now state (remakes_all framed_storable state held.good) held told.honest told.kept honest ((rw bytes at told.any_moment) honest))

pub returns-clause-moments : goal.returns-clause-moments
returns-clause-moments g c = IfOk-weaker c.commit_snapshot.result _ _ (λ _ _. no_change g c) c.commit_snapshot.ensures.ok

pub returns-clause-moments_err : goal.returns-clause-moments_err
returns-clause-moments_err g c = IfErr-weaker c.commit_snapshot.result _ _ (λ _ _ _. no_change g c) c.commit_snapshot.ensures.err

pub returns-clause-standing : goal.returns-clause-standing
returns-clause-standing g c = standing (g.D.SectorDevice.disk c.commit_snapshot.new.journal.device) c.commit_snapshot.new.journal c.self.inside.machine (invariant_of-self-2 g c).held

pub returns-clause-passed : goal.returns-clause-passed
returns-clause-passed g c =
    let told = c.commit_snapshot.ensures in
    let bytes = bytes_are g c in
    rw (← c.self.view_is)
    (snapshot_passed g.D.SectorDevice.disk (both_models g.D.SectorDevice.disk g.met.D.SectorDevice.coherent g.met.D.SectorDevice.torn_coherent) c.self.inside.journal c.commit_snapshot.new.journal c.self.inside.machine c.self.invariant.held told.honest told.kept (copy_of (target_of c.self.inside.copy)) (can_snapshot g c).works c.commit_snapshot.result (rw bytes at told.ok))

pub returns-clause-failed : goal.returns-clause-failed
returns-clause-failed g c =
    let told = c.commit_snapshot.ensures in
    let bytes = bytes_are g c in
    rw (← c.self.view_is)
    (snapshot_failed g.D.SectorDevice.disk (both_models g.D.SectorDevice.disk g.met.D.SectorDevice.coherent g.met.D.SectorDevice.torn_coherent) c.self.inside.journal c.commit_snapshot.new.journal c.self.inside.machine c.self.invariant.held told.honest told.kept (copy_of (target_of c.self.inside.copy)) c.commit_snapshot.result (rw bytes at told.err) (rw bytes at told.any_moment))
