use Rattle.std.proofs.Common.{◌≡◌, ◌∙◌, List, ℕ, ap, sym, subst, false}
use Rattle.doc_changes.proofs.Framed.{framed_storable}
use Rattle.store_commits.specs.Account.{StoreView}
use Rattle.store_commits.specs.Copying.{copy_of, target_of}
use Rattle.store_commits.specs.Inside.{IsHeld}
use Rattle.store_commits.specs.Snapshot.{snapshot_bytes}
use Rattle.store_commits.proofs.Modelled.{both_models}
use Rattle.store_commits.proofs.SnapshotOutcomes.{held_snapped}
use Rattle.store_commits.proofs.Snapshots.{remakes_all}
use Rattle.store_commits.proofs.Standing.{standing}
use Rattle.doc_store.specs.Formats.{half_from}
use Rattle.doc_store.proofs.Formats.{snapped_ready, still_one}
use Rattle.doc_store.proofs.store.Store.make_ready.Goals as goal

-- the device was not called
pub returns-then-active_half-half_of-clause-any_moment : goal.returns-then-active_half-half_of-clause-any_moment
returns-then-active_half-half_of-clause-any_moment g c =
    let works = ap (λ (v : StoreView g.row.D.Denot). v.account.broken) c.self.view_is ∙ c.requires.works in
    let journal = c.self.inside.journal in
    rw (← c.self.view_is) (still_one g.D.SectorDevice.disk journal c.self.inside.machine (copy_of (target_of c.self.inside.copy)) c.self.invariant.held _
    (both_models g.D.SectorDevice.disk g.met.D.SectorDevice.coherent g.met.D.SectorDevice.torn_coherent journal.rides journal.device) works)

pub returns-then-not-has_number-clause-any_moment : goal.returns-then-not-has_number-clause-any_moment
returns-then-not-has_number-clause-any_moment g c =
    let works = ap (λ (v : StoreView g.row.D.Denot). v.account.broken) c.self.view_is ∙ c.requires.works in
    let journal = c.self.inside.journal in
    rw (← c.self.view_is) (still_one g.D.SectorDevice.disk journal c.self.inside.machine (copy_of (target_of c.self.inside.copy)) c.self.invariant.held _
    (both_models g.D.SectorDevice.disk g.met.D.SectorDevice.coherent g.met.D.SectorDevice.torn_coherent journal.rides journal.device) works)

pub returns-in_err-snapshot-clause-any_moment : goal.returns-in_err-snapshot-clause-any_moment
returns-in_err-snapshot-clause-any_moment g c =
    let works = ap (λ (v : StoreView g.row.D.Denot). v.account.broken) c.self.view_is ∙ c.requires.works in
    let journal = c.self.inside.journal in
    rw (← c.self.view_is) (still_one g.D.SectorDevice.disk journal c.self.inside.machine (copy_of (target_of c.self.inside.copy)) c.self.invariant.held _
    (both_models g.D.SectorDevice.disk g.met.D.SectorDevice.coherent g.met.D.SectorDevice.torn_coherent journal.rides journal.device) works)

-- the snapshot is written
pub returns-in_err-commit_snapshot-clause-any_moment : goal.returns-in_err-commit_snapshot-clause-any_moment
returns-in_err-commit_snapshot-clause-any_moment g c =
    let bytes : c.deref.result.now ≡ snapshot_bytes c.self.inside.journal.rides c.self.inside.machine.documents c.self.inside.machine.marks =
    c.deref.ensures.value ∙ c.in_ok-snapshot.ensures.frames ∙ ap (λ (v : StoreView g.row.D.Denot). snapshot_bytes v.account.rides v.account.state.documents v.account.state.marks) (sym c.self.view_is) in
    let ne = λ (is : c.self.inside.journal.half ≡ half_from c.self.inside.journal.rides). c.if-active_half-half_of.false (c.active_half.ensures ∙ is ∙ ap half_from (sym c.rides.ensures) ∙ sym c.half_of.ensures) in
    rw (← c.self.view_is) (λ honest. snapped_ready g.D.SectorDevice.disk c.self.inside.journal c.self.inside.machine (copy_of (target_of c.self.inside.copy)) c.self.invariant.held c.commit_snapshot.new.journal ne honest ((rw bytes at c.commit_snapshot.ensures.any_moment) honest))

pub returns-clause-any_moment : goal.returns-clause-any_moment
returns-clause-any_moment g c =
    let bytes : c.deref.result.now ≡ snapshot_bytes c.self.inside.journal.rides c.self.inside.machine.documents c.self.inside.machine.marks =
    c.deref.ensures.value ∙ c.in_ok-snapshot.ensures.frames ∙ ap (λ (v : StoreView g.row.D.Denot). snapshot_bytes v.account.rides v.account.state.documents v.account.state.marks) (sym c.self.view_is) in
    let ne = λ (is : c.self.inside.journal.half ≡ half_from c.self.inside.journal.rides). c.if-active_half-half_of.false (c.active_half.ensures ∙ is ∙ ap half_from (sym c.rides.ensures) ∙ sym c.half_of.ensures) in
    rw (← c.self.view_is) (λ honest. snapped_ready g.D.SectorDevice.disk c.self.inside.journal c.self.inside.machine (copy_of (target_of c.self.inside.copy)) c.self.invariant.held c.commit_snapshot.new.journal ne honest ((rw bytes at c.commit_snapshot.ensures.any_moment) honest))

pub invariant_of-self-2 : goal.invariant_of-self-2
invariant_of-self-2 g c =
    let disk = g.D.SectorDevice.disk in
    let before = c.self.inside.journal in
    let now = c.commit_snapshot.new.journal in
    let state = c.self.inside.machine in
    let held = c.self.invariant.held in
    let told = c.commit_snapshot.ensures in
    let bytes : c.deref.result.now ≡ snapshot_bytes c.self.inside.journal.rides c.self.inside.machine.documents c.self.inside.machine.marks =
    c.deref.ensures.value ∙ c.in_ok-snapshot.ensures.frames ∙ ap (λ (v : StoreView g.row.D.Denot). snapshot_bytes v.account.rides v.account.state.documents v.account.state.marks) (sym c.self.view_is) in
    let ok = (rw bytes at c.in_ok-commit_snapshot.ensures.ok).0 in
    record { held = held_snapped (disk before.device) (disk now.device) before now state (remakes_all framed_storable state held.good) held told.honest told.kept ok; copied = tt }

pub returns-clause-standing : goal.returns-clause-standing
returns-clause-standing g c = standing (g.D.SectorDevice.disk c.commit_snapshot.new.journal.device) c.commit_snapshot.new.journal c.self.inside.machine (invariant_of-self-2 g c).held
