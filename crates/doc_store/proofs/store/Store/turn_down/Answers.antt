use Rattle.std.proofs.Common.{◌≡◌, ◌∙◌, ℕ, length, ap, sym, subst, true, false, None}
use Rattle.std.proofs.lemmas.Result.{err_from_is_err_and}
use Rattle.sector_device.specs.Charges.{Failed, Made}
use Rattle.schema_rules.specs.declared.profile.Profile.TheVariants.{Two}
use Rattle.doc_changes.specs.State.{Good, State}
use Rattle.doc_changes.specs.Within.{AreWithin}
use Rattle.store_commits.specs.Account.{StoreView, with_copy}
use Rattle.store_commits.specs.Copying.{copy_of, target_of}
use Rattle.store_commits.specs.Inside.{IsStored, account_of}
use Rattle.store_commits.specs.Snapshot.{snapshot_bytes}
use Rattle.store_commits.proofs.Standing.{standing}
use Rattle.store_journal.specs.Writes.{downgrade_calls}
use Rattle.doc_store.proofs.Formats.{holds_over, images_are, over_down, over_held, over_is, over_moments}
use Rattle.doc_store.proofs.store.Store.turn_down.Goals as goal

pub returns-in_err-downgrade-clause-any_moment : goal.returns-in_err-downgrade-clause-any_moment
returns-in_err-downgrade-clause-any_moment g c =
    let disk = g.D.SectorDevice.disk in
    let before = c.self.inside.journal in
    let now = c.downgrade.new.journal in
    let state = c.self.inside.machine in
    let k = copy_of (target_of c.self.inside.copy) in
    let held = c.self.invariant.held in
    let bytes : c.args.snapshot.now ≡ snapshot_bytes false state.documents state.marks = c.requires.snapshot ∙ ap (λ (v : StoreView g.row.D.Denot). snapshot_bytes false v.account.state.documents v.account.state.marks) (sym c.self.view_is) in
    let within = subst (λ (v : StoreView g.row.D.Denot). AreWithin Two v.account.state.documents) (sym c.self.view_is) c.requires.within in
    let holds = holds_over disk before state k held false within in
    rw (← c.self.view_is) (λ honest. over_moments disk before state k held false 0 holds now honest ((rw bytes at c.downgrade.ensures.any_moment) honest))

pub returns-clause-any_moment : goal.returns-clause-any_moment
returns-clause-any_moment g c =
    let disk = g.D.SectorDevice.disk in
    let before = c.self.inside.journal in
    let now = c.downgrade.new.journal in
    let state = c.self.inside.machine in
    let k = copy_of (target_of c.self.inside.copy) in
    let held = c.self.invariant.held in
    let bytes : c.args.snapshot.now ≡ snapshot_bytes false state.documents state.marks = c.requires.snapshot ∙ ap (λ (v : StoreView g.row.D.Denot). snapshot_bytes false v.account.state.documents v.account.state.marks) (sym c.self.view_is) in
    let within = subst (λ (v : StoreView g.row.D.Denot). AreWithin Two v.account.state.documents) (sym c.self.view_is) c.requires.within in
    let holds = holds_over disk before state k held false within in
    rw (← c.self.view_is) (λ honest. over_moments disk before state k held false 0 holds now honest ((rw bytes at c.downgrade.ensures.any_moment) honest))

pub invariant_of-self-2 : goal.invariant_of-self-2
invariant_of-self-2 g c =
    let disk = g.D.SectorDevice.disk in
    let before = c.self.inside.journal in
    let now = c.downgrade.new.journal in
    let state = c.self.inside.machine in
    let k = copy_of (target_of c.self.inside.copy) in
    let held = c.self.invariant.held in
    let bytes : c.args.snapshot.now ≡ snapshot_bytes false state.documents state.marks = c.requires.snapshot ∙ ap (λ (v : StoreView g.row.D.Denot). snapshot_bytes false v.account.state.documents v.account.state.marks) (sym c.self.view_is) in
    let within = subst (λ (v : StoreView g.row.D.Denot). AreWithin Two v.account.state.documents) (sym c.self.view_is) c.requires.within in
    let holds = holds_over disk before state k held false within in
    let told = c.downgrade.ensures in
    let went = over_down disk before now (snapshot_bytes false state.documents state.marks) told.kept told.honest (rw bytes at c.in_ok-downgrade.ensures.ok) in
    let set = c.set_profile.ensures.set in
    subst (λ (s : State). IsStored (disk now.device) now s None) (sym set)
    (record { held = over_held disk before state k held false 0 holds now went (subst Good set c.set_profile.ensures.good); copied = tt })

pub returns-clause-done : goal.returns-clause-done
returns-clause-done g c =
    let now = c.downgrade.new.journal in
    images_are g.D.SectorDevice.disk now c.set_profile.new.self None (invariant_of-self-2 g c).held c.in_ok-downgrade.ensures.ok.works

pub returns-clause-standing : goal.returns-clause-standing
returns-clause-standing g c = standing (g.D.SectorDevice.disk c.downgrade.new.journal.device) c.downgrade.new.journal c.set_profile.new.self (invariant_of-self-2 g c).held

pub returns-in_err-downgrade-clause-failed : goal.returns-in_err-downgrade-clause-failed
returns-in_err-downgrade-clause-failed g c =
    let disk = g.D.SectorDevice.disk in
    let before = c.self.inside.journal in
    let now = c.downgrade.new.journal in
    let state = c.self.inside.machine in
    let k = copy_of (target_of c.self.inside.copy) in
    let held = c.self.invariant.held in
    let bytes : c.args.snapshot.now ≡ snapshot_bytes false state.documents state.marks = c.requires.snapshot ∙ ap (λ (v : StoreView g.row.D.Denot). snapshot_bytes false v.account.state.documents v.account.state.marks) (sym c.self.view_is) in
    let size : length c.args.snapshot.now ≡ length (snapshot_bytes false state.documents state.marks) = ap length bytes in
    let p = err_from_is_err_and c.from_residual.result c.from_residual.ensures.1 in
    rw (p.1, p.2, ← c.self.view_is) (λ device. subst (λ (n : ℕ). Failed (disk before.device) (disk now.device) (downgrade_calls n)) size c.in_err-downgrade.ensures.err.1.failed)

pub returns-clause-made : goal.returns-clause-made
returns-clause-made g c =
    let disk = g.D.SectorDevice.disk in
    let before = c.self.inside.journal in
    let now = c.downgrade.new.journal in
    let state = c.self.inside.machine in
    let k = copy_of (target_of c.self.inside.copy) in
    let held = c.self.invariant.held in
    let bytes : c.args.snapshot.now ≡ snapshot_bytes false state.documents state.marks = c.requires.snapshot ∙ ap (λ (v : StoreView g.row.D.Denot). snapshot_bytes false v.account.state.documents v.account.state.marks) (sym c.self.view_is) in
    let size : length c.args.snapshot.now ≡ length (snapshot_bytes false state.documents state.marks) = ap length bytes in
    rw (← c.self.view_is) (subst (λ (n : ℕ). Made (disk before.device) (disk now.device) (downgrade_calls n)) size c.in_ok-downgrade.ensures.ok.made)

pub returns-clause-ok : goal.returns-clause-ok
returns-clause-ok g c =
    let disk = g.D.SectorDevice.disk in
    let before = c.self.inside.journal in
    let now = c.downgrade.new.journal in
    let state = c.self.inside.machine in
    let k = copy_of (target_of c.self.inside.copy) in
    let held = c.self.invariant.held in
    let bytes : c.args.snapshot.now ≡ snapshot_bytes false state.documents state.marks = c.requires.snapshot ∙ ap (λ (v : StoreView g.row.D.Denot). snapshot_bytes false v.account.state.documents v.account.state.marks) (sym c.self.view_is) in
    let works = ap (λ (v : StoreView g.row.D.Denot). v.account.broken) c.self.view_is ∙ c.requires.works in
    let within = subst (λ (v : StoreView g.row.D.Denot). AreWithin Two v.account.state.documents) (sym c.self.view_is) c.requires.within in
    let holds = holds_over disk before state k held false within in
    let told = c.downgrade.ensures in
    let went = over_down disk before now (snapshot_bytes false state.documents state.marks) told.kept told.honest (rw bytes at c.in_ok-downgrade.ensures.ok) in
    rw (← c.self.view_is) (ap (λ (s : State). with_copy (account_of now s) None) c.set_profile.ensures.set ∙ over_is disk before state k held false 0 holds now went works)
