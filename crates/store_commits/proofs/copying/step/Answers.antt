use Rattle.std.proofs.Common.{ℕ, List, ◌≤◌, length, max, arith, subst}
use Rattle.store_journal.specs.Calls.{Refused, Stepped}
use Rattle.store_journal.specs.Models.{model}
use Rattle.store_journal.specs.Writes.{switch_calls}
use Rattle.sector_device.specs.Disk.{LeavesOnly}
use Rattle.store_journal.specs.Carries.{EitherCarried, switched}
use Rattle.store_journal.specs.JournalView.{carried_of}
use Rattle.store_commits.specs.Copying.{view_of}
use Rattle.store_commits.proofs.Stepped.{step_broke_last}
use Rattle.store_commits.proofs.Switches.{commit_broke, either, number_left}
use Rattle.store_commits.proofs.copying.step.Given.{Over}
use Rattle.store_commits.proofs.copying.step.Goals as goal

last : (g : Over) (c : goal.After-drop-copying-in_default-switch g)
    → Stepped (g.D.SectorDevice.disk c.args.journal.now.device) (g.D.SectorDevice.disk c.copy_step.new.self.device) c.args.journal.now c.copy_step.new.self c.args.copying.target.items c.args.copying.standing (max c.args.most 1) c.in-Ok.standing
last g c = let disk = g.D.SectorDevice.disk in
    subst (λ (l : List ℕ). Stepped (disk c.args.journal.now.device) (disk c.copy_step.new.self.device) c.args.journal.now c.copy_step.new.self l c.args.copying.standing (max c.args.most 1) c.in-Ok.standing) c.deref.ensures.value
    (subst (λ (n : ℕ). Stepped (disk c.args.journal.now.device) (disk c.copy_step.new.self.device) c.args.journal.now c.copy_step.new.self c.deref.result.now c.args.copying.standing n c.in-Ok.standing) c.max.ensures c.in-Ok.ensures.ok)

pub returns-in_default-switch-clause-err : goal.returns-in_default-switch-clause-err
returns-in_default-switch-clause-err g c =
    let disk = g.D.SectorDevice.disk in
    let before = c.args.journal.now in
    let mid = c.copy_step.new.self in
    let now = c.switch.new.self in
    let step = c.in-Ok.ensures.ok in
    let not_less = c.if-standing-len.false in
    let len = c.len.ensures in
    let size = c.args.copying.target.ok in
    let whole : length c.args.copying.target.items ≤ c.in-Ok.standing = omega (arith, not_less, len, size) in (
      c.plain-in_default-switch.ensures,
      step_broke_last disk before mid now (view_of c.args.copying) c.args.most c.in-Ok.standing (last g c) whole c.copy_step.ensures.honest
          (commit_broke (disk mid.device) (disk now.device) (switch_calls mid.rides (length c.args.copying.target.items)) c.in_default-switch.field-0.number mid now step.works (number_left step.stays c.requires.number) c.in_default-switch.ensures.refused
          (subst (λ (l : List ℕ). Refused (disk mid.device) (disk now.device) (switch_calls mid.rides (length l)) mid now c.in_default-switch.field-0.number) c.deref-2.ensures.value c.in_default-switch.ensures.err)),
    )

pub returns-in_default-switch-clause-any_moment : goal.returns-in_default-switch-clause-any_moment
returns-in_default-switch-clause-any_moment g c = λ honest.
    let disk = g.D.SectorDevice.disk in
    let step = c.in-Ok.ensures.ok in
    subst (λ (l : List ℕ). LeavesOnly (model c.args.journal.now.rides (disk c.args.journal.now.device)) (model c.args.journal.now.rides (disk c.switch.new.self.device)) (EitherCarried (carried_of c.args.journal.now) (switched (carried_of c.args.journal.now) l))) c.deref-2.ensures.value
    (either disk c.args.journal.now c.copy_step.new.self c.switch.new.self c.deref-2.result.now step.stays honest (c.copy_step.ensures.any_moment honest c.requires.works)
    (c.switch.ensures.any_moment (c.copy_step.ensures.honest.0 honest) step.works))

pub returns-clause-any_moment : goal.returns-clause-any_moment
returns-clause-any_moment g c = λ honest.
    let disk = g.D.SectorDevice.disk in
    let step = c.in-Ok.ensures.ok in
    subst (λ (l : List ℕ). LeavesOnly (model c.args.journal.now.rides (disk c.args.journal.now.device)) (model c.args.journal.now.rides (disk c.switch.new.self.device)) (EitherCarried (carried_of c.args.journal.now) (switched (carried_of c.args.journal.now) l))) c.deref-2.ensures.value
    (either disk c.args.journal.now c.copy_step.new.self c.switch.new.self c.deref-2.result.now step.stays honest (c.copy_step.ensures.any_moment honest c.requires.works)
    (c.switch.ensures.any_moment (c.copy_step.ensures.honest.0 honest) step.works))
