use Rattle.std.proofs.Common.{length}
use Rattle.store_journal.specs.Carries.{replaced}
use Rattle.store_journal.specs.Writes.{switch_calls}
use Rattle.store_commits.proofs.Switches.{broke, commit_broke, either_of, enough, number_left}
use Rattle.store_commits.proofs.replacement.commit_replacement.Goals as goal

pub returns-in_default-replace-clause-err : goal.returns-in_default-replace-clause-err
returns-in_default-replace-clause-err g c =
    let disk = g.D.SectorDevice.disk in
    let before = c.args.journal.now in
    let mid = c.copy_step.new.self in
    let now = c.replace.new.self in
    let target = c.args.target.now in
    let step = c.in-Ok.ensures.ok in (
      c.plain-in_default-replace.ensures,
      broke disk before mid now target c.in-Ok.field-0 _ (enough (length target) before mid c.requires.fits step.stays.sectors c.copy_step.ensures.kept) step c.copy_step.ensures.honest
          (commit_broke (disk mid.device) (disk now.device) (switch_calls mid.rides (length target)) c.in_default-replace.field-0.number mid now step.works (number_left step.stays c.requires.number) c.in_default-replace.ensures.refused c.in_default-replace.ensures.err),
    )

pub returns-in_default-replace-clause-any_moment : goal.returns-in_default-replace-clause-any_moment
returns-in_default-replace-clause-any_moment g c = λ honest.
    let step = c.in-Ok.ensures.ok in
    either_of g.D.SectorDevice.disk c.args.journal.now c.copy_step.new.self c.replace.new.self (λ d. replaced d c.args.target.now c.args.adds) step.stays honest (c.copy_step.ensures.any_moment honest c.requires.works)
    (c.replace.ensures.any_moment (c.copy_step.ensures.honest.0 honest) step.works)

pub returns-clause-any_moment : goal.returns-clause-any_moment
returns-clause-any_moment g c = λ honest.
    let step = c.in-Ok.ensures.ok in
    either_of g.D.SectorDevice.disk c.args.journal.now c.copy_step.new.self c.replace.new.self (λ d. replaced d c.args.target.now c.args.adds) step.stays honest (c.copy_step.ensures.any_moment honest c.requires.works)
    (c.replace.ensures.any_moment (c.copy_step.ensures.honest.0 honest) step.works)
