use Rattle.std.proofs.Common.{length, subst}
use Rattle.std.proofs.lemmas.Result.{on_ok_weaker}
use Rattle.sector_device.specs.Disk.{LeavesOnly}
use Rattle.store_journal.specs.Calls.{Moved}
use Rattle.store_journal.specs.Carries.{Carried, EitherCarried}
use Rattle.store_journal.specs.JournalView.{carried_of}
use Rattle.store_journal.specs.Models.{model}
use Rattle.store_journal.specs.Writes.{switch_calls}
use Rattle.store_journal.proofs.Switching.{none_more}
use Rattle.store_journal.proofs.journal.Journal.switch.Goals as goal

pub returns-clause-ok : goal.returns-clause-ok
returns-clause-ok g c =
    let disk = g.D.SectorDevice.disk in
    let old = c.args.self.now in
    let new = c.replace.new.self in
    let target = c.args.target.now in
    on_ok_weaker c.replace.result (subst (λ (d : Carried). Moved (disk old.device) (disk new.device) old new d (switch_calls old.rides (length target))) (none_more (carried_of old) target)) c.replace.ensures.ok

pub returns-clause-any_moment : goal.returns-clause-any_moment
returns-clause-any_moment g c = λ honest works.
    let disk = g.D.SectorDevice.disk in
    let old = c.args.self.now in
    let new = c.replace.new.self in
    subst (λ (d : Carried). LeavesOnly (model old.rides (disk old.device)) (model old.rides (disk new.device)) (EitherCarried (carried_of old) d)) (none_more (carried_of old) c.args.target.now)
    (c.replace.ensures.any_moment honest works)
