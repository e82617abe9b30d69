use Rattle.slot_commits.proofs.Copies.{coherent_by}
use Rattle.store_journal.proofs.First.{keeps_read}
use Rattle.store_journal.proofs.outdated.zeroth.Goals as goal

pub returns-in_err-read-clause-keeps : goal.returns-in_err-read-clause-keeps
returns-in_err-read-clause-keeps g c = λ torn honest.
    let disk = g.D.SectorDevice.disk in
    let old = disk c.args.device.now in
    let was = c.read.ensures.counts.honest honest in
    keeps_read torn old (disk c.read.new.self) 0 c.read.new.into (coherent_by torn old (g.met.D.SectorDevice.coherent c.args.device.now was) (g.met.D.SectorDevice.torn_coherent c.args.device.now was))
    (c.read.ensures.reads honest) (λ t. c.read.ensures.torn t honest)

pub returns-clause-keeps : goal.returns-clause-keeps
returns-clause-keeps g c = λ torn honest.
    let disk = g.D.SectorDevice.disk in
    let old = disk c.args.device.now in
    let was = c.read.ensures.counts.honest honest in
    keeps_read torn old (disk c.read.new.self) 0 c.read.new.into (coherent_by torn old (g.met.D.SectorDevice.coherent c.args.device.now was) (g.met.D.SectorDevice.torn_coherent c.args.device.now was))
    (c.read.ensures.reads honest) (λ t. c.read.ensures.torn t honest)
