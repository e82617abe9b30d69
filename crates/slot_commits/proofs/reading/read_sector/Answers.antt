use Rattle.slot_commits.proofs.Copies.{coherent_by}
use Rattle.slot_commits.proofs.Puts.{keeps_none}
use Rattle.slot_commits.proofs.Taken.{keeps_more}
use Rattle.slot_commits.proofs.reading.read_sector.Goals as goal

pub returns-in_err-read-clause-keeps : goal.returns-in_err-read-clause-keeps
returns-in_err-read-clause-keeps g c = λ torn h.
    let disk = g.D.SectorDevice.disk in
    let old = disk c.args.device.now in
    let was = c.read.ensures.counts.honest h in
    keeps_more torn old old (disk c.read.new.self) c.args.at c.read.new.into (keeps_none torn old (coherent_by torn old (g.met.D.SectorDevice.coherent c.args.device.now was) (g.met.D.SectorDevice.torn_coherent c.args.device.now was)))
    (c.read.ensures.reads h) (λ t. c.read.ensures.torn t h)

pub returns-clause-keeps : goal.returns-clause-keeps
returns-clause-keeps g c = λ torn h.
    let disk = g.D.SectorDevice.disk in
    let old = disk c.args.device.now in
    let was = c.read.ensures.counts.honest h in
    keeps_more torn old old (disk c.read.new.self) c.args.at c.read.new.into (keeps_none torn old (coherent_by torn old (g.met.D.SectorDevice.coherent c.args.device.now was) (g.met.D.SectorDevice.torn_coherent c.args.device.now was)))
    (c.read.ensures.reads h) (λ t. c.read.ensures.torn t h)
