use Rattle.store_parts.proofs.Keeps.{keeps_more}
use Rattle.store_parts.proofs.findings.sector_or_zeros.Goals as goal

pub returns-in-Ok-clause-unwritten : goal.returns-in-Ok-clause-unwritten
returns-in-Ok-clause-unwritten g c = λ h.
    let disk = g.D.SectorDevice.disk in
    keeps_more (disk c.args.device.now) (disk c.read.new.self) c.args.at c.read.new.into c.read.result (g.met.D.SectorDevice.coherent c.args.device.now (c.read.ensures.counts.honest h)) (c.read.ensures.reads h)

pub returns-in-Err-clause-unwritten : goal.returns-in-Err-clause-unwritten
returns-in-Err-clause-unwritten g c = λ h.
    let disk = g.D.SectorDevice.disk in
    keeps_more (disk c.args.device.now) (disk c.read.new.self) c.args.at c.read.new.into c.read.result (g.met.D.SectorDevice.coherent c.args.device.now (c.read.ensures.counts.honest h)) (c.read.ensures.reads h)
