use Rattle.half_journal.proofs.Opened.{copy_leaves}
use Rattle.half_journal.proofs.copying.write_copy.Goals as goal

pub returns-clause-carries : goal.returns-clause-carries
returns-clause-carries g c = λ state honest knows carried.
    let coherent = g.met.D.SectorDevice.coherent in
    copy_leaves c.args.known.now state (g.D.SectorDevice.disk c.args.device.now) (g.D.SectorDevice.disk c.write_run.new.device) c.half_start-start.result c.args.place c.args.count c.args.bytes.now
    c.requires.formed knows (coherent c.args.device.now honest) (coherent c.write_run.new.device) c.write_run.ensures.same c.half_start-start.ensures c.requires.room honest carried (c.write_run.ensures.any_moment honest)
