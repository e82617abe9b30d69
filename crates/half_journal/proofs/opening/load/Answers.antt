use Rattle.half_journal.proofs.Opened.{if_ok_both, loaded}
use Rattle.half_journal.proofs.opening.load.Goals as goal

pub returns-clause-carries : goal.returns-clause-carries
returns-clause-carries g c = λ honest fits spelled.
    let old = g.D.SectorDevice.disk c.args.device.now in
    let now = g.met.D.SectorDevice.coherent c.args.device.now (c.read_bytes.ensures.same.honest honest) in
    if_ok_both c.read_bytes.result
    (λ bytes size read. loaded old.seen c.args.commit bytes.items old.sectors c.half_start-start.result (now.shape old.seen now.seen) c.requires.sized spelled c.requires.of fits c.half_start-start.ensures size read.begins)
    c.read_bytes.ensures.size (c.read_bytes.ensures.bytes honest)
