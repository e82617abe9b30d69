use Rattle.slot_commits.proofs.Asides.{aside_by}
use Rattle.slot_commits.proofs.Copies.{coherent_by}
use Rattle.slot_commits.proofs.Firsts.{firsts_run, firsts_start, run_first}
use Rattle.slot_commits.proofs.aside.write_aside.Goals as goal

pub returns-clause-stands : goal.returns-clause-stands
returns-clause-stands g c = λ torn number state honest aside stands.
    let old = g.D.SectorDevice.disk c.args.device.now in
    let new = g.D.SectorDevice.disk c.write_run.new.device in
    let coherent = coherent_by torn old (g.met.D.SectorDevice.coherent c.args.device.now honest) (g.met.D.SectorDevice.torn_coherent c.args.device.now honest) in
    aside_by torn old new number state c.args.first c.args.count c.args.bytes.now coherent aside stands (c.write_run.ensures.any_moment honest) (λ t. c.write_run.ensures.torn t honest)

pub returns-clause-sector_0 : goal.returns-clause-sector_0
returns-clause-sector_0 g c = λ torn honest past.
    let old = g.D.SectorDevice.disk c.args.device.now in
    let new = g.D.SectorDevice.disk c.write_run.new.device in
    let coherent = coherent_by torn old (g.met.D.SectorDevice.coherent c.args.device.now honest) (g.met.D.SectorDevice.torn_coherent c.args.device.now honest) in
    firsts_run torn old old coherent (firsts_start torn old coherent) new (run_first torn old new c.args.first c.args.count c.args.bytes.now past (c.write_run.ensures.any_moment honest) (λ t. c.write_run.ensures.torn t honest))
