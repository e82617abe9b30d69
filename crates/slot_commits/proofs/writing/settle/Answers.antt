use Rattle.std.proofs.Common.{◌∙◌}
use Rattle.std.proofs.lemmas.Result.{on_ok_weaker}
use Rattle.slot_commits.proofs.Copies.{coherent_by}
use Rattle.slot_commits.proofs.Puts.{keeps_none, keeps_synced, seen_by, syncs_by}
use Rattle.slot_commits.proofs.writing.settle.Goals as goal

pub returns-then-settles-clause-keeps : goal.returns-then-settles-clause-keeps
returns-then-settles-clause-keeps g c = λ torn honest.
    let old = g.D.SectorDevice.disk c.args.device.now in
    let new = g.D.SectorDevice.disk c.sync.new.self in
    keeps_synced torn old new c.sync.result (coherent_by torn old (g.met.D.SectorDevice.coherent c.args.device.now honest) (g.met.D.SectorDevice.torn_coherent c.args.device.now honest))
    (syncs_by torn old new (c.sync.ensures.syncs honest) (λ t. c.sync.ensures.torn t honest))

pub returns-then-settles-clause-settled : goal.returns-then-settles-clause-settled
returns-then-settles-clause-settled g c = λ torn honest is.
    let old = g.D.SectorDevice.disk c.args.device.now in
    let new = g.D.SectorDevice.disk c.sync.new.self in
    on_ok_weaker c.sync.result (λ alone image left. alone image left ∙ seen_by torn old) (syncs_by torn old new (c.sync.ensures.syncs honest) (λ t. c.sync.ensures.torn t honest)).settled

pub returns-else-settles-clause-keeps : goal.returns-else-settles-clause-keeps
returns-else-settles-clause-keeps g c = λ torn honest.
    let old = g.D.SectorDevice.disk c.args.device.now in
    keeps_none torn old (coherent_by torn old (g.met.D.SectorDevice.coherent c.args.device.now honest) (g.met.D.SectorDevice.torn_coherent c.args.device.now honest))
