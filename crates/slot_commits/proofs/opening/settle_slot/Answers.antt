use Rattle.std.proofs.Common.{sym, ◌∙◌}
use Rattle.std.proofs.lemmas.Result.{on_ok_weaker}
use Rattle.sector_device.proofs.Moments.{goes_on, left_now}
use Rattle.slot_commits.specs.Pairs.{SlotSome}
use Rattle.slot_commits.specs.Tears.{tearing_by}
use Rattle.slot_commits.proofs.Copies.{coherent_by}
use Rattle.slot_commits.proofs.Puts.{seen_by, syncs_by}
use Rattle.slot_commits.proofs.opening.settle_slot.Goals as goal

pub returns-clause-any_moment : goal.returns-clause-any_moment
returns-clause-any_moment g c = λ torn honest.
    let disk = g.D.SectorDevice.disk in
    let old = disk c.args.device.now in
    let mid = disk c.write_slot.new.device in
    let next = disk c.sync.new.self in
    let mid_honest = c.write_slot.ensures.same.honest.0 honest in
    let coherent_mid = coherent_by torn mid (g.met.D.SectorDevice.coherent c.write_slot.new.device mid_honest) (g.met.D.SectorDevice.torn_coherent c.write_slot.new.device mid_honest) in
    let syncs = syncs_by torn mid next (c.sync.ensures.syncs mid_honest) (λ t. c.sync.ensures.torn t mid_honest) in
    let so_far = c.write_slot.ensures.any_moment torn honest in
    let P = SlotSome torn c.args.slot.now c.args.tail.now c.args.copy (tearing_by torn old).left in
    goes_on (tearing_by torn old) (tearing_by torn mid) (tearing_by torn next) P so_far syncs.time (λ image left. left_now (tearing_by torn old) (tearing_by torn mid) P coherent_mid so_far image (syncs.adds_none image left))

pub returns-clause-settled : goal.returns-clause-settled
returns-clause-settled g c = λ torn honest.
    let disk = g.D.SectorDevice.disk in
    let mid = disk c.write_slot.new.device in
    let next = disk c.sync.new.self in
    let mid_honest = c.write_slot.ensures.same.honest.0 honest in
    let syncs = syncs_by torn mid next (c.sync.ensures.syncs mid_honest) (λ t. c.sync.ensures.torn t mid_honest) in
    on_ok_weaker c.sync.result (λ alone image left. alone image left ∙ seen_by torn mid ∙ sym (c.sync.ensures.syncs mid_honest).seen) syncs.settled
