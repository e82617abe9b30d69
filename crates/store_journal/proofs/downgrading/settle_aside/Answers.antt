use Rattle.slot_commits.specs.Firsts.{KeepsFirst}
use Rattle.slot_commits.specs.States.{Stands}
use Rattle.slot_commits.specs.Tears.{tearing_by}
use Rattle.slot_commits.proofs.Copies.{coherent_by}
use Rattle.slot_commits.proofs.Puts.{syncs_by}
use Rattle.store_journal.proofs.Downgrades.{synced}
use Rattle.store_journal.proofs.downgrading.settle_aside.Goals as goal

pub returns-clause-stands : goal.returns-clause-stands
returns-clause-stands g c = λ torn number state honest aside stands.
    let disk = g.D.SectorDevice.disk in
    let mid = disk c.write_aside.new.device in
    let new = disk c.sync.new.self in
    let was = c.write_aside.ensures.same.honest.0 honest in
    let coherent = coherent_by torn mid (g.met.D.SectorDevice.coherent c.write_aside.new.device was) (g.met.D.SectorDevice.torn_coherent c.write_aside.new.device was) in
    synced (tearing_by torn (disk c.args.device.now)) (tearing_by torn mid) (tearing_by torn new) (Stands number state) c.sync.result coherent (c.write_aside.ensures.stands torn number state honest aside stands)
    (syncs_by torn mid new (c.sync.ensures.syncs was) (λ t. c.sync.ensures.torn t was))

pub returns-clause-sector_0 : goal.returns-clause-sector_0
returns-clause-sector_0 g c = λ torn honest.
    let disk = g.D.SectorDevice.disk in
    let old = disk c.args.device.now in
    let mid = disk c.write_aside.new.device in
    let new = disk c.sync.new.self in
    let was = c.write_aside.ensures.same.honest.0 honest in
    let coherent = coherent_by torn mid (g.met.D.SectorDevice.coherent c.write_aside.new.device was) (g.met.D.SectorDevice.torn_coherent c.write_aside.new.device was) in
    synced (tearing_by torn old) (tearing_by torn mid) (tearing_by torn new) (KeepsFirst torn (tearing_by torn old).left) c.sync.result coherent (c.write_aside.ensures.sector_0 torn honest c.requires.behind)
    (syncs_by torn mid new (c.sync.ensures.syncs was) (λ t. c.sync.ensures.torn t was))
