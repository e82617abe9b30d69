use Rattle.std.proofs.Common.{List, ℕ, subst, arith, ◌∙◌, Ok}
use Rattle.std.proofs.lemmas.Result.{on_ok_weaker}
use Rattle.sector_device.specs.Disk.{OrTorn, Tears, Writes, tearing}
use Rattle.sector_device.specs.declared.device.DeviceFault.{DeviceFault}
use Rattle.half_journal.specs.Layout.{sector_of}
use Rattle.sector_device.proofs.Charges.{made_one, failed_one, failed_more, charges_one, charges_joined, charges_err}
use Rattle.store_journal.proofs.Downgrades.{synced, torn_write}
use Rattle.store_journal.proofs.downgrading.name_half.Goals as goal

pub returns-in_err-write-clause-charges : goal.returns-in_err-write-clause-charges
returns-in_err-write-clause-charges g c =
    let old = g.D.SectorDevice.disk c.args.device.now in
    let mid = g.D.SectorDevice.disk c.write.new.self in
    charges_err old mid 2 c.from_residual.result c.from_residual.ensures.0 (failed_more old mid 1 2 (omega arith) (failed_one old mid _ c.in_err-write.ensures.counts))

pub returns-in_err-write-clause-any_moment : goal.returns-in_err-write-clause-any_moment
returns-in_err-write-clause-any_moment g c = λ torn honest.
    let old = g.D.SectorDevice.disk c.args.device.now in
    let mid = g.D.SectorDevice.disk c.write.new.self in
    let tears = subst (λ (b : List ℕ). Tears torn old mid 0 b) c.encode.ensures (c.write.ensures.torn torn honest) in
    torn_write torn old mid 0 (sector_of c.args.commit) (g.met.D.SectorDevice.torn_coherent c.args.device.now honest torn).coherent tears

pub returns-clause-any_moment : goal.returns-clause-any_moment
returns-clause-any_moment g c = λ torn honest.
    let old = g.D.SectorDevice.disk c.args.device.now in
    let mid = g.D.SectorDevice.disk c.write.new.self in
    let new = g.D.SectorDevice.disk c.sync.new.self in
    let was = (c.write.ensures.writes honest).honest in
    let tears = subst (λ (b : List ℕ). Tears torn old mid 0 b) c.encode.ensures (c.write.ensures.torn torn honest) in
    synced (tearing torn old) (tearing torn mid) (tearing torn new) (OrTorn torn (old.torn_left torn) 0 (sector_of c.args.commit)) c.sync.result (g.met.D.SectorDevice.torn_coherent c.write.new.self was torn).coherent
    (torn_write torn old mid 0 (sector_of c.args.commit) (g.met.D.SectorDevice.torn_coherent c.args.device.now honest torn).coherent tears) (c.sync.ensures.torn torn was)

pub returns-clause-done : goal.returns-clause-done
returns-clause-done g c = λ torn honest.
    let old = g.D.SectorDevice.disk c.args.device.now in
    let mid = g.D.SectorDevice.disk c.write.new.self in
    let was = (c.write.ensures.writes honest).honest in
    let write = subst (λ (b : List ℕ). Writes {T = Unit {0}} {E = DeviceFault} old mid 0 b (Ok tt)) c.encode.ensures (c.in_ok-write.ensures.writes honest) in
    on_ok_weaker c.sync.result (λ only image left. only image left ∙ write.seen) (c.sync.ensures.torn torn was).settled

pub returns-clause-charges : goal.returns-clause-charges
returns-clause-charges g c =
    let old = g.D.SectorDevice.disk c.args.device.now in
    let mid = g.D.SectorDevice.disk c.write.new.self in
    let new = g.D.SectorDevice.disk c.sync.new.self in
    charges_joined old mid new 1 1 c.sync.result (made_one old mid _ c.in_ok-write.ensures.counts) (charges_one mid new c.sync.result c.sync.ensures.counts)
