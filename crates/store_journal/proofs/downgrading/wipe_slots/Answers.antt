use Rattle.std.proofs.Common.{List, ℕ, subst, sym}
use Rattle.std.proofs.lemmas.Result.{on_ok_weaker}
use Rattle.store_journal.specs.Turning.{HasNoSlots}
use Rattle.sector_device.specs.Disk.{tearing}
use Rattle.sector_device.proofs.Charges.{charges_joined, charges_one}
use Rattle.slot_commits.specs.Pairs.{OutsideSome}
use Rattle.store_journal.proofs.Downgrades.{synced, wiped, zeros_there}
use Rattle.store_journal.proofs.downgrading.wipe_slots.Goals as goal

pub returns-in_err-write_run-clause-any_moment : goal.returns-in_err-write_run-clause-any_moment
returns-in_err-write_run-clause-any_moment g c = λ torn honest.
    let disk = g.D.SectorDevice.disk in
    wiped torn (disk c.args.device.now) (disk c.write_run.new.device) _ (c.write_run.ensures.torn torn honest)

pub returns-clause-charges : goal.returns-clause-charges
returns-clause-charges g c =
    let disk = g.D.SectorDevice.disk in
    let mid = disk c.write_run.new.device in
    let new = disk c.sync.new.self in
    charges_joined (disk c.args.device.now) mid new 120 1 c.sync.result c.in_ok-write_run.ensures.charges (charges_one mid new c.sync.result c.sync.ensures.counts)

pub returns-clause-any_moment : goal.returns-clause-any_moment
returns-clause-any_moment g c = λ torn honest.
    let disk = g.D.SectorDevice.disk in
    let old = disk c.args.device.now in
    let mid = disk c.write_run.new.device in
    let was = c.write_run.ensures.same.honest.0 honest in
    synced (tearing torn old) (tearing torn mid) (tearing torn (disk c.sync.new.self)) (OutsideSome (old.torn_left torn) 8 120) c.sync.result (g.met.D.SectorDevice.torn_coherent c.write_run.new.device was torn).coherent
    (wiped torn old mid _ (c.write_run.ensures.torn torn honest)) (c.sync.ensures.torn torn was)

pub returns-clause-wiped : goal.returns-clause-wiped
returns-clause-wiped g c = λ honest.
    let mid = g.D.SectorDevice.disk c.write_run.new.device in
    let was = c.write_run.ensures.same.honest.0 honest in
    let zeros = zeros_there mid.seen (c.in_ok-write_run.ensures.written honest) in
    on_ok_weaker c.sync.result (λ settled image left. subst HasNoSlots (sym (settled image left)) zeros) (c.sync.ensures.syncs was).settled
