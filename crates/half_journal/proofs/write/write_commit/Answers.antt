use Rattle.std.proofs.Common.{◌+◌, ◌*◌, ◌/◌, ℕ, drop, refl, sym, subst, length, arith}
use Rattle.sector_device.specs.Charges.{Charges}
use Rattle.sector_device.specs.Disk.{Image}
use Rattle.half_journal.specs.States.{Holds, committed}
use Rattle.half_journal.specs.Layout.{half_start}
use Rattle.sector_device.specs.Sectors.{SectorsHold, sectors_of}
use Rattle.half_journal.specs.Writes.{takes_one_sync, touched}
use Rattle.sector_device.proofs.Charges.{charges_joined, charges_err, failed_joined, made_joined}
use Rattle.half_journal.proofs.Committed.{calls_are, frames_run, holds_all, holds_base, ready_of, rest_begins, since_frames, since_target, tried, tried_before}
use Rattle.half_journal.proofs.Since.{since_settled}
use Rattle.half_journal.proofs.write.write_commit.Goals as goal

pub returns-in_err-write_frames-clause-charges : goal.returns-in_err-write_frames-clause-charges
returns-in_err-write_frames-clause-charges g c =
    let disk = g.D.SectorDevice.disk in
    let used = c.args.start.used in
    let few = calls_are c.args.update c.args.start.target.now used (takes_one_sync c.args.update) c.requires.target refl in
    charges_err (disk c.args.device.now) (disk c.write_frames.new.device) _ c.from_residual-in_err-write_frames.result c.from_residual-in_err-write_frames.ensures.0
    (failed_joined (disk c.args.device.now) (disk c.write_target.new.device) (disk c.write_frames.new.device) (sectors_of (length c.args.start.target.now)) (touched used (length c.args.update.frames.now)) _ (omega (arith, few))
    c.in_ok-write_target.ensures.charges c.in_err-write_frames.ensures.charges)

pub returns-in_err-settle-clause-charges : goal.returns-in_err-settle-clause-charges
returns-in_err-settle-clause-charges g c =
    let disk = g.D.SectorDevice.disk in
    let before = disk c.args.device.now in
    let two = disk c.write_frames.new.device in
    let target = sectors_of (length c.args.start.target.now) in
    let frames = touched c.args.start.used (length c.args.update.frames.now) in
    let few = calls_are c.args.update c.args.start.target.now c.args.start.used c.takes_one_sync.result c.requires.target c.takes_one_sync.ensures in
    charges_err before (disk c.settle.new.device) _ c.from_residual-in_err-settle.result c.from_residual-in_err-settle.ensures.0
    (failed_joined before two (disk c.settle.new.device) (target + frames) _ _ (omega (arith, few))
    (made_joined before (disk c.write_target.new.device) two target frames c.in_ok-write_target.ensures.charges c.in_ok-write_frames.ensures.charges) c.in_err-settle.ensures.charges)

pub returns-clause-charges : goal.returns-clause-charges
returns-clause-charges g c =
    let disk = g.D.SectorDevice.disk in
    let one = disk c.write_target.new.device in
    let two = disk c.write_frames.new.device in
    let last = disk c.replace_commit.new.device in
    let result = c.replace_commit.result in
    subst (λ (n : ℕ). Charges (disk c.args.device.now) last n result) (calls_are c.args.update c.args.start.target.now c.args.start.used c.takes_one_sync.result c.requires.target c.takes_one_sync.ensures)
    (charges_joined (disk c.args.device.now) one last _ _ result c.in_ok-write_target.ensures.charges (charges_joined one two last _ _ result c.in_ok-write_frames.ensures.charges
    (charges_joined two (disk c.settle.new.device) last _ 2 result c.in_ok-settle.ensures.charges c.replace_commit.ensures.charges)))

pub returns-in_err-write_target-clause-tried : goal.returns-in_err-write_target-clause-tried
returns-in_err-write_target-clause-tried g c = λ old can.
    let coherent = g.met.D.SectorDevice.coherent in
    let one = g.D.SectorDevice.disk c.write_target.new.device in
    let ready = ready_of c.requires.size c.requires.placed c.requires.fits c.requires.target can (coherent c.args.device.now) in
    tried_before ready one c.from_residual.result c.from_residual.ensures.0 (since_target ready one (coherent c.write_target.new.device) c.write_target.ensures.same c.write_target.ensures.run)

pub returns-in_err-write_frames-clause-tried : goal.returns-in_err-write_frames-clause-tried
returns-in_err-write_frames-clause-tried g c = λ old can.
    let coherent = g.met.D.SectorDevice.coherent in
    let one = g.D.SectorDevice.disk c.write_target.new.device in
    let two = g.D.SectorDevice.disk c.write_frames.new.device in
    let ready = ready_of c.requires.size c.requires.placed c.requires.fits c.requires.target can (coherent c.args.device.now) in
    let target = since_target ready one (coherent c.write_target.new.device) c.write_target.ensures.same c.write_target.ensures.run in
    tried_before ready two c.from_residual-in_err-write_frames.result c.from_residual-in_err-write_frames.ensures.0
    (since_frames ready one two target (coherent c.write_frames.new.device) c.write_frames.ensures.same c.write_frames.ensures.run)

pub returns-in_err-settle-clause-tried : goal.returns-in_err-settle-clause-tried
returns-in_err-settle-clause-tried g c = λ old can.
    let coherent = g.met.D.SectorDevice.coherent in
    let one = g.D.SectorDevice.disk c.write_target.new.device in
    let two = g.D.SectorDevice.disk c.write_frames.new.device in
    let three = g.D.SectorDevice.disk c.settle.new.device in
    let ready = ready_of c.requires.size c.requires.placed c.requires.fits c.requires.target can (coherent c.args.device.now) in
    let target = since_target ready one (coherent c.write_target.new.device) c.write_target.ensures.same c.write_target.ensures.run in
    let frames = since_frames ready one two target (coherent c.write_frames.new.device) c.write_frames.ensures.same c.write_frames.ensures.run in
    tried_before ready three c.from_residual-in_err-settle.result c.from_residual-in_err-settle.ensures.0
    (since_settled frames three (coherent c.settle.new.device) c.settle.ensures.same (c.settle.ensures.any_moment frames.honest))

pub returns-clause-tried : goal.returns-clause-tried
returns-clause-tried g c = λ old can.
    let coherent = g.met.D.SectorDevice.coherent in
    let one = g.D.SectorDevice.disk c.write_target.new.device in
    let two = g.D.SectorDevice.disk c.write_frames.new.device in
    let three = g.D.SectorDevice.disk c.settle.new.device in
    let ready = ready_of c.requires.size c.requires.placed c.requires.fits c.requires.target can (coherent c.args.device.now) in
    let target = since_target ready one (coherent c.write_target.new.device) c.write_target.ensures.same c.write_target.ensures.run in
    let frames = since_frames ready one two target (coherent c.write_frames.new.device) c.write_frames.ensures.same c.write_frames.ensures.run in
    let after = since_settled frames three (coherent c.settle.new.device) c.settle.ensures.same (c.settle.ensures.any_moment frames.honest) in
    let all = holds_all ready one two (holds_base ready one target (c.in_ok-write_target.ensures.run can.honest)) (c.in_ok-write_frames.ensures.run target.honest) in
    let begins = rest_begins ready two three c.takes_one_sync.result after all c.takes_one_sync.ensures (c.in_ok-settle.ensures.settled frames.honest) in
    let new = committed old c.args.update in
    let all_settled = subst (λ (m : Image). Holds m (half_start c.args.commit.sectors new.half) new.bytes (length new.bytes)) (sym (c.settle.ensures.seen frames.honest)) all in
    let rest = drop (512 * (c.args.start.used / 512)) new.bytes in
    let written = subst (λ (m : Image). SectorsHold m (half_start c.args.commit.sectors new.half + c.args.start.used / 512) (touched c.args.start.used (length c.args.update.frames.now)) rest) (sym (c.settle.ensures.seen frames.honest))
    (frames_run ready one two (c.in_ok-write_frames.ensures.run target.honest)).written in
    tried ready three (g.D.SectorDevice.disk c.replace_commit.new.device) after c.replace_commit.result begins all_settled written (c.replace_commit.ensures.replaces after.honest)
