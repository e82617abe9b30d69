use Rattle.std.proofs.Common.{ℕ, subst, length, arith}
use Rattle.sector_device.specs.Sectors.{sectors_of}
use Rattle.half_journal.specs.Writes.{WritesRun}
use Rattle.half_journal.proofs.Images.{half_within}
use Rattle.half_journal.proofs.write.write_target.Goals as goal

pub write_run-requires-clause-room : goal.write_run-requires-clause-room
write_run-requires-clause-room g c =
    let placed = c.requires.placed in
    omega (arith, half_within c.args.sectors c.args.start.half placed.half_fits placed.sized.at_least, placed.target_fits, c.requires.size, c.half_start-first.ensures)

pub returns-clause-run : goal.returns-clause-run
returns-clause-run g c = λ honest.
    let disk = g.D.SectorDevice.disk in
    let run = c.write_run.ensures in
    subst (λ (first : ℕ). WritesRun (disk c.args.device.now) (disk c.write_run.new.device) first (sectors_of (length c.args.start.target.now)) c.args.start.target.now c.write_run.result) c.half_start-first.ensures
    (record { any_moment = run.any_moment honest; seen = run.seen honest; written = run.written honest })
