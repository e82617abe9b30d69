use Rattle.std.proofs.Common.{ℕ, ◌+◌, ◌/◌, ◌++◌, subst, length, arith}
use Rattle.half_journal.specs.Layout.{half_start}
use Rattle.half_journal.specs.Writes.{WritesRun}
use Rattle.half_journal.proofs.Images.{half_within}
use Rattle.half_journal.proofs.Tail.{touched_fits}
use Rattle.half_journal.proofs.write.write_frames.Goals as goal

pub write_run-requires-clause-room : goal.write_run-requires-clause-room
write_run-requires-clause-room g c =
    let placed = c.requires.placed in
    let start = c.args.start in
    omega (
      arith,
      half_within c.args.sectors start.half placed.half_fits placed.sized.at_least,
      touched_fits start.used (length c.args.frames.now) c.args.sectors c.requires.fits,
      c.requires.size,
      c.half_start.ensures,
      c.sectors_touched-more.ensures,
    )

pub returns-clause-run : goal.returns-clause-run
returns-clause-run g c = λ honest.
    let old = g.D.SectorDevice.disk c.args.device.now in
    let new = g.D.SectorDevice.disk c.write_run.new.device in
    let start = c.args.start in
    let bytes = start.front.now ++ c.args.frames.now in
    let run = c.write_run.ensures in
    subst (λ (count : ℕ). WritesRun old new (half_start c.args.sectors start.half + start.used / 512) count bytes c.write_run.result) c.sectors_touched-more.ensures
    (subst (λ (first : ℕ). WritesRun old new (first + start.used / 512) c.sectors_touched-more.result bytes c.write_run.result) c.half_start.ensures
    (record { any_moment = run.any_moment honest; seen = run.seen honest; written = run.written honest }))
