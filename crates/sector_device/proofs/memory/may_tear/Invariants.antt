use Rattle.std.proofs.Common.{◌≡◌, drop}
use Rattle.sector_device.specs.Kept.{written_near}
use Rattle.sector_device.proofs.memory.may_tear.Given as goal

abbrev pub invariant-loop-write : goal.invariant-loop-write
invariant-loop-write l = written_near l.at (drop l.write-index l.unsettled) ≡ written_near l.at l.unsettled
