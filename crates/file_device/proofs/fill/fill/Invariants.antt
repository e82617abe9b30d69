use Rattle.std.proofs.Common.{◌-◌, ◌≤◌}
use Rattle.file_device.proofs.fill.fill.Given as goal

abbrev pub invariant-loop-written : goal.invariant-loop-written
invariant-loop-written g l = l.written ≤ l.length

abbrev pub decreases-loop-written : goal.decreases-loop-written
decreases-loop-written g l = l.length - l.written
