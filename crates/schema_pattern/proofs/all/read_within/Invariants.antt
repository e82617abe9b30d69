use Rattle.std.proofs.Common.{◌≤◌, ◌<◌, ◌-◌, ◌+◌, ◌^◌}
use Rattle.schema_pattern.proofs.all.read_within.Given as goal

abbrev pub invariant-loop-room : goal.invariant-loop-room
invariant-loop-room l = (0 < l.room) × (l.room ≤ 2 ^ 33)

abbrev pub decreases-loop-room : goal.decreases-loop-room
decreases-loop-room l = l.left + 1 - l.room
