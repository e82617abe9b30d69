use Rattle.std.proofs.Common.{◌+◌, ◌*◌, length}
use Rattle.schema_changes.proofs.along.+along.Given as goal

abbrev pub decreases-along : goal.decreases-along
decreases-along l = 2 * length l.path.now

abbrev pub decreases-child_passes : goal.decreases-child_passes
decreases-child_passes l = 2 * length l.rest.now + 1
