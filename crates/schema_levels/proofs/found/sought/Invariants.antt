use Rattle.std.proofs.Common.{◌-◌, length}
use Rattle.schema_levels.proofs.Finding.{SoughtBelow}
use Rattle.schema_levels.proofs.found.sought.Given as goal

abbrev pub invariant-loop-number : goal.invariant-loop-number
invariant-loop-number l = SoughtBelow l.nodes l.asked l.number l.sought

abbrev pub decreases-loop-number : goal.decreases-loop-number
decreases-loop-number l = length l.nodes - l.number
