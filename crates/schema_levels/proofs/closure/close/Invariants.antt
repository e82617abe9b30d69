use Rattle.std.proofs.Common.{◌≡◌, ◌≤◌, length}
use Rattle.schema_levels.specs.Closure.{close}
use Rattle.schema_levels.proofs.closure.close.Given as goal

abbrev pub invariant-loop-number : goal.invariant-loop-number
invariant-loop-number l = (close l.nodes l.upto l.asked ≡ close l.nodes (length l.nodes) l.initial.asked) × (l.upto ≤ length l.nodes)

abbrev pub decreases-loop-number : goal.decreases-loop-number
decreases-loop-number l = l.upto
