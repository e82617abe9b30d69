use Rattle.std.proofs.Common.{◌≡◌, ◌≤◌, length}
use Rattle.schema_changes.specs.Again.{close_must}
use Rattle.schema_changes.proofs.must.close.Given as goal

abbrev pub invariant-loop-number : goal.invariant-loop-number
invariant-loop-number l = (close_must l.nodes l.upto l.asked ≡ close_must l.nodes (length l.nodes) l.initial.asked) × (l.upto ≤ length l.nodes)

abbrev pub decreases-loop-number : goal.decreases-loop-number
decreases-loop-number l = l.upto
