use Rattle.std.proofs.Common.{◌≡◌, ◌-◌, ◌<◌, ℕ, true, Some, length}
use Rattle.schema_levels.specs.Bits.{bit}
use Rattle.schema_levels.specs.Nodes.{node_get}
use Rattle.schema_levels.specs.declared.node.Node.{Node}
use Rattle.schema_changes.specs.Again.{all_steady}
use Rattle.schema_changes.proofs.steady.are_steady.Given as goal

abbrev pub invariant-loop-number : goal.invariant-loop-number
invariant-loop-number l = (i : ℕ) (x : Node) → i < l.number → node_get l.nodes i ≡ Some x → bit l.asked i ≡ true → all_steady l.index x x.rules.items ≡ true

abbrev pub decreases-loop-number : goal.decreases-loop-number
decreases-loop-number l = length l.nodes - l.number
