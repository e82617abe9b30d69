use Rattle.std.proofs.Common.{◌≡◌, ◌-◌, ◌<◌, ℕ, true, Some, length}
use Rattle.doc_tree.specs.TreeView.{view}
use Rattle.schema_levels.specs.Bits.{bit}
use Rattle.schema_levels.specs.Nodes.{node_get}
use Rattle.schema_levels.specs.declared.node.Node.{Node}
use Rattle.schema_pattern.specs.Tables.{sources}
use Rattle.schema_changes.specs.Again.{node_again}
use Rattle.schema_changes.proofs.again.each_holds.Given as goal

abbrev pub invariant-loop-number : goal.invariant-loop-number
invariant-loop-number l =
    ((i : ℕ) (x : Node) → i < l.number → node_get l.nodes i ≡ Some x → bit l.asked i ≡ true → node_again (bit l.passed) l.in_list (view l.value) i x ≡ true)
    × (sources l.searches ≡ sources l.fn.searches)

abbrev pub decreases-loop-number : goal.decreases-loop-number
decreases-loop-number l = length l.nodes - l.number
