use Rattle.schema_nodes.proofs.Anchoring.{Anchoring}
use Rattle.schema_nodes.proofs.anchors.numbers_of_anchors.Given as goal

abbrev pub invariant-loop-number : goal.invariant-loop-number
invariant-loop-number l = Anchoring l.entries l.anchors.entries l.number
