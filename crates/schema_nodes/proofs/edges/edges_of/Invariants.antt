use Rattle.std.proofs.Common.{drop}
use Rattle.doc_tree.specs.TreeView.{view}
use Rattle.schema_nodes.proofs.Edging.{Edging}
use Rattle.schema_nodes.proofs.edges.edges_of.Given as goal

abbrev pub invariant-loop-entry : goal.invariant-loop-entry
invariant-loop-entry l = Edging l.targets (view l.root) (drop l.entry-index l.entries) l.entries l.graph.items
