use Rattle.std.proofs.Common.{drop}
use Rattle.doc_tree.specs.TreeView.{view}
use Rattle.schema_nodes.proofs.Making.{NodesMaking}
use Rattle.schema_nodes.proofs.made.nodes_of.Given as goal

abbrev pub invariant-loop-number : goal.invariant-loop-number
invariant-loop-number l = NodesMaking l.targets l.ranks (view l.root) l.places l.entries (drop l.number-index l.places) l.nodes.items
