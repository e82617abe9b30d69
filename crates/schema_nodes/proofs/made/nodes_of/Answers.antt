use Rattle.std.proofs.lemmas.List.{drop_all}
use Rattle.doc_tree.specs.TreeView.{view}
use Rattle.schema_nodes.proofs.Making.{ends}
use Rattle.schema_nodes.proofs.made.nodes_of.Goals as goal

pub returns : goal.returns
returns c = ends c.args.targets.now c.args.ranks.now (view c.args.root.now) c.args.places.now c.args.entries.now _ c.loop-number.nodes.items c.loop-number.invariant (drop_all c.loop-number.number-index c.args.places.now c.loop-number-test.false)
