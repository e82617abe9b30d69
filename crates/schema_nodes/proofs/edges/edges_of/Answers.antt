use Rattle.std.proofs.lemmas.List.{drop_all}
use Rattle.doc_tree.specs.TreeView.{view}
use Rattle.schema_nodes.proofs.Edging.{edged}
use Rattle.schema_nodes.proofs.edges.edges_of.Goals as goal

pub returns : goal.returns
returns c = edged c.args.targets.now (view c.args.root.now) _ c.args.entries.now c.loop-entry.graph.items c.loop-entry.invariant (drop_all c.loop-entry.entry-index c.args.entries.now c.loop-entry-test.false)
