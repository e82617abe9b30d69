use Rattle.std.proofs.Common.{◌≡◌, ◌++◌}
use Rattle.doc_tree.specs.TreeView.{view, members_view}
use Rattle.schema_nodes.specs.Edges.{edges_in}
use Rattle.schema_nodes.proofs.edges.edges_in.Given as goal

abbrev pub invariant-loop-name : goal.invariant-loop-name
invariant-loop-name l = l.found.items ++ edges_in l.targets (view l.root) (members_view l.name-iterator.a) l.name-iterator.b.rest.now ≡ edges_in l.targets (view l.root) (members_view l.members.entries) l.rows
