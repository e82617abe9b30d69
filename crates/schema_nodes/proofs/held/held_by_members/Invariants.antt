use Rattle.doc_tree.specs.TreeView.{members_view}
use Rattle.schema_nodes.proofs.Holding.{Holding}
use Rattle.schema_nodes.proofs.held.held_by_members.Given as goal

abbrev pub invariant-loop-name : goal.invariant-loop-name
invariant-loop-name l = Holding (members_view l.members.entries) l.rows (members_view l.name-iterator.a) l.name-iterator.b.rest.now l.all.items
