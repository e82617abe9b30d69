use Rattle.std.proofs.Common.{◌≡◌}
use Rattle.doc_tree.specs.TreeView.{members_view}
use Rattle.schema_nodes.specs.Fits.{row_named}
use Rattle.schema_nodes.proofs.names.row_named.Given as goal

abbrev pub invariant-loop-key : goal.invariant-loop-key
invariant-loop-key l = row_named l.name (members_view l.key-iterator.a) l.key-iterator.b.rest.now ≡ row_named l.name (members_view l.members.entries) l.rows
