use Rattle.std.proofs.Common.{◌≡◌, ◌++◌, map, string_bytes}
use Rattle.doc_tree.specs.Lists.{names_list}
use Rattle.doc_tree.specs.TreeView.{members_view}
use Rattle.schema_nodes.proofs.rules.names_in.Given as goal

abbrev pub invariant-loop-name : goal.invariant-loop-name
invariant-loop-name l = map string_bytes l.names.items ++ names_list (members_view l.name-iterator) ≡ names_list (members_view l.members.entries)
