use Rattle.std.proofs.Common.{◌≡◌, ◌+◌, drop, length}
use Rattle.doc_tree.specs.Doc.{get_member}
use Rattle.doc_tree.specs.TreeView.{members_view}
use Rattle.path_select.specs.Nodes.{member_children}
use Rattle.path_select.proofs.numbers.place_of.Given as goal

abbrev pub invariant-loop-key : goal.invariant-loop-key
invariant-loop-key l =
    (drop l.place (member_children (members_view l.members.entries)) ≡ member_children (members_view l.key-iterator))
    × (get_member l.name (members_view l.members.entries) ≡ get_member l.name (members_view l.key-iterator))
    × (l.place + length l.key-iterator ≡ length l.members.entries)
