use Rattle.std.proofs.Common.{◌≡◌, ◌++◌}
use Rattle.doc_tree.specs.TreeView.{members_view}
use Rattle.path_select.specs.Nodes.{member_children}
use Rattle.path_select.specs.ChildView.{children_of}
use Rattle.path_select.proofs.children.members.Given as goal

abbrev pub invariant-loop-name : goal.invariant-loop-name
invariant-loop-name l = children_of l.found.items ++ member_children (members_view l.name-iterator) ≡ member_children (members_view l.initial.name-iterator)
