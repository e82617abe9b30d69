use Rattle.std.proofs.Common.{◌≡◌, ◌++◌, drop}
use Rattle.doc_tree.specs.TreeView.{elements_view, members_view}
use Rattle.path_select.specs.Nodes.{element_descendants, member_descendants}
use Rattle.path_select.specs.Values.{values}
use Rattle.path_select.specs.ChildView.{docs_of}
use Rattle.path_select.proofs.below.+below.Given as goal

abbrev pub invariant-and_below_elements-loop-item : goal.invariant-and_below_elements-loop-item
invariant-and_below_elements-loop-item l =
    docs_of l.all.items ++ values (element_descendants l.item-index (elements_view (drop l.item-index l.item-items))) ≡ docs_of l.initial.all.items ++ values (element_descendants 0 (elements_view l.item-items))

abbrev pub invariant-and_below_members-loop-member : goal.invariant-and_below_members-loop-member
invariant-and_below_members-loop-member l =
    docs_of l.all.items ++ values (member_descendants (members_view l.member-iterator)) ≡ docs_of l.initial.all.items ++ values (member_descendants (members_view l.initial.member-iterator))
