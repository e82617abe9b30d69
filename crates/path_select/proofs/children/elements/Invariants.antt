use Rattle.std.proofs.Common.{◌≡◌, ◌++◌, drop}
use Rattle.doc_tree.specs.TreeView.{elements_view}
use Rattle.path_select.specs.Nodes.{element_children}
use Rattle.path_select.specs.ChildView.{children_of}
use Rattle.path_select.proofs.children.elements.Given as goal

abbrev pub invariant-loop-index : goal.invariant-loop-index
invariant-loop-index l = children_of l.found.items ++ element_children l.index (elements_view (drop l.index l.value-items)) ≡ element_children 0 (elements_view l.value-items)
