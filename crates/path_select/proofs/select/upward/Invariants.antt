use Rattle.std.proofs.Common.{◌≡◌, ◌-◌, ◌++◌, flat_map}
use Rattle.doc_tree.specs.TreeView.{view}
use Rattle.path_select.specs.Selectors as selectors
use Rattle.path_select.specs.Slicing as slicing
use Rattle.path_select.specs.ChildView.{children_of}
use Rattle.path_select.proofs.select.upward.Given as goal

abbrev pub invariant-loop-index : goal.invariant-loop-index
invariant-loop-index l =
    children_of l.found.items ++ flat_map (λ i. selectors.item i (view l.value)) (slicing.upward l.step l.index l.upper)
    ≡ flat_map (λ i. selectors.item i (view l.value)) (slicing.upward l.step l.lower l.upper)

abbrev pub decreases-loop-index : goal.decreases-loop-index
decreases-loop-index l = l.upper - l.index
