use Rattle.std.proofs.Common.{◌≡◌, ◌-◌, ◌++◌, flat_map}
use Rattle.doc_tree.specs.TreeView.{view}
use Rattle.path_select.specs.Selectors as selectors
use Rattle.path_select.specs.Slicing as slicing
use Rattle.path_select.specs.ChildView.{children_of}
use Rattle.path_select.proofs.select.downward.Given as goal

abbrev pub invariant-loop-above : goal.invariant-loop-above
invariant-loop-above l =
    children_of l.found.items ++ flat_map (λ i. selectors.item i (view l.value)) (slicing.downward l.step l.lower l.above)
    ≡ flat_map (λ i. selectors.item i (view l.value)) (slicing.downward l.step l.lower l.upper)

abbrev pub decreases-loop-above : goal.decreases-loop-above
decreases-loop-above l = l.above - l.lower
