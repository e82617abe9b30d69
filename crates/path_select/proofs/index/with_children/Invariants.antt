use Rattle.std.proofs.Common.{◌≡◌, ◌++◌, drop, map}
use Rattle.path_select.specs.Nodes.{child_at}
use Rattle.path_select.specs.Paths.{GoesOn, location, seen}
use Rattle.path_select.specs.ChildView.{children_of}
use Rattle.path_select.proofs.index.with_children.Given as goal

abbrev pub invariant-loop-child : goal.invariant-loop-child
invariant-loop-child l =
    GoesOn l.initial.walked l.walked
    × (seen l.walked ++ map (child_at (location l.initial.walked.trail.items l.spot.place)) (children_of (drop l.child-index l.child-items))
    ≡ seen l.initial.walked ++ map (child_at (location l.initial.walked.trail.items l.spot.place)) (children_of l.child-items))
