use Rattle.std.proofs.Common.{◌≡◌, drop, length}
use Rattle.doc_tree.specs.TreeView.{view}
use Rattle.path_select.specs.Nodes.{only_node}
use Rattle.path_plans.specs.PlanView.{plan_segments_view}
use Rattle.path_plans.specs.Planned.{listed, plan_refused}
use Rattle.path_select.specs.Paths.{seen, stand}
use Rattle.path_eval.proofs.listing.list_by.Given as goal

abbrev pub invariant-loop-segment : goal.invariant-loop-segment
invariant-loop-segment l =
    stand (length l.walk.trail.items) l.walk.listed.items
    × (listed (plan_segments_view (drop l.segment-index l.segment-items)) (seen l.walk) ≡ listed (plan_segments_view l.segment-items) (only_node (view l.root)))
    × (plan_refused (plan_segments_view (drop l.segment-index l.segment-items)) (seen l.walk) ≡ plan_refused (plan_segments_view l.segment-items) (only_node (view l.root)))
