use Rattle.std.proofs.Common.{◌∙◌, ap, sym}
use Rattle.doc_tree.specs.TreeView.{view}
use Rattle.path_plans.proofs.Ways.{led_only, ways_refused}
use Rattle.path_plans.specs.PlanValues.{planned_from}
use Rattle.path_plans.specs.PlanView.{term_view, ways_plan}
use Rattle.path_plans.specs.Planned.{side_refused, side_value}
use Rattle.path_plans.proofs.passing.at_hand.Goals as goal

pub returns-in-LedTo : goal.returns-in-LedTo
returns-in-LedTo c =
    let here = view c.args.here.now in
    let ways = c.in-LedTo.ways.items in
    let is = ap term_view c.in-LedTo.is in
    let led = c.led_to.ensures ∙ ap (λ ws. planned_from (ways_plan ws) here) c.deref.ensures.value in (
      ap (λ o. side_refused o here) is ∙ ways_refused ways here,
      led_only c.led_to.result (ways_plan ways) here led ∙ ap (λ o. side_value o here) (sym is),
    )
