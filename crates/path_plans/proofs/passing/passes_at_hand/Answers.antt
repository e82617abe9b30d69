use Rattle.std.proofs.Common.{◌∙◌, ap, sym}
use Rattle.doc_tree.specs.TreeView.{view}
use Rattle.path_plans.proofs.Ways.{led_there, ways_refused}
use Rattle.path_plans.specs.PlanValues.{planned_from}
use Rattle.path_plans.specs.PlanView.{test_view, ways_plan}
use Rattle.path_plans.specs.Planned.{passes, test_refused}
use Rattle.path_plans.proofs.passing.passes_at_hand.Goals as goal

pub returns-in-LeadsThere : goal.returns-in-LeadsThere
returns-in-LeadsThere c =
    let here = view c.args.here.now in
    let ways = c.in-LeadsThere.ways.items in
    let is = ap test_view c.in-LeadsThere.is in
    let led = c.led_to.ensures ∙ ap (λ ws. planned_from (ways_plan ws) here) c.deref.ensures.value in (
      ap (λ e. test_refused e here) is ∙ ways_refused ways here,
      c.is_some.ensures ∙ led_there c.led_to.result (ways_plan ways) here led ∙ ap (λ e. passes e here) (sym is),
    )
