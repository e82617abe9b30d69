use Rattle.std.proofs.Common.{◌∙◌, ◌+◌, ap, drop, option_to_list, sym}
use Rattle.doc_tree.specs.TreeView.{view}
use Rattle.path_plans.specs.PlanValues.{planned_from}
use Rattle.path_plans.specs.PlanView.{ways_plan}
use Rattle.path_select.specs.ChildView.{child_of, doc_if}
use Rattle.path_select.proofs.Trails.{drop_next}
use Rattle.path_plans.proofs.Ways.{ways_next, ways_none}
use Rattle.path_plans.proofs.passing.led_to.Goals as goal

pub returns-in_err-value : goal.returns-in_err-value
returns-in_err-value c =
    let l = c.loop-way in
    let ways = c.args.ways.now in
    let d = view l.value.now in
    let here = drop_next ways l.way-index c.way-item.result c.loop-way-test.true c.way-item.is in
    ap (λ o. option_to_list (doc_if o)) c.from_residual.ensures
    ∙ sym (ways_none c.way-item.result (drop (l.way-index + 1) ways) d c.in_err-value.ensures)
    ∙ ap (λ ws. planned_from (ways_plan ws) d) (sym here) ∙ l.invariant

pub loop-way-preserved : goal.loop-way-preserved
loop-way-preserved c =
    let l = c.loop-way in
    let ways = c.args.ways.now in
    let d = view l.value.now in
    let here = drop_next ways l.way-index c.way-item.result c.loop-way-test.true c.way-item.is in
    sym (ways_next c.way-item.result (drop (l.way-index + 1) ways) d (child_of c.in_ok-value.field-0) c.in_ok-value.ensures)
    ∙ ap (λ ws. planned_from (ways_plan ws) d) (sym here) ∙ l.invariant
