use Rattle.std.proofs.Common.{◌∙◌, ◌+◌, drop, sym, ap, arith}
use Rattle.std.proofs.lemmas.List.{drop_all}
use Rattle.std.proofs.lemmas.Result.{err_from_is_err_and}
use Rattle.doc_tree.specs.TreeView.{view}
use Rattle.path_select.specs.Nodes.{only_node}
use Rattle.path_plans.specs.PlanView.{plan_view, plan_segments_view}
use Rattle.path_plans.specs.Planned.{listed, plan_refused}
use Rattle.path_select.specs.Paths.{seen}
use Rattle.path_eval.proofs.Lists.{listing_stopped, listing_goes_on}
use Rattle.path_plans.proofs.PlanValued.{plan_view-is}
use Rattle.path_select.proofs.Trails.{drop_next}
use Rattle.path_eval.proofs.listing.list_by.Goals as goal

pub returns-in_err-walk : goal.returns-in_err-walk
returns-in_err-walk c =
    let q = c.args.plan.now in
    let root = view c.args.root.now in
    let l = c.loop-segment in
    let items = c.deref-segment-items.result.now in
    let p = err_from_is_err_and c.from_residual-in_err-walk.result c.from_residual-in_err-walk.ensures.1 in
    let is = plan_view-is q ∙ ap plan_segments_view (sym c.deref-segment-items.ensures.value) in
    let here = drop_next items l.segment-index c.segment-item.result c.loop-segment-test.true c.segment-item.is in
    rw (p.1, p.2) (listing_stopped root (plan_view q) c.in_err-walk.field-0.0 c.segment-item.result (drop (l.segment-index + 1) items) (seen l.walk)
    ((rw here at l.invariant.2) ∙ ap (λ s. plan_refused s (only_node root)) (sym is)) c.in_err-walk.ensures)

pub loop-segment-preserved : goal.loop-segment-preserved
loop-segment-preserved c =
    let root = view c.args.root.now in
    let l = c.loop-segment in
    let items = c.deref-segment-items.result.now in
    let rest = drop (l.segment-index + 1) items in
    let here = drop_next items l.segment-index c.segment-item.result c.loop-segment-test.true c.segment-item.is in
    let h = c.in_ok-walk.ensures in
    let on = listing_goes_on c.segment-item.result rest (seen l.walk) (seen c.in_ok-walk.walk) h.1 h.2 in (
      h.0,
      on.0 ∙ ap (λ s. listed (plan_segments_view s) (seen l.walk)) (sym here) ∙ l.invariant.1,
      on.1 ∙ ap (λ s. plan_refused (plan_segments_view s) (seen l.walk)) (sym here) ∙ l.invariant.2,
    )

pub returns : goal.returns
returns c =
    let q = c.args.plan.now in
    let root = view c.args.root.now in
    let l = c.loop-segment in
    let is = plan_view-is q ∙ ap plan_segments_view (sym c.deref-segment-items.ensures.value) in
    let none = drop_all l.segment-index c.deref-segment-items.result.now (omega arith) in (
      ap (λ s. plan_refused s (only_node root)) is ∙ sym (rw none at l.invariant.2),
      (rw none at l.invariant.1) ∙ ap (λ s. listed s (only_node root)) (sym is),
    )
