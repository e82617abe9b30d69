use Rattle.std.proofs.Common.{◌≡◌, ◌∙◌, false, subst}
use Rattle.std.proofs.lemmas.Result.{err_from_is_err_and}
use Rattle.doc_tree.specs.TreeView.{view}
use Rattle.path_plans.specs.Planned.{Plan, listed, plan_refused}
use Rattle.path_select.specs.Gives.{Stops}
use Rattle.path_select.specs.Indexed.{at_numbers}
use Rattle.path_select.specs.Nodes.{only_node}
use Rattle.path_eval.proofs.listing.spots_by_numbers.Goals as goal

pub returns-in_err-numbers : goal.returns-in_err-numbers
returns-in_err-numbers c =
    let us = only_node (view c.args.index.now.root.now) in
    let p = err_from_is_err_and c.from_residual-in_err-numbers.result c.from_residual-in_err-numbers.ensures.1 in
    rw (p.1, p.2) (subst (λ (q : Plan). Stops c.in_err-numbers.field-0.0 (plan_refused q us)) c.in_ok-plan.ensures c.in_err-numbers.ensures)

pub returns : goal.returns
returns c =
    let x = c.args.index.now in
    let us = only_node (view x.root.now) in
    let h = subst (λ (q : Plan). (plan_refused q us ≡ false) × (at_numbers x c.in_ok-numbers.numbers.items ≡ listed q us)) c.in_ok-plan.ensures c.in_ok-numbers.ensures in
    (h.0, c.in_ok-spots_of.ensures ∙ h.1)
