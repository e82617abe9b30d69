use Rattle.std.proofs.Common.{◌≡◌, false, subst}
use Rattle.std.proofs.lemmas.Result.{err_from_is_err_and}
use Rattle.doc_tree.specs.Doc.{Doc}
use Rattle.path_parse.specs.SyntaxView.{query_view}
use Rattle.path_plans.specs.Planned.{listed, plan, plan_refused}
use Rattle.path_select.specs.Gives.{Stops}
use Rattle.path_select.specs.Nodes.{only_node}
use Rattle.path_select.specs.Paths.{all_spots}
use Rattle.path_eval.proofs.listing.list_by_numbers.Goals as goal

pub returns-in_err-listed : goal.returns-in_err-listed
returns-in_err-listed c =
    let q = query_view c.args.query.now in
    let p = err_from_is_err_and c.from_residual-in_err-listed.result c.from_residual-in_err-listed.ensures.1 in
    rw (p.1, p.2) (subst (λ (d : Doc). Stops c.in_err-listed.field-0.0 (plan_refused (plan d q) (only_node d))) c.in_ok-index.ensures.root c.in_err-listed.ensures)

pub returns : goal.returns
returns c =
    let q = query_view c.args.query.now in
    subst (λ (d : Doc). (plan_refused (plan d q) (only_node d) ≡ false) × (all_spots c.in_ok-index.index.walk.trail.items c.in_ok-listed.listed.items ≡ listed (plan d q) (only_node d))) c.in_ok-index.ensures.root c.in_ok-listed.ensures
