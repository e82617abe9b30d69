use Rattle.std.proofs.Common.{◌∷◌, [], subst}
use Rattle.doc_tree.specs.TreeView.{view}
use Rattle.path_plans.specs.Planned.{Plan, listed, plan_refused}
use Rattle.path_select.specs.Gives.{Gives}
use Rattle.path_select.specs.Indexed.{at_numbers}
use Rattle.path_select.specs.Nodes.{Located, only_node}
use Rattle.path_tables.specs.FilterTables.{phases_view}
use Rattle.path_tables.proofs.lists.numbers_of_plan.Goals as goal

pub returns : goal.returns
returns c =
    let x = c.args.index.now in
    let us = only_node (view x.root.now) in
    let q = phases_view c.in_ok-phases.phases.items in
    subst (λ (p : Plan). Gives (λ f. at_numbers x f.items) c.numbers_from.result (plan_refused p us) (listed p us)) c.in_ok-phases.ensures.same
    (subst (λ (u : Located). Gives (λ f. at_numbers x f.items) c.numbers_from.result (plan_refused q (u ∷ [])) (listed q (u ∷ []))) c.requires.0 c.numbers_from.ensures)
