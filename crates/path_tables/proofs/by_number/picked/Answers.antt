use Rattle.std.proofs.Common.{◌∙◌, ap, filter, map, subst, sym}
use Rattle.std.specs.List.{list_any}
use Rattle.path_tables.proofs.ByNumber.{any-children, filter-children, gives_at, held_passes, held_refused}
use Rattle.path_plans.specs.PlanView.{choice_view, test_view}
use Rattle.path_plans.specs.Planned.{choice_refused, passes, taken, test_refused}
use Rattle.path_tables.specs.FilterTables.{IsRightFor}
use Rattle.path_select.specs.Indexed.{at_number, at_numbers}
use Rattle.path_select.specs.Gives.{Gives}
use Rattle.path_select.specs.Nodes.{child_at, children}
use Rattle.path_tables.proofs.by_number.picked.Goals as goal

pub returns-in_ok-children-in-Kept : goal.returns-in_ok-children-in-Kept
returns-in_ok-children-in-Kept c =
    let x = c.args.index.now in
    let u = at_number x c.args.number in
    let t = test_view c.in-Kept._test in
    let told = c.args.pick.now.told in
    let is = ap choice_view c.in-Kept.is in
    let right = subst (λ s. IsRightFor x s told) is c.requires.right in
    let ks = c.in_ok-children-in-Kept.children.items in
    let family = c.in_ok-children-in-Kept.ensures in
    let same = held_refused x t told right ks in
    subst (λ s. Gives (λ f. at_numbers x f.items) c.held.result (choice_refused s u.1) (map (child_at u.0) (taken s u.1))) (sym is)
    (gives_at x c.held.result _ (list_any (λ k. test_refused t k.1) (children u.1)) _ (map (child_at u.0) (filter (λ k. passes t k.1) (children u.1)))
    (same ∙ ap (list_any (λ v. test_refused t v.1)) family ∙ any-children (test_refused t) u.0 (children u.1))
    (λ free. held_passes x t told right ks (ap (list_any (λ v. test_refused t v.1)) family ∙ any-children (test_refused t) u.0 (children u.1) ∙ free) ∙ ap (filter (λ v. passes t v.1)) family ∙ filter-children (passes t) u.0 (children u.1))
    c.held.ensures)
