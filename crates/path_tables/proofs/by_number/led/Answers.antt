use Rattle.std.proofs.Common.{◌≡◌, ◌++◌, ◌∙◌, ap, map, option_map, option_to_list, Some, subst, sym}
use Rattle.std.specs.List.{AllByRecursion}
use Rattle.doc_tree.specs.Doc.{child}
use Rattle.path_tables.proofs.ByNumber.{way_at}
use Rattle.path_plans.specs.Evaluating.{selected}
use Rattle.path_plans.specs.PlanView.{way_selector}
use Rattle.path_select.specs.Indexed.{at_number}
use Rattle.path_select.proofs.Trails.{if_made}
use Rattle.path_select.specs.Nodes.{child_at}
use Rattle.path_select.specs.ChildView.{child_of, children_of}
use Rattle.path_tables.proofs.by_number.led.Goals as goal

pub numbered-requires-clause-children : goal.numbered-requires-clause-children
numbered-requires-clause-children c =
    let u = at_number c.args.index.now c.args.number in
    let is : children_of c.in_ok-found.found.items ≡ selected u.1 (way_selector c.args.way) u.1 =
    c.in_ok-found.ensures ∙ ap (λ l. children_of l ++ option_to_list (option_map child_of c.child_on.result)) c.new.ensures.items
    ∙ c.child_on.ensures ∙ ap (λ d. selected d (way_selector c.args.way) d) c.value_of.ensures in
    subst (AllByRecursion (λ k. child k.0 u.1 ≡ Some k.1)) (sym is) (way_at c.args.way u.1)

pub returns : goal.returns
returns c =
    let u = at_number c.args.index.now c.args.number in
    let is : children_of c.in_ok-found.found.items ≡ selected u.1 (way_selector c.args.way) u.1 =
    c.in_ok-found.ensures ∙ ap (λ l. children_of l ++ option_to_list (option_map child_of c.child_on.result)) c.new.ensures.items
    ∙ c.child_on.ensures ∙ ap (λ d. selected d (way_selector c.args.way) d) c.value_of.ensures in
    if_made c.numbered.result (λ x h. h ∙ ap (map (child_at u.0)) is) c.numbered.ensures
