-- A singular query selects one value at most, and is never refused.
use denote.Bor.{Bor}
use Rattle.std.proofs.Common.{◌≡◌, ◌⊎◌, ◌||◌, ◌++◌, ◌∙◌, false, length, subst, List, [], ◌∷◌, Option, Some, None, is_some, option_to_list, refl, sym, ap, inl, inr}
use Rattle.doc_tree.specs.Doc.{Doc, Place, index, child}
use Rattle.doc_tree.specs.declared.tree.Tree.{Tree}
use Rattle.path_plans.proofs.PlanValued.{values-listed, plan_refused-values}
use Rattle.path_select.proofs.Valued.{only_value-values, is_some_node-values}
use Rattle.path_select.specs.Comparing.{only_value, is_some_node}
use Rattle.path_plans.specs.Evaluating.{selected}
use Rattle.path_select.specs.Nodes.{Child, only_node}
use Rattle.path_plans.specs.Planned.{listed, plan_refused}
use Rattle.path_plans.specs.Planned as planned
use Rattle.path_plans.specs.PlanView.{way_selector, ways_plan}
use Rattle.path_plans.specs.PlanValues.{plan_values, values_barred, planned_from}
use Rattle.path_select.specs.Selectors.{found, from_front, item_if, item_count}
use Rattle.path_select.specs.Limit.{is_over}
use Rattle.path_select.specs.Values.{child_values, only, is_some_value}
use Rattle.path_select.specs.ChildView.{doc_if}
use Rattle.path_plans.specs.declared.plan.Way.{Way}
use Rattle.path_plans.specs.declared.plan.Way.TheVariants.{Name, Index}

-- one child at most is there
abbrev OneAtMost : List Child → Type 0
OneAtMost cs = (cs ≡ []) ⊎ ((c : Child) × (cs ≡ c ∷ []))

one-found : (p : Place) (o : Option Doc) → OneAtMost (found p o)
one-found p None = inl refl
one-found p (Some d) = inr ((p, d), refl)

one-item : (o : Option _) (d : Doc) → OneAtMost (item_if o d)
one-item None d = inl refl
one-item (Some i) d = one-found (index i) (child (index i) d)

one-way : (w : Way) (d : Doc) → OneAtMost (selected d (way_selector w) d)
one-way (Name s) d = one-found _ _
one-way (Index i) d = one-item (from_front (item_count d) i) d

ways-nil : (ws : List Way) → plan_values (ways_plan ws) [] ≡ []
ways-nil [] = refl
ways-nil (w ∷ ws) = ways-nil ws

ways-free-nil : (ws : List Way) → values_barred (ways_plan ws) [] ≡ false
ways-free-nil [] = refl
ways-free-nil (w ∷ ws) = ways-free-nil ws

-- the values of what a way selects
abbrev after : List Child → List Doc
after cs = child_values (cs ++ []) ++ []

free-after : (w : Way) (ws : List Way) (d : Doc) → ((e : Doc) → values_barred (ways_plan ws) (e ∷ []) ≡ false) → OneAtMost (selected d (way_selector w) d) → values_barred (ways_plan (w ∷ ws)) (d ∷ []) ≡ false
free-after w ws d rest (inl none) = subst (λ cs. (is_over (length (after cs)) || values_barred (ways_plan ws) (after cs)) ≡ false) (sym none) (ways-free-nil ws)
free-after w ws d rest (inr one) = subst (λ cs. (is_over (length (after cs)) || values_barred (ways_plan ws) (after cs)) ≡ false) (sym one.1) (rest one.0.1)

ways-free : (ws : List Way) (d : Doc) → values_barred (ways_plan ws) (d ∷ []) ≡ false
ways-free [] d = refl
ways-free (w ∷ ws) d = free-after w ws d (ways-free ws) (one-way w d)

pub ways_refused : (ws : List Way) (d : Doc) → plan_refused (ways_plan ws) (only_node d) ≡ false
ways_refused ws d = plan_refused-values (ways_plan ws) (only_node d) ∙ ways-free ws d

from-is : (q : planned.Plan) (d : Doc) → planned_from q d ≡ plan_values q (d ∷ [])
from-is q d = values-listed q (only_node d)

-- no child is there
pub ways_none : (w : Way) (ws : List Way) (d : Doc) → [] ≡ selected d (way_selector w) d → planned_from (ways_plan (w ∷ ws)) d ≡ []
ways_none w ws d none = from-is (ways_plan (w ∷ ws)) d ∙ ap (λ cs. plan_values (ways_plan ws) (after cs)) (sym none) ∙ ways-nil ws

-- the child is there
pub ways_next : (w : Way) (ws : List Way) (d : Doc) (c : Child) → c ∷ [] ≡ selected d (way_selector w) d → planned_from (ways_plan (w ∷ ws)) d ≡ planned_from (ways_plan ws) c.1
ways_next w ws d c one = from-is (ways_plan (w ∷ ws)) d ∙ ap (λ cs. plan_values (ways_plan ws) (after cs)) (sym one) ∙ sym (from-is (ways_plan ws) c.1)

pub ways_end : (d : Doc) → planned_from (ways_plan []) d ≡ d ∷ []
ways_end d = refl

-- ---- what filters ask of it

one_value : (o : Option Doc) (ds : List Doc) → option_to_list o ≡ ds → o ≡ only ds
one_value None ds is = ap only is
one_value (Some d) ds is = ap only is

some_value : (o : Option Doc) (ds : List Doc) → option_to_list o ≡ ds → is_some o ≡ is_some_value ds
some_value None ds is = ap is_some_value is
some_value (Some d) ds is = ap is_some_value is

some_lent : (r : Option (Bor Tree)) → is_some r ≡ is_some (doc_if r)
some_lent None = refl
some_lent (Some t) = refl

pub led_only : (r : Option (Bor Tree)) (q : planned.Plan) (d : Doc) → option_to_list (doc_if r) ≡ planned_from q d → doc_if r ≡ only_value (listed q (only_node d))
led_only r q d is = one_value (doc_if r) _ is ∙ sym (only_value-values (listed q (only_node d)))

pub led_there : (r : Option (Bor Tree)) (q : planned.Plan) (d : Doc) → option_to_list (doc_if r) ≡ planned_from q d → is_some r ≡ is_some_node (listed q (only_node d))
led_there r q d is = some_lent r ∙ some_value (doc_if r) _ is ∙ sym (is_some_node-values (listed q (only_node d)))
