-- The values of lists of nodes go by the values alone, in plans.
use Rattle.std.proofs.Common.{◌≡◌, ◌||◌, ◌∙◌, Bool, true, false, List, [], ◌∷◌, length, sym, ap, ap₂, refl}
use Rattle.std.specs.List.{list_any}
use Rattle.doc_tree.specs.Doc.{Doc}
use Rattle.path_plans.proofs.PlanRows.{plan_view-Plan}
use Rattle.path_select.proofs.Valued.{values-list_after, values-visited, list_any-values, length-values}
use Rattle.path_plans.specs.PlanView.{plan_view, plan_segments_view, choices_view}
use Rattle.path_plans.specs.PlanValues.{plan_values, values_barred, planned_from}
use Rattle.path_plans.specs.Planned.{done, step, all_taken, choices_refused, listed, plan_refused}
use Rattle.path_plans.specs.Planned as planned
use Rattle.path_plans.specs.declared.plan.Plan.{Plan, out-Plan, roll-out-Plan}
use Rattle.path_plans.specs.declared.plan.PlanSegment.{PlanSegment}
use Rattle.path_select.specs.Gives.{Stops}
use Rattle.path_select.specs.declared.stop.Stop.{Stop}
use Rattle.path_select.specs.declared.stop.Stop.TheVariants.{Memory, TooMany}
use Rattle.path_select.specs.Nodes.{Located, list_after, visited, only_node}
use Rattle.path_select.specs.Limit.{is_over}
use Rattle.path_select.specs.Values.{values, visited_values, values_after}

pub values-listed : (q : planned.Plan) (ns : List Located) → values (listed q ns) ≡ plan_values q (values ns)
values-listed done ns = refl
values-listed (step descend ss q) ns =
    values-listed q (list_after (all_taken ss) descend ns) ∙ ap (plan_values q) (values-list_after (all_taken ss) descend ns)

pub plan_refused-values : (q : planned.Plan) (ns : List Located) → plan_refused q ns ≡ values_barred q (values ns)
plan_refused-values done ns = refl
plan_refused-values (step descend ss q) ns =
    let after = list_after (all_taken ss) descend ns in
    let same = values-list_after (all_taken ss) descend ns in
    ap₂ (λ a b. a || b) (list_any-values (choices_refused ss) (visited descend ns) ∙ ap (list_any (choices_refused ss)) (values-visited descend ns))
    (ap₂ (λ a b. a || b) (ap is_over (sym (length-values after)) ∙ ap (λ ds. is_over (length ds)) same) (plan_refused-values q after ∙ ap (values_barred q) same))

pub plan_view-is : (q : Plan) → plan_view q ≡ plan_segments_view (out-Plan q).segments.items
plan_view-is q = ap plan_view (sym (roll-out-Plan q)) ∙ plan_view-Plan (out-Plan q).segments

module _ (d : Doc) (q : planned.Plan) (segments : List PlanSegment) (is : q ≡ plan_segments_view segments) (list : List Doc) where
  pub plan_done : plan_values done list ≡ plan_values (plan_segments_view segments) (d ∷ []) → values_barred done list ≡ values_barred (plan_segments_view segments) (d ∷ [])
      → (plan_refused q (only_node d) ≡ false) × (list ≡ planned_from q d)
  plan_done all refused = (rw is (plan_refused-values (plan_segments_view segments) (only_node d) ∙ sym refused), rw is (all ∙ sym (values-listed (plan_segments_view segments) (only_node d))))

  pub plan_stopped : (e : Stop) (s : PlanSegment) (rest : List PlanSegment) → values_barred (plan_segments_view (s ∷ rest)) list ≡ values_barred (plan_segments_view segments) (d ∷ [])
      → Stops e (list_any (choices_refused (choices_view s.choices.items)) (visited_values s.descend list) || is_over (length (values_after (all_taken (choices_view s.choices.items)) s.descend list)))
      → Stops e (plan_refused q (only_node d))
  plan_stopped Memory s rest refused stops = tt
  plan_stopped TooMany s rest refused stops =
      rw is (plan_refused-values (plan_segments_view segments) (only_node d) ∙ sym refused ∙ first (list_any (choices_refused (choices_view s.choices.items)) (visited_values s.descend list)) _ _ stops)
    where
      first : (a b c : Bool) → (a || b) ≡ true → (a || (b || c)) ≡ true
      first true b c h = refl
      first false b c h = ap (λ x. x || c) h
