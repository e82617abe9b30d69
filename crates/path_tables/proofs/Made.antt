-- Plans that are made part after part, and outcomes of absolute queries.
use denote.Bor.{Bor}
use Rattle.std.proofs.Common.{◌≡◌, ◌++◌, ◌∙◌, Bool, true, false, List, [], ◌∷◌, Option, Some, None, Result, Ok, Err, Vec, Global, refl, sym, ap, if◌then◌else◌}
use Rattle.std.proofs.lemmas.Grind.{common_steps}
use Rattle.doc_tree.specs.Doc.{Doc}
use Rattle.doc_tree.specs.declared.tree.Tree.{Tree}
use Rattle.path_grammar.specs.Syntax.{Segments, singular_query, value_of}
use Rattle.path_parse.proofs.Rows.{query_view-Query}
use Rattle.path_parse.specs.SyntaxView.{query_view, segments_view}
use Rattle.path_parse.specs.declared.syntax.Query.{Query, out-Query, roll-out-Query}
use Rattle.path_plans.specs.Evaluating.{nodelist}
use Rattle.path_select.specs.Nodes.{Located, only_node}
use Rattle.path_plans.specs.Planned as planned
use Rattle.path_plans.specs.Planned.{done, step, choice, no_choices, test, no_tests, found_of, plain, plan, plan_refused, plan_side}
use Rattle.path_plans.specs.PlanValues.{planned_from}
use Rattle.path_select.specs.Gives.{Gives}
use Rattle.path_plans.proofs.PlanLaws.{listed-plan, refused-plan}
use Rattle.path_plans.specs.PlanView.{choice_view, choices_view, plan_segments_view, test_view, tests_view, way_selector, ways_plan}
use Rattle.path_tables.specs.Planning.{FoundOf, KeptOf, made_of}
use Rattle.path_select.specs.Values.{values}
use Rattle.path_select.specs.ChildView.{docs_of}
use Rattle.path_plans.specs.declared.plan.PlanSelector.{PlanSelector}
use Rattle.path_plans.specs.declared.plan.PlanSegment.{PlanSegment}
use Rattle.path_plans.specs.declared.plan.PlanFilter.{PlanFilter}
use Rattle.path_plans.specs.declared.plan.Way.{Way}
use Rattle.path_select.specs.declared.stop.Stop.{Stop}
use Rattle.path_select.specs.declared.stop.Stop.TheVariants.{Memory, TooMany}

-- ---- what is made so far, before what is left

abbrev pub plan_segments_onto : List PlanSegment → planned.Plan → planned.Plan
plan_segments_onto [] p = p
plan_segments_onto (s ∷ ss) p = step s.descend (choices_view s.choices.items) (plan_segments_onto ss p)

abbrev pub choices_onto : List PlanSelector → planned.PlanSelectors → planned.PlanSelectors
choices_onto [] cs = cs
choices_onto (c ∷ more) cs = choice (choice_view c) (choices_onto more cs)

abbrev pub tests_onto : List PlanFilter → planned.PlanFilters → planned.PlanFilters
tests_onto [] ts = ts
tests_onto (t ∷ more) ts = test (test_view t) (tests_onto more ts)

abbrev pub ways_onto : List Way → planned.Plan → planned.Plan
ways_onto [] p = p
ways_onto (w ∷ ws) p = step false (choice (plain (way_selector w)) no_choices) (ways_onto ws p)

pub plan_segments_onto-more : (ss : List PlanSegment) (s : PlanSegment) (p : planned.Plan) → plan_segments_onto (ss ++ s ∷ []) p ≡ plan_segments_onto ss (step s.descend (choices_view s.choices.items) p)
plan_segments_onto-more [] s p = refl
plan_segments_onto-more (t ∷ ss) s p = ap (step t.descend (choices_view t.choices.items)) (plan_segments_onto-more ss s p)

pub plan_segments_onto-done : (ss : List PlanSegment) → plan_segments_onto ss done ≡ plan_segments_view ss
plan_segments_onto-done [] = refl
plan_segments_onto-done (s ∷ ss) = ap (step s.descend (choices_view s.choices.items)) (plan_segments_onto-done ss)

pub choices_onto-more : (cs : List PlanSelector) (c : PlanSelector) (rest : planned.PlanSelectors) → choices_onto (cs ++ c ∷ []) rest ≡ choices_onto cs (choice (choice_view c) rest)
choices_onto-more [] c rest = refl
choices_onto-more (d ∷ cs) c rest = ap (choice (choice_view d)) (choices_onto-more cs c rest)

pub choices_onto-none : (cs : List PlanSelector) → choices_onto cs no_choices ≡ choices_view cs
choices_onto-none [] = refl
choices_onto-none (c ∷ cs) = ap (choice (choice_view c)) (choices_onto-none cs)

pub tests_onto-more : (ts : List PlanFilter) (t : PlanFilter) (rest : planned.PlanFilters) → tests_onto (ts ++ t ∷ []) rest ≡ tests_onto ts (test (test_view t) rest)
tests_onto-more [] t rest = refl
tests_onto-more (u ∷ ts) t rest = ap (test (test_view u)) (tests_onto-more ts t rest)

pub tests_onto-none : (ts : List PlanFilter) → tests_onto ts no_tests ≡ tests_view ts
tests_onto-none [] = refl
tests_onto-none (t ∷ ts) = ap (test (test_view t)) (tests_onto-none ts)

pub ways_onto-more : (ws : List Way) (w : Way) (p : planned.Plan) → ways_onto (ws ++ w ∷ []) p ≡ ways_onto ws (step false (choice (plain (way_selector w)) no_choices) p)
ways_onto-more [] w p = refl
ways_onto-more (v ∷ ws) w p = ap (step false (choice (plain (way_selector v)) no_choices)) (ways_onto-more ws w p)

pub ways_onto-done : (ws : List Way) → ways_onto ws done ≡ ways_plan ws
ways_onto-done [] = refl
ways_onto-done (w ∷ ws) = ap (step false (choice (plain (way_selector w)) no_choices)) (ways_onto-done ws)

pub ruleset part_by_part = (plan_segments_onto-more, plan_segments_onto-done, choices_onto-more, choices_onto-none, tests_onto-more, tests_onto-none, ways_onto-more, ways_onto-done, common_steps)

-- ---- absolute queries

-- what a filter asks of the values that were found is what it asks of the nodes
pub outcome : {A : Type 0} (root : Doc) (q : Segments) (ask : List Located → A) (of_values : List Doc → A) (none : A) → ((ns : List Located) → ask ns ≡ of_values (values ns))
    → (found : Option (Vec (Bor Tree) Global)) → FoundOf root q found → made_of of_values none found ≡ found_of root q ask none
outcome root q ask of_values none same None h = sym (ap (λ b. (b, if b then none else ask (nodelist root q (only_node root)))) h)
outcome root q ask of_values none same (Some vs) h =
    let ns = nodelist root q (only_node root) in
    ap (λ x. (false, x)) (ap of_values h.1 ∙ sym (same ns)) ∙ sym (ap (λ b. (b, if b then none else ask ns)) h.0)

-- what was found by the plan of an absolute query
pub found_kept : (root : Doc) (q : Segments) (p : planned.Plan) → p ≡ plan root q → (r : Result (Vec (Bor Tree) Global) Stop) → Gives (λ found. docs_of found.items) r (plan_refused p (only_node root)) (planned_from p root)
    → (kept : Option (Vec (Bor Tree) Global)) → KeptOf r kept → FoundOf root q kept
found_kept root q p is (Ok vs) h (Some ws) k =
    let free = sym (refused-plan root q (only_node root)) ∙ ap (λ x. plan_refused x (only_node root)) (sym is) ∙ h.0 in
    let same : docs_of ws.items ≡ docs_of vs.items = cc in (
      free,
      same ∙ h.1 ∙ ap (λ x. planned_from x root) is ∙ ap values (listed-plan root q (only_node root) free),
    )
found_kept root q p is (Ok vs) h None k = absurd (cc)
found_kept root q p is (Err TooMany) h None k = sym (refused-plan root q (only_node root)) ∙ ap (λ x. plan_refused x (only_node root)) (sym is) ∙ h
found_kept root q p is (Err TooMany) h (Some ws) k = absurd (cc)
found_kept root q p is (Err Memory) h kept k = absurd (cc)

-- a singular query is planned as the value of one node is
pub single_side : (root : Doc) (from_root : Bool) (q : Segments) → plan_side root (value_of from_root q) ≡ plan_side root (singular_query from_root q)
single_side root true q = refl
single_side root false q = refl

-- ---- what a query is

pub query_view-is : (q : Query) → query_view q ≡ segments_view (out-Query q).segments.items
query_view-is q = ap query_view (sym (roll-out-Query q)) ∙ query_view-Query (out-Query q).segments
