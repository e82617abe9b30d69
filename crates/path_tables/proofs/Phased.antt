-- Plans by the numbers of nodes, made part after part.
use Rattle.std.proofs.Common.{◌≡◌, ◌++◌, List, [], ◌∷◌, refl, sym, ap, subst}
use Rattle.std.proofs.lemmas.Grind.{common_steps}
use Rattle.path_plans.specs.PlanView.{choice_view}
use Rattle.path_plans.specs.Planned as planned
use Rattle.path_plans.specs.Planned.{choice, done, no_choices, no_tests, step, test}
use Rattle.path_tables.specs.FilterTables.{AreAllRight, AreRight, IsRight, TellEach, TellsAll, phases_view, picks_view}
use Rattle.path_tables.specs.declared.table_plan.TableSegment.{TableSegment}
use Rattle.path_tables.specs.declared.table_plan.TableSelector.{TableSelector}
use Rattle.path_tables.specs.declared.filter_table.FilterTable.{FilterTable}
use Rattle.path_select.specs.declared.index.Index.{Index}

abbrev pub picks_onto : List TableSelector → planned.PlanSelectors → planned.PlanSelectors
picks_onto [] cs = cs
picks_onto (p ∷ ps) cs = choice (choice_view p.choice.now) (picks_onto ps cs)

abbrev pub phases_onto : List TableSegment → planned.Plan → planned.Plan
phases_onto [] q = q
phases_onto (p ∷ ps) q = step p.descend (picks_view p.picks.items) (phases_onto ps q)

pub picks_onto-more : (ps : List TableSelector) (p : TableSelector) (cs : planned.PlanSelectors) → picks_onto (ps ++ p ∷ []) cs ≡ picks_onto ps (choice (choice_view p.choice.now) cs)
picks_onto-more [] p cs = refl
picks_onto-more (q ∷ ps) p cs = ap (choice (choice_view q.choice.now)) (picks_onto-more ps p cs)

pub picks_onto-none : (ps : List TableSelector) → picks_onto ps no_choices ≡ picks_view ps
picks_onto-none [] = refl
picks_onto-none (p ∷ ps) = ap (choice (choice_view p.choice.now)) (picks_onto-none ps)

pub phases_onto-more : (ps : List TableSegment) (p : TableSegment) (q : planned.Plan) → phases_onto (ps ++ p ∷ []) q ≡ phases_onto ps (step p.descend (picks_view p.picks.items) q)
phases_onto-more [] p q = refl
phases_onto-more (r ∷ ps) p q = ap (step r.descend (picks_view r.picks.items)) (phases_onto-more ps p q)

pub phases_onto-done : (ps : List TableSegment) → phases_onto ps done ≡ phases_view ps
phases_onto-done [] = refl
phases_onto-done (p ∷ ps) = ap (step p.descend (picks_view p.picks.items)) (phases_onto-done ps)

pub right_more : (x : Index) (ps : List TableSelector) (p : TableSelector) → AreRight x ps → IsRight x p → AreRight x (ps ++ p ∷ [])
right_more x [] p h k = (k, tt)
right_more x (q ∷ ps) p h k = (h.0, right_more x ps p h.1 k)

pub all_right_more : (x : Index) (ps : List TableSegment) (p : TableSegment) → AreAllRight x ps → AreRight x p.picks.items → AreAllRight x (ps ++ p ∷ [])
all_right_more x [] p h k = (k, tt)
all_right_more x (q ∷ ps) p h k = (h.0, all_right_more x ps p h.1 k)

-- the tables tell the first tests, and the others are left
abbrev pub TellFirst : Index → planned.PlanFilters → List FilterTable → planned.PlanFilters → Type 0
TellFirst x ts [] left = ts ≡ left
TellFirst x no_tests (w ∷ ws) left = ⊥
TellFirst x (test t ts) (w ∷ ws) left = TellsAll x t w × TellFirst x ts ws left

pub tell_more : (x : Index) (ts : planned.PlanFilters) (ws : List FilterTable) (t : planned.PlanFilter) (left : planned.PlanFilters) (w : FilterTable) → TellFirst x ts ws (test t left) → TellsAll x t w → TellFirst x ts (ws ++ w ∷ []) left
tell_more x (test u ts) [] t left w h k =
    let first : u ≡ t = cc in
    let rest : ts ≡ left = cc in
    (subst (λ (v : planned.PlanFilter). TellsAll x v w) (sym first) k, rest)
tell_more x no_tests [] t left w h k = absurd (cc)
tell_more x no_tests (v ∷ ws) t left w h k = absurd h
tell_more x (test u ts) (v ∷ ws) t left w h k = (h.0, tell_more x ts ws t left w h.1 k)

pub tell_all : (x : Index) (ts : planned.PlanFilters) (ws : List FilterTable) → TellFirst x ts ws no_tests → TellEach x ts ws
tell_all x no_tests [] h = tt
tell_all x (test t ts) [] h = absurd (cc)
tell_all x no_tests (w ∷ ws) h = absurd h
tell_all x (test t ts) (w ∷ ws) h = (h.0, tell_all x ts ws h.1)

pub ruleset phase_by_phase = (picks_onto-more, picks_onto-none, phases_onto-more, phases_onto-done, right_more, all_right_more, common_steps)
