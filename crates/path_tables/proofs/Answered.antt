-- What tables say of tests is what the tests say.
use Rattle.std.proofs.Common.{◌≡◌, ◌<◌, ◌≤◌, ◌+◌, ◌++◌, ◌||◌, ◌&&◌, ◌∙◌, ℕ, zero, suc, Bool, false, List, [], ◌∷◌, not, append_assoc, append-nil, arith, drop, get_or, length, map, Result, Ok, Err, refl, sym, ap, ap₂, subst}
use Rattle.std.proofs.lemmas.List.{drop_all, length-map, map-append}
use Rattle.std.specs.List.{list_all, list_any}
use Rattle.doc_tree.specs.Doc.{Doc}
use Rattle.path_tables.proofs.ByNumber.{first_false, held_is, refused_is, second_false}
use Rattle.path_plans.proofs.PlanValued.{plan_refused-values, values-listed}
use Rattle.path_plans.specs.PlanValues.{planned_from}
use Rattle.path_plans.specs.Planned as planned
use Rattle.path_plans.specs.Planned.{all_pass, listed, no_tests, passes, plan_refused, some_pass, test, test_refused, tests_refused}
use Rattle.path_tables.specs.FilterTables.{TellEach, TellsAll, answer, is_held, is_refused, said_of}
use Rattle.path_tables.specs.declared.filter_table.FilterOutcome.{FilterOutcome}
use Rattle.path_tables.specs.declared.filter_table.FilterTable.{FilterTable}
use Rattle.path_select.specs.Indexed.{at_number}
use Rattle.path_select.specs.declared.index.Index.{Index}
use Rattle.path_select.specs.Gives.{Gives, Stops}
use Rattle.path_select.specs.Nodes.{Located, only_node}
use Rattle.path_select.specs.Values.{values}
use Rattle.path_select.specs.Paths.{seen, spot_of}
use Rattle.path_select.proofs.Trails.{drop_next}
use Rattle.path_select.specs.declared.stop.Stop.{Stop}

-- what is given by one description is given by another that is the same where nothing is refused
pub gives_by : {X Y : Type 0} (see : X → Y) (r : Result X Stop) (a b : Bool) (y z : Y) → a ≡ b → (b ≡ false → y ≡ z) → Gives see r a y → Gives see r b z
gives_by see (Ok x) a b y z same then h = let free = sym same ∙ h.0 in (free, h.1 ∙ then free)
gives_by see (Err e) a b y z same then h = subst (Stops e) same h

pub each_refused : (x : Index) (n : ℕ) (ts : planned.PlanFilters) (ws : List FilterTable) → TellEach x ts ws → list_any (is_refused n) ws ≡ tests_refused ts (at_number x n).1
each_refused x n no_tests [] h = refl
each_refused x n (test t ts) (w ∷ ws) h = ap₂ (λ a b. a || b) (refused_is x n t w h.0) (each_refused x n ts ws h.1)
each_refused x n no_tests (w ∷ ws) h = absurd h
each_refused x n (test t ts) [] h = absurd h

pub some_is : (x : Index) (n : ℕ) (ts : planned.PlanFilters) (ws : List FilterTable) → TellEach x ts ws → tests_refused ts (at_number x n).1 ≡ false → list_any (is_held n) ws ≡ some_pass ts (at_number x n).1
some_is x n no_tests [] h free = refl
some_is x n (test t ts) (w ∷ ws) h free =
    ap₂ (λ a b. a || b) (held_is x n t w h.0 (first_false (test_refused t (at_number x n).1) _ free)) (some_is x n ts ws h.1 (second_false (test_refused t (at_number x n).1) _ free))
some_is x n no_tests (w ∷ ws) h free = absurd h
some_is x n (test t ts) [] h free = absurd h

pub all_is : (x : Index) (n : ℕ) (ts : planned.PlanFilters) (ws : List FilterTable) → TellEach x ts ws → tests_refused ts (at_number x n).1 ≡ false → list_all (is_held n) ws ≡ all_pass ts (at_number x n).1
all_is x n no_tests [] h free = refl
all_is x n (test t ts) (w ∷ ws) h free =
    ap₂ (λ a b. a && b) (held_is x n t w h.0 (first_false (test_refused t (at_number x n).1) _ free)) (all_is x n ts ws h.1 (second_false (test_refused t (at_number x n).1) _ free))
all_is x n no_tests (w ∷ ws) h free = absurd h
all_is x n (test t ts) [] h free = absurd h

-- ---- where a node stands is of no account for the values that a plan selects from it on

pub refused_anywhere : (q : planned.Plan) (u : Located) → plan_refused q (u ∷ []) ≡ plan_refused q (only_node u.1)
refused_anywhere q u = plan_refused-values q (u ∷ []) ∙ sym (plan_refused-values q (only_node u.1))

pub listed_anywhere : (q : planned.Plan) (u : Located) → values (listed q (u ∷ [])) ≡ planned_from q u.1
listed_anywhere q u = values-listed q (u ∷ []) ∙ sym (values-listed q (only_node u.1))

-- ---- node after node

same_default : {A : Type 0} (l : List A) (n : ℕ) (d e : A) → n < length l → get_or l n d ≡ get_or l n e
same_default [] n d e lt = absurd (omega (arith, lt))
same_default (y ∷ l) zero d e lt = refl
same_default (y ∷ l) (suc n) d e lt = same_default l n d e (omega (arith, lt))

pub node_next : (x : Index) (n : ℕ) → n < length x.walk.listed.items → drop n (seen x.walk) ≡ at_number x n ∷ drop (n + 1) (seen x.walk)
node_next x n lt =
    let k = length-map x.walk.listed.items (spot_of x.walk.trail.items) in
    drop_next (seen x.walk) n (at_number x n) (omega (arith, lt, k)) (same_default (seen x.walk) n _ _ (omega (arith, lt, k)))

-- one node more is told
pub told_next : (x : Index) (t : planned.PlanFilter) (n : ℕ) (said more : List FilterOutcome) (s : FilterOutcome) (total : List (Bool × Bool)) → n < length x.walk.listed.items
    → map said_of said ++ map (λ u. answer t u.1) (drop n (seen x.walk)) ≡ total → more ≡ said ++ s ∷ [] → said_of s ≡ answer t (at_number x n).1
    → map said_of more ++ map (λ u. answer t u.1) (drop (n + 1) (seen x.walk)) ≡ total
told_next x t n said more s total lt so_far is same =
    let rest = map (λ u. answer t u.1) (drop (n + 1) (seen x.walk)) in
    ap (λ l. map said_of l ++ rest) is ∙ ap (λ l. l ++ rest) (map-append said_of said (s ∷ [])) ∙ append_assoc (map said_of said) (said_of s ∷ []) rest
    ∙ ap (λ a. map said_of said ++ a ∷ rest) same ∙ ap (λ us. map said_of said ++ map (λ u. answer t u.1) us) (sym (node_next x n lt)) ∙ so_far

pub told_done : (x : Index) (t : planned.PlanFilter) (n : ℕ) (said : List FilterOutcome) (total : List (Bool × Bool)) → length x.walk.listed.items ≤ n
    → map said_of said ++ map (λ u. answer t u.1) (drop n (seen x.walk)) ≡ total → map said_of said ≡ total
told_done x t n said total le so_far =
    let k = length-map x.walk.listed.items (spot_of x.walk.trail.items) in
    sym (append-nil (map said_of said)) ∙ ap (λ us. map said_of said ++ map (λ u. answer t u.1) us) (sym (drop_all n (seen x.walk) (omega (arith, le, k)))) ∙ so_far

-- ---- what several tables give

module _ (x : Index) (n : ℕ) where
  abbrev d : Doc
  d = (at_number x n).1

  pub some_gives : (ts : planned.PlanFilters) (ws : List FilterTable) (r : Result Bool Stop) → TellEach x ts ws → Gives (λ b. b) r (list_any (is_refused n) ws) (list_any (is_held n) ws) → Gives (λ b. b) r (tests_refused ts d) (some_pass ts d)
  some_gives ts ws r h g = gives_by (λ b. b) r _ _ _ _ (each_refused x n ts ws h) (some_is x n ts ws h) g

  pub all_gives : (ts : planned.PlanFilters) (ws : List FilterTable) (r : Result Bool Stop) → TellEach x ts ws → Gives (λ b. b) r (list_any (is_refused n) ws) (list_all (is_held n) ws) → Gives (λ b. b) r (tests_refused ts d) (all_pass ts d)
  all_gives ts ws r h g = gives_by (λ b. b) r _ _ _ _ (each_refused x n ts ws h) (all_is x n ts ws h) g

  pub not_gives : (t : planned.PlanFilter) (w : FilterTable) (r : Result Bool Stop) → TellsAll x t w → Gives (λ b. b) r (is_refused n w) (not (is_held n w)) → Gives (λ b. b) r (test_refused t d) (not (passes t d))
  not_gives t w r h g = gives_by (λ b. b) r _ _ _ _ (refused_is x n t w h) (λ free. ap not (held_is x n t w h free)) g
