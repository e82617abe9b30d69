-- What plans give by the numbers of nodes.
use Rattle.std.proofs.Common.{string_bytes, ◌≡◌, ◌||◌, ◌∙◌, ℕ, ℤ, pos, Bool, true, false, cond, Option, List, [], ◌∷◌, map, filter, length, get_or, Some, Result, Ok, Err, Vec, Global, refl, sym, ap, ap₂, subst}
use Rattle.std.proofs.Math.ListN.{get_or-map}
use Rattle.std.specs.List.{AllByRecursion, list_any}
use Rattle.std.specs.Option.{unwrap_or}
use Rattle.doc_tree.specs.Doc.{Doc, Place, name, child}
use Rattle.doc_tree.specs.TreeView.{view}
use Rattle.path_tables.proofs.Chosen.{every, found_at, item_at}
use Rattle.path_plans.specs.Evaluating.{selected}
use Rattle.path_plans.specs.PlanView.{way_selector}
use Rattle.path_plans.specs.Planned as planned
use Rattle.path_plans.specs.Planned.{all_taken, choices_refused, listed, passes, plan_refused, test_refused}
use Rattle.path_tables.specs.FilterTables.{Tells, TellsAll, answer, is_held, phases_view, picks_view, is_refused, said_at, said_of}
use Rattle.path_tables.specs.Visiting.{refused_at, selected_at}
use Rattle.path_tables.specs.declared.table_plan.TableSegment.{TableSegment}
use Rattle.path_plans.specs.declared.plan.Way.{Way}
use Rattle.path_plans.specs.declared.plan.Way.TheVariants.{Name, Index}
use Rattle.path_tables.specs.declared.filter_table.FilterTable.{FilterTable}
use Rattle.path_select.specs.Indexed.{at_number, at_numbers, node_at}
use Rattle.path_select.specs.declared.index.Index as numbered
use Rattle.path_select.specs.Gives.{Gives, Stops}
use Rattle.path_select.specs.Paths.{seen}
use Rattle.path_select.specs.Limit.{is_over}
use Rattle.path_select.specs.Nodes.{Located, Child, child_at, visited}
use Rattle.path_select.specs.Selectors.{from_front, item_count, slice_indexes, sliced}
use Rattle.path_select.specs.declared.stop.Stop.{Stop}
use Rattle.path_select.specs.declared.stop.Stop.TheVariants.{Memory, TooMany}

-- what a table has at a number is what the test says of the node there
pub tells_at : (root : Doc) (us : List Located) (t : planned.PlanFilter) (x : FilterTable) (n : ℕ) → Tells root us t x → said_of (said_at x n) ≡ answer t (node_at root us n).1
tells_at root us t x n h =
    sym (get_or-map said_of x.said.items n x.top) ∙ ap₂ (λ l d. get_or l n d) h.0 h.1 ∙ get_or-map (λ u. answer t u.1) us n ([], root)

pub refused_is : (x : numbered.Index) (n : ℕ) (t : planned.PlanFilter) (w : FilterTable) → TellsAll x t w → is_refused n w ≡ test_refused t (at_number x n).1
refused_is x n t w h = ap (λ s. s.0) (tells_at (view x.root.now) (seen x.walk) t w n h)

pub held_is : (x : numbered.Index) (n : ℕ) (t : planned.PlanFilter) (w : FilterTable) → TellsAll x t w → test_refused t (at_number x n).1 ≡ false → is_held n w ≡ passes t (at_number x n).1
held_is x n t w h free = ap (λ s. s.1) (tells_at (view x.root.now) (seen x.walk) t w n h) ∙ ap (λ r. cond r false (passes t (at_number x n).1)) free

pub first_false : (a b : Bool) → (a || b) ≡ false → a ≡ false
first_false false b h = refl
first_false true b h = absurd (cc)

pub second_false : (a b : Bool) → (a || b) ≡ false → b ≡ false
second_false false b h = h
second_false true b h = absurd (cc)

-- ---- those of which a filter holds, by its table

module _ (x : numbered.Index) (t : planned.PlanFilter) (w : FilterTable) (h : TellsAll x t w) where
  pub held_refused : (ns : List ℕ) → list_any (λ n. is_refused n w) ns ≡ list_any (λ u. test_refused t u.1) (at_numbers x ns)
  held_refused [] = refl
  held_refused (n ∷ ns) = ap₂ (λ a b. a || b) (refused_is x n t w h) (held_refused ns)

  both_keep : (n : ℕ) (ns : List ℕ) (us : List Located) (b c : Bool) → b ≡ c → at_numbers x ns ≡ us → at_numbers x (cond b (n ∷ ns) ns) ≡ cond c (at_number x n ∷ us) us
  both_keep n ns us true true e r = ap (λ l. at_number x n ∷ l) r
  both_keep n ns us false false e r = r
  both_keep n ns us true false e r = absurd (cc)
  both_keep n ns us false true e r = absurd (cc)

  pub held_passes : (ns : List ℕ) → list_any (λ u. test_refused t u.1) (at_numbers x ns) ≡ false → at_numbers x (filter (λ n. is_held n w) ns) ≡ filter (λ u. passes t u.1) (at_numbers x ns)
  held_passes [] free = refl
  held_passes (n ∷ ns) free =
      both_keep n (filter (λ m. is_held m w) ns) (filter (λ u. passes t u.1) (at_numbers x ns)) (is_held n w) (passes t (at_number x n).1)
      (held_is x n t w h (first_false (test_refused t (at_number x n).1) _ free)) (held_passes ns (second_false (test_refused t (at_number x n).1) _ free))

-- ---- filters over children

pub filter-children : (test : Doc → Bool) (p : List Place) (cs : List Child) → filter (λ u. test u.1) (map (child_at p) cs) ≡ map (child_at p) (filter (λ c. test c.1) cs)
filter-children test p [] = refl
filter-children test p (c ∷ cs) = keep (test c.1) (filter-children test p cs)
  where
    keep : (b : Bool) → filter (λ u. test u.1) (map (child_at p) cs) ≡ map (child_at p) (filter (λ c. test c.1) cs)
        → cond b (child_at p c ∷ filter (λ u. test u.1) (map (child_at p) cs)) (filter (λ u. test u.1) (map (child_at p) cs)) ≡ map (child_at p) (cond b (c ∷ filter (λ c. test c.1) cs) (filter (λ c. test c.1) cs))
    keep true h = ap (λ l. child_at p c ∷ l) h
    keep false h = h

pub any-children : (test : Doc → Bool) (p : List Place) (cs : List Child) → list_any (λ u. test u.1) (map (child_at p) cs) ≡ list_any (λ c. test c.1) cs
any-children test p [] = refl
any-children test p (c ∷ cs) = ap (λ b. test c.1 || b) (any-children test p cs)

-- ---- what is selected are children

pub way_at : (w : Way) (d : Doc) → AllByRecursion (λ c. child c.0 d ≡ Some c.1) (selected d (way_selector w) d)
way_at (Name s) d = found_at (name (string_bytes s.now)) d
way_at (Index i) d = item_at (from_front (item_count d) i) d

pub sliced_at : (start stop step : Option ℤ) (d : Doc) → AllByRecursion (λ c. child c.0 d ≡ Some c.1) (sliced start stop step d)
sliced_at start stop step d = every (slice_indexes (item_count d) start stop (unwrap_or step (pos 1))) d

-- ---- segment after segment

passed : (a b c : Bool) → (a || b) ≡ false → c ≡ (a || (b || c))
passed true b c h = absurd (cc)
passed false true c h = absurd (cc)
passed false false c h = refl

pub phase_goes_on : (p : TableSegment) (phases : List TableSegment) (list next : List Located)
    → (refused_at (picks_view p.picks.items) (visited p.descend list) || is_over (length (selected_at (picks_view p.picks.items) (visited p.descend list)))) ≡ false
    → next ≡ selected_at (picks_view p.picks.items) (visited p.descend list)
    → (listed (phases_view phases) next ≡ listed (phases_view (p ∷ phases)) list) × (plan_refused (phases_view phases) next ≡ plan_refused (phases_view (p ∷ phases)) list)
phase_goes_on p phases list next h is = (
  ap (listed (phases_view phases)) is,
  ap (plan_refused (phases_view phases)) is ∙ passed (refused_at (picks_view p.picks.items) (visited p.descend list)) _ _ h,
)

pub phase_stopped : (p : TableSegment) (phases : List TableSegment) (list : List Located) (refused : Bool) (e : Stop) → plan_refused (phases_view (p ∷ phases)) list ≡ refused
    → Stops e (refused_at (picks_view p.picks.items) (visited p.descend list) || is_over (length (selected_at (picks_view p.picks.items) (visited p.descend list))))
    → Stops e refused
phase_stopped p phases list refused Memory same stops = tt
phase_stopped p phases list refused TooMany same stops = sym same ∙ first (refused_at (picks_view p.picks.items) (visited p.descend list)) _ _ stops
  where
    first : (a b c : Bool) → (a || b) ≡ true → (a || (b || c)) ≡ true
    first true b c h = refl
    first false b c h = ap (λ x. x || c) h

-- ---- what is given of numbers is given of their nodes

pub gives_at : (x : numbered.Index) (r : Result (Vec ℕ Global) Stop) (a b : Bool) (ns : List ℕ) (us : List Located) → a ≡ b → (b ≡ false → at_numbers x ns ≡ us) → Gives (λ f. f.items) r a ns → Gives (λ f. at_numbers x f.items) r b us
gives_at x (Ok f) a b ns us same then h = let free = sym same ∙ h.0 in (free, ap (at_numbers x) h.1 ∙ then free)
gives_at x (Err e) a b ns us same then h = subst (Stops e) same h
