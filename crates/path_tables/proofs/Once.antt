-- What a segment selects, node after node, each of which is visited once.
use Rattle.std.proofs.Common.{◌≡◌, ◌≤◌, ◌++◌, ◌||◌, ◌∙◌, ◌+◌, ◌-◌, ◌<◌, Bool, true, false, ℕ, zero, suc, List, [], ◌∷◌, map, set, take, drop, length, get_or, length-append, append_assoc, append-nil, sym, ap, ap₂, subst, refl, arith, Option, Some, None, Result, Ok, Err, IfSome}
use Rattle.std.proofs.lemmas.Grind.{flat_map-append}
use Rattle.std.proofs.lemmas.List.{drop-append-le, drop-map, length-map, length-take-le, map-append, take-append-le, take-map, take_all}
use Rattle.std.proofs.lemmas.List.Folds.{list_any-append}
use Rattle.std.specs.List.{AllByRecursion}
use Rattle.std.specs.Prelude.{slice_get}
use Rattle.doc_tree.specs.TreeView.{view}
use Rattle.path_tables.proofs.Leaves.{it_alone, nothing_refused, nothing_taken}
use Rattle.path_tables.specs.FilterTables.{picks_view}
use Rattle.path_tables.specs.Visiting.{is_leaf, refused_at, selected_at, visited_from}
use Rattle.path_tables.specs.Visits.{AddsAt, AreVisits, IsBegun, IsPart}
use Rattle.path_tables.specs.declared.by_number.Listing.{Listing}
use Rattle.path_tables.specs.declared.table_plan.TableSegment.{TableSegment}
use Rattle.path_tables.specs.declared.visits.Part.{Part}
use Rattle.path_tables.specs.declared.visits.Visit.{Visit}
use Rattle.path_plans.specs.Planned.{PlanSelectors, all_taken, choices_refused}
use Rattle.path_select.proofs.Gathering.{both_false, go_on, stop_all}
use Rattle.path_select.proofs.Indexes.{length-drop_from}
use Rattle.path_select.proofs.Numbered.{child_there}
use Rattle.path_select.proofs.Trails.{drop_next}
use Rattle.path_select.specs.Gives.{Stops}
use Rattle.path_select.specs.Indexed.{HasChildren, at_number, at_numbers, children_at}
use Rattle.path_select.specs.Limit.{is_over}
use Rattle.path_select.specs.Nodes.{Located, beneath, child_at, visited}
use Rattle.path_select.specs.Paths.{seen}
use Rattle.path_select.specs.declared.index.Index.{Index}
use Rattle.path_select.specs.declared.index.Span.{Span}
use Rattle.path_select.specs.declared.stop.Stop.{Stop}
use Rattle.path_select.specs.declared.stop.Stop.TheVariants.{Memory, TooMany}

-- what is selected, and refused, at one node
abbrev chosen : PlanSelectors → Located → List Located
chosen ss = λ u. map (child_at u.0) (all_taken ss u.1)

abbrev barred : PlanSelectors → Located → Bool
barred ss = λ u. choices_refused ss u.1

-- ---- the nodes that a segment visits

pub visited-cons : (descend : Bool) (n : Located) (ns : List Located) → visited descend (n ∷ ns) ≡ visited_from descend n ++ visited descend ns
visited-cons true n ns = refl
visited-cons false n ns = refl

pub visited-nil : (descend : Bool) → visited descend [] ≡ []
visited-nil true = refl
visited-nil false = refl

-- ---- parts stay what they are as the list grows

pub part_grows : (ss : PlanSelectors) (listed more us : List Located) (p : Part) → IsPart ss listed us p → IsPart ss (listed ++ more) us p
part_grows ss listed more us p h =
    let l = length-append listed more in
    let k = length-drop_from p.first listed (let b = h.1 in omega (arith, b)) in (
      h.0,
      (let b = h.1 in omega (arith, b, l)),
      ap (take p.count) (drop-append-le p.first listed more (let b = h.1 in omega (arith, b)))
          ∙ take-append-le p.count (drop p.first listed) more (let b = h.1 in omega (arith, b, k)) ∙ h.2,
    )

visit_grows : (ss : PlanSelectors) (listed more us : List Located) (o : Option Part) → IfSome o (IsPart ss listed us) → IfSome o (IsPart ss (listed ++ more) us)
visit_grows ss listed more us None h = h
visit_grows ss listed more us (Some p) h = part_grows ss listed more us p h

pub visits_grow : (ss : PlanSelectors) (descend : Bool) (x : Index) (listed more : List Located) (vs : List Visit) → AreVisits ss descend x listed vs → AreVisits ss descend x (listed ++ more) vs
visits_grow ss descend x listed more [] h = tt
visits_grow ss descend x listed more (v ∷ vs) h = (visit_grows ss listed more (visited_from descend (at_number x v.number)) v.part h.0, visits_grow ss descend x listed more vs h.1)

-- ---- one of the nodes

pub visit_at : (P : Visit → Type 0) (vs : List Visit) (i : ℕ) (v : Visit) → slice_get vs i ≡ Some v → AllByRecursion P vs → P v
visit_at P [] i v is h = absurd (cc)
visit_at P (w ∷ vs) zero v is h = let e : w ≡ v = cc in subst P e h.0
visit_at P (w ∷ vs) (suc i) v is h = visit_at P vs i v is h.1

pub visit_set : (P : Visit → Type 0) (vs : List Visit) (i : ℕ) (v : Visit) → AllByRecursion P vs → P v → AllByRecursion P (set vs i v)
visit_set P [] i v h k = tt
visit_set P (w ∷ vs) zero v h k = (k, h.1)
visit_set P (w ∷ vs) (suc i) v h k = (h.0, visit_set P vs i v h.1 k)

pub visit_more : (P : Visit → Type 0) (vs : List Visit) (v : Visit) → AllByRecursion P vs → P v → AllByRecursion P (vs ++ v ∷ [])
visit_more P [] v h k = (k, tt)
visit_more P (w ∷ vs) v h k = (h.0, visit_more P vs v h.1 k)

-- ---- what is known begins anew

pub begun_again : (x : Index) (p : TableSegment) (before us : List Located) (l : Listing) → AddsAt x p before us (Ok l) → IsBegun x p l
begun_again x p before us l h =
    let within = both_false (refused_at (picks_view p.picks.items) us) _ h.0 in
    (ap (λ t. is_over (length t)) h.1 ∙ within.1, h.2)

-- ---- nodes after nodes: `here` comes next, and `rest` after it

module _ (x : Index) (p : TableSegment) (list here rest whole total : List Located) (refused : Bool) (next : whole ≡ here ++ rest) (all : list ++ selected_at (picks_view p.picks.items) whole ≡ total) (same : refused_at (picks_view p.picks.items) whole ≡ refused) where
  abbrev picked : PlanSelectors
  picked = picks_view p.picks.items

  split : list ++ (selected_at picked here ++ selected_at picked rest) ≡ total
  split = ap (λ l. list ++ l) (sym (flat_map-append (chosen picked) here rest) ∙ ap (selected_at picked) (sym next)) ∙ all

  either : (refused_at picked here || refused_at picked rest) ≡ refused
  either = sym (list_any-append (barred picked) here rest) ∙ ap (refused_at picked) (sym next) ∙ same

  pub nodes_on : (l : Listing) → AddsAt x p list here (Ok l) → (at_numbers x l.found.items ++ selected_at picked rest ≡ total) × (refused_at picked rest ≡ refused) × IsBegun x p l
  nodes_on l h =
      let q = both_false (refused_at picked here) _ h.0 in
      let r = go_on list (selected_at picked here) _ total (refused_at picked here) _ refused split either q.0 q.1 (at_numbers x l.found.items) h.1 in
      (r.0, r.1, begun_again x p list here l h)

  pub nodes_stop : (e : Stop) → AddsAt x p list here (Err e) → Stops e (refused || is_over (length total))
  nodes_stop Memory h = tt
  nodes_stop TooMany h = stop_all list (selected_at picked here) _ total (refused_at picked here) _ refused split either h

-- what is left when no nodes are left
pub nodes_done : (x : Index) (p : TableSegment) (l : Listing) (total : List Located) (refused : Bool) → (at_numbers x l.found.items ++ [] ≡ total) → (false ≡ refused) → IsBegun x p l
    → ((refused || is_over (length total)) ≡ false) × (at_numbers x l.found.items ≡ total) × AreVisits (picks_view p.picks.items) p.descend x (at_numbers x l.found.items) l.visits.items
nodes_done x p l total refused whole same h =
    let all : at_numbers x l.found.items ≡ total = sym (append-nil (at_numbers x l.found.items)) ∙ whole in
    (ap (λ b. b || is_over (length total)) (sym same) ∙ ap (λ t. is_over (length t)) (sym all) ∙ h.0, all, h.1)

-- some nodes, and then others
module _ (x : Index) (p : TableSegment) (before us more whole : List Located) (l : Listing) (is : whole ≡ us ++ more) (h : AddsAt x p before us (Ok l)) where
  abbrev all_of : PlanSelectors
  all_of = picks_view p.picks.items

  free : refused_at all_of us ≡ false
  free = (both_false (refused_at all_of us) _ h.0).0

  lists : at_numbers x l.found.items ++ selected_at all_of more ≡ before ++ selected_at all_of whole
  lists =
      ap (λ a. a ++ selected_at all_of more) h.1 ∙ append_assoc before (selected_at all_of us) (selected_at all_of more)
      ∙ ap (λ a. before ++ a) (sym (flat_map-append (chosen all_of) us more) ∙ ap (selected_at all_of) (sym is))

  refuses : refused_at all_of more ≡ refused_at all_of whole
  refuses = ap (λ b. b || refused_at all_of more) (sym free) ∙ sym (list_any-append (barred all_of) us more) ∙ ap (refused_at all_of) (sym is)

  judged : (refused_at all_of more || is_over (length (at_numbers x l.found.items ++ selected_at all_of more))) ≡ (refused_at all_of whole || is_over (length (before ++ selected_at all_of whole)))
  judged = ap₂ (λ b a. b || is_over (length a)) refuses lists

  pub nodes_both : (r : Result Listing Stop) → AddsAt x p (at_numbers x l.found.items) more r → AddsAt x p before whole r
  nodes_both (Ok m) k = (sym judged ∙ k.0, k.1 ∙ lists, k.2)
  nodes_both (Err e) k = subst (Stops e) judged k

-- ---- a node of which nothing is selected

leaf_alone : (descend : Bool) (u : Located) → is_leaf u.1 ≡ true → (v : Located) × (visited_from descend u ≡ v ∷ []) × (v.1 ≡ u.1)
leaf_alone true u leaf = ((u.0 ++ [], u.1), ap (map (beneath u.0)) (it_alone u.1 leaf), refl)
leaf_alone false u leaf = (u, refl, refl)

pub leaf_added : (x : Index) (p : TableSegment) (u : Located) (l : Listing) → is_leaf u.1 ≡ true → IsBegun x p l → AddsAt x p (at_numbers x l.found.items) (visited_from p.descend u) (Ok l)
leaf_added x p u l leaf h =
    let ss = picks_view p.picks.items in
    let list = at_numbers x l.found.items in
    let a = leaf_alone p.descend u leaf in
    let free : refused_at ss (visited_from p.descend u) ≡ false = ap (refused_at ss) a.1 ∙ ap (λ d. choices_refused ss d || false) a.2 ∙ ap (λ b. b || false) (nothing_refused ss u.1 leaf) in
    let none : selected_at ss (visited_from p.descend u) ≡ [] = ap (selected_at ss) a.1 ∙ ap (λ d. map (child_at a.0.0) (all_taken ss d) ++ []) a.2 ∙ ap (λ ks. map (child_at a.0.0) ks ++ []) (nothing_taken ss u.1 leaf) in
    let all : list ++ selected_at ss (visited_from p.descend u) ≡ list = ap (λ a. list ++ a) none ∙ append-nil list in
    (ap₂ (λ b a. b || is_over (length a)) free all ∙ h.0, sym all, h.1)

-- ---- more numbers, of what is selected at the nodes

or_else : (a b : Bool) → b ≡ true → (a || b) ≡ true
or_else true b e = refl
or_else false b e = e

pub more_on : (x : Index) (p : TableSegment) (us : List Located) (l m : Listing) (more : List ℕ) → refused_at (picks_view p.picks.items) us ≡ false → at_numbers x more ≡ selected_at (picks_view p.picks.items) us
    → AreVisits (picks_view p.picks.items) p.descend x (at_numbers x l.found.items) l.visits.items
    → is_over (length (l.found.items ++ more)) ≡ false → m.found.items ≡ l.found.items ++ more → m.visits.items ≡ l.visits.items → AddsAt x p (at_numbers x l.found.items) us (Ok m)
more_on x p us l m more free same known within is kept =
    let ss = picks_view p.picks.items in
    let before = at_numbers x l.found.items in
    let all : at_numbers x m.found.items ≡ before ++ selected_at ss us = ap (at_numbers x) is ∙ map-append (at_number x) l.found.items more ∙ ap (λ a. before ++ a) same in
    let many : length (before ++ selected_at ss us) ≡ length (l.found.items ++ more) = sym (ap length all) ∙ length-map m.found.items (at_number x) ∙ ap length is in
    let grown : AreVisits ss p.descend x (before ++ selected_at ss us) m.visits.items = subst (λ vs. AreVisits ss p.descend x (before ++ selected_at ss us) vs) (sym kept) (visits_grow ss p.descend x before (selected_at ss us) l.visits.items known) in
    (ap₂ (λ b n. b || is_over n) free many ∙ within, all, subst (λ a. AreVisits ss p.descend x a m.visits.items) (sym all) grown)

pub more_stops : (x : Index) (p : TableSegment) (us : List Located) (found more : List ℕ) (e : Stop) → at_numbers x more ≡ selected_at (picks_view p.picks.items) us → Stops e (is_over (length (found ++ more))) → AddsAt x p (at_numbers x found) us (Err e)
more_stops x p us found more Memory same h = tt
more_stops x p us found more TooMany same h =
    let ss = picks_view p.picks.items in
    let all : at_numbers x (found ++ more) ≡ at_numbers x found ++ selected_at ss us = map-append (at_number x) found more ∙ ap (λ a. at_numbers x found ++ a) same in
    or_else (refused_at ss us) _ (ap is_over (sym (ap length all) ∙ length-map (found ++ more) (at_number x)) ∙ h)

-- ---- a part that is known, once more

pub part_again : (x : Index) (ss : PlanSelectors) (us : List Located) (found : List ℕ) (q : Part) → IsPart ss (at_numbers x found) us q → at_numbers x (take q.count (drop q.first found)) ≡ selected_at ss us
part_again x ss us found q h = sym (take-map (at_number x) q.count (drop q.first found)) ∙ ap (take q.count) (sym (drop-map (at_number x) q.first found)) ∙ h.2

pub part_fits : (x : Index) (ss : PlanSelectors) (us : List Located) (found : List ℕ) (q : Part) → IsPart ss (at_numbers x found) us q → q.first + q.count ≤ length found
part_fits x ss us found q h = subst (λ n. q.first + q.count ≤ n) (length-map found (at_number x)) h.1

-- ---- the part of a node that was visited

after_all : {A : Type 0} (xs ys : List A) → drop (length xs) (xs ++ ys) ≡ ys
after_all [] ys = refl
after_all (x ∷ xs) ys = after_all xs ys

module _ (x : Index) (p : TableSegment) (found : List ℕ) (us : List Located) (l : Listing) (h : AddsAt x p (at_numbers x found) us (Ok l)) where
  abbrev selects : List Located
  selects = selected_at (picks_view p.picks.items) us

  many : length l.found.items ≡ length found + length selects
  many = sym (length-map l.found.items (at_number x)) ∙ ap length h.1 ∙ length-append (at_numbers x found) selects ∙ ap (λ n. n + length selects) (length-map found (at_number x))

  pub part_room : length found ≤ length l.found.items
  part_room = let k = many in omega (arith, k)

  pub part_made : (q : Part) → q.first ≡ length found → q.count ≡ length l.found.items - length found → IsPart (picks_view p.picks.items) (at_numbers x l.found.items) us q
  part_made q first count =
      let k = many in
      let counted : q.count ≡ length selects = omega (arith, count, k) in
      let begins : q.first ≡ length (at_numbers x found) = first ∙ sym (length-map found (at_number x)) in
      let all = length-map l.found.items (at_number x) in (
        (both_false (refused_at (picks_view p.picks.items) us) _ h.0).0,
        omega (arith, first, counted, k, all),
        ap (take q.count) (ap₂ (λ n a. drop n a) begins h.1 ∙ after_all (at_numbers x found) selects) ∙ ap (λ n. take n selects) counted ∙ take_all (length selects) selects (omega arith),
      )

-- ---- the children of a node, child after child

-- the child at a place of a span comes next
pub child_next : (x : Index) (s : Span) (u : Located) (k : ℕ) → HasChildren (seen x.walk) s u → k < s.count → drop k (children_at u) ≡ at_number x (s.first + k) ∷ drop (k + 1) (children_at u)
child_next x s u k h lt =
    let root = view x.root.now in
    let us = seen x.walk in
    let d = length-drop_from s.first us (let b = h.0 in omega (arith, b)) in
    let many : length (children_at u) ≡ s.count = sym (ap length h.1) ∙ length-take-le s.count (drop s.first us) (let b = h.0 in omega (arith, b, d)) in
    drop_next (children_at u) k (at_number x (s.first + k)) (omega (arith, many, lt)) (child_there root us s u k h lt ∙ same k (children_at u) (omega (arith, many, lt)))
  where
    same : (j : ℕ) (l : List Located) → j < length l → get_or l j ([], view x.root.now) ≡ get_or l j (at_number x (s.first + k))
    same j [] lt = absurd (omega (arith, lt))
    same zero (x ∷ l) lt = refl
    same (suc j) (x ∷ l) lt = same j l (omega (arith, lt))
