-- What a walk selects, part after part.
use Rattle.std.proofs.Common.{◌≡◌, ◌≤◌, ◌++◌, ◌||◌, ◌∙◌, ◌+◌, ◌⊎◌, Bool, false, ℕ, suc, List, [], ◌∷◌, map, take, length, length-append, append_assoc, append-nil, sym, ap, ap₂, subst, refl, arith, Result, Ok, Err, inl, inr}
use Rattle.std.proofs.lemmas.Grind.{flat_map-append}
use Rattle.std.proofs.lemmas.List.{nil_from_length}
use Rattle.std.proofs.lemmas.List.Folds.{list_any-append}
use Rattle.std.proofs.Math.Seq.{take-append_seam}
use Rattle.doc_tree.specs.Doc.{Doc, Place}
use Rattle.path_plans.specs.Planned.{PlanSelectors, all_taken, choices_refused}
use Rattle.path_select.specs.Gives.{Stops}
use Rattle.path_eval.specs.Listed.{Walks}
use Rattle.path_select.specs.Nodes.{Located, beneath, under, child_at}
use Rattle.path_select.specs.Limit.{is_over}
use Rattle.path_select.specs.Paths.{GoesOn, Returns, location, all_spots, seen, stand}
use Rattle.path_grammar.specs.Lent.{lent_place}
use Rattle.path_tables.specs.Visiting.{selected_at, refused_at}
use Rattle.path_select.specs.declared.stop.Stop.{Stop}
use Rattle.path_select.specs.declared.stop.Stop.TheVariants.{Memory, TooMany}
use Rattle.path_select.specs.declared.paths.Mark.{Mark}
use Rattle.path_select.specs.declared.paths.Walk.{Walk}
use Rattle.path_select.proofs.Gathering.{go_on, stop_all, both_false}
use Rattle.path_select.proofs.Trails.{location-new, goes_on_on, goes_location, goes_seen, stand-more}

-- to go on from a child is to go on from its location
pub beneath-under : (p : List Place) (s : Place) (us : List Located) → map (beneath p) (map (under s) us) ≡ map (beneath (p ++ s ∷ [])) us
beneath-under p s [] = refl
beneath-under p s (u ∷ us) = ap₂ (λ (q : List Place) (vs : List Located). (q, u.1) ∷ vs) (sym (append_assoc p (s ∷ []) u.0)) (beneath-under p s us)

-- what is selected, and refused, at these values, located from p
abbrev pub at_all : PlanSelectors → List Place → List Located → List Located
at_all cs p us = selected_at cs (map (beneath p) us)

abbrev pub refused_all : PlanSelectors → List Place → List Located → Bool
refused_all cs p us = refused_at cs (map (beneath p) us)

-- what is selected, and refused, at one node
abbrev chosen : PlanSelectors → Located → List Located
chosen cs = λ u. map (child_at u.0) (all_taken cs u.1)

abbrev barred : PlanSelectors → Located → Bool
barred cs = λ u. choices_refused cs u.1

-- ---- nodes after nodes: `here` is visited next, and `rest` after it

module _ (cs : PlanSelectors) (w0 w : Walk) (a : GoesOn w0 w) (here here0 rest whole total : List Located) (refused : Bool) (moved : here ≡ here0) (next : whole ≡ here0 ++ rest) (all : seen w ++ selected_at cs whole ≡ total) (same : refused_at cs whole ≡ refused) where
  split : seen w ++ (selected_at cs here ++ selected_at cs rest) ≡ total
  split =
      ap (λ us. seen w ++ (selected_at cs us ++ selected_at cs rest)) moved
      ∙ ap (λ l. seen w ++ l) (sym (flat_map-append (chosen cs) here0 rest) ∙ ap (selected_at cs) (sym next)) ∙ all

  either : (refused_at cs here || refused_at cs rest) ≡ refused
  either = ap (λ us. refused_at cs us || refused_at cs rest) moved ∙ sym (list_any-append (barred cs) here0 rest) ∙ ap (refused_at cs) (sym next) ∙ same

  pub walk_on : (x : Walk) → Walks cs w here (Ok x) → GoesOn w0 x × (seen x ++ selected_at cs rest ≡ total) × (refused_at cs rest ≡ refused) × (is_over (length (seen x)) ≡ false)
  walk_on x h =
      let q = both_false (refused_at cs here) _ h.1 in
      let r = go_on (seen w) (selected_at cs here) _ total (refused_at cs here) _ refused split either q.0 q.1 (seen x) h.2 in (
        goes_on_on w0 w x a h.0,
        r.0,
        r.1,
        r.2,
      )

  pub walk_stops : (e : Stop) → Stops e (refused_at cs here || is_over (length (seen w ++ selected_at cs here))) → Stops e (refused || is_over (length total))
  walk_stops Memory h = tt
  walk_stops TooMany h = stop_all (seen w) (selected_at cs here) _ total (refused_at cs here) _ refused split either h

-- ---- a value, and then all below it

abbrev pub judged : Bool → List Located → Bool
judged refused all = refused || is_over (length all)

module _ (cs : PlanSelectors) (w0 w1 : Walk) (place : ℕ) (above : place ≤ length w0.trail.items) (d : Doc) (us all : List Located) (is : all ≡ ([], d) ∷ us) (first : Walks cs w0 ((location w0.trail.items place, d) ∷ []) (Ok w1)) where
  abbrev p : List Place
  p = location w0.trail.items place

  abbrev below : List Located
  below = map (beneath (location w1.trail.items place)) us

  at_below : below ≡ map (beneath p) us
  at_below = ap (λ q. map (beneath q) us) (goes_location w0 w1 first.0 place above)

  at_all_of_it : map (beneath p) all ≡ ((p, d) ∷ []) ++ below
  at_all_of_it = ap (map (beneath p)) is ∙ ap₂ (λ (q : List Place) (vs : List Located). (q, d) ∷ vs) (append-nil p) (sym at_below)

  more : seen w1 ++ selected_at cs below ≡ seen w0 ++ selected_at cs (map (beneath p) all)
  more =
      ap (λ l. l ++ selected_at cs below) first.2 ∙ append_assoc (seen w0) _ _
      ∙ ap (λ l. seen w0 ++ l) (sym (flat_map-append (chosen cs) ((p, d) ∷ []) below) ∙ ap (selected_at cs) (sym at_all_of_it))

  refused_more : refused_at cs below ≡ refused_at cs (map (beneath p) all)
  refused_more =
      ap (λ b. b || refused_at cs below) (sym (both_false (refused_at cs ((p, d) ∷ [])) _ first.1).0)
      ∙ sym (list_any-append (barred cs) ((p, d) ∷ []) below) ∙ ap (refused_at cs) (sym at_all_of_it)

  pub walk_both : (r : Result Walk Stop) → Walks cs w1 below r → Walks cs w0 (map (beneath p) all) r
  walk_both (Ok x) h = (goes_on_on w0 w1 x first.0 h.0, sym (ap₂ judged refused_more more) ∙ h.1, h.2 ∙ more)
  walk_both (Err e) h = subst (Stops e) (ap₂ judged refused_more more) h

-- ---- a child

module _ (cs : PlanSelectors) (w w1 : Walk) (m : Mark) (us : List Located) (marks : w1.trail.items ≡ w.trail.items ++ m ∷ []) (listed : w1.listed.items ≡ w.listed.items) (stands : stand (length w.trail.items) w.listed.items) (n : ℕ) (last : n ≡ length w1.trail.items) where
  abbrev there : List Located
  there = map (beneath (location w1.trail.items n)) us

  abbrev here : List Located
  here = map (beneath (location w.trail.items m.above)) (map (under (lent_place m.step)) us)

  count : length w1.trail.items ≡ length w.trail.items + 1
  count = ap length marks ∙ length-append w.trail.items (m ∷ [])

  place : location w1.trail.items n ≡ location w.trail.items m.above ++ lent_place m.step ∷ []
  place =
      let c = count in
      let k : n ≡ suc (length w.trail.items) = omega (arith, last, c) in
      ap₂ location marks k ∙ location-new w.trail.items m

  moved : there ≡ here
  moved = ap (λ q. map (beneath q) us) place ∙ sym (beneath-under (location w.trail.items m.above) (lent_place m.step) us)

  went : GoesOn w w1
  went =
      let c = count in
      (m ∷ [], [], marks, listed ∙ sym (append-nil w.listed.items), subst (stand (length w1.trail.items)) (sym listed) (stand-more _ _ w.listed.items (omega (arith, c)) stands))

  seen_same : seen w1 ≡ seen w
  seen_same = ap (all_spots w1.trail.items) listed ∙ goes_seen w w1 went w.listed.items stands

  all_same : seen w1 ++ selected_at cs there ≡ seen w ++ selected_at cs here
  all_same = ap₂ (λ (l : List Located) (vs : List Located). l ++ selected_at cs vs) seen_same moved

  judged_same : judged (refused_at cs there) (seen w1 ++ selected_at cs there) ≡ judged (refused_at cs here) (seen w ++ selected_at cs here)
  judged_same = ap₂ judged (ap (refused_at cs) moved) all_same

  pub child_stops : (e : Stop) → Walks cs w1 there (Err e) → Walks cs w here (Err e)
  child_stops e h = subst (Stops e) judged_same h

  module _ (w2 r : Walk) (h : Walks cs w1 there (Ok w2)) (known number : ℕ) (known_is : known ≡ length w.trail.items) (number_is : number ≡ length w.listed.items) (back : Returns known number w2 r) where
    goes : GoesOn w w2
    goes = goes_on_on w w1 w2 went h.0

    kept : r.trail.items ≡ w2.trail.items → Walks cs w here (Ok r)
    kept trail = (
      (goes.0, goes.1, trail ∙ goes.2, back.0 ∙ goes.3, subst (λ l. stand (length l) r.listed.items) (sym trail) (subst (stand (length w2.trail.items)) (sym back.0) goes.4)),
      sym judged_same ∙ h.1,
      ap₂ all_spots trail back.0 ∙ h.2 ∙ all_same,
    )

    cut : (r.trail.items ≡ take known w2.trail.items) × (length w2.listed.items ≡ number) → Walks cs w here (Ok r)
    cut c =
        let lengths : length w2.listed.items ≡ length w.listed.items + length goes.1 = ap length goes.3 ∙ length-append w.listed.items goes.1 in
        let none : goes.1 ≡ [] = nil_from_length goes.1 (let e = c.1 in omega (arith, lengths, number_is, e)) in
        let nodes : w2.listed.items ≡ w.listed.items = goes.3 ∙ ap (λ l. w.listed.items ++ l) none ∙ append-nil w.listed.items in
        let trail : r.trail.items ≡ w.trail.items = c.0 ∙ ap₂ take known_is goes.2 ∙ take-append_seam w.trail.items goes.0 in
        let list : r.listed.items ≡ w.listed.items = back.0 ∙ nodes in
        let was : seen w2 ≡ seen w = ap (all_spots w2.trail.items) nodes ∙ goes_seen w w2 goes w.listed.items stands in (
          ([], [], trail ∙ sym (append-nil w.trail.items), list ∙ sym (append-nil w.listed.items), subst (λ l. stand (length l) r.listed.items) (sym trail) (subst (stand (length w.trail.items)) (sym list) stands)),
          sym judged_same ∙ h.1,
          ap₂ all_spots trail list ∙ sym was ∙ h.2 ∙ all_same,
        )

    pub child_went : Walks cs w here (Ok r)
    child_went = either back.1
      where
        either : (r.trail.items ≡ w2.trail.items) ⊎ ((r.trail.items ≡ take known w2.trail.items) × (length w2.listed.items ≡ number)) → Walks cs w here (Ok r)
        either (inl trail) = kept trail
        either (inr c) = cut c
