-- A walk that comes to a value that is neither a list nor an object stays as it is.
use Rattle.std.proofs.Common.{◌≡◌, ◌++◌, ◌||◌, ◌∙◌, Bool, true, false, List, [], ◌∷◌, map, length, append-nil, sym, ap, ap₂, Ok}
use Rattle.doc_tree.specs.Doc.{Doc, Place}
use Rattle.path_plans.specs.Planned.{PlanSelectors}
use Rattle.path_select.specs.Nodes.{Located, descendants, beneath, under, child_at}
use Rattle.path_select.specs.Limit.{is_over}
use Rattle.path_select.specs.Paths.{GoesOn, seen}
use Rattle.path_select.specs.declared.paths.Walk.{Walk}
use Rattle.path_tables.proofs.Leaves.{it_alone, nothing_refused, nothing_taken}
use Rattle.path_tables.specs.Visiting.{is_leaf, selected_at, refused_at}
use Rattle.path_eval.specs.Listed.{Goes, Walks}

stays : (w : Walk) (refused : Bool) (new : List Located) → GoesOn w w → is_over (length (seen w)) ≡ false → refused ≡ false → new ≡ [] → Goes w refused new (Ok w)
stays w refused new on within free none =
    let all : seen w ++ new ≡ seen w = ap (λ ns. seen w ++ ns) none ∙ append-nil (seen w) in (
      on,
      ap₂ (λ (b : Bool) (ns : List Located). b || is_over (length ns)) free all ∙ within,
      sym all,
    )

pub leaf_stays : (cs : PlanSelectors) (w : Walk) (p : List Place) (s : Place) (d : Doc) → is_leaf d ≡ true → GoesOn w w → is_over (length (seen w)) ≡ false → Walks cs w (map (beneath p) (map (under s) (descendants d))) (Ok w)
leaf_stays cs w p s d leaf on within =
    let us : map (beneath p) (map (under s) (descendants d)) ≡ (p ++ s ∷ [], d) ∷ [] = ap (λ ns. map (beneath p) (map (under s) ns)) (it_alone d leaf) in
    stays w _ _ on within
    (ap (refused_at cs) us ∙ ap (λ b. b || false) (nothing_refused cs d leaf))
    (ap (selected_at cs) us ∙ ap (λ ks. map (child_at (p ++ s ∷ [])) ks ++ []) (nothing_taken cs d leaf))
