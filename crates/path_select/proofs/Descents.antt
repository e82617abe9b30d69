-- The values below a value do not depend on where it stands.
use Rattle.std.proofs.Common.{◌≡◌, List, [], ◌∷◌, ◌++◌, map, refl, ap, ◌∙◌, suc, ℕ}
use Rattle.std.proofs.lemmas.Grind.{common_steps}
use Rattle.doc_tree.specs.Doc.{Doc, Place, index, name, Elements, element, Members, member}
use Rattle.path_select.specs.Nodes.{Located, under, beneath, descendants, element_descendants, member_descendants}
use Rattle.path_select.specs.Values.{values, values_below}

pub values-append : (ns more : List Located) → values (ns ++ more) ≡ values ns ++ values more
values-append [] more = refl
values-append (n ∷ ns) more = ap (λ ds. n.1 ∷ ds) (values-append ns more)

pub values-under : (s : Place) (ns : List Located) → values (map (under s) ns) ≡ values ns
values-under s [] = refl
values-under s (n ∷ ns) = ap (λ ds. n.1 ∷ ds) (values-under s ns)

pub values-beneath : (p : List Place) (ns : List Located) → values (map (beneath p) ns) ≡ values ns
values-beneath p [] = refl
values-beneath p (n ∷ ns) = ap (λ ds. n.1 ∷ ds) (values-beneath p ns)

pub values-element_descendants : (n : ℕ) (d : Doc) (ds : Elements) → values (element_descendants n (element d ds)) ≡ values_below d ++ values (element_descendants (suc n) ds)
values-element_descendants n d ds = values-append (map (under (index n)) (descendants d)) (element_descendants (suc n) ds) ∙ ap (λ vs. vs ++ values (element_descendants (suc n) ds)) (values-under (index n) (descendants d))

pub values-member_descendants : (k : List ℕ) (d : Doc) (ms : Members) → values (member_descendants (member k d ms)) ≡ values_below d ++ values (member_descendants ms)
values-member_descendants k d ms = values-append (map (under (name k)) (descendants d)) (member_descendants ms) ∙ ap (λ vs. vs ++ values (member_descendants ms)) (values-under (name k) (descendants d))

pub ruleset child_by_child = (values-element_descendants, values-member_descendants, common_steps)
