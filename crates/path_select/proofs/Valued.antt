-- The values of lists of nodes go by the values alone.
use Rattle.std.proofs.Common.{◌≡◌, ◌++◌, ◌||◌, ◌∙◌, Bool, true, false, List, [], ◌∷◌, suc, map, flat_map, length, ap, ap₂, refl}
use Rattle.std.specs.List.{list_any}
use Rattle.doc_tree.specs.Doc.{Doc, Place}
use Rattle.path_select.specs.Comparing.{only_value, is_some_node}
use Rattle.path_select.specs.Nodes.{Located, Child, child_at, beneath, descendants, visited, list_after}
use Rattle.path_select.specs.Values.{values, child_values, values_below, visited_values, each_selected, values_after, only, is_some_value}
use Rattle.path_select.proofs.Descents.{values-append, values-beneath}

values-child_at : (p : List Place) (cs : List Child) → values (map (child_at p) cs) ≡ child_values cs
values-child_at p [] = refl
values-child_at p (c ∷ cs) = ap (λ ds. c.1 ∷ ds) (values-child_at p cs)

values-selected : (select : Doc → List Child) (us : List Located) → values (flat_map (λ u. map (child_at u.0) (select u.1)) us) ≡ each_selected select (values us)
values-selected select [] = refl
values-selected select (u ∷ us) =
    values-append (map (child_at u.0) (select u.1)) _ ∙ ap₂ (λ a b. a ++ b) (values-child_at u.0 (select u.1)) (values-selected select us)

values-descents : (ns : List Located) → values (flat_map (λ n. map (beneath n.0) (descendants n.1)) ns) ≡ flat_map values_below (values ns)
values-descents [] = refl
values-descents (n ∷ ns) =
    values-append (map (beneath n.0) (descendants n.1)) _ ∙ ap₂ (λ a b. a ++ b) (values-beneath n.0 (descendants n.1)) (values-descents ns)

pub values-visited : (descend : Bool) (ns : List Located) → values (visited descend ns) ≡ visited_values descend (values ns)
values-visited true ns = values-descents ns
values-visited false ns = refl

pub values-list_after : (select : Doc → List Child) (descend : Bool) (ns : List Located) → values (list_after select descend ns) ≡ values_after select descend (values ns)
values-list_after select descend ns = values-selected select (visited descend ns) ∙ ap (each_selected select) (values-visited descend ns)

pub list_any-values : (test : Doc → Bool) (us : List Located) → list_any (λ u. test u.1) us ≡ list_any test (values us)
list_any-values test [] = refl
list_any-values test (u ∷ us) = ap (λ b. test u.1 || b) (list_any-values test us)

pub length-values : (ns : List Located) → length (values ns) ≡ length ns
length-values [] = refl
length-values (n ∷ ns) = ap (λ k. suc k) (length-values ns)

-- ---- what filters ask of a list

pub only_value-values : (ns : List Located) → only_value ns ≡ only (values ns)
only_value-values [] = refl
only_value-values (n ∷ []) = refl
only_value-values (n ∷ m ∷ ns) = refl

pub is_some_node-values : (ns : List Located) → is_some_node ns ≡ is_some_value (values ns)
is_some_node-values [] = refl
is_some_node-values (n ∷ ns) = refl
