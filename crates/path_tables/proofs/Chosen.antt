-- What selectors without a filter select of a value are its children.
use Rattle.std.proofs.Common.{◌≡◌, ◌++◌, ℕ, List, [], ◌∷◌, Option, Some, None, flat_map, refl}
use Rattle.std.specs.List.{AllByRecursion}
use Rattle.doc_tree.specs.Doc.{Doc, Place, child, index}
use Rattle.path_select.specs.Nodes.{Child}
use Rattle.path_select.specs.Selectors.{found, item, item_if}

module _ {A : Type 0} (P : A → Type 0) where
  pub all-append : (xs ys : List A) → AllByRecursion P xs → AllByRecursion P ys → AllByRecursion P (xs ++ ys)
  all-append [] ys h k = k
  all-append (x ∷ xs) ys h k = (h.0, all-append xs ys h.1 k)

-- the child is the value's
abbrev pub IsChildOf : Doc → Child → Type 0
IsChildOf d c = child c.0 d ≡ Some c.1

pub found_at : (s : Place) (d : Doc) → AllByRecursion (IsChildOf d) (found s (child s d))
found_at s d = one (child s d) refl
  where
    one : (o : Option Doc) → child s d ≡ o → AllByRecursion (IsChildOf d) (found s o)
    one None e = tt
    one (Some c) e = (e, tt)

pub item_at : (o : Option ℕ) (d : Doc) → AllByRecursion (IsChildOf d) (item_if o d)
item_at None d = tt
item_at (Some i) d = found_at (index i) d

pub every : (is : List ℕ) (d : Doc) → AllByRecursion (IsChildOf d) (flat_map (λ i. item i d) is)
every [] d = tt
every (i ∷ is) d = all-append (IsChildOf d) (item i d) _ (found_at (index i) d) (every is d)
