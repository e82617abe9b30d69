-- All locations of a document, in preorder: a value before its children, children in order.
use Rattle.std.specs.Prelude.{ℕ, suc, List, [], ◌∷◌, ◌++◌, map}
use Rattle.doc_tree.specs.Doc.{Doc, null, boolean, int, text, list, object, Elements, no_elements, element, Members, no_members, member, Place, name, index}

-- the empty location, and then for each child its step before each of the child's locations
abbrev mutual
  -- of a document
  pub places : Doc → List (List Place)
  places null = [] ∷ []
  places (boolean b) = [] ∷ []
  places (int z) = [] ∷ []
  places (text s) = [] ∷ []
  places (list ds) = [] ∷ element_places 0 ds
  places (object ms) = [] ∷ member_places ms

  -- of elements whose first has the index n
  pub element_places : ℕ → Elements → List (List Place)
  element_places n no_elements = []
  element_places n (element d ds) = map (λ p. index n ∷ p) (places d) ++ element_places (suc n) ds

  -- of members
  pub member_places : Members → List (List Place)
  member_places no_members = []
  member_places (member k d ms) = map (λ p. name k ∷ p) (places d) ++ member_places ms
