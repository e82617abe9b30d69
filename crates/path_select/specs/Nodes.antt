-- Nodes, the children of a value, and the values below it (RFC 9535, section 1.1).
use Rattle.std.specs.Prelude.{ℕ, suc, Bool, List, [], ◌∷◌, ◌++◌, map, flat_map, if◌then◌else◌}
use Rattle.doc_tree.specs.Doc.{Doc, null, boolean, int, text, list, object, Elements, no_elements, element, Members, no_members, member, Place, name, index}

-- a node: a location, as the steps that lead there, and the value there
abbrev pub Located : Type 0
Located = List Place × Doc

-- a child: the step to it, and its value
abbrev pub Child : Type 0
Child = Place × Doc

-- the elements as children, the first at the index n
abbrev pub element_children : ℕ → Elements → List Child
element_children n no_elements = []
element_children n (element d ds) = (index n, d) ∷ element_children (suc n) ds

-- the members as children
abbrev pub member_children : Members → List Child
member_children no_members = []
member_children (member k d ms) = (name k, d) ∷ member_children ms

-- the children of a value: elements by their indexes, members in the order of their names' bytes
abbrev pub children : Doc → List Child
children (list ds) = element_children 0 ds
children (object ms) = member_children ms
children _ = []

-- the child of the value at that location, as a node
abbrev pub child_at : List Place → Child → Located
child_at p c = (p ++ c.0 ∷ [], c.1)

-- the nodes located from a value, located from the place of which that value is a child
abbrev pub under : Place → Located → Located
under s u = (s ∷ u.0, u.1)

-- the nodes located from a value, located from the place at which that value is at p
abbrev pub beneath : List Place → Located → Located
beneath p u = (p ++ u.0, u.1)

-- the value itself and its descendants in preorder: a value before its children, children in order
abbrev mutual
  pub descendants : Doc → List Located
  descendants null = ([], null) ∷ []
  descendants (boolean b) = ([], boolean b) ∷ []
  descendants (int z) = ([], int z) ∷ []
  descendants (text s) = ([], text s) ∷ []
  descendants (list ds) = ([], list ds) ∷ element_descendants 0 ds
  descendants (object ms) = ([], object ms) ∷ member_descendants ms

  -- of elements whose first has the index n
  pub element_descendants : ℕ → Elements → List Located
  element_descendants n no_elements = []
  element_descendants n (element d ds) = map (under (index n)) (descendants d) ++ element_descendants (suc n) ds

  pub member_descendants : Members → List Located
  member_descendants no_members = []
  member_descendants (member k d ms) = map (under (name k)) (descendants d) ++ member_descendants ms

-- the nodes at which a segment selects: those of the list, each followed by its descendants if it is a descendant
-- segment (section 2.5.2)
abbrev pub visited : Bool → List Located → List Located
visited descend ns = if descend then flat_map (λ n. map (beneath n.0) (descendants n.1)) ns else ns

-- the list after a segment: for each node at which it selects, in order, the children that it selects there
abbrev pub list_after : (Doc → List Child) → Bool → List Located → List Located
list_after select descend ns = flat_map (λ u. map (child_at u.0) (select u.1)) (visited descend ns)

-- the list with which a query begins
abbrev pub only_node : Doc → List Located
only_node d = ([], d) ∷ []
