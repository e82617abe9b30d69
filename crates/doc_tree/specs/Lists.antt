-- A document's children as plain lists.
use Rattle.std.specs.Prelude.{ℕ, List, [], ◌∷◌}
use Rattle.doc_tree.specs.Doc.{Doc, Elements, no_elements, element, Members, no_members, member}

-- the elements in order
abbrev pub elements_list : Elements → List Doc
elements_list no_elements = []
elements_list (element d ds) = d ∷ elements_list ds

-- the members' names in order
abbrev pub names_list : Members → List (List ℕ)
names_list no_members = []
names_list (member k d ms) = k ∷ names_list ms

-- the members' values in order of their names
abbrev pub values_list : Members → List Doc
values_list no_members = []
values_list (member k d ms) = d ∷ values_list ms
