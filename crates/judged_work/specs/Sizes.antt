-- The sizes of values.
use Rattle.std.specs.Prelude.{ℕ, ◌+◌, ◌/◌, length}
use Rattle.doc_tree.specs.Doc.{Doc, text, list, object, Elements, no_elements, element, Members, no_members, member}
use Rattle.doc_tree.specs.Lists.{elements_list, names_list}

-- by itself: one, and one more for each element, each member, or each 64 bytes of a text
abbrev pub own_size : Doc → ℕ
own_size (text bytes) = 1 + length bytes / 64
own_size (list ds) = 1 + length (elements_list ds)
own_size (object ms) = 1 + length (names_list ms)
own_size _ = 1

-- the names of members, each as a text
abbrev pub names_size : Members → ℕ
names_size no_members = 0
names_size (member k d ms) = own_size (text k) + names_size ms

abbrev mutual
  -- with all values and names in it
  pub whole_size : Doc → ℕ
  whole_size (list ds) = own_size (list ds) + elements_size ds
  whole_size (object ms) = own_size (object ms) + members_size ms
  whole_size t = own_size t

  pub elements_size : Elements → ℕ
  elements_size no_elements = 0
  elements_size (element d ds) = whole_size d + elements_size ds

  pub members_size : Members → ℕ
  members_size no_members = 0
  members_size (member k d ms) = own_size (text k) + whole_size d + members_size ms
