-- For the clauses within the crate: a total order of documents, by which equal ones come to be side by side. Which order it is matters to nobody.
use Rattle.std.specs.Prelude.{ℕ, List, [], ◌∷◌, slice_index_or, Bool, true, false, ◌&&◌}
use Rattle.std.specs.Ordering.{nat_cmp, int_cmp, ordering_then, is_lt}
use Rattle.std.specs.Cmp.Lexicographic.{slice_cmp}
use Rattle.std.specs.declared.cmp.Ordering.{Ordering}
use Rattle.doc_tree.specs.Doc.{Doc, null, boolean, int, text, list, object, Elements, no_elements, element, Members, no_members, member}

-- a number for each kind of document
abbrev pub kind_rank : Doc → ℕ
kind_rank null = 0
kind_rank (boolean false) = 1
kind_rank (boolean true) = 2
kind_rank (int z) = 3
kind_rank (text s) = 4
kind_rank (list ds) = 5
kind_rank (object ms) = 6

-- numbers by value, texts by their bytes, lists and objects part by part, other kinds by their numbers
abbrev mutual
  pub doc_cmp : Doc → Doc → Ordering
  doc_cmp (int a) (int b) = int_cmp a b
  doc_cmp (text a) (text b) = slice_cmp nat_cmp a b
  doc_cmp (list a) (list b) = elements_cmp a b
  doc_cmp (object a) (object b) = members_cmp a b
  doc_cmp a b = nat_cmp (kind_rank a) (kind_rank b)

  pub elements_cmp : Elements → Elements → Ordering
  elements_cmp no_elements no_elements = Ordering.Equal
  elements_cmp no_elements (element b others) = Ordering.Less
  elements_cmp (element a more) no_elements = Ordering.Greater
  elements_cmp (element a more) (element b others) = ordering_then (doc_cmp a b) (elements_cmp more others)

  pub members_cmp : Members → Members → Ordering
  members_cmp no_members no_members = Ordering.Equal
  members_cmp no_members (member l b others) = Ordering.Less
  members_cmp (member k a more) no_members = Ordering.Greater
  members_cmp (member k a more) (member l b others) = ordering_then (slice_cmp nat_cmp k l) (ordering_then (doc_cmp a b) (members_cmp more others))

-- each comes before the next
abbrev pub rise : List Doc → Bool
rise [] = true
rise (d ∷ []) = true
rise (d ∷ e ∷ ds) = is_lt (doc_cmp d e) && rise (e ∷ ds)

-- the element at that place, the other document past the last
abbrev pub at_place : List Doc → Doc → ℕ → Doc
at_place ds other place = slice_index_or ds place other
