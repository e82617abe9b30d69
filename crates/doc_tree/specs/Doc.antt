-- A document, with nothing of memory in it: a JSON value (RFC 8259, section 3) whose numbers are whole.
use Rattle.std.specs.Prelude.{ℕ, zero, suc, max, ℤ, List, [], ◌∷◌, Bool, Option, Some, None, option_and_then}
use Rattle.std.specs.Ordering.{nat_cmp, match_ordering}
use Rattle.std.specs.Cmp.Lexicographic.{slice_cmp}

mutual
  -- texts are their UTF-8 bytes
  pub data Doc : Type 0 where
    null : Doc
    boolean : Bool → Doc
    int : ℤ → Doc
    text : List ℕ → Doc
    list : Elements → Doc
    object : Members → Doc

  -- the elements of a list, in order
  pub data Elements : Type 0 where
    no_elements : Elements
    element : Doc → Elements → Elements

  -- each name with its value, in order of the names' bytes
  pub data Members : Type 0 where
    no_members : Members
    member : List ℕ → Doc → Members → Members

-- how deep lists and objects nest: 0 for a scalar, 1 for an empty list or object
abbrev mutual
  -- of a document
  pub height : Doc → ℕ
  height null = 0
  height (boolean b) = 0
  height (int z) = 0
  height (text s) = 0
  height (list ds) = suc (elements_height ds)
  height (object ms) = suc (members_height ms)

  -- of elements: the most of any
  pub elements_height : Elements → ℕ
  elements_height no_elements = 0
  elements_height (element d ds) = max (height d) (elements_height ds)

  -- of members: the most of any value
  pub members_height : Members → ℕ
  members_height no_members = 0
  members_height (member k d ms) = max (height d) (members_height ms)

-- the members with d at the name k, in order if they were in order
abbrev pub put : List ℕ → Doc → Members → Members
put k d no_members = member k d no_members
put k d (member l e ms) = match_ordering (slice_cmp nat_cmp k l) (member k d (member l e ms)) (member l d ms) (member l e (put k d ms))

-- ---- places

-- what leads from a document to one of its children: a member's name, or an element's index from 0
pub data Place : Type 0 where
  name : List ℕ → Place
  index : ℕ → Place

-- the value at that name
abbrev pub get_member : List ℕ → Members → Option Doc
get_member k no_members = None
get_member k (member l d ms) = match_ordering (slice_cmp nat_cmp k l) (get_member k ms) (Some d) (get_member k ms)

-- the element at that index
abbrev pub get_element : ℕ → Elements → Option Doc
get_element n no_elements = None
get_element zero (element d ds) = Some d
get_element (suc n) (element d ds) = get_element n ds

-- a name leads into an object, an index into a list
abbrev pub child : Place → Doc → Option Doc
child (name k) (object ms) = get_member k ms
child (index n) (list ds) = get_element n ds
child _ _ = None

-- the value at a location, which is a list of places to follow in order
abbrev pub at : List Place → Doc → Option Doc
at [] d = Some d
at (p ∷ ps) d = option_and_then (at ps) (child p d)

-- the elements, if it is a list
abbrev pub as_list : Doc → Option Elements
as_list (list ds) = Some ds
as_list _ = None

-- the members, if it is an object
abbrev pub as_object : Doc → Option Members
as_object (object ms) = Some ms
as_object _ = None
