-- Parts of a document, nothing if it has none.
use Rattle.std.specs.Prelude.{ℕ, zero, suc, List, Option, Some, None}
use Rattle.doc_tree.specs.Doc.{Doc, null, list, object, Elements, no_elements, element, Members, no_members, get_member}

-- the elements, none if it is no list
abbrev pub elements_in : Doc → Elements
elements_in (list ds) = ds
elements_in _ = no_elements

-- the members, none if it is no object
abbrev pub members_in : Doc → Members
members_in (object ms) = ms
members_in _ = no_members

-- the elements that follow the first n
abbrev pub after : ℕ → Elements → Elements
after n no_elements = no_elements
after zero (element d ds) = element d ds
after (suc n) (element d ds) = after n ds

-- null in place of nothing
abbrev pub or_null : Option Doc → Doc
or_null None = null
or_null (Some d) = d

-- the value of the member of that name; null if there is none
abbrev pub beside : List ℕ → Members → Doc
beside k ms = or_null (get_member k ms)
