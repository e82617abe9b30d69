-- The value that a list of tokens leads to (RFC 6901, section 4).
use Rattle.std.specs.Prelude.{ℕ, suc, List, [], ◌∷◌, if◌then◌else◌, Option, Some, None, option_and_then, decimal}
use Rattle.std.specs.Str.{bytes_eq}
use Rattle.doc_tree.specs.Doc.{Doc, list, object, Elements, no_elements, element, get_member}

-- the element whose index, counted from n, has the token as its decimal text
abbrev pub element_named : ℕ → List ℕ → Elements → Option Doc
element_named n k no_elements = None
element_named n k (element d ds) = if bytes_eq (decimal n) k then Some d else element_named (suc n) k ds

-- in an object the member of that name, in an array the element of that index
abbrev pub child_named : List ℕ → Doc → Option Doc
child_named k (object ms) = get_member k ms
child_named k (list ds) = element_named 0 k ds
child_named k _ = None

-- the value that the tokens lead to, one after the other
abbrev pub resolve : List (List ℕ) → Doc → Option Doc
resolve [] d = Some d
resolve (k ∷ ks) d = option_and_then (resolve ks) (child_named k d)
