-- The schema that a pointer leads to: through schemas, and keywords that hold schemas, alone (JSON Schema Core, sections 8.2.3.1 and 9.2.1).
use Rattle.std.specs.Prelude.{ℕ, List, [], ◌∷◌, Option, Some, None, option_and_then}
use Rattle.doc_tree.specs.Doc.{Doc, list, object, get_member}
use Rattle.doc_pointer.specs.Place.{element_named}
use Rattle.schema_rules.specs.Keywords.{keyword_of, shape_of}
use Rattle.schema_rules.specs.declared.keyword.Shape.{Shape}
use Rattle.schema_rules.specs.declared.keyword.Shape.TheVariants.{One, Several, Named}

-- the value that a token leads to, from a value of that shape: `One` for a schema, `Several` and `Named` for a keyword's value
abbrev pub held_at : Shape → List ℕ → Doc → Option Doc
held_at One k (object ms) = get_member k ms
held_at Several k (list ds) = element_named 0 k ds
held_at Named k (object ms) = get_member k ms
held_at _ k d = None

-- the shape of that value: below a schema that of the keyword
abbrev pub shape_at : Shape → List ℕ → Shape
shape_at One k = shape_of (keyword_of k)
shape_at _ k = One

-- the schema at the end of the tokens, one after the other
abbrev pub walk : Shape → List (List ℕ) → Doc → Option Doc
walk One [] d = Some d
walk _ [] d = None
walk shape (k ∷ ks) d = option_and_then (walk (shape_at shape k) ks) (held_at shape k d)
