-- Schemas that lead back to themselves at one and the same instance.
use Rattle.std.specs.Prelude.{ℕ, suc, List, [], ◌∷◌, ◌++◌, map, if◌then◌else◌, Option, Some, None, decimal}
use Rattle.std.specs.Option.{option_to_list}
use Rattle.std.specs.Str.{bytes_eq}
use Rattle.doc_tree.specs.Doc.{Doc, list, Elements, no_elements, element, Members, no_members, member, Place, name, index}
use Rattle.schema_graph.specs.Loops.{HasLoop}
use Rattle.schema_rules.specs.Anchors.{anchor_of, is_this}
use Rattle.schema_rules.specs.Keywords.{keyword_of}
use Rattle.schema_rules.specs.Parts.{elements_in, members_in}
use Rattle.schema_rules.specs.Pointers.{held_at, shape_at}
use Rattle.schema_rules.specs.References.{spelled_by, target, tokens_to}
use Rattle.schema_rules.specs.declared.keyword.Shape.{Shape}
use Rattle.schema_rules.specs.declared.keyword.Shape.TheVariants.{One, Several}
use Rattle.schema_rules.specs.declared.keyword.Keyword.{Keyword}
use Rattle.schema_rules.specs.declared.keyword.Keyword.TheVariants.{AllOf, AnyOf, OneOf, Not, If, Then, Else, DependentSchemas, Ref}
use Rattle.doc_schema.specs.Positions.{Position, position, positions}

-- none if there is nothing
abbrev pub after_place : {A : Type 0} → (A → List Place) → Option A → List Place
after_place f None = []
after_place f (Some x) = f x

-- the index, counted from n, of the element that a token names
abbrev pub index_named : ℕ → List ℕ → Elements → ℕ
index_named n k no_elements = n
index_named n k (element d ds) = if bytes_eq (decimal n) k then n else index_named (suc n) k ds

-- the place that a token names in a value of that shape
abbrev pub place_at : Shape → List ℕ → Doc → Place
place_at Several k (list ds) = index (index_named 0 k ds)
place_at _ k d = name k

-- the location that the tokens lead to, from a value of that shape
abbrev pub places_along : Shape → List (List ℕ) → Doc → List Place
places_along shape [] d = []
places_along shape (k ∷ ks) d = place_at shape k d ∷ after_place (places_along (shape_at shape k) ks) (held_at shape k d)

-- that of the first position whose schema has this anchor
abbrev pub place_with_anchor : List ℕ → List Position → List Place
place_with_anchor s [] = []
place_with_anchor s (p ∷ ps) = if is_this s (anchor_of p.schema) then p.location else place_with_anchor s ps

-- the location that the tokens lead to; without tokens that of the schema that has this anchor
abbrev pub location_by : Doc → Option (List (List ℕ)) → Option (List ℕ) → List Place
location_by root (Some ks) anchor = places_along One ks root
location_by root None anchor = after_place (λ s. place_with_anchor s (positions root)) anchor

-- the location of the schema that a reference names, if it names one
abbrev pub target_location : Doc → Doc → List Place
target_location root v = location_by root (tokens_to root v) (spelled_by root v)

-- the schema that a reference names
abbrev pub targets : Doc → Doc → List Position
targets root v = map (position (target_location root v)) (option_to_list (target root v))

-- the elements of an array of schemas, the first of which has the index n
abbrev pub elements_at : List Place → ℕ → Elements → List Position
elements_at here n no_elements = []
elements_at here n (element d ds) = position (here ++ index n ∷ []) d ∷ elements_at here (suc n) ds

-- the schemas of an object by name
abbrev pub members_at : List Place → Members → List Position
members_at here no_members = []
members_at here (member k d ms) = position (here ++ name k ∷ []) d ∷ members_at here ms

-- the schemas that a keyword applies to the instance itself, with the location of the keyword's value (Core, sections 8.2.3.1 and 10.2)
abbrev pub led_by : Doc → List Place → Keyword → Doc → List Position
led_by root here AllOf v = elements_at here 0 (elements_in v)
led_by root here AnyOf v = elements_at here 0 (elements_in v)
led_by root here OneOf v = elements_at here 0 (elements_in v)
led_by root here Not v = position here v ∷ []
led_by root here If v = position here v ∷ []
led_by root here Then v = position here v ∷ []
led_by root here Else v = position here v ∷ []
led_by root here DependentSchemas v = members_at here (members_in v)
led_by root here Ref v = targets root v
led_by root here _ v = []

abbrev pub led_by_members : Doc → List Place → Members → List Position
led_by_members root here no_members = []
led_by_members root here (member k v ms) = led_by root (here ++ name k ∷ []) (keyword_of k) v ++ led_by_members root here ms

-- the positions that a position leads to
abbrev pub leads : Doc → Position → List Position
leads root p = led_by_members root p.location (members_in p.schema)

-- some list of positions, each of which leads to the one after it, ends with the position that it begins with
abbrev pub HasSchemaLoop : Doc → Type 0
HasSchemaLoop root = HasLoop (leads root) (positions root)
