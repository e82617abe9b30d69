-- The anchors that schemas in a schema have (JSON Schema Core, section 8.2.2).
use Rattle.std.specs.Prelude.{ℕ, nat_le, ◌==◌, List, [], ◌∷◌, ◌++◌, Bool, true, false, not, ◌&&◌, ◌||◌, if◌then◌else◌, Option, Some, None, codes}
use Rattle.std.specs.List.{list_all, list_any}
use Rattle.std.specs.Option.{option_to_list}
use Rattle.std.specs.Str.{bytes_eq}
use Rattle.doc_tree.specs.Doc.{Doc, text, get_member}
use Rattle.schema_rules.specs.EarlierReferences.{is_name_byte}
use Rattle.schema_rules.specs.Fragments.{text_in}
use Rattle.schema_rules.specs.Parts.{members_in}
use Rattle.schema_rules.specs.Subschemas.{schemas}
use Rattle.schema_rules.specs.declared.profile.Profile.{Profile}
use Rattle.schema_rules.specs.declared.profile.Profile.TheVariants.{Two, Three}

-- a letter or `_`
abbrev pub begins_anchor : ℕ → Bool
begins_anchor c = (nat_le 65 c && nat_le c 90) || (nat_le 97 c && nat_le c 122) || c == 95

-- such a byte, then letters, digits, `_`, `-` and `.`
abbrev pub is_anchor : List ℕ → Bool
is_anchor [] = false
is_anchor (c ∷ cs) = begins_anchor c && list_all is_name_byte cs

-- a text of that form
abbrev pub is_anchor_text : Doc → Bool
is_anchor_text (text s) = is_anchor s
is_anchor_text _ = false

-- the anchor of a schema, if it has one
abbrev pub anchor_of : Doc → Option (List ℕ)
anchor_of d = text_in (get_member (codes "$anchor") (members_in d))

-- those of the schemas, in their order
abbrev pub anchors_of : List Doc → List (List ℕ)
anchors_of [] = []
anchors_of (d ∷ ds) = option_to_list (anchor_of d) ++ anchors_of ds

-- those in the whole schema that a profile offers
abbrev pub offered_anchors : Profile → Doc → List (List ℕ)
offered_anchors Two root = []
offered_anchors Three root = anchors_of (schemas root)

-- no two are equal
abbrev pub are_different : List (List ℕ) → Bool
are_different [] = true
are_different (s ∷ rest) = not (list_any (bytes_eq s) rest) && are_different rest

-- the text is there, and is this one
abbrev pub is_this : List ℕ → Option (List ℕ) → Bool
is_this s None = false
is_this s (Some a) = bytes_eq s a

-- the first of the schemas that has this anchor
abbrev pub with_anchor : List ℕ → List Doc → Option Doc
with_anchor s [] = None
with_anchor s (d ∷ ds) = if is_this s (anchor_of d) then Some d else with_anchor s ds
