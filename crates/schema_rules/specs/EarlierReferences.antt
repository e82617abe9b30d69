-- The references of profiles 1 and 2: to the root, or to one of the root's definitions by name (JSON Schema Core, sections 8.2.3.1 and 8.2.4).
use Rattle.std.specs.Prelude.{ℕ, nat_le, ◌==◌, List, [], ◌∷◌, Bool, false, ◌&&◌, ◌||◌, if◌then◌else◌, Option, Some, None, codes}
use Rattle.std.specs.List.{list_all}
use Rattle.std.specs.Str.{bytes_eq}
use Rattle.doc_tree.specs.Doc.{Doc, text, get_member}
use Rattle.schema_rules.specs.Parts.{members_in, beside}

-- a letter, a digit, `_`, `-` or `.`
abbrev pub is_name_byte : ℕ → Bool
is_name_byte c = (nat_le 65 c && nat_le c 90) || (nat_le 97 c && nat_le c 122) || (nat_le 48 c && nat_le c 57) || c == 95 || c == 45 || c == 46

-- one such byte or more, so that no byte of the name is escaped in a pointer or a URI
abbrev pub is_name : List ℕ → Bool
is_name [] = false
is_name (c ∷ cs) = list_all is_name_byte (c ∷ cs)

-- the rest of a text after this front, if it begins with that
abbrev pub without_front : List ℕ → List ℕ → Option (List ℕ)
without_front [] s = Some s
without_front (c ∷ cs) [] = None
without_front (c ∷ cs) (d ∷ s) = if c == d then without_front cs s else None

-- the root's definition of that name (Core, section 8.2.4)
abbrev pub definition : Doc → Option (List ℕ) → Option Doc
definition root None = None
definition root (Some name) = if is_name name then get_member name (members_in (beside (codes "$defs") (members_in root))) else None

-- the root for `#`, a definition for `#/$defs/` and its name (Core, section 8.2.3.1)
abbrev pub earlier_target_of : Doc → List ℕ → Option Doc
earlier_target_of root name = if bytes_eq name (codes "#") then Some root else definition root (without_front (codes "#/$defs/") name)

-- the schema that a reference names; none if it names none or is no text
abbrev pub earlier_target : Doc → Doc → Option Doc
earlier_target root (text name) = earlier_target_of root name
earlier_target root _ = None
