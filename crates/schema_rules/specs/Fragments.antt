-- The fragment of a reference that stays within the schema (RFC 3986, sections 3.5 and 4.4).
use Rattle.std.specs.Prelude.{ℕ, ◌==◌, List, [], ◌∷◌, length, if◌then◌else◌, Option, Some, None, option_and_then, option_map, codes}
use Rattle.std.specs.Str.{is_utf8}
use Rattle.doc_tree.specs.Doc.{Doc, text, get_member}
use Rattle.percent_encoding.specs.Percent.{percent_decode}
use Rattle.schema_rules.specs.EarlierReferences.{without_front}
use Rattle.schema_rules.specs.Parts.{members_in}

-- what follows the `#`; a text without characters has an empty fragment
abbrev pub after_hash : List ℕ → Option (List ℕ)
after_hash s = if length s == 0 then Some s else without_front (codes "#") s

abbrev pub text_in : Option Doc → Option (List ℕ)
text_in (Some (text s)) = Some s
text_in _ = None

-- without an empty fragment at the end (Core, section 8.2.1)
abbrev pub without_hash : List ℕ → List ℕ
without_hash [] = []
without_hash (c ∷ []) = if c == 35 then [] else c ∷ []
without_hash (c ∷ d ∷ s) = c ∷ without_hash (d ∷ s)

-- the identifier of the whole schema (Core, section 8.2.1)
abbrev pub identifier : Doc → Option (List ℕ)
identifier root = option_map without_hash (text_in (get_member (codes "$id") (members_in root)))

-- the rest of a reference after the identifier, if it begins with that
abbrev pub behind : Option (List ℕ) → List ℕ → Option (List ℕ)
behind None s = None
behind (Some id) s = without_front id s

abbrev pub or_else : Option (List ℕ) → Option (List ℕ) → Option (List ℕ)
or_else (Some f) o = Some f
or_else None o = o

-- the fragment of a reference that is nothing else, or that has the identifier in front
abbrev pub fragment : Doc → List ℕ → Option (List ℕ)
fragment root s = or_else (after_hash s) (option_and_then after_hash (behind (identifier root) s))

abbrev pub if_utf8 : List ℕ → Option (List ℕ)
if_utf8 s = if is_utf8 s then Some s else None

-- the text that a fragment spells, if it spells one (RFC 3986, section 2.5)
abbrev pub spelled : List ℕ → Option (List ℕ)
spelled f = if_utf8 (percent_decode f)
