-- The schema that a reference names (JSON Schema Core, sections 8.2.1, 8.2.2 and 8.2.3.1).
use Rattle.std.specs.Prelude.{ℕ, List, Bool, false, Option, Some, None, is_none, option_and_then}
use Rattle.doc_tree.specs.Doc.{Doc, text}
use Rattle.doc_pointer.specs.Reading.{pointer_of}
use Rattle.schema_rules.specs.Anchors.{with_anchor}
use Rattle.schema_rules.specs.EarlierReferences.{earlier_target}
use Rattle.schema_rules.specs.Fragments.{fragment, spelled}
use Rattle.schema_rules.specs.Pointers.{walk}
use Rattle.schema_rules.specs.Subschemas.{schemas}
use Rattle.schema_rules.specs.declared.keyword.Keyword.{Keyword}
use Rattle.schema_rules.specs.declared.keyword.Keyword.TheVariants.{Ref}
use Rattle.schema_rules.specs.declared.keyword.Shape.TheVariants.{One}
use Rattle.schema_rules.specs.declared.profile.Profile.{Profile}
use Rattle.schema_rules.specs.declared.profile.Profile.TheVariants.{Two, Three}

-- the text that the fragment of a reference spells
abbrev pub spelled_by : Doc → Doc → Option (List ℕ)
spelled_by root (text s) = option_and_then spelled (fragment root s)
spelled_by root _ = None

-- the tokens that lead from the root to the schema that a reference names, if that text is a pointer
abbrev pub tokens_to : Doc → Doc → Option (List (List ℕ))
tokens_to root v = option_and_then pointer_of (spelled_by root v)

-- the schema at the end of the tokens; without tokens the one that has this anchor
abbrev pub reached : Doc → Option (List (List ℕ)) → Option (List ℕ) → Option Doc
reached root (Some ks) name = walk One ks root
reached root None name = option_and_then (λ s. with_anchor s (schemas root)) name

-- the schema that a reference names; none if it names none or is no text
abbrev pub target : Doc → Doc → Option Doc
target root v = reached root (tokens_to root v) (spelled_by root v)

-- the same as a profile offers it
abbrev pub offered_target : Profile → Doc → Doc → Option Doc
offered_target Two root v = earlier_target root v
offered_target Three root v = target root v

-- the member is a reference that names no schema in the profile
abbrev pub is_dangling : Profile → Doc → Keyword → Doc → Bool
is_dangling profile root Ref v = is_none (offered_target profile root v)
is_dangling profile root _ v = false
