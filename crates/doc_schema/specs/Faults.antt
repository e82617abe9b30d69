-- The number that refuses a schema: that of the first of these faults that it has.
use Rattle.std.specs.Prelude.{◌≡◌, ◌<◌, ◌⊎◌, ℕ, List, [], ◌∷◌, length, Bool, true, false, not, ◌&&◌, ◌||◌, nat_lt, nat_le, if◌then◌else◌, Option, Some, None}
use Rattle.std.specs.List.{list_any}
use Rattle.doc_tree.specs.Doc.{Doc, height}
use Rattle.doc_tree.specs.Text.{text_of}
use Rattle.doc_tree.specs.TreeView.{view}
use Rattle.doc_tree.specs.declared.tree.Tree.{Tree}
use Rattle.refusals.specs.declared.numbers.TheConstants.{MEMORY, SCHEMA_FORM, SCHEMA_KEYWORD, SCHEMA_REF, SCHEMA_LOOP, SCHEMA_SIZE}
use Rattle.schema_graph.specs.Walks.{depth}
use Rattle.schema_pattern.specs.Tables.{are_patterns}
use Rattle.schema_rules.specs.Anchors.{are_different, offered_anchors}
use Rattle.schema_rules.specs.PatternTexts.{offered_texts}
use Rattle.schema_rules.specs.declared.profile.Profile.{Profile}
use Rattle.schema_rules.specs.declared.profile.Profile.TheVariants.{Three}
use Rattle.doc_schema.specs.Defects.{HasDefect, has_defect}
use Rattle.doc_schema.specs.Loops.{HasSchemaLoop}
use Rattle.doc_schema.specs.Positions.{offered_positions}
use Rattle.doc_schema.specs.Schemas.{applied, schemas}
use Rattle.doc_schema.specs.declared.defects.Defect.{Defect}
use Rattle.doc_schema.specs.declared.defects.Defect.TheVariants.{Form, LeftOut, Reference}
use Rattle.doc_schema.specs.declared.fault.SchemaFault.{SchemaFault}

-- the compact text is too long, or it nests too deep
abbrev pub IsTooLong : Doc → Type 0
IsTooLong s = (262_144 < length (text_of s)) ⊎ (64 < height s)

-- there are too many patterns, or one is too long
abbrev pub are_too_large : List (List ℕ) → Bool
are_too_large ps = nat_lt 64 (length ps) || list_any (λ p. nat_lt 4_096 (length p)) ps

-- the schema is, or its patterns are
abbrev pub IsTooLarge : Profile → Doc → Type 0
IsTooLarge profile s = IsTooLong s ⊎ (are_too_large (offered_texts profile s) ≡ true)

-- the texts of patterns are patterns, and no two anchors are equal
abbrev pub texts_fit : Profile → Doc → Bool
texts_fit profile s = are_patterns (offered_texts profile s) && are_different (offered_anchors profile s)

-- a value hasn't its form, the text of a pattern is none, or two anchors are equal
abbrev pub IsMalformed : Profile → Doc → Type 0
IsMalformed profile s = HasDefect profile Form s ⊎ (texts_fit profile s ≡ false)

-- nothing is wrong with the schema in the profile
pub record IsFaultless (profile : Profile) (s : Doc) : Type 0 where
  pub size : IsTooLarge profile s → ⊥
  pub form : IsMalformed profile s → ⊥
  pub keywords : HasDefect profile LeftOut s → ⊥
  pub references : HasDefect profile Reference s → ⊥
  pub loops : HasSchemaLoop s → ⊥

-- Nothing is wrong with the schema, and it has patterns. Only of such a one the patterns may be too large together: how much
-- room the tables of a pattern take the kit doesn't say.
abbrev pub MayHaveLargePatterns : Profile → Doc → Type 0
MayHaveLargePatterns profile s = IsFaultless profile s × (0 < length (offered_texts profile s))

-- the tree is a schema without a fault in the profile that offers all keywords
abbrev pub IsSchema : Tree → Type 0
IsSchema t = IsFaultless Three (view t)

-- the number is that of the first fault that the whole schema has
pub data IsFirstFault (profile : Profile) (s : Doc) (number : ℕ) : Type 0 where
  too_large : number ≡ SCHEMA_SIZE → IsTooLarge profile s → IsFirstFault profile s number
  malformed : number ≡ SCHEMA_FORM → (IsTooLarge profile s → ⊥) → IsMalformed profile s → IsFirstFault profile s number
  left_out : number ≡ SCHEMA_KEYWORD → (IsTooLarge profile s → ⊥) → (IsMalformed profile s → ⊥) → HasDefect profile LeftOut s → IsFirstFault profile s number
  dangling : number ≡ SCHEMA_REF → (IsTooLarge profile s → ⊥) → (IsMalformed profile s → ⊥) → (HasDefect profile LeftOut s → ⊥) → HasDefect profile Reference s → IsFirstFault profile s number
  looped : number ≡ SCHEMA_LOOP → (IsTooLarge profile s → ⊥) → (IsMalformed profile s → ⊥) → (HasDefect profile LeftOut s → ⊥) → (HasDefect profile Reference s → ⊥) → HasSchemaLoop s → IsFirstFault profile s number

-- the fault is the schema's first, or there was no memory
abbrev pub IsFaultOf : Profile → Doc → SchemaFault → Type 0
IsFaultOf profile s fault = IsFirstFault profile s fault.number ⊎ (fault.number ≡ MEMORY)

-- ---- the same by tests

abbrev pub is_too_long : Doc → Bool
is_too_long s = nat_lt 262_144 (length (text_of s)) || nat_lt 64 (height s)

abbrev pub is_too_large : Profile → Doc → Bool
is_too_large profile s = is_too_long s || are_too_large (offered_texts profile s)

-- some position that the profile offers has the defect
abbrev pub is_marred : Profile → Defect → Doc → Bool
is_marred profile defect s = list_any (has_defect profile defect s) (offered_positions profile s)

abbrev pub is_malformed : Profile → Doc → Bool
is_malformed profile s = is_marred profile Form s || not (texts_fit profile s)

-- from some schema a walk along those that apply to the instance itself has as many edges as there are schemas: it meets one twice
abbrev pub is_looped : Doc → Bool
is_looped s = list_any (λ a. nat_le (length (schemas s)) (depth (applied s) (length (schemas s)) a)) (schemas s)

-- the number of the first test that passes
abbrev pub first_number : List (Bool × ℕ) → Option ℕ
first_number [] = None
first_number (row ∷ rows) = if row.0 then Some row.1 else first_number rows

-- the number of the first fault, if there is one
unfoldable pub first_fault : Profile → Doc → Option ℕ
first_fault profile s = first_number
    ((is_too_large profile s, SCHEMA_SIZE)
    ∷ (is_malformed profile s, SCHEMA_FORM)
    ∷ (is_marred profile LeftOut s, SCHEMA_KEYWORD)
    ∷ (is_marred profile Reference s, SCHEMA_REF)
    ∷ (is_looped s, SCHEMA_LOOP)
    ∷ [])
