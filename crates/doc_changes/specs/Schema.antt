-- The refusal of a schema, and the validity of a document under one, by what doc_schema says of both.
use Rattle.std.specs.Prelude.{◌≡◌, Bool, false, Option, None, option_map}
use Rattle.doc_tree.specs.Doc.{Doc, boolean}
use Rattle.doc_tree.specs.Sound.{IsSound}
use Rattle.doc_schema.specs.Faults.{IsFaultless, first_fault}
use Rattle.doc_schema.specs.Judge.{judge, enough}
use Rattle.doc_schema.specs.Steps.{settled}
use Rattle.schema_rules.specs.declared.profile.Profile.{Profile}
use Rattle.doc_changes.specs.Refusals.{plain}
use Rattle.doc_changes.specs.declared.refusal.Refusal.{Refusal}

-- why a schema is refused in the profile, if it is: by the number of its first fault
unfoldable pub schema_refusal : Profile → Doc → Option Refusal
schema_refusal profile schema = option_map plain (first_fault profile schema)

-- it isn't refused there, has no fault, and is a document of memory
abbrev pub IsAccepted : Profile → Doc → Type 0
IsAccepted profile schema = (schema_refusal profile schema ≡ None) × IsFaultless profile schema × IsSound schema

-- whether a document is valid under a schema: the judgement with enough steps is yes
abbrev pub is_valid : Doc → Doc → Bool
is_valid schema doc = settled (judge schema (enough schema doc) schema doc)

-- the schema `true`
abbrev pub is_true : Doc → Bool
is_true (boolean b) = b
is_true _ = false
