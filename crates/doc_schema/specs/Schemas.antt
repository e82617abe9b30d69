-- Schemas in a schema by themselves, without their locations: a position's meaning depends on its schema alone.
use Rattle.std.specs.Prelude.{◌≡◌, ⊤, [], false}
use Rattle.doc_tree.specs.Doc.{Doc, object, Members, no_members, member}
use Rattle.schema_graph.specs.Walks.{In, IsLooped}
use Rattle.schema_rules.specs.Keywords.{keyword_of}
use Rattle.schema_rules.specs.PatternTexts.{pattern_texts}
use Rattle.schema_rules.specs.References.{is_dangling}
use Rattle.schema_rules.specs.declared.profile.Profile.TheVariants.{Two}
pub use Rattle.schema_rules.specs.Schemas.{schemas_in, schemas_each, schemas_named, schemas_below, schemas, held_in, held_by, applied_by, applied_by_members, applied}

-- some walk along such schemas comes back
abbrev pub IsLoopedSchema : Doc → Type 0
IsLoopedSchema root = IsLooped (applied root) (schemas root)

-- each member that is a reference is one of profile 2, and names a schema
abbrev pub AreNear : Doc → Members → Type 0
AreNear root no_members = ⊤
AreNear root (member k v ms) = (is_dangling Two root (keyword_of k) v ≡ false) × AreNear root ms

-- no such walk comes back, there are no patterns, and references are those of profile 2
pub record IsPlain (root : Doc) : Type 0 where
  pub loops : IsLoopedSchema root → ⊥
  pub patterns : pattern_texts root ≡ []
  pub near : (ms : Members) → In (object ms) (schemas root) → AreNear root ms
