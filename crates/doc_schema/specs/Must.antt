-- The schemas that must hold of parts of a document for the whole schema to hold of it: those that keywords apply which
-- hold exactly when each schema that they apply does (JSON Schema Core, sections 8.2.3.1 and 10).
use Rattle.std.specs.Prelude.{◌≡◌, ◌⊎◌, ◌↔◌, List, [], ◌++◌, Bool, true, false, ◌&&◌, if◌then◌else◌}
use Rattle.doc_tree.specs.Doc.{Doc, boolean, object, Members, no_members, member}
use Rattle.schema_graph.specs.Walks.{In}
use Rattle.schema_rules.specs.Keywords.{keyword_of}
use Rattle.schema_rules.specs.Rules.{Ask, ask, asks}
use Rattle.schema_rules.specs.declared.keyword.Keyword.{Keyword}
use Rattle.schema_rules.specs.declared.keyword.Keyword.TheVariants.{Properties, PatternProperties, AdditionalProperties, PropertyNames, PrefixItems, Items, AllOf, Ref}
use Rattle.doc_schema.specs.Judge.{Judges}
use Rattle.doc_schema.specs.Steps.{holds, verdict}

-- ---- what must hold

-- the keyword holds exactly when each schema that it applies does
abbrev pub wants_all : Keyword → Bool
wants_all Properties = true
wants_all PatternProperties = true
wants_all AdditionalProperties = true
wants_all PropertyNames = true
wants_all PrefixItems = true
wants_all Items = true
wants_all AllOf = true
wants_all Ref = true
wants_all _ = false

-- the asks of these keywords
abbrev pub wanted_by : Doc → Members → Members → Doc → List Ask
wanted_by root beside no_members t = []
wanted_by root beside (member k v ms) t = (if wants_all (keyword_of k) then asks root beside (keyword_of k) v t else []) ++ wanted_by root beside ms t

abbrev pub wanted : Doc → Doc → Doc → List Ask
wanted root (object ms) t = wanted_by root ms ms t
wanted root _ t = []

-- the schema s must hold of the instance t for the whole schema to hold of the document d
pub data MustHold (root d : Doc) : Doc → Doc → Type 0 where
  whole : MustHold root d root d
  part : {s t p u : Doc} → MustHold root d s t → In (ask p u) (wanted root s t) → MustHold root d p u

-- ---- what a schema says besides

-- what its other keywords say
abbrev pub others_hold : (Doc → Doc → Bool) → Doc → Members → Members → Doc → Bool
others_hold known root beside no_members t = true
others_hold known root beside (member k v ms) t = (if wants_all (keyword_of k) then true else holds known root beside (keyword_of k) v t) && others_hold known root beside ms t

abbrev pub holds_itself : Doc → Doc → Doc → Bool
holds_itself root (boolean b) t = b
holds_itself root (object ms) t = others_hold (verdict root) root ms ms t
holds_itself root _ t = true

-- ---- a change

-- the new document is valid exactly when each schema that must hold of a part had to hold of the same part before, or
-- holds itself
abbrev pub IsJudgedByChange : Doc → Doc → Doc → Type 0
IsJudgedByChange root old new = Judges root new true ↔ ((s t : Doc) → MustHold root new s t → MustHold root old s t ⊎ (holds_itself root s t ≡ true))
