-- The texts in a schema that are read as patterns.
use Rattle.std.specs.Prelude.{ℕ, List, [], ◌∷◌, ◌++◌}
use Rattle.doc_tree.specs.Doc.{Doc, text, Members, no_members, member}
use Rattle.doc_tree.specs.Lists.{names_list}
use Rattle.schema_rules.specs.Keywords.{keyword_of}
use Rattle.schema_rules.specs.Parts.{members_in}
use Rattle.schema_rules.specs.Profiles.{offered}
use Rattle.schema_rules.specs.Schemas.{offered_in}
use Rattle.schema_rules.specs.declared.keyword.Keyword.{Keyword}
use Rattle.schema_rules.specs.declared.keyword.Keyword.TheVariants.{Pattern, PatternProperties}
use Rattle.schema_rules.specs.declared.keyword.Shape.TheVariants.{One}
use Rattle.schema_rules.specs.declared.profile.Profile.{Profile}
use Rattle.schema_rules.specs.declared.profile.Profile.TheVariants.{Three}

-- those in a keyword's value (JSON Schema Validation, section 6.3.3; Core, section 10.3.2.2)
abbrev pub texts_of : Keyword → Doc → List (List ℕ)
texts_of Pattern (text s) = s ∷ []
texts_of PatternProperties v = names_list (members_in v)
texts_of _ _ = []

-- those in the members of a schema object, but not in the schemas below it
abbrev pub texts_by : Profile → Members → List (List ℕ)
texts_by profile no_members = []
texts_by profile (member k v ms) = texts_of (offered profile (keyword_of k)) v ++ texts_by profile ms

abbrev pub texts_in : Profile → List Doc → List (List ℕ)
texts_in profile [] = []
texts_in profile (d ∷ ds) = texts_by profile (members_in d) ++ texts_in profile ds

-- those in all schemas that a profile offers, in their order
abbrev pub offered_texts : Profile → Doc → List (List ℕ)
offered_texts profile root = texts_in profile (offered_in profile One root)

-- the same in the profile that offers all keywords
abbrev pub pattern_texts : Doc → List (List ℕ)
pattern_texts = offered_texts Three
