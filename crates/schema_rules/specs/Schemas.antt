-- Schemas in a schema by themselves, without their locations: a position's meaning depends on its schema alone.
use Rattle.std.specs.Prelude.{List, [], ◌∷◌, ◌++◌}
use Rattle.std.specs.Option.{option_to_list}
use Rattle.doc_tree.specs.Doc.{Doc, Members, no_members, member}
use Rattle.doc_tree.specs.Lists.{elements_list, values_list}
use Rattle.schema_rules.specs.Keywords.{keyword_of, shape_of}
use Rattle.schema_rules.specs.Parts.{elements_in, members_in}
use Rattle.schema_rules.specs.References.{target}
use Rattle.schema_rules.specs.declared.keyword.Keyword.{Keyword}
use Rattle.schema_rules.specs.declared.keyword.Keyword.TheVariants.{AllOf, AnyOf, OneOf, Not, If, Then, Else, DependentSchemas, Ref}
use Rattle.schema_rules.specs.declared.keyword.Shape.{Shape}
use Rattle.schema_rules.specs.declared.keyword.Shape.TheVariants.{Plain, One, Several, Named}
pub use Rattle.schema_rules.specs.Subschemas.{offered_in, offered_each, offered_named, offered_below, schemas_in, schemas_each, schemas_named, schemas_below, schemas}

-- the schemas that a value of that shape holds, without those below them
abbrev pub held_in : Shape → Doc → List Doc
held_in One d = d ∷ []
held_in Several d = elements_list (elements_in d)
held_in Named d = values_list (members_in d)
held_in Plain d = []

-- those that the members of a schema object hold
abbrev pub held_by : Members → List Doc
held_by no_members = []
held_by (member k v ms) = held_in (shape_of (keyword_of k)) v ++ held_by ms

-- those that a keyword applies to the instance itself
abbrev pub applied_by : Doc → Keyword → Doc → List Doc
applied_by root AllOf v = elements_list (elements_in v)
applied_by root AnyOf v = elements_list (elements_in v)
applied_by root OneOf v = elements_list (elements_in v)
applied_by root Not v = v ∷ []
applied_by root If v = v ∷ []
applied_by root Then v = v ∷ []
applied_by root Else v = v ∷ []
applied_by root DependentSchemas v = values_list (members_in v)
applied_by root Ref v = option_to_list (target root v)
applied_by root _ v = []

abbrev pub applied_by_members : Doc → Members → List Doc
applied_by_members root no_members = []
applied_by_members root (member k v ms) = applied_by root (keyword_of k) v ++ applied_by_members root ms

-- those that a schema applies to the instance itself
abbrev pub applied : Doc → Doc → List Doc
applied root s = applied_by_members root (members_in s)
