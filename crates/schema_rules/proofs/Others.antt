-- A keyword that asks no schema says what it asserts.
use Rattle.std.proofs.Common.{◌≡◌, List, [], Bool, refl}
use Rattle.doc_tree.specs.Doc.{Doc, Members}
use Rattle.schema_rules.specs.Assertions.{asserts}
use Rattle.schema_rules.specs.Rules.{asks, joins}
use Rattle.schema_rules.specs.declared.keyword.Keyword.{Keyword}
use Rattle.schema_rules.specs.declared.keyword.Keyword.TheVariants.{Pattern, Properties, PatternProperties, AdditionalProperties, PropertyNames, PrefixItems, Items, Contains, MaxContains, AllOf, AnyOf, OneOf, Not, Then, Else, DependentSchemas, Ref}

-- the keyword is none that asks schemas, and none that searches
pub record AsksNone (k : Keyword) : Type 0 where
  pub not_pattern : k ≡ Pattern → ⊥
  pub not_properties : k ≡ Properties → ⊥
  pub not_pattern_properties : k ≡ PatternProperties → ⊥
  pub not_additional_properties : k ≡ AdditionalProperties → ⊥
  pub not_property_names : k ≡ PropertyNames → ⊥
  pub not_prefix_items : k ≡ PrefixItems → ⊥
  pub not_items : k ≡ Items → ⊥
  pub not_contains : k ≡ Contains → ⊥
  pub not_max_contains : k ≡ MaxContains → ⊥
  pub not_all_of : k ≡ AllOf → ⊥
  pub not_any_of : k ≡ AnyOf → ⊥
  pub not_one_of : k ≡ OneOf → ⊥
  pub not_not : k ≡ Not → ⊥
  pub not_then : k ≡ Then → ⊥
  pub not_else : k ≡ Else → ⊥
  pub not_dependent_schemas : k ≡ DependentSchemas → ⊥
  pub not_ref : k ≡ Ref → ⊥

pub asks-none : (k : Keyword) → AsksNone k → (root : Doc) (ms : Members) (v t : Doc) → asks root ms k v t ≡ []
asks-none Properties h root ms v t = absurd (h.not_properties refl)
asks-none PatternProperties h root ms v t = absurd (h.not_pattern_properties refl)
asks-none AdditionalProperties h root ms v t = absurd (h.not_additional_properties refl)
asks-none PropertyNames h root ms v t = absurd (h.not_property_names refl)
asks-none PrefixItems h root ms v t = absurd (h.not_prefix_items refl)
asks-none Items h root ms v t = absurd (h.not_items refl)
asks-none Contains h root ms v t = absurd (h.not_contains refl)
asks-none MaxContains h root ms v t = absurd (h.not_max_contains refl)
asks-none AllOf h root ms v t = absurd (h.not_all_of refl)
asks-none AnyOf h root ms v t = absurd (h.not_any_of refl)
asks-none OneOf h root ms v t = absurd (h.not_one_of refl)
asks-none Not h root ms v t = absurd (h.not_not refl)
asks-none Then h root ms v t = absurd (h.not_then refl)
asks-none Else h root ms v t = absurd (h.not_else refl)
asks-none DependentSchemas h root ms v t = absurd (h.not_dependent_schemas refl)
asks-none Ref h root ms v t = absurd (h.not_ref refl)
asks-none _ h root ms v t = refl

pub joins-none : (k : Keyword) → AsksNone k → (ms : Members) (v t : Doc) (answers : List Bool) → joins ms k v t answers ≡ asserts k v t
joins-none Pattern h ms v t answers = absurd (h.not_pattern refl)
joins-none Properties h ms v t answers = absurd (h.not_properties refl)
joins-none PatternProperties h ms v t answers = absurd (h.not_pattern_properties refl)
joins-none AdditionalProperties h ms v t answers = absurd (h.not_additional_properties refl)
joins-none PropertyNames h ms v t answers = absurd (h.not_property_names refl)
joins-none PrefixItems h ms v t answers = absurd (h.not_prefix_items refl)
joins-none Items h ms v t answers = absurd (h.not_items refl)
joins-none Contains h ms v t answers = absurd (h.not_contains refl)
joins-none MaxContains h ms v t answers = absurd (h.not_max_contains refl)
joins-none AllOf h ms v t answers = absurd (h.not_all_of refl)
joins-none AnyOf h ms v t answers = absurd (h.not_any_of refl)
joins-none OneOf h ms v t answers = absurd (h.not_one_of refl)
joins-none Not h ms v t answers = absurd (h.not_not refl)
joins-none Then h ms v t answers = absurd (h.not_then refl)
joins-none Else h ms v t answers = absurd (h.not_else refl)
joins-none DependentSchemas h ms v t answers = absurd (h.not_dependent_schemas refl)
joins-none Ref h ms v t answers = absurd (h.not_ref refl)
joins-none _ h ms v t answers = refl
