-- The keyword that a name is (JSON Schema 2020-12), and how the values of a keyword hold schemas.
use Rattle.std.specs.Prelude.{ℕ, List, [], ◌∷◌, if◌then◌else◌, Option, Some, None, codes}
use Rattle.std.specs.Str.{bytes_eq}
use Rattle.schema_rules.specs.declared.keyword.Keyword.{Keyword}
use Rattle.schema_rules.specs.declared.keyword.Keyword.TheVariants.{OfType, Enumeration, Constant, MultipleOf, Minimum, Maximum, ExclusiveMinimum, ExclusiveMaximum, MinLength, MaxLength, Pattern, MinItems, MaxItems, UniqueItems, MinProperties, MaxProperties, Required, DependentRequired, Properties, PatternProperties, AdditionalProperties, PropertyNames, PrefixItems, Items, Contains, MinContains, MaxContains, AllOf, AnyOf, OneOf, Not, If, Then, Else, DependentSchemas, Defs, Anchor, Ref, Id, Dialect, LeftOut, Unknown}
use Rattle.schema_rules.specs.declared.keyword.Shape.{Shape}
use Rattle.schema_rules.specs.declared.keyword.Shape.TheVariants.{Plain, One, Several, Named}

-- the keyword beside the name in a table
abbrev pub found : List (List ℕ × Keyword) → List ℕ → Option Keyword
found [] name = None
found (row ∷ rows) name = if bytes_eq name row.0 then Some row.1 else found rows name

-- the first, or else the second
abbrev pub or_else : Option Keyword → Option Keyword → Option Keyword
or_else None others = others
or_else (Some k) others = Some k

-- a name that no table lists asserts nothing (Core, section 6.5)
abbrev pub or_unknown : Option Keyword → Keyword
or_unknown None = Unknown
or_unknown (Some k) = k

-- assertions on instances of any type (Validation, section 6.1)
unfoldable pub for_any : List ℕ → Option Keyword
for_any name = found (
    (codes "type", OfType)
    ∷ (codes "enum", Enumeration)
    ∷ (codes "const", Constant)
    ∷ []) name

-- assertions on numbers (Validation, section 6.2)
unfoldable pub for_numbers : List ℕ → Option Keyword
for_numbers name = found (
    (codes "multipleOf", MultipleOf)
    ∷ (codes "minimum", Minimum)
    ∷ (codes "maximum", Maximum)
    ∷ (codes "exclusiveMinimum", ExclusiveMinimum)
    ∷ (codes "exclusiveMaximum", ExclusiveMaximum)
    ∷ []) name

-- assertions on the sizes of texts, arrays and objects, and on their parts (Validation, sections 6.3 to 6.5)
unfoldable pub for_sizes : List ℕ → Option Keyword
for_sizes name = found (
    (codes "minLength", MinLength)
    ∷ (codes "maxLength", MaxLength)
    ∷ (codes "minItems", MinItems)
    ∷ (codes "maxItems", MaxItems)
    ∷ (codes "uniqueItems", UniqueItems)
    ∷ (codes "minProperties", MinProperties)
    ∷ (codes "maxProperties", MaxProperties)
    ∷ (codes "required", Required)
    ∷ (codes "dependentRequired", DependentRequired)
    ∷ []) name

-- schemas for the children of an instance (Core, section 10.3)
unfoldable pub for_children : List ℕ → Option Keyword
for_children name = found (
    (codes "properties", Properties)
    ∷ (codes "additionalProperties", AdditionalProperties)
    ∷ (codes "propertyNames", PropertyNames)
    ∷ (codes "prefixItems", PrefixItems)
    ∷ (codes "items", Items)
    ∷ (codes "contains", Contains)
    ∷ (codes "minContains", MinContains)
    ∷ (codes "maxContains", MaxContains)
    ∷ []) name

-- schemas for the instance itself (Core, section 10.2)
unfoldable pub in_place : List ℕ → Option Keyword
in_place name = found (
    (codes "allOf", AllOf)
    ∷ (codes "anyOf", AnyOf)
    ∷ (codes "oneOf", OneOf)
    ∷ (codes "not", Not)
    ∷ (codes "if", If)
    ∷ (codes "then", Then)
    ∷ (codes "else", Else)
    ∷ []) name

-- the core vocabulary (Core, section 8)
unfoldable pub of_core : List ℕ → Option Keyword
of_core name = found (
    (codes "$defs", Defs)
    ∷ (codes "$ref", Ref)
    ∷ (codes "$id", Id)
    ∷ (codes "$schema", Dialect)
    ∷ []) name

-- keywords that profile 2 refuses and never ignores: anchors, dynamic references, vocabularies, regular expressions, schemas that depend on a name, what other keywords left over (Core, sections 8, 10.2.2.4, 10.3.2.2 and 11; Validation, section 6.3.3). One that a later profile offers has its own keyword here
unfoldable pub not_offered : List ℕ → Option Keyword
not_offered name = found (
    (codes "pattern", Pattern)
    ∷ (codes "patternProperties", PatternProperties)
    ∷ (codes "unevaluatedItems", LeftOut)
    ∷ (codes "unevaluatedProperties", LeftOut)
    ∷ (codes "dependentSchemas", DependentSchemas)
    ∷ (codes "$anchor", Anchor)
    ∷ (codes "$dynamicRef", LeftOut)
    ∷ (codes "$dynamicAnchor", LeftOut)
    ∷ (codes "$vocabulary", LeftOut)
    ∷ []) name

-- the keyword that a name is
unfoldable pub keyword_of : List ℕ → Keyword
keyword_of name = or_unknown (or_else (for_any name) (or_else (for_numbers name) (or_else (for_sizes name) (or_else (for_children name) (or_else (in_place name) (or_else (of_core name) (not_offered name)))))))

-- how the values of a keyword hold schemas: not at all, as one schema, as an array of them, or as an object of them by name
abbrev pub shape_of : Keyword → Shape
shape_of Properties = Named
shape_of PatternProperties = Named
shape_of AdditionalProperties = One
shape_of PropertyNames = One
shape_of PrefixItems = Several
shape_of Items = One
shape_of Contains = One
shape_of AllOf = Several
shape_of AnyOf = Several
shape_of OneOf = Several
shape_of Not = One
shape_of If = One
shape_of Then = One
shape_of Else = One
shape_of DependentSchemas = Named
shape_of Defs = Named
shape_of _ = Plain
