-- The names that profile 1 of schemas knew, and how the values of its keywords hold schemas (JSON Schema 2020-12): rows of its own, of which a later profile has no part. `Keyword` and `Shape` are labels here.
use Rattle.std.specs.Prelude.{ℕ, List, [], ◌∷◌, if◌then◌else◌, Option, Some, None, codes}
use Rattle.std.specs.Str.{bytes_eq}
use Rattle.schema_rules.specs.declared.keyword.Keyword.{Keyword}
use Rattle.schema_rules.specs.declared.keyword.Keyword.TheVariants.{OfType, Enumeration, Constant, MultipleOf, Minimum, Maximum, ExclusiveMinimum, ExclusiveMaximum, MinLength, MaxLength, MinItems, MaxItems, UniqueItems, MinProperties, MaxProperties, Required, Properties, AdditionalProperties, PrefixItems, Items, AllOf, AnyOf, OneOf, Not, Defs, Ref, Id, Dialect, LeftOut, Unknown}
use Rattle.schema_rules.specs.declared.keyword.Shape.{Shape}
use Rattle.schema_rules.specs.declared.keyword.Shape.TheVariants.{Plain, One, Several, Named}

-- the keyword beside the name in a table
abbrev pub found_1 : List (List ℕ × Keyword) → List ℕ → Option Keyword
found_1 [] name = None
found_1 (row ∷ rows) name = if bytes_eq name row.0 then Some row.1 else found_1 rows name

-- the first, or else the second
abbrev pub or_else_1 : Option Keyword → Option Keyword → Option Keyword
or_else_1 None others = others
or_else_1 (Some k) others = Some k

-- a name that no table lists asserts nothing (Core, section 6.5)
abbrev pub or_unknown_1 : Option Keyword → Keyword
or_unknown_1 None = Unknown
or_unknown_1 (Some k) = k

-- assertions on instances of any type (Validation, section 6.1)
unfoldable pub for_any_1 : List ℕ → Option Keyword
for_any_1 name = found_1 (
    (codes "type", OfType)
    ∷ (codes "enum", Enumeration)
    ∷ (codes "const", Constant)
    ∷ []) name

-- assertions on numbers (Validation, section 6.2)
unfoldable pub for_numbers_1 : List ℕ → Option Keyword
for_numbers_1 name = found_1 (
    (codes "multipleOf", MultipleOf)
    ∷ (codes "minimum", Minimum)
    ∷ (codes "maximum", Maximum)
    ∷ (codes "exclusiveMinimum", ExclusiveMinimum)
    ∷ (codes "exclusiveMaximum", ExclusiveMaximum)
    ∷ []) name

-- assertions on the sizes of texts, arrays and objects, and on their parts; `dependentRequired` was refused (Validation, sections 6.3 to 6.5)
unfoldable pub for_sizes_1 : List ℕ → Option Keyword
for_sizes_1 name = found_1 (
    (codes "minLength", MinLength)
    ∷ (codes "maxLength", MaxLength)
    ∷ (codes "minItems", MinItems)
    ∷ (codes "maxItems", MaxItems)
    ∷ (codes "uniqueItems", UniqueItems)
    ∷ (codes "minProperties", MinProperties)
    ∷ (codes "maxProperties", MaxProperties)
    ∷ (codes "required", Required)
    ∷ (codes "dependentRequired", LeftOut)
    ∷ []) name

-- schemas for the children of an instance; those for names and for counts of elements were refused (Core, section 10.3; Validation, section 6.4)
unfoldable pub for_children_1 : List ℕ → Option Keyword
for_children_1 name = found_1 (
    (codes "properties", Properties)
    ∷ (codes "additionalProperties", AdditionalProperties)
    ∷ (codes "propertyNames", LeftOut)
    ∷ (codes "prefixItems", PrefixItems)
    ∷ (codes "items", Items)
    ∷ (codes "contains", LeftOut)
    ∷ (codes "minContains", LeftOut)
    ∷ (codes "maxContains", LeftOut)
    ∷ []) name

-- schemas for the instance itself; conditions were refused (Core, section 10.2)
unfoldable pub in_place_1 : List ℕ → Option Keyword
in_place_1 name = found_1 (
    (codes "allOf", AllOf)
    ∷ (codes "anyOf", AnyOf)
    ∷ (codes "oneOf", OneOf)
    ∷ (codes "not", Not)
    ∷ (codes "if", LeftOut)
    ∷ (codes "then", LeftOut)
    ∷ (codes "else", LeftOut)
    ∷ []) name

-- the core vocabulary (Core, section 8)
unfoldable pub of_core_1 : List ℕ → Option Keyword
of_core_1 name = found_1 (
    (codes "$defs", Defs)
    ∷ (codes "$ref", Ref)
    ∷ (codes "$id", Id)
    ∷ (codes "$schema", Dialect)
    ∷ []) name

-- further keywords that were refused: dynamic references, vocabularies, regular expressions, what other keywords left over (Core, sections 8, 10.2.2.4, 10.3.2.2 and 11; Validation, section 6.3.3)
unfoldable pub not_offered_1 : List ℕ → Option Keyword
not_offered_1 name = found_1 (
    (codes "pattern", LeftOut)
    ∷ (codes "patternProperties", LeftOut)
    ∷ (codes "unevaluatedItems", LeftOut)
    ∷ (codes "unevaluatedProperties", LeftOut)
    ∷ (codes "dependentSchemas", LeftOut)
    ∷ (codes "$anchor", LeftOut)
    ∷ (codes "$dynamicRef", LeftOut)
    ∷ (codes "$dynamicAnchor", LeftOut)
    ∷ (codes "$vocabulary", LeftOut)
    ∷ []) name

-- the keyword that a name was
unfoldable pub keyword_1 : List ℕ → Keyword
keyword_1 name = or_unknown_1 (or_else_1 (for_any_1 name) (or_else_1 (for_numbers_1 name) (or_else_1 (for_sizes_1 name) (or_else_1 (for_children_1 name) (or_else_1 (in_place_1 name) (or_else_1 (of_core_1 name) (not_offered_1 name)))))))

-- how the values of a keyword hold schemas: not at all, as one schema, as an array of them, or as an object of them by name (Core, sections 8.2.4 and 10)
abbrev pub shape_1 : Keyword → Shape
shape_1 Properties = Named
shape_1 AdditionalProperties = One
shape_1 PrefixItems = Several
shape_1 Items = One
shape_1 AllOf = Several
shape_1 AnyOf = Several
shape_1 OneOf = Several
shape_1 Not = One
shape_1 Defs = Named
shape_1 _ = Plain
