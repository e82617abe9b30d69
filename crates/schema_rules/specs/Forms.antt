-- The values that a keyword may have, and the members that are left out.
use Rattle.std.specs.Prelude.{ℕ, ℤ, pos, int_le, List, Bool, true, false, not, ◌&&◌, ◌||◌, codes}
use Rattle.std.specs.List.{list_all}
use Rattle.std.specs.Str.{bytes_eq}
use Rattle.doc_tree.specs.Doc.{Doc, boolean, int, text, list, object, element}
use Rattle.doc_tree.specs.Lists.{elements_list, values_list}
use Rattle.schema_rules.specs.Anchors.{is_anchor_text}
use Rattle.schema_rules.specs.Assertions.{are_distinct}
use Rattle.schema_rules.specs.declared.keyword.Keyword.{Keyword}
use Rattle.schema_rules.specs.declared.keyword.Keyword.TheVariants.{OfType, Enumeration, MultipleOf, Minimum, Maximum, ExclusiveMinimum, ExclusiveMaximum, MinLength, MaxLength, Pattern, MinItems, MaxItems, UniqueItems, MinProperties, MaxProperties, Required, DependentRequired, Properties, PatternProperties, PrefixItems, MinContains, MaxContains, AllOf, AnyOf, OneOf, DependentSchemas, Defs, Anchor, Ref, Id, Dialect, LeftOut}

abbrev pub is_text : Doc → Bool
is_text (text s) = true
is_text _ = false

abbrev pub is_boolean : Doc → Bool
is_boolean (boolean b) = true
is_boolean _ = false

abbrev pub is_list : Doc → Bool
is_list (list ds) = true
is_list _ = false

-- a list of one element or more
abbrev pub is_some_list : Doc → Bool
is_some_list (list (element d ds)) = true
is_some_list _ = false

abbrev pub is_object : Doc → Bool
is_object (object ms) = true
is_object _ = false

abbrev pub is_number : Doc → Bool
is_number (int z) = true
is_number _ = false

-- a number that is at least `least`
abbrev pub is_number_from : ℤ → Doc → Bool
is_number_from least (int z) = int_le least z
is_number_from least _ = false

-- the name of a type (Validation, section 6.1.1)
abbrev pub is_type_name : List ℕ → Bool
is_type_name s = bytes_eq s (codes "null") || bytes_eq s (codes "boolean") || bytes_eq s (codes "object") || bytes_eq s (codes "array") || bytes_eq s (codes "number") || bytes_eq s (codes "string") || bytes_eq s (codes "integer")

-- a text that is the name of a type
abbrev pub is_type : Doc → Bool
is_type (text s) = is_type_name s
is_type _ = false

-- a list, maybe empty, of elements that pass the test, no two of them equal
abbrev pub is_list_of_distinct : (Doc → Bool) → Doc → Bool
is_list_of_distinct test (list ds) = list_all test (elements_list ds) && are_distinct (elements_list ds)
is_list_of_distinct test _ = false

-- an object whose members' values all pass the test
abbrev pub is_object_of : (Doc → Bool) → Doc → Bool
is_object_of test (object ms) = list_all test (values_list ms)
is_object_of test _ = false

-- the value has the keyword's form, at the root or below it; a value that is itself a schema is judged as a schema, and the value of a left-out member isn't looked at (Validation, section 6; Core, sections 8 and 10)
abbrev pub has_form : Bool → Keyword → Doc → Bool
has_form at_root OfType v = is_type v || is_list_of_distinct is_type v
has_form at_root Enumeration v = is_list v
has_form at_root MultipleOf v = is_number_from (pos 1) v
has_form at_root Minimum v = is_number v
has_form at_root Maximum v = is_number v
has_form at_root ExclusiveMinimum v = is_number v
has_form at_root ExclusiveMaximum v = is_number v
has_form at_root MinLength v = is_number_from (pos 0) v
has_form at_root MaxLength v = is_number_from (pos 0) v
has_form at_root Pattern v = is_text v
has_form at_root MinItems v = is_number_from (pos 0) v
has_form at_root MaxItems v = is_number_from (pos 0) v
has_form at_root UniqueItems v = is_boolean v
has_form at_root MinProperties v = is_number_from (pos 0) v
has_form at_root MaxProperties v = is_number_from (pos 0) v
has_form at_root Required v = is_list_of_distinct is_text v
has_form at_root DependentRequired v = is_object_of (is_list_of_distinct is_text) v
has_form at_root Properties v = is_object v
has_form at_root PatternProperties v = is_object v
has_form at_root MinContains v = is_number_from (pos 0) v
has_form at_root MaxContains v = is_number_from (pos 0) v
has_form at_root PrefixItems v = is_some_list v
has_form at_root AllOf v = is_some_list v
has_form at_root AnyOf v = is_some_list v
has_form at_root OneOf v = is_some_list v
has_form at_root DependentSchemas v = is_object v
has_form at_root Defs v = is_object v
has_form at_root Anchor v = is_anchor_text v
has_form at_root Ref v = is_text v
has_form true Id v = is_text v
has_form true Dialect v = is_text v
has_form at_root _ v = true

-- the dialect that is read (Core, section 8.1.1)
abbrev pub is_draft : Doc → Bool
is_draft (text s) = bytes_eq s (codes "https://json-schema.org/draft/2020-12/schema")
is_draft _ = false

-- the member is left out, at the root or below it: by its keyword, by its place (Core, sections 8.1.1 and 8.2.1), or by its dialect
abbrev pub is_left_out : Bool → Keyword → Doc → Bool
is_left_out at_root LeftOut v = true
is_left_out at_root Id v = not at_root
is_left_out true Dialect v = not (is_draft v)
is_left_out false Dialect v = true
is_left_out at_root _ v = false
