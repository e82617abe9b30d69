-- The values that the keywords of profile 1 might have, and the members that it refused: rows of its own, of which a
-- later profile has no part. Shared are plain words about documents: their parts, when two are equal, what a reference
-- names.
use Rattle.std.specs.Prelude.{ℤ, pos, int_le, Bool, true, false, not, ◌&&◌, ◌||◌, is_none, codes}
use Rattle.std.specs.List.{list_all}
use Rattle.std.specs.Str.{bytes_eq}
use Rattle.doc_tree.specs.Doc.{Doc, boolean, int, text, list, object, element}
use Rattle.doc_tree.specs.Lists.{elements_list}
use Rattle.schema_rules.specs.Assertions.{are_distinct}
use Rattle.schema_rules.specs.EarlierReferences.{earlier_target}
use Rattle.schema_rules.specs.declared.keyword.Keyword.{Keyword}
use Rattle.schema_rules.specs.declared.keyword.Keyword.TheVariants.{OfType, Enumeration, MultipleOf, Minimum, Maximum, ExclusiveMinimum, ExclusiveMaximum, MinLength, MaxLength, MinItems, MaxItems, UniqueItems, MinProperties, MaxProperties, Required, Properties, PrefixItems, AllOf, AnyOf, OneOf, Defs, Ref, Id, Dialect, LeftOut}

abbrev pub is_text_1 : Doc → Bool
is_text_1 (text s) = true
is_text_1 _ = false

abbrev pub is_boolean_1 : Doc → Bool
is_boolean_1 (boolean b) = true
is_boolean_1 _ = false

abbrev pub is_list_1 : Doc → Bool
is_list_1 (list ds) = true
is_list_1 _ = false

-- a list of one element or more
abbrev pub is_some_list_1 : Doc → Bool
is_some_list_1 (list (element d ds)) = true
is_some_list_1 _ = false

abbrev pub is_object_1 : Doc → Bool
is_object_1 (object ms) = true
is_object_1 _ = false

abbrev pub is_number_1 : Doc → Bool
is_number_1 (int z) = true
is_number_1 _ = false

-- a number that is at least `least`
abbrev pub is_number_from_1 : ℤ → Doc → Bool
is_number_from_1 least (int z) = int_le least z
is_number_from_1 least _ = false

-- the name of a type (Validation, section 6.1.1)
abbrev pub is_type_1 : Doc → Bool
is_type_1 (text s) = bytes_eq s (codes "null") || bytes_eq s (codes "boolean") || bytes_eq s (codes "object") || bytes_eq s (codes "array") || bytes_eq s (codes "number") || bytes_eq s (codes "string") || bytes_eq s (codes "integer")
is_type_1 _ = false

-- a list, maybe empty, of elements that pass the test, no two of them equal
abbrev pub is_list_of_distinct_1 : (Doc → Bool) → Doc → Bool
is_list_of_distinct_1 test (list ds) = list_all test (elements_list ds) && are_distinct (elements_list ds)
is_list_of_distinct_1 test _ = false

-- the value has the keyword's form, at the root or below it (Validation, section 6; Core, sections 8 and 10)
abbrev pub has_form_1 : Bool → Keyword → Doc → Bool
has_form_1 at_root OfType v = is_type_1 v || is_list_of_distinct_1 is_type_1 v
has_form_1 at_root Enumeration v = is_list_1 v
has_form_1 at_root MultipleOf v = is_number_from_1 (pos 1) v
has_form_1 at_root Minimum v = is_number_1 v
has_form_1 at_root Maximum v = is_number_1 v
has_form_1 at_root ExclusiveMinimum v = is_number_1 v
has_form_1 at_root ExclusiveMaximum v = is_number_1 v
has_form_1 at_root MinLength v = is_number_from_1 (pos 0) v
has_form_1 at_root MaxLength v = is_number_from_1 (pos 0) v
has_form_1 at_root MinItems v = is_number_from_1 (pos 0) v
has_form_1 at_root MaxItems v = is_number_from_1 (pos 0) v
has_form_1 at_root UniqueItems v = is_boolean_1 v
has_form_1 at_root MinProperties v = is_number_from_1 (pos 0) v
has_form_1 at_root MaxProperties v = is_number_from_1 (pos 0) v
has_form_1 at_root Required v = is_list_of_distinct_1 is_text_1 v
has_form_1 at_root Properties v = is_object_1 v
has_form_1 at_root PrefixItems v = is_some_list_1 v
has_form_1 at_root AllOf v = is_some_list_1 v
has_form_1 at_root AnyOf v = is_some_list_1 v
has_form_1 at_root OneOf v = is_some_list_1 v
has_form_1 at_root Defs v = is_object_1 v
has_form_1 at_root Ref v = is_text_1 v
has_form_1 true Id v = is_text_1 v
has_form_1 true Dialect v = is_text_1 v
has_form_1 at_root _ v = true

-- the dialect that was read (Core, section 8.1.1)
abbrev pub is_draft_1 : Doc → Bool
is_draft_1 (text s) = bytes_eq s (codes "https://json-schema.org/draft/2020-12/schema")
is_draft_1 _ = false

-- the member was refused, at the root or below it: by its keyword, by its place (Core, sections 8.1.1 and 8.2.1), or by its dialect
abbrev pub is_left_out_1 : Bool → Keyword → Doc → Bool
is_left_out_1 at_root LeftOut v = true
is_left_out_1 at_root Id v = not at_root
is_left_out_1 true Dialect v = not (is_draft_1 v)
is_left_out_1 false Dialect v = true
is_left_out_1 at_root _ v = false

-- the member is a reference that names no schema (Core, section 8.2.3.1)
abbrev pub is_dangling_1 : Doc → Keyword → Doc → Bool
is_dangling_1 root Ref v = is_none (earlier_target root v)
is_dangling_1 root _ v = false
