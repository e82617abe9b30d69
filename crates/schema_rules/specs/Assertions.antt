-- The assertion that each keyword makes of an instance by itself (JSON Schema Validation, section 6). A value of
-- another kind than the keyword's asserts nothing.
use Rattle.std.specs.Prelude.{ℕ, ℤ, pos, int_le, int_lt, int_rem, List, [], ◌∷◌, length, Bool, true, false, not, ◌&&◌, ◌||◌, is_some, codes}
use Rattle.std.specs.List.{list_any, list_all}
use Rattle.std.specs.Ordering.{int_eq}
use Rattle.std.specs.Str.{bytes_eq, chars}
use Rattle.doc_tree.specs.Doc.{Doc, null, boolean, int, text, list, object, Members, no_members, member, get_member}
use Rattle.doc_tree.specs.Lists.{elements_list, names_list}
use Rattle.doc_tree.specs.Same.{same}
use Rattle.schema_rules.specs.Parts.{members_in}
use Rattle.schema_rules.specs.declared.keyword.Keyword.{Keyword}
use Rattle.schema_rules.specs.declared.keyword.Keyword.TheVariants.{OfType, Enumeration, Constant, MultipleOf, Minimum, Maximum, ExclusiveMinimum, ExclusiveMaximum, MinLength, MaxLength, MinItems, MaxItems, UniqueItems, MinProperties, MaxProperties, Required, DependentRequired}

-- ---- any type of instance (section 6.1)

-- the name is the instance's type; all numbers are whole, so that integer and number are one (section 6.1.1)
abbrev pub is_of : List ℕ → Doc → Bool
is_of name null = bytes_eq name (codes "null")
is_of name (boolean b) = bytes_eq name (codes "boolean")
is_of name (int z) = bytes_eq name (codes "number") || bytes_eq name (codes "integer")
is_of name (text s) = bytes_eq name (codes "string")
is_of name (list ds) = bytes_eq name (codes "array")
is_of name (object ms) = bytes_eq name (codes "object")

-- the text is the name of the instance's type
abbrev pub is_of_text : Doc → Doc → Bool
is_of_text (text name) t = is_of name t
is_of_text _ t = false

-- the instance has the type that is named, or one of those named (section 6.1.1)
abbrev pub has_type : Doc → Doc → Bool
has_type (text name) t = is_of name t
has_type (list names) t = list_any (λ name. is_of_text name t) (elements_list names)
has_type _ t = true

-- the instance is equal to one of the elements (section 6.1.2; Core, section 4.2.2)
abbrev pub is_among : Doc → Doc → Bool
is_among (list ds) t = list_any (λ d. same d t) (elements_list ds)
is_among _ t = true

-- ---- numbers (section 6.2)

-- a test of the keyword's number and the instance, if both are numbers
abbrev pub on_numbers : (ℤ → ℤ → Bool) → Doc → Doc → Bool
on_numbers test (int a) (int b) = test a b
on_numbers test _ _ = true

-- b divided by a leaves no rest, if a is over 0 (section 6.2.1)
abbrev pub divides : ℤ → ℤ → Bool
divides a b = int_le a (pos 0) || int_eq (int_rem b a) (pos 0)

-- ---- sizes (sections 6.3 to 6.5)

-- the size is at least the keyword's number
abbrev pub at_least : Doc → ℕ → Bool
at_least (int z) n = int_le z (pos n)
at_least _ n = true

-- the size is at most the keyword's number
abbrev pub at_most : Doc → ℕ → Bool
at_most (int z) n = int_le (pos n) z
at_most _ n = true

-- a test of the number of code points, if the instance is a text (sections 6.3.1 and 6.3.2)
abbrev pub on_text : (ℕ → Bool) → Doc → Bool
on_text test (text s) = test (length (chars s))
on_text test _ = true

-- a test of the number of elements, if the instance is an array (sections 6.4.1 and 6.4.2)
abbrev pub on_list : (ℕ → Bool) → Doc → Bool
on_list test (list ds) = test (length (elements_list ds))
on_list test _ = true

-- a test of the number of members, if the instance is an object (sections 6.5.1 and 6.5.2)
abbrev pub on_object : (ℕ → Bool) → Doc → Bool
on_object test (object ms) = test (length (names_list ms))
on_object test _ = true

-- no two are equal
abbrev pub are_distinct : List Doc → Bool
are_distinct [] = true
are_distinct (d ∷ ds) = not (list_any (same d) ds) && are_distinct ds

-- if the keyword says true, no two elements are equal (section 6.4.3)
abbrev pub is_unique : Doc → Doc → Bool
is_unique (boolean true) (list ds) = are_distinct (elements_list ds)
is_unique _ _ = true

-- there is a member of that name
abbrev pub is_member : Doc → Members → Bool
is_member (text name) ms = is_some (get_member name ms)
is_member _ ms = true

-- there is a member of each name (section 6.5.3)
abbrev pub has_each : Doc → Doc → Bool
has_each (list names) (object ms) = list_all (λ name. is_member name ms) (elements_list names)
has_each _ _ = true

-- for each of these names that is a member, there is a member of each name that it lists
abbrev pub each_dependent : Members → Doc → Bool
each_dependent no_members t = true
each_dependent (member k names rest) t = (not (is_some (get_member k (members_in t))) || has_each names t) && each_dependent rest t

-- the same of a keyword's value (section 6.5.4)
abbrev pub has_dependents : Doc → Doc → Bool
has_dependents (object dependents) t = each_dependent dependents t
has_dependents _ t = true

-- ---- the table

-- whether the instance is as the keyword with this value asserts; a keyword that isn't listed asserts nothing by itself
abbrev pub asserts : Keyword → Doc → Doc → Bool
asserts OfType v t = has_type v t
asserts Enumeration v t = is_among v t
asserts Constant v t = same v t
asserts MultipleOf v t = on_numbers divides v t
asserts Minimum v t = on_numbers (λ a b. int_le a b) v t
asserts Maximum v t = on_numbers (λ a b. int_le b a) v t
asserts ExclusiveMinimum v t = on_numbers (λ a b. int_lt a b) v t
asserts ExclusiveMaximum v t = on_numbers (λ a b. int_lt b a) v t
asserts MinLength v t = on_text (at_least v) t
asserts MaxLength v t = on_text (at_most v) t
asserts MinItems v t = on_list (at_least v) t
asserts MaxItems v t = on_list (at_most v) t
asserts UniqueItems v t = is_unique v t
asserts MinProperties v t = on_object (at_least v) t
asserts MaxProperties v t = on_object (at_most v) t
asserts Required v t = has_each v t
asserts DependentRequired v t = has_dependents v t
asserts _ v t = true
