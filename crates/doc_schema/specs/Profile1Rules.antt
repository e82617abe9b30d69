-- The answers of the keywords of profile 1 on an instance: rows of its own, of which a later profile has no part.
-- Shared are plain words about documents and answers: their parts, when two are equal, how many of some answers are
-- true, which schema a reference names and at which location.
use Rattle.std.specs.Prelude.{ℕ, suc, pos, int_le, int_lt, int_rem, ◌==◌, List, [], ◌∷◌, ◌++◌, length, map, Bool, true, false, not, ◌||◌, if◌then◌else◌, Option, Some, None, is_some, codes}
use Rattle.std.specs.List.{list_any, list_all}
use Rattle.std.specs.Option.{option_to_list}
use Rattle.std.specs.Ordering.{int_eq}
use Rattle.std.specs.Str.{bytes_eq, chars}
use Rattle.doc_tree.specs.Doc.{Doc, null, boolean, int, text, list, object, Elements, no_elements, element, Members, no_members, member, get_member, Place, name as place_named, index}
use Rattle.doc_tree.specs.Lists.{elements_list, names_list}
use Rattle.doc_tree.specs.Same.{same}
use Rattle.schema_rules.specs.Assertions.{are_distinct}
use Rattle.schema_rules.specs.Parts.{elements_in, members_in, after, beside}
use Rattle.schema_rules.specs.EarlierReferences.{earlier_target, without_front}
use Rattle.schema_rules.specs.Rules.{Ask, ask, every, some, how_many}
use Rattle.schema_rules.specs.declared.keyword.Keyword.{Keyword}
use Rattle.schema_rules.specs.declared.keyword.Keyword.TheVariants.{OfType, Enumeration, Constant, MultipleOf, Minimum, Maximum, ExclusiveMinimum, ExclusiveMaximum, MinLength, MaxLength, MinItems, MaxItems, UniqueItems, MinProperties, MaxProperties, Required, Properties, AdditionalProperties, PrefixItems, Items, AllOf, AnyOf, OneOf, Not, Ref}
use Rattle.doc_schema.specs.Positions.{Position, position}

-- ---- what a keyword asserted by itself (Validation, section 6)

-- the name is the instance's type; all numbers are whole, so that integer and number are one (section 6.1.1)
abbrev pub is_of_1 : List ℕ → Doc → Bool
is_of_1 name null = bytes_eq name (codes "null")
is_of_1 name (boolean b) = bytes_eq name (codes "boolean")
is_of_1 name (int z) = bytes_eq name (codes "number") || bytes_eq name (codes "integer")
is_of_1 name (text s) = bytes_eq name (codes "string")
is_of_1 name (list ds) = bytes_eq name (codes "array")
is_of_1 name (object ms) = bytes_eq name (codes "object")

-- the text is the name of the instance's type
abbrev pub is_of_text_1 : Doc → Doc → Bool
is_of_text_1 (text name) t = is_of_1 name t
is_of_text_1 _ t = false

-- the size is at least the keyword's number
abbrev pub at_least_1 : Doc → ℕ → Bool
at_least_1 (int z) n = int_le z (pos n)
at_least_1 _ n = true

-- the size is at most the keyword's number
abbrev pub at_most_1 : Doc → ℕ → Bool
at_most_1 (int z) n = int_le (pos n) z
at_most_1 _ n = true

-- there is a member of that name (section 6.5.3)
abbrev pub is_member_1 : Doc → Members → Bool
is_member_1 (text name) ms = is_some (get_member name ms)
is_member_1 _ ms = true

-- by the keyword's value and the instance; what isn't listed asserts nothing
abbrev pub asserts_1 : Keyword → Doc → Doc → Bool
-- section 6.1
asserts_1 OfType (text name) t = is_of_1 name t
asserts_1 OfType (list names) t = list_any (λ name. is_of_text_1 name t) (elements_list names)
asserts_1 Enumeration (list ds) t = list_any (λ d. same d t) (elements_list ds)
asserts_1 Constant v t = same v t
-- section 6.2
asserts_1 MultipleOf (int a) (int b) = int_le a (pos 0) || int_eq (int_rem b a) (pos 0)
asserts_1 Minimum (int a) (int b) = int_le a b
asserts_1 Maximum (int a) (int b) = int_le b a
asserts_1 ExclusiveMinimum (int a) (int b) = int_lt a b
asserts_1 ExclusiveMaximum (int a) (int b) = int_lt b a
-- section 6.3: lengths are numbers of code points
asserts_1 MinLength v (text s) = at_least_1 v (length (chars s))
asserts_1 MaxLength v (text s) = at_most_1 v (length (chars s))
-- section 6.4
asserts_1 MinItems v (list ds) = at_least_1 v (length (elements_list ds))
asserts_1 MaxItems v (list ds) = at_most_1 v (length (elements_list ds))
asserts_1 UniqueItems (boolean true) (list ds) = are_distinct (elements_list ds)
-- section 6.5
asserts_1 MinProperties v (object ms) = at_least_1 v (length (names_list ms))
asserts_1 MaxProperties v (object ms) = at_most_1 v (length (names_list ms))
asserts_1 Required (list names) (object ms) = list_all (λ name. is_member_1 name ms) (elements_list names)
asserts_1 _ _ _ = true

-- ---- which schemas a keyword asked of which values (Core, section 10)

-- each of the schemas, of one instance (section 10.2.1)
abbrev pub at_each_1 : Elements → Doc → List Ask
at_each_1 no_elements t = []
at_each_1 (element s ss) t = ask s t ∷ at_each_1 ss t

-- one schema, of each element (section 10.3.1.2)
abbrev pub of_each_1 : Doc → Elements → List Ask
of_each_1 s no_elements = []
of_each_1 s (element t ts) = ask s t ∷ of_each_1 s ts

-- each schema of the element at its place, as far as both go (section 10.3.1.1)
abbrev pub by_place_1 : Elements → Elements → List Ask
by_place_1 no_elements ts = []
by_place_1 (element s ss) no_elements = []
by_place_1 (element s ss) (element t ts) = ask s t ∷ by_place_1 ss ts

-- the schema, if there is one, before the others
abbrev pub if_named_1 : Option Doc → Doc → List Ask → List Ask
if_named_1 None t others = others
if_named_1 (Some s) t others = ask s t ∷ others

-- the schema of its name, of each member that is named (section 10.3.2.1)
abbrev pub by_name_1 : Members → Members → List Ask
by_name_1 ss no_members = []
by_name_1 ss (member k t ts) = if_named_1 (get_member k ss) t (by_name_1 ss ts)

-- one schema, of each member that isn't named (section 10.3.2.3)
abbrev pub of_others_1 : Members → Doc → Members → List Ask
of_others_1 named s no_members = []
of_others_1 named s (member k t ts) = if is_some (get_member k named) then of_others_1 named s ts else (ask s t ∷ of_others_1 named s ts)

-- what the keyword asked, with this value and these members of its object; what isn't listed asked nothing
abbrev pub asks_1 : Doc → Members → Keyword → Doc → Doc → List Ask
asks_1 root ms Properties v t = by_name_1 (members_in v) (members_in t)
asks_1 root ms AdditionalProperties v t = of_others_1 (members_in (beside (codes "properties") ms)) v (members_in t)
asks_1 root ms PrefixItems v t = by_place_1 (elements_in v) (elements_in t)
asks_1 root ms Items v t = of_each_1 v (after (length (elements_list (elements_in (beside (codes "prefixItems") ms)))) (elements_in t))
asks_1 root ms AllOf v t = at_each_1 (elements_in v) t
asks_1 root ms AnyOf v t = at_each_1 (elements_in v) t
asks_1 root ms OneOf v t = at_each_1 (elements_in v) t
asks_1 root ms Not v t = ask v t ∷ []
asks_1 root ms Ref v t = if_named_1 (earlier_target root v) t []
asks_1 root ms _ v t = []

-- ---- how the answers were joined (Core, sections 8.2.3.1 and 10)

-- a keyword that asked nothing said what it asserted
abbrev pub joins_1 : Keyword → Doc → Doc → List Bool → Bool
joins_1 Properties v t answers = every answers
joins_1 AdditionalProperties v t answers = every answers
joins_1 PrefixItems v t answers = every answers
joins_1 Items v t answers = every answers
joins_1 AllOf v t answers = every answers
joins_1 AnyOf v t answers = some answers
joins_1 OneOf v t answers = how_many answers == 1
joins_1 Not v t answers = not (every answers)
joins_1 Ref v t answers = every answers
joins_1 k v t answers = asserts_1 k v t

-- ---- keywords that applied schemas to the instance itself

-- the elements of an array of schemas, the first of which has the index n
abbrev pub elements_at_1 : List Place → ℕ → Elements → List Position
elements_at_1 here n no_elements = []
elements_at_1 here n (element d ds) = position (here ++ index n ∷ []) d ∷ elements_at_1 here (suc n) ds

-- the location of a definition of that name
abbrev pub definition_location_1 : Option (List ℕ) → List Place
definition_location_1 None = []
definition_location_1 (Some n) = place_named (codes "$defs") ∷ place_named n ∷ []

-- the location of the schema that a reference named, if it named one
abbrev pub target_location_1 : Doc → List Place
target_location_1 (text s) = if bytes_eq s (codes "#") then [] else definition_location_1 (without_front (codes "#/$defs/") s)
target_location_1 _ = []

abbrev pub targets_1 : Doc → Doc → List Position
targets_1 root v = map (position (target_location_1 v)) (option_to_list (earlier_target root v))

-- the schemas, with the location of the keyword's value (Core, sections 8.2.3.1 and 10.2)
abbrev pub led_by_1 : Doc → List Place → Keyword → Doc → List Position
led_by_1 root here AllOf v = elements_at_1 here 0 (elements_in v)
led_by_1 root here AnyOf v = elements_at_1 here 0 (elements_in v)
led_by_1 root here OneOf v = elements_at_1 here 0 (elements_in v)
led_by_1 root here Not v = position here v ∷ []
led_by_1 root here Ref v = targets_1 root v
led_by_1 root here _ v = []
