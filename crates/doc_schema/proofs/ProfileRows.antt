-- The rows of profile 1 are those of profile 2 for each keyword that profile 1 had.
use Rattle.std.proofs.Common.{◌≡◌, ℕ, suc, List, [], ◌∷◌, ◌++◌, Bool, true, false, ◌&&◌, ◌||◌, if◌then◌else◌, length, codes, Option, Some, None, option_map, is_some, refl, sym, ap, ap₂, ◌∙◌}
use Rattle.std.specs.List.{list_any, list_all}
use Rattle.std.specs.Str.{bytes_eq, chars}
use Rattle.doc_tree.specs.Doc.{Doc, null, boolean, int, text, list, object, Elements, no_elements, element, Members, no_members, member, get_member, Place, index}
use Rattle.doc_tree.specs.Lists.{elements_list, names_list}
use Rattle.schema_rules.specs.Assertions.{at_least, at_most, is_of, is_of_text, is_member, asserts, are_distinct}
use Rattle.schema_rules.specs.Forms.{is_type, is_text, is_list_of_distinct, has_form, is_left_out}
use Rattle.schema_rules.specs.Keywords.{keyword_of, shape_of, found, or_else, or_unknown, for_any, for_numbers, for_sizes, for_children, in_place, of_core, not_offered}
use Rattle.schema_rules.specs.Parts.{elements_in, members_in, after, beside}
use Rattle.schema_rules.specs.References.{is_dangling, target}
use Rattle.schema_rules.specs.declared.profile.Profile.TheVariants.{Two}
use Rattle.schema_references.proofs.Kept.{same_target}
use Rattle.doc_schema.proofs.EarlierPlaces.{targets_alike}
use Rattle.schema_rules.specs.Rules.{Ask, ask, asks, joins, at_each, of_each, by_place, by_name, each_named, if_named, of_others}
use Rattle.schema_rules.specs.declared.keyword.Keyword.{Keyword}
use Rattle.schema_rules.specs.declared.keyword.Keyword.TheVariants.{OfType, Enumeration, Constant, MultipleOf, Minimum, Maximum, ExclusiveMinimum, ExclusiveMaximum, MinLength, MaxLength, MinItems, MaxItems, UniqueItems, MinProperties, MaxProperties, Required, DependentRequired, Properties, AdditionalProperties, PropertyNames, PrefixItems, Items, Contains, MinContains, MaxContains, AllOf, AnyOf, OneOf, Not, If, Then, Else, Pattern, PatternProperties, DependentSchemas, Anchor, Defs, Ref, Id, Dialect, LeftOut}
use Rattle.doc_schema.specs.Loops.{led_by, elements_at}
use Rattle.doc_schema.specs.Positions.{position}
use Rattle.doc_schema.specs.Profile1Forms.{is_type_1, is_text_1, is_list_of_distinct_1, has_form_1, is_left_out_1, is_dangling_1}
use Rattle.doc_schema.specs.Profile1Keywords.{keyword_1, shape_1, found_1, or_else_1, or_unknown_1, for_any_1, for_numbers_1, for_sizes_1, for_children_1, in_place_1, of_core_1, not_offered_1}
use Rattle.doc_schema.specs.Profile1Rules.{at_least_1, at_most_1, is_of_1, is_of_text_1, is_member_1, asserts_1, at_each_1, of_each_1, by_place_1, by_name_1, if_named_1, of_others_1, asks_1, joins_1, elements_at_1, led_by_1}

-- ---- the names

-- what a keyword was in profile 1
abbrev pub demoted : Keyword → Keyword
demoted DependentRequired = LeftOut
demoted PropertyNames = LeftOut
demoted Contains = LeftOut
demoted MinContains = LeftOut
demoted MaxContains = LeftOut
demoted If = LeftOut
demoted Then = LeftOut
demoted Else = LeftOut
demoted Pattern = LeftOut
demoted PatternProperties = LeftOut
demoted DependentSchemas = LeftOut
demoted Anchor = LeftOut
demoted k = k

abbrev Demoted : (List ℕ → Option Keyword) → (List ℕ → Option Keyword) → Type 0
Demoted f g = (s : List ℕ) → f s ≡ option_map demoted (g s)

abbrev demoted_rows : List (List ℕ × Keyword) → List (List ℕ × Keyword)
demoted_rows [] = []
demoted_rows (row ∷ rows) = (row.0, demoted row.1) ∷ demoted_rows rows

found_demoted : (rows : List (List ℕ × Keyword)) (s : List ℕ) → found_1 (demoted_rows rows) s ≡ option_map demoted (found rows s)
found_demoted [] s = refl
found_demoted (row ∷ rows) s = by_test (bytes_eq s row.0) (found_demoted rows s)
  where
    by_test : (b : Bool) → found_1 (demoted_rows rows) s ≡ option_map demoted (found rows s) → (if b then Some (demoted row.1) else found_1 (demoted_rows rows) s) ≡ option_map demoted (if b then Some row.1 else found rows s)
    by_test true rest = refl
    by_test false rest = rest

any_demoted : Demoted for_any_1 for_any
unfolding for_any_1 for_any
any_demoted s = found_demoted ((codes "type", OfType) ∷ (codes "enum", Enumeration) ∷ (codes "const", Constant) ∷ []) s

numbers_demoted : Demoted for_numbers_1 for_numbers
unfolding for_numbers_1 for_numbers
numbers_demoted s = found_demoted ((codes "multipleOf", MultipleOf) ∷ (codes "minimum", Minimum) ∷ (codes "maximum", Maximum) ∷ (codes "exclusiveMinimum", ExclusiveMinimum) ∷ (codes "exclusiveMaximum", ExclusiveMaximum) ∷ []) s

sizes_demoted : Demoted for_sizes_1 for_sizes
unfolding for_sizes_1 for_sizes
sizes_demoted s = found_demoted ((codes "minLength", MinLength) ∷ (codes "maxLength", MaxLength) ∷ (codes "minItems", MinItems) ∷ (codes "maxItems", MaxItems) ∷ (codes "uniqueItems", UniqueItems) ∷ (codes "minProperties", MinProperties) ∷ (codes "maxProperties", MaxProperties) ∷ (codes "required", Required) ∷ (codes "dependentRequired", DependentRequired) ∷ []) s

children_demoted : Demoted for_children_1 for_children
unfolding for_children_1 for_children
children_demoted s = found_demoted ((codes "properties", Properties) ∷ (codes "additionalProperties", AdditionalProperties) ∷ (codes "propertyNames", PropertyNames) ∷ (codes "prefixItems", PrefixItems) ∷ (codes "items", Items) ∷ (codes "contains", Contains) ∷ (codes "minContains", MinContains) ∷ (codes "maxContains", MaxContains) ∷ []) s

in_place_demoted : Demoted in_place_1 in_place
unfolding in_place_1 in_place
in_place_demoted s = found_demoted ((codes "allOf", AllOf) ∷ (codes "anyOf", AnyOf) ∷ (codes "oneOf", OneOf) ∷ (codes "not", Not) ∷ (codes "if", If) ∷ (codes "then", Then) ∷ (codes "else", Else) ∷ []) s

core_demoted : Demoted of_core_1 of_core
unfolding of_core_1 of_core
core_demoted s = found_demoted ((codes "$defs", Defs) ∷ (codes "$ref", Ref) ∷ (codes "$id", Id) ∷ (codes "$schema", Dialect) ∷ []) s

not_offered_demoted : Demoted not_offered_1 not_offered
unfolding not_offered_1 not_offered
not_offered_demoted s = found_demoted ((codes "pattern", Pattern) ∷ (codes "patternProperties", PatternProperties) ∷ (codes "unevaluatedItems", LeftOut) ∷ (codes "unevaluatedProperties", LeftOut) ∷ (codes "dependentSchemas", DependentSchemas) ∷ (codes "$anchor", Anchor) ∷ (codes "$dynamicRef", LeftOut) ∷ (codes "$dynamicAnchor", LeftOut) ∷ (codes "$vocabulary", LeftOut) ∷ []) s

or_else_demoted : (a b : Option Keyword) {a₁ b₁ : Option Keyword} → a₁ ≡ option_map demoted a → b₁ ≡ option_map demoted b → or_else_1 a₁ b₁ ≡ option_map demoted (or_else a b)
or_else_demoted a b e f = ap₂ or_else_1 e f ∙ by_first a
  where
    by_first : (o : Option Keyword) → or_else_1 (option_map demoted o) (option_map demoted b) ≡ option_map demoted (or_else o b)
    by_first None = refl
    by_first (Some k) = refl

unknown_demoted : (o : Option Keyword) → or_unknown_1 (option_map demoted o) ≡ demoted (or_unknown o)
unknown_demoted None = refl
unknown_demoted (Some k) = refl

-- a s was what it is, or what that was
pub named : (s : List ℕ) → keyword_1 s ≡ demoted (keyword_of s)
unfolding keyword_1 keyword_of
named s = ap or_unknown_1 (or_else_demoted _ _ (any_demoted s) (or_else_demoted _ _ (numbers_demoted s) (or_else_demoted _ _ (sizes_demoted s) (or_else_demoted _ _ (children_demoted s) (or_else_demoted _ _ (in_place_demoted s) (or_else_demoted _ _ (core_demoted s) (not_offered_demoted s))))))) ∙ unknown_demoted _

-- ---- the rows of a keyword of profile 1

abbrev pub WasOne : Keyword → Type 0
WasOne k = demoted k ≡ k

pub same_shape : (k : Keyword) → WasOne k → shape_1 k ≡ shape_of k
same_shape PropertyNames w = absurd cc
same_shape Contains w = absurd cc
same_shape If w = absurd cc
same_shape Then w = absurd cc
same_shape Else w = absurd cc
same_shape Pattern w = absurd cc
same_shape PatternProperties w = absurd cc
same_shape DependentSchemas w = absurd cc
same_shape _ w = refl

-- ---- forms

type_alike : (v : Doc) → is_type_1 v ≡ is_type v
type_alike (text s) = refl
type_alike _ = refl

text_alike : (v : Doc) → is_text_1 v ≡ is_text v
text_alike (text s) = refl
text_alike _ = refl

all_alike : (f g : Doc → Bool) → ((d : Doc) → f d ≡ g d) → (ds : List Doc) → list_all f ds ≡ list_all g ds
all_alike f g same [] = refl
all_alike f g same (d ∷ ds) = ap₂ (λ a b. a && b) (same d) (all_alike f g same ds)

distinct_alike : (f g : Doc → Bool) → ((d : Doc) → f d ≡ g d) → (v : Doc) → is_list_of_distinct_1 f v ≡ is_list_of_distinct g v
distinct_alike f g same (list ds) = ap (λ b. b && are_distinct (elements_list ds)) (all_alike f g same (elements_list ds))
distinct_alike f g same _ = refl

pub same_form : (at_root : Bool) (k : Keyword) (v : Doc) → WasOne k → has_form_1 at_root k v ≡ has_form at_root k v
same_form at_root DependentRequired v w = absurd cc
same_form at_root MinContains v w = absurd cc
same_form at_root MaxContains v w = absurd cc
same_form at_root Pattern v w = absurd cc
same_form at_root PatternProperties v w = absurd cc
same_form at_root DependentSchemas v w = absurd cc
same_form at_root Anchor v w = absurd cc
same_form at_root OfType v w = ap₂ (λ a b. a || b) (type_alike v) (distinct_alike is_type_1 is_type type_alike v)
same_form at_root Required v w = distinct_alike is_text_1 is_text text_alike v
same_form true _ v w = refl
same_form false _ v w = refl

pub same_left_out : (at_root : Bool) (k : Keyword) (v : Doc) → is_left_out_1 at_root k v ≡ is_left_out at_root k v
same_left_out true _ v = refl
same_left_out false _ v = refl

pub same_dangling : (root : Doc) (k : Keyword) (v : Doc) → is_dangling_1 root k v ≡ is_dangling Two root k v
same_dangling root _ v = refl

-- ---- assertions

of_alike : (n : List ℕ) (t : Doc) → is_of_1 n t ≡ is_of n t
of_alike n _ = refl

of_text_alike : (d t : Doc) → is_of_text_1 d t ≡ is_of_text d t
of_text_alike (text n) t = of_alike n t
of_text_alike _ t = refl

member_alike : (d : Doc) (ms : Members) → is_member_1 d ms ≡ is_member d ms
member_alike (text n) ms = refl
member_alike _ ms = refl

least_alike : (v : Doc) (n : ℕ) → at_least_1 v n ≡ at_least v n
least_alike (int z) n = refl
least_alike _ n = refl

most_alike : (v : Doc) (n : ℕ) → at_most_1 v n ≡ at_most v n
most_alike (int z) n = refl
most_alike _ n = refl

any_alike : (f g : Doc → Bool) → ((d : Doc) → f d ≡ g d) → (ds : List Doc) → list_any f ds ≡ list_any g ds
any_alike f g same [] = refl
any_alike f g same (d ∷ ds) = ap₂ (λ a b. a || b) (same d) (any_alike f g same ds)

pub same_asserts : (k : Keyword) (v t : Doc) → WasOne k → asserts_1 k v t ≡ asserts k v t
same_asserts DependentRequired v t w = absurd cc
same_asserts OfType (text n) t w = of_alike n t
same_asserts OfType (list names) t w = any_alike (λ d. is_of_text_1 d t) (λ d. is_of_text d t) (λ d. of_text_alike d t) (elements_list names)
same_asserts OfType _ t w = refl
same_asserts Required (list names) (object ms) w = all_alike (λ d. is_member_1 d ms) (λ d. is_member d ms) (λ d. member_alike d ms) (elements_list names)
same_asserts Enumeration (list ds) t w = refl
same_asserts MultipleOf (int a) (int b) w = refl
same_asserts Minimum (int a) (int b) w = refl
same_asserts Maximum (int a) (int b) w = refl
same_asserts ExclusiveMinimum (int a) (int b) w = refl
same_asserts ExclusiveMaximum (int a) (int b) w = refl
same_asserts MinLength v (text s) w = least_alike v (length (chars s))
same_asserts MaxLength v (text s) w = most_alike v (length (chars s))
same_asserts MinItems v (list ds) w = least_alike v (length (elements_list ds))
same_asserts MaxItems v (list ds) w = most_alike v (length (elements_list ds))
same_asserts MinProperties v (object ms) w = least_alike v (length (names_list ms))
same_asserts MaxProperties v (object ms) w = most_alike v (length (names_list ms))
same_asserts UniqueItems (boolean true) _ w = refl
same_asserts UniqueItems (boolean false) _ w = refl
same_asserts _ _ _ w = refl

-- ---- asks

at_each_alike : (ss : Elements) (t : Doc) → at_each_1 ss t ≡ at_each ss t
at_each_alike no_elements t = refl
at_each_alike (element s ss) t = ap (λ l. ask s t ∷ l) (at_each_alike ss t)

of_each_alike : (s : Doc) (ts : Elements) → of_each_1 s ts ≡ of_each s ts
of_each_alike s no_elements = refl
of_each_alike s (element t ts) = ap (λ l. ask s t ∷ l) (of_each_alike s ts)

by_place_alike : (ss ts : Elements) → by_place_1 ss ts ≡ by_place ss ts
by_place_alike no_elements ts = refl
by_place_alike (element s ss) no_elements = refl
by_place_alike (element s ss) (element t ts) = ap (λ l. ask s t ∷ l) (by_place_alike ss ts)

if_named_alike : (o : Option Doc) (t : Doc) (xs : List Ask) → if_named_1 o t xs ≡ if_named o t xs
if_named_alike None t xs = refl
if_named_alike (Some s) t xs = refl

by_name_alike : (ss ts : Members) → by_name_1 ss ts ≡ by_name ss ts
by_name_alike ss no_members = refl
by_name_alike ss (member k t ts) = if_named_alike (get_member k ss) t (by_name_1 ss ts) ∙ ap (if_named (get_member k ss) t) (by_name_alike ss ts)

-- without schemas nothing is asked
no_name : (ts : Members) → by_name_1 no_members ts ≡ []
no_name no_members = refl
no_name (member k t ts) = no_name ts

each_named_alike : (v : Doc) (ts : Members) → by_name_1 (members_in v) ts ≡ each_named v ts
each_named_alike (object ss) ts = by_name_alike ss ts
each_named_alike null ts = no_name ts
each_named_alike (boolean b) ts = no_name ts
each_named_alike (int z) ts = no_name ts
each_named_alike (text s) ts = no_name ts
each_named_alike (list ds) ts = no_name ts

-- without patterns
of_others_alike : (known : Members) (s : Doc) (ts : Members) → of_others_1 known s ts ≡ of_others known [] s ts
of_others_alike known s no_members = refl
of_others_alike known s (member k t ts) = by_test (is_some (get_member k known)) (of_others_alike known s ts)
  where
    by_test : (b : Bool) → of_others_1 known s ts ≡ of_others known [] s ts → (if b then of_others_1 known s ts else (ask s t ∷ of_others_1 known s ts)) ≡ (if b || false then of_others known [] s ts else (ask s t ∷ of_others known [] s ts))
    by_test true same = same
    by_test false same = ap (λ l. ask s t ∷ l) same

pub same_asks : (root : Doc) (ms : Members) (k : Keyword) (v t : Doc) → names_list (members_in (beside (codes "patternProperties") ms)) ≡ [] → WasOne k → is_dangling_1 root k v ≡ false → asks_1 root ms k v t ≡ asks root ms k v t
same_asks root ms PropertyNames v t none w e = absurd cc
same_asks root ms Contains v t none w e = absurd cc
same_asks root ms MaxContains v t none w e = absurd cc
same_asks root ms Then v t none w e = absurd cc
same_asks root ms Else v t none w e = absurd cc
same_asks root ms PatternProperties v t none w e = absurd cc
same_asks root ms DependentSchemas v t none w e = absurd cc
same_asks root ms Properties v t none w e = each_named_alike v (members_in t)
same_asks root ms AdditionalProperties v t none w e = of_others_alike (members_in (beside (codes "properties") ms)) v (members_in t) ∙ sym (ap (λ ps. of_others (members_in (beside (codes "properties") ms)) ps v (members_in t)) none)
same_asks root ms PrefixItems v t none w e = by_place_alike (elements_in v) (elements_in t)
same_asks root ms Items v t none w e = of_each_alike v (after (length (elements_list (elements_in (beside (codes "prefixItems") ms)))) (elements_in t))
same_asks root ms AllOf v t none w e = at_each_alike (elements_in v) t
same_asks root ms AnyOf v t none w e = at_each_alike (elements_in v) t
same_asks root ms OneOf v t none w e = at_each_alike (elements_in v) t
same_asks root ms Ref v t none w e = ap (λ o. if_named_1 o t []) (same_target root v e) ∙ if_named_alike (target root v) t []
same_asks root ms _ v t none w e = refl

pub same_joins : (ms : Members) (k : Keyword) (v t : Doc) (bs : List Bool) → WasOne k → joins_1 k v t bs ≡ joins ms k v t bs
same_joins ms Properties v t bs w = refl
same_joins ms AdditionalProperties v t bs w = refl
same_joins ms PrefixItems v t bs w = refl
same_joins ms Items v t bs w = refl
same_joins ms AllOf v t bs w = refl
same_joins ms AnyOf v t bs w = refl
same_joins ms OneOf v t bs w = refl
same_joins ms Not v t bs w = refl
same_joins ms Ref v t bs w = refl
same_joins ms PropertyNames v t bs w = absurd cc
same_joins ms Contains v t bs w = absurd cc
same_joins ms MaxContains v t bs w = absurd cc
same_joins ms Then v t bs w = absurd cc
same_joins ms Else v t bs w = absurd cc
same_joins ms Pattern v t bs w = absurd cc
same_joins ms PatternProperties v t bs w = absurd cc
same_joins ms DependentSchemas v t bs w = absurd cc
same_joins ms k v t bs w = same_asserts k v t w

-- ---- schemas for the instance itself

elements_at_alike : (here : List Place) (n : ℕ) (ds : Elements) → elements_at_1 here n ds ≡ elements_at here n ds
elements_at_alike here n no_elements = refl
elements_at_alike here n (element d ds) = ap (λ l. position (here ++ index n ∷ []) d ∷ l) (elements_at_alike here (suc n) ds)

pub same_led : (root : Doc) (here : List Place) (k : Keyword) (v : Doc) → WasOne k → is_dangling_1 root k v ≡ false → led_by_1 root here k v ≡ led_by root here k v
same_led root here If v w e = absurd cc
same_led root here Then v w e = absurd cc
same_led root here Else v w e = absurd cc
same_led root here DependentSchemas v w e = absurd cc
same_led root here AllOf v w e = elements_at_alike here 0 (elements_in v)
same_led root here AnyOf v w e = elements_at_alike here 0 (elements_in v)
same_led root here OneOf v w e = elements_at_alike here 0 (elements_in v)
same_led root here Ref v w e = targets_alike root v e
same_led root here _ v w e = refl
