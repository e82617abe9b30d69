-- Each counter that the rules of a schema want takes at least thirteen bytes of the text, so there is room for all of them.
use Rattle.std.proofs.Common.{◌≡◌, ℕ, ◌+◌, ◌*◌, ◌<◌, ◌≤◌, ◌⊎◌, inl, inr, Bool, true, false, ◌&&◌, if◌then◌else◌, List, [], ◌∷◌, ◌++◌, length, Option, Some, None, codes, refl, ap, ◌∙◌, arith}
use Rattle.std.specs.Prelude.{nat_le}
use Rattle.std.specs.Str.{bytes_eq}
use Rattle.std.proofs.lemmas.Bool.{leb-true, le-leb}
use Rattle.std.proofs.lemmas.Slice.Eq.{bytes_eq-Decides}
use Rattle.json.specs.Print.{quoted, escape_byte}
use Rattle.doc_tree.specs.Doc.{Doc, null, boolean, int, text, list, object, Elements, no_elements, element, Members, no_members, member}
use Rattle.doc_tree.proofs.Sizes.{size, elements_size, members_size, size-list, size-object}
use Rattle.schema_graph.specs.Walks.{first, later}
use Rattle.schema_rules.specs.Keywords.{keyword_of, shape_of, found, or_else, or_unknown, for_any, for_numbers, for_sizes, for_children, in_place, of_core, not_offered}
use Rattle.schema_rules.specs.Schemas.{schemas_in, schemas_each, schemas_named, schemas_below, schemas}
use Rattle.schema_rules.specs.declared.keyword.Keyword.{Keyword}
use Rattle.schema_rules.specs.declared.keyword.Keyword.TheVariants as keywords
use Rattle.schema_rules.specs.declared.keyword.Shape.{Shape}
use Rattle.schema_rules.specs.declared.keyword.Shape.TheVariants.{One, Several, Named}
use Rattle.schema_rules.specs.declared.profile.Profile.TheVariants.{Three}
use Rattle.schema_levels.specs.Counters.{HaveRoom}
use Rattle.schema_nodes.specs.Wants.{keyword_wants, members_want, schemas_want}
use Rattle.doc_schema.specs.Checked.{IsChecked}
use Rattle.doc_schema.specs.declared.limits.TheConstants.{MOST_BYTES}
use Rattle.doc_schema.proofs.Thirds.{Formed, formed, left_formed, right_formed}

-- ---- a name that wants a counter is long

-- a schema has at least a byte more than its counters take
abbrev spare : Shape → ℕ
spare One = 1
spare _ = 0

abbrev is_long : List ℕ → Keyword → Bool
is_long name k = nat_le (13 * keyword_wants k) (length (quoted name) + 2 + spare (shape_of k))

abbrev all_long : List (List ℕ × Keyword) → Bool
all_long [] = true
all_long (row ∷ rows) = is_long row.0 row.1 && all_long rows

record Long (name : List ℕ) (found : Option Keyword) : Type 0 where
  is : is_long name (or_unknown found) ≡ true

both : (a b : Bool) → (a && b) ≡ true → (a ≡ true) × (b ≡ true)
both true b e = (refl, e)
both false b e = absurd cc

found_long : (rows : List (List ℕ × Keyword)) (k : List ℕ) → all_long rows ≡ true → Long k (found rows k)
found_long [] k e = record { is = le-leb 0 (length (quoted k) + 2 + 0) (omega arith) }
found_long (row ∷ rows) k e = let parts = both (is_long row.0 row.1) (all_long rows) e in by_test (bytes_eq k row.0) refl parts.0 (found_long rows k parts.1)
  where
    by_test : (b : Bool) → bytes_eq k row.0 ≡ b → is_long row.0 row.1 ≡ true → Long k (found rows k) → Long k (if b then Some row.1 else found rows k)
    by_test true same here rest = record { is = ap (λ n. is_long n row.1) ((bytes_eq-Decides k row.0).0 same) ∙ here }
    by_test false same here rest = rest

else_long : {k : List ℕ} {a b : Option Keyword} → Long k a → Long k b → Long k (or_else a b)
else_long {a = None} f g = g
else_long {a = Some w} f g = f

any_long : (k : List ℕ) → Long k (for_any k)
unfolding for_any escape_byte
any_long k = found_long ((codes "type", keywords.OfType) ∷ (codes "enum", keywords.Enumeration) ∷ (codes "const", keywords.Constant) ∷ []) k refl

numbers_long : (k : List ℕ) → Long k (for_numbers k)
unfolding for_numbers escape_byte
numbers_long k = found_long ((codes "multipleOf", keywords.MultipleOf) ∷ (codes "minimum", keywords.Minimum) ∷ (codes "maximum", keywords.Maximum) ∷ (codes "exclusiveMinimum", keywords.ExclusiveMinimum) ∷ (codes "exclusiveMaximum", keywords.ExclusiveMaximum) ∷ []) k refl

sizes_long : (k : List ℕ) → Long k (for_sizes k)
unfolding for_sizes escape_byte
sizes_long k = found_long ((codes "minLength", keywords.MinLength) ∷ (codes "maxLength", keywords.MaxLength) ∷ (codes "minItems", keywords.MinItems) ∷ (codes "maxItems", keywords.MaxItems) ∷ (codes "uniqueItems", keywords.UniqueItems) ∷ (codes "minProperties", keywords.MinProperties) ∷ (codes "maxProperties", keywords.MaxProperties) ∷ (codes "required", keywords.Required) ∷ (codes "dependentRequired", keywords.DependentRequired) ∷ []) k refl

children_long : (k : List ℕ) → Long k (for_children k)
unfolding for_children escape_byte
children_long k = found_long ((codes "properties", keywords.Properties) ∷ (codes "additionalProperties", keywords.AdditionalProperties) ∷ (codes "propertyNames", keywords.PropertyNames) ∷ (codes "prefixItems", keywords.PrefixItems) ∷ (codes "items", keywords.Items) ∷ (codes "contains", keywords.Contains) ∷ (codes "minContains", keywords.MinContains) ∷ (codes "maxContains", keywords.MaxContains) ∷ []) k refl

place_long : (k : List ℕ) → Long k (in_place k)
unfolding in_place escape_byte
place_long k = found_long ((codes "allOf", keywords.AllOf) ∷ (codes "anyOf", keywords.AnyOf) ∷ (codes "oneOf", keywords.OneOf) ∷ (codes "not", keywords.Not) ∷ (codes "if", keywords.If) ∷ (codes "then", keywords.Then) ∷ (codes "else", keywords.Else) ∷ []) k refl

core_long : (k : List ℕ) → Long k (of_core k)
unfolding of_core escape_byte
core_long k = found_long ((codes "$defs", keywords.Defs) ∷ (codes "$ref", keywords.Ref) ∷ (codes "$id", keywords.Id) ∷ (codes "$schema", keywords.Dialect) ∷ []) k refl

left_long : (k : List ℕ) → Long k (not_offered k)
unfolding not_offered escape_byte
left_long k = found_long ((codes "pattern", keywords.Pattern) ∷ (codes "patternProperties", keywords.PatternProperties) ∷ (codes "unevaluatedItems", keywords.LeftOut) ∷ (codes "unevaluatedProperties", keywords.LeftOut) ∷ (codes "dependentSchemas", keywords.DependentSchemas) ∷ (codes "$anchor", keywords.Anchor) ∷ (codes "$dynamicRef", keywords.LeftOut) ∷ (codes "$dynamicAnchor", keywords.LeftOut) ∷ (codes "$vocabulary", keywords.LeftOut) ∷ []) k refl

name_long : (k : List ℕ) → is_long k (keyword_of k) ≡ true
unfolding keyword_of
name_long k = let all = else_long (any_long k) (else_long (numbers_long k) (else_long (sizes_long k) (else_long (children_long k) (else_long (place_long k) (else_long (core_long k) (left_long k)))))) in all.is

-- ---- the schemas in a value

want_both : (xs ys : List Doc) → schemas_want (xs ++ ys) ≡ schemas_want xs + schemas_want ys
want_both [] ys = omega arith
want_both (d ∷ xs) ys = let rest = want_both xs ys in omega (arith, rest)

mutual
  room_in : (h : Shape) (v : Doc) → Formed (schemas_in h v) → 13 * schemas_want (schemas_in h v) + spare h ≤ size v
  room_in One (object no_members) f = omega arith
  room_in One (object (member k v ms)) f =
      let below = room_below (member k v ms) (λ d i. f d (later i)) in
      let long = size-object (member k v ms) in
      omega (arith, below, long)
  room_in One (boolean true) f = omega arith
  room_in One (boolean false) f = omega arith
  room_in One null f = let no = f null first in absurd cc
  room_in One (int z) f = let no = f (int z) first in absurd cc
  room_in One (text s) f = let no = f (text s) first in absurd cc
  room_in One (list ds) f = let no = f (list ds) first in absurd cc
  room_in Several (list ds) f = let each = room_each ds f in let long = size-list ds in omega (arith, each, long)
  room_in Named (object ms) f = let each = room_named ms f in let long = size-object ms in omega (arith, each, long)
  room_in _ v f = omega arith

  room_each : (ds : Elements) → Formed (schemas_each ds) → 13 * schemas_want (schemas_each ds) ≤ elements_size ds
  room_each no_elements f = omega arith
  room_each (element d ds) f =
      let one = room_in One d (left_formed (schemas_in One d) (schemas_each ds) f) in
      let rest = room_each ds (right_formed (schemas_in One d) (schemas_each ds) f) in
      let all = want_both (schemas_in One d) (schemas_each ds) in
      omega (arith, one, rest, all)

  room_named : (ms : Members) → Formed (schemas_named ms) → 13 * schemas_want (schemas_named ms) ≤ members_size ms
  room_named no_members f = omega arith
  room_named (member k d ms) f =
      let one = room_in One d (left_formed (schemas_in One d) (schemas_named ms) f) in
      let rest = room_named ms (right_formed (schemas_in One d) (schemas_named ms) f) in
      let all = want_both (schemas_in One d) (schemas_named ms) in
      omega (arith, one, rest, all)

  -- below a schema object, and by its members
  room_below : (ms : Members) → Formed (schemas_below ms) → 13 * schemas_want (schemas_below ms) + 13 * members_want ms ≤ members_size ms
  room_below no_members f = omega arith
  room_below (member k v ms) f =
      let h = shape_of (keyword_of k) in
      let here = schemas_in h v in
      let one = room_in h v (left_formed here (schemas_below ms) f) in
      let rest = room_below ms (right_formed here (schemas_below ms) f) in
      let all = want_both here (schemas_below ms) in
      let long = leb-true (13 * keyword_wants (keyword_of k)) (length (quoted k) + 2 + spare h) (name_long k) in
      omega (arith, one, rest, all, long)

-- ---- of a schema that isn't too large

pub room : (s : Doc) → IsChecked Three s → HaveRoom (schemas_want (schemas s))
room s f = by_size (cases (size s) MOST_BYTES)
  where
    cases : (a b : ℕ) → (a ≤ b) ⊎ (b < a)
    cases a b = grind arith

    by_size : (size s ≤ MOST_BYTES) ⊎ (MOST_BYTES < size s) → HaveRoom (schemas_want (schemas s))
    by_size (inl le) = let all = room_in One s (formed s (λ h. f.form (inl h))) in omega (arith, all, le)
    by_size (inr more) = absurd (f.size (inl (inl more)))
