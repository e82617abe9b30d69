-- Each schema in a schema takes at least three bytes of the text, so there are at most a third as many as bytes.
use Rattle.std.proofs.Common.{◌≡◌, ℕ, suc, ◌+◌, ◌*◌, ◌<◌, ◌≤◌, ◌⊎◌, inl, inr, Bool, true, false, ◌||◌, List, [], ◌∷◌, ◌++◌, length, length-append, refl, ap, ◌∙◌, arith}
use Rattle.json.specs.Print.{quoted, escape}
use Rattle.doc_tree.specs.Doc.{Doc, null, boolean, int, text, list, object, Elements, no_elements, element, Members, no_members, member}
use Rattle.doc_tree.proofs.Sizes.{size, elements_size, members_size, size-list, size-object}
use Rattle.schema_graph.specs.Walks.{In, first, later}
use Rattle.schema_graph.proofs.Among.{In-left, In-right}
use Rattle.schema_rules.specs.Keywords.{keyword_of, shape_of}
use Rattle.schema_rules.specs.Parts.{members_in}
use Rattle.schema_rules.specs.Schemas.{schemas_in, schemas_each, schemas_named, schemas_below, schemas}
use Rattle.schema_rules.specs.declared.keyword.Shape.{Shape}
use Rattle.schema_rules.specs.declared.keyword.Shape.TheVariants.{One, Several, Named}
use Rattle.schema_rules.specs.declared.profile.Profile.TheVariants.{Three}
use Rattle.schema_levels.specs.declared.run.TheConstants.{MOST_WORDS}
use Rattle.doc_schema.specs.Defects.{HasDefect, lacks_form, some_member, is_wrong, is_root}
use Rattle.doc_schema.specs.Checked.{IsChecked}
use Rattle.doc_schema.specs.declared.defects.Defect.TheVariants.{Form}
use Rattle.doc_schema.specs.declared.limits.TheConstants.{MOST_BYTES}
use Rattle.doc_schema.proofs.Closed.{to_position}

-- all of them are truth values or objects
abbrev pub Formed : List Doc → Type 0
Formed ds = (d : Doc) → In d ds → lacks_form Form d ≡ false

abbrev members_count : Members → ℕ
members_count no_members = 0
members_count (member k v ms) = suc (members_count ms)

two_quotes : (k : List ℕ) → 2 ≤ length (quoted k)
two_quotes k = let both = length-append (escape k) (34 ∷ []) in omega (arith, both)

pub left_formed : (xs ys : List Doc) → Formed (xs ++ ys) → Formed xs
left_formed xs ys f d i = f d (In-left d xs ys i)

pub right_formed : (xs ys : List Doc) → Formed (xs ++ ys) → Formed ys
right_formed xs ys f d i = f d (In-right d xs ys i)

mutual
  third_in : (h : Shape) (v : Doc) → Formed (schemas_in h v) → 3 * length (schemas_in h v) ≤ size v + 1
  third_in One (object no_members) f = omega arith
  third_in One (object (member k v ms)) f =
      let below = third_below (member k v ms) (λ d i. f d (later i)) in
      let long = size-object (member k v ms) in
      omega (arith, below, long)
  third_in One (boolean true) f = omega arith
  third_in One (boolean false) f = omega arith
  third_in One null f = let no = f null first in absurd cc
  third_in One (int z) f = let no = f (int z) first in absurd cc
  third_in One (text s) f = let no = f (text s) first in absurd cc
  third_in One (list ds) f = let no = f (list ds) first in absurd cc
  third_in Several (list ds) f = let each = third_each ds f in let long = size-list ds in omega (arith, each, long)
  third_in Named (object ms) f = let each = third_named ms f in let long = size-object ms in omega (arith, each, long)
  third_in _ v f = omega arith

  third_each : (ds : Elements) → Formed (schemas_each ds) → 3 * length (schemas_each ds) ≤ elements_size ds
  third_each no_elements f = omega arith
  third_each (element d ds) f =
      let one = third_in One d (left_formed (schemas_in One d) (schemas_each ds) f) in
      let rest = third_each ds (right_formed (schemas_in One d) (schemas_each ds) f) in
      let both = length-append (schemas_in One d) (schemas_each ds) in
      omega (arith, one, rest, both)

  third_named : (ms : Members) → Formed (schemas_named ms) → 3 * length (schemas_named ms) ≤ members_size ms
  third_named no_members f = omega arith
  third_named (member k d ms) f =
      let one = third_in One d (left_formed (schemas_in One d) (schemas_named ms) f) in
      let rest = third_named ms (right_formed (schemas_in One d) (schemas_named ms) f) in
      let both = length-append (schemas_in One d) (schemas_named ms) in
      omega (arith, one, rest, both, two_quotes k)

  third_below : (ms : Members) → Formed (schemas_below ms) → 3 * length (schemas_below ms) + 3 * members_count ms ≤ members_size ms
  third_below no_members f = omega arith
  third_below (member k v ms) f =
      let xs = schemas_in (shape_of (keyword_of k)) v in
      let one = third_in (shape_of (keyword_of k)) v (left_formed xs (schemas_below ms) f) in
      let rest = third_below ms (right_formed xs (schemas_below ms) f) in
      let both = length-append xs (schemas_below ms) in
      omega (arith, one, rest, both, two_quotes k)

-- ---- of a schema whose schemas are truth values and objects

pub formed : (s : Doc) → (HasDefect Three Form s → ⊥) → Formed (schemas s)
formed s none d i = by_form (lacks_form Form d) refl
  where
    by_form : (b : Bool) → lacks_form Form d ≡ b → b ≡ false
    by_form false e = refl
    by_form true e =
        let p = to_position s d i in
        let lacks : lacks_form Form p.0.schema ≡ true = ap (lacks_form Form) p.2 ∙ e in
        absurd (none (p.0, p.1, ap (λ b. b || some_member Three (is_wrong Three Form s (is_root p.0.location)) (members_in p.0.schema)) lacks))

pub thirds : (s : Doc) → (HasDefect Three Form s → ⊥) → 3 * length (schemas s) ≤ size s + 1
thirds s none = third_in One s (formed s none)

-- so each has a place in the largest sets
pub fits : (s : Doc) → IsChecked Three s → length (schemas s) ≤ 64 * MOST_WORDS
fits s f = by_size (cases (size s) MOST_BYTES)
  where
    cases : (a b : ℕ) → (a ≤ b) ⊎ (b < a)
    cases a b = grind arith

    by_size : (size s ≤ MOST_BYTES) ⊎ (MOST_BYTES < size s) → length (schemas s) ≤ 64 * MOST_WORDS
    by_size (inl le) = omega (arith, thirds s (λ h. f.form (inl h)), le)
    by_size (inr more) = absurd (f.size (inl (inl more)))
