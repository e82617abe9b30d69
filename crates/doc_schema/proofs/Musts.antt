-- What must hold holds, and a document that changed is valid where what must hold anew does.
use Rattle.std.proofs.Common.{◌≡◌, ℕ, zero, suc, ◌<◌, ◌⊎◌, inr, ⊎_elim, List, [], ◌∷◌, Bool, true, false, Some, refl, sym, ap, ◌∙◌, if◌then◌else◌, arith}
use Rattle.doc_tree.specs.Doc.{Doc, null, boolean, int, text, list, object, Members, no_members, member}
use Rattle.schema_graph.specs.Walks.{In, first, later}
use Rattle.schema_graph.proofs.Among.{In-left, In-right, In-parts, none_in}
use Rattle.schema_rules.specs.Keywords.{keyword_of}
use Rattle.schema_rules.specs.Rules.{Ask, ask, asks, every, joins}
use Rattle.schema_rules.specs.declared.keyword.Keyword.{Keyword}
use Rattle.schema_rules.specs.declared.keyword.Keyword.TheVariants.{Properties, PatternProperties, AdditionalProperties, PropertyNames, PrefixItems, Items, AllOf, Ref}
use Rattle.schema_changes.proofs.Children.{both_true, left_true, right_true}
use Rattle.doc_schema.specs.Judge.{Judges, enough}
use Rattle.doc_schema.specs.Must.{MustHold, whole, part, holds_itself, others_hold, wanted, wanted_by, wants_all}
use Rattle.doc_schema.specs.Schemas.{schemas, IsLoopedSchema}
use Rattle.doc_schema.specs.Steps.{all_hold, holds, passes, steps, told, verdict}
use Rattle.doc_schema.proofs.Closed.{own}
use Rattle.doc_schema.proofs.Fuel.{asked_by, asked_of, enough_is, part_in, part_less, verdict_is}

joined_all : (k : Keyword) (ms : Members) (v t : Doc) (bs : List Bool) → wants_all k ≡ true → joins ms k v t bs ≡ every bs
joined_all Properties ms v t bs e = refl
joined_all PatternProperties ms v t bs e = refl
joined_all AdditionalProperties ms v t bs e = refl
joined_all PropertyNames ms v t bs e = refl
joined_all PrefixItems ms v t bs e = refl
joined_all Items ms v t bs e = refl
joined_all AllOf ms v t bs e = refl
joined_all Ref ms v t bs e = refl
joined_all _ ms v t bs e = absurd cc

-- ---- one member

asked_if : (b : Bool) (xs : List Ask) (a : Ask) → In a (if b then xs else []) → In a xs
asked_if true xs a at = at
asked_if false xs a at = none_in a at

wanted_asked : (root : Doc) (beside ms : Members) (t : Doc) (a : Ask) → In a (wanted_by root beside ms t) → In a (asked_by root beside ms t)
wanted_asked root beside no_members t a at = none_in a at
wanted_asked root beside (member k v ms) t a at = ⊎_elim
    (λ h. In-left a (asks root beside (keyword_of k) v t) (asked_by root beside ms t) (asked_if (wants_all (keyword_of k)) (asks root beside (keyword_of k) v t) a h))
    (λ h. In-right a (asks root beside (keyword_of k) v t) (asked_by root beside ms t) (wanted_asked root beside ms t a h))
    (In-parts a (if wants_all (keyword_of k) then asks root beside (keyword_of k) v t else []) (wanted_by root beside ms t) at)

pub wanted_is_asked : (root s t : Doc) (a : Ask) → In a (wanted root s t) → In a (asked_of root s t)
wanted_is_asked root (object ms) t a at = wanted_asked root ms ms t a at
wanted_is_asked root null t a at = none_in a at
wanted_is_asked root (boolean b) t a at = none_in a at
wanted_is_asked root (int z) t a at = none_in a at
wanted_is_asked root (text l) t a at = none_in a at
wanted_is_asked root (list ds) t a at = none_in a at

module _ (known : Doc → Doc → Bool) where
  told_of : (xs : List Ask) (a : Ask) → every (told known xs) ≡ true → In a xs → known a.schema a.instance ≡ true
  told_of [] a e at = none_in a at
  told_of (_ ∷ xs) a e first = left_true (known a.schema a.instance) (every (told known xs)) e
  told_of (b ∷ xs) a e (later at) = told_of xs a (right_true (known b.schema b.instance) (every (told known xs)) e) at

  told_all : (xs : List Ask) → ((a : Ask) → In a xs → known a.schema a.instance ≡ true) → every (told known xs) ≡ true
  told_all [] h = refl
  told_all (a ∷ xs) h = both_true (known a.schema a.instance) (every (told known xs)) (h a first) (told_all xs (λ b i. h b (later i)))

  module _ (root : Doc) (beside : Members) (v t : Doc) (k : Keyword) where
    one_of : (b : Bool) (a : Ask) → wants_all k ≡ b → holds known root beside k v t ≡ true → In a (if b then asks root beside k v t else []) → known a.schema a.instance ≡ true
    one_of true a w e at = told_of (asks root beside k v t) a (sym (joined_all k beside v t (told known (asks root beside k v t)) w) ∙ e) at
    one_of false a w e at = none_in a at

    one_from : (b : Bool) → wants_all k ≡ b → (if b then true else holds known root beside k v t) ≡ true → ((a : Ask) → In a (if b then asks root beside k v t else []) → known a.schema a.instance ≡ true) → holds known root beside k v t ≡ true
    one_from true w e h = joined_all k beside v t (told known (asks root beside k v t)) w ∙ told_all (asks root beside k v t) h
    one_from false w e h = e

    one_itself : (b : Bool) → holds known root beside k v t ≡ true → (if b then true else holds known root beside k v t) ≡ true
    one_itself true e = refl
    one_itself false e = e

  -- ---- all members

  all_of : (root : Doc) (beside ms : Members) (t : Doc) (a : Ask) → all_hold known root beside ms t ≡ true → In a (wanted_by root beside ms t) → known a.schema a.instance ≡ true
  all_of root beside no_members t a e at = none_in a at
  all_of root beside (member k v ms) t a e at = ⊎_elim
      (λ h. one_of root beside v t (keyword_of k) (wants_all (keyword_of k)) a refl (left_true (holds known root beside (keyword_of k) v t) (all_hold known root beside ms t) e) h)
      (λ h. all_of root beside ms t a (right_true (holds known root beside (keyword_of k) v t) (all_hold known root beside ms t) e) h)
      (In-parts a (if wants_all (keyword_of k) then asks root beside (keyword_of k) v t else []) (wanted_by root beside ms t) at)

  all_from : (root : Doc) (beside ms : Members) (t : Doc) → others_hold known root beside ms t ≡ true → ((a : Ask) → In a (wanted_by root beside ms t) → known a.schema a.instance ≡ true) → all_hold known root beside ms t ≡ true
  all_from root beside no_members t e h = refl
  all_from root beside (member k v ms) t e h =
      let now = if wants_all (keyword_of k) then asks root beside (keyword_of k) v t else [] in
      let says = if wants_all (keyword_of k) then true else holds known root beside (keyword_of k) v t in
      both_true (holds known root beside (keyword_of k) v t) (all_hold known root beside ms t)
      (one_from root beside v t (keyword_of k) (wants_all (keyword_of k)) refl (left_true says (others_hold known root beside ms t) e) (λ a i. h a (In-left a now (wanted_by root beside ms t) i)))
      (all_from root beside ms t (right_true says (others_hold known root beside ms t) e) (λ a i. h a (In-right a now (wanted_by root beside ms t) i)))

  all_themselves : (root : Doc) (beside ms : Members) (t : Doc) → all_hold known root beside ms t ≡ true → others_hold known root beside ms t ≡ true
  all_themselves root beside no_members t e = refl
  all_themselves root beside (member k v ms) t e =
      both_true (if wants_all (keyword_of k) then true else holds known root beside (keyword_of k) v t) (others_hold known root beside ms t)
      (one_itself root beside v t (keyword_of k) (wants_all (keyword_of k)) (left_true (holds known root beside (keyword_of k) v t) (all_hold known root beside ms t) e))
      (all_themselves root beside ms t (right_true (holds known root beside (keyword_of k) v t) (all_hold known root beside ms t) e))

-- ---- schemas

module _ (root : Doc) (none : IsLoopedSchema root → ⊥) where
  passes_of : (s t : Doc) (a : Ask) → passes (verdict root) root s t ≡ true → In a (wanted root s t) → verdict root a.schema a.instance ≡ true
  passes_of (object ms) t a e at = all_of (verdict root) root ms ms t a e at
  passes_of null t a e at = none_in a at
  passes_of (boolean b) t a e at = none_in a at
  passes_of (int z) t a e at = none_in a at
  passes_of (text l) t a e at = none_in a at
  passes_of (list ds) t a e at = none_in a at

  passes_from : (s t : Doc) → holds_itself root s t ≡ true → ((a : Ask) → In a (wanted root s t) → verdict root a.schema a.instance ≡ true) → passes (verdict root) root s t ≡ true
  passes_from (object ms) t e h = all_from (verdict root) root ms ms t e h
  passes_from null t e h = refl
  passes_from (boolean b) t e h = e
  passes_from (int z) t e h = refl
  passes_from (text l) t e h = refl
  passes_from (list ds) t e h = refl

  passes_itself : (s t : Doc) → passes (verdict root) root s t ≡ true → holds_itself root s t ≡ true
  passes_itself (object ms) t e = all_themselves (verdict root) root ms ms t e
  passes_itself null t e = refl
  passes_itself (boolean b) t e = e
  passes_itself (int z) t e = refl
  passes_itself (text l) t e = refl
  passes_itself (list ds) t e = refl

  must_in : (d : Doc) {s t : Doc} → MustHold root d s t → In s (schemas root)
  must_in d whole = own root
  must_in d (part {s = s} {t = t} {p = p} {u = u} m at) = part_in root none s t (ask p u) (must_in d m) (wanted_is_asked root s t (ask p u) at)

  of_judges : (d : Doc) → Judges root d true → verdict root root d ≡ true
  of_judges d is = let same : Some (verdict root root d) ≡ Some true = sym (enough_is root none d (enough root d) (omega arith)) ∙ is in cc

  to_judges : (d : Doc) → verdict root root d ≡ true → Judges root d true
  to_judges d e = enough_is root none d (enough root d) (omega arith) ∙ ap (λ b. Some b) e

  -- what must hold holds
  pub must_holds : (d : Doc) → Judges root d true → {s t : Doc} → MustHold root d s t → verdict root s t ≡ true
  must_holds d is whole = of_judges d is
  must_holds d is (part {s = s} {t = t} {p = p} {u = u} m at) = passes_of s t (ask p u) (sym (verdict_is root none s t (must_in d m)) ∙ must_holds d is m) at

  module _ (old new : Doc) (was : Judges root old true) where
    pub anew : Judges root new true → (s t : Doc) → MustHold root new s t → MustHold root old s t ⊎ (holds_itself root s t ≡ true)
    anew is s t m = inr (passes_itself s t (sym (verdict_is root none s t (must_in new m)) ∙ must_holds new is m))

    module _ (each : (s t : Doc) → MustHold root new s t → MustHold root old s t ⊎ (holds_itself root s t ≡ true)) where
      holds_within : (n : ℕ) (s t : Doc) → MustHold root new s t → steps root s t < n → verdict root s t ≡ true
      holds_within zero s t m lt = absurd (omega arith)
      holds_within (suc n) s t m lt = ⊎_elim
          (λ h. must_holds old was h)
          (λ e. verdict_is root none s t (must_in new m) ∙ passes_from s t e (λ a i.
          let less = part_less root none s t a (must_in new m) (wanted_is_asked root s t a i) in holds_within n a.schema a.instance (part m i) (omega (arith, less, lt))))
          (each s t m)

      pub judged_new : Judges root new true
      judged_new = to_judges new (holds_within (suc (steps root root new)) root new whole (omega arith))
