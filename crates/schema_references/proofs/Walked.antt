-- What a reference names is a schema of the whole one.
use Rattle.std.proofs.Common.{◌≡◌, ℕ, suc, List, [], ◌∷◌, ◌++◌, Bool, true, false, if◌then◌else◌, Option, Some, None, Ordering, Less, Equal, Greater, nat_cmp, decimal, refl, sym, subst, ◌∙◌}
use Rattle.std.proofs.lemmas.Map.Lookups.{exact_bytes}
use Rattle.std.specs.Cmp.Lexicographic.{slice_cmp}
use Rattle.std.specs.Option.{option_and_then}
use Rattle.std.specs.Ordering.{match_ordering}
use Rattle.std.specs.Str.{bytes_eq}
use Rattle.doc_pointer.specs.Place.{element_named}
use Rattle.doc_tree.specs.Doc.{Doc, null, boolean, int, text, list, object, Elements, no_elements, element, Members, no_members, member, get_member}
use Rattle.schema_graph.specs.Walks.{In, first, later}
use Rattle.schema_graph.proofs.Among.{In-left, In-right}
use Rattle.schema_rules.specs.Keywords.{keyword_of, shape_of}
use Rattle.schema_rules.specs.Pointers.{held_at, shape_at, walk}
use Rattle.schema_rules.specs.Anchors.{anchor_of, is_this, with_anchor}
use Rattle.schema_rules.specs.References.{reached, spelled_by, target, tokens_to}
use Rattle.schema_rules.specs.Schemas.{schemas, schemas_in, schemas_each, schemas_named, schemas_below}
use Rattle.schema_rules.specs.declared.keyword.Shape.{Shape}
use Rattle.schema_rules.specs.declared.keyword.Shape.TheVariants.{Plain, One, Several, Named}

root_in : (d : Doc) → In d (schemas_in One d)
root_in null = first
root_in (boolean b) = first
root_in (int z) = first
root_in (text s) = first
root_in (list ds) = first
root_in (object ms) = first

-- what is in the value found under a name is below the object
below_found : (k : List ℕ) (ms : Members) (v q : Doc) → get_member k ms ≡ Some v → In q (schemas_in (shape_of (keyword_of k)) v) → In q (schemas_below ms)
below_found k no_members v q e i = absurd cc
below_found k (member l m ms) v q e i = by_order l m ms (slice_cmp nat_cmp k l) refl e (λ f. below_found k ms v q f i)
  where
    by_order : (l : List ℕ) (m : Doc) (ms : Members) (o : Ordering) → slice_cmp nat_cmp k l ≡ o → match_ordering o (get_member k ms) (Some m) (get_member k ms) ≡ Some v → (get_member k ms ≡ Some v → In q (schemas_below ms)) → In q (schemas_in (shape_of (keyword_of l)) m ++ schemas_below ms)
    by_order l m ms Less c f h = In-right q (schemas_in (shape_of (keyword_of l)) m) _ (h f)
    by_order l m ms Greater c f h = In-right q (schemas_in (shape_of (keyword_of l)) m) _ (h f)
    by_order l m ms Equal c f h =
        let named : k ≡ l = exact_bytes k l c in
        let is : v ≡ m = cc in
        In-left q _ _ (subst (λ x. In q (schemas_in (shape_of (keyword_of l)) x)) is (subst (λ x. In q (schemas_in (shape_of (keyword_of x)) v)) named i))

-- the same of an object whose values are all schemas
named_found : (k : List ℕ) (ms : Members) (v q : Doc) → get_member k ms ≡ Some v → In q (schemas_in One v) → In q (schemas_named ms)
named_found k no_members v q e i = absurd cc
named_found k (member l m ms) v q e i = by_order l m ms (slice_cmp nat_cmp k l) e (λ f. named_found k ms v q f i)
  where
    by_order : (l : List ℕ) (m : Doc) (ms : Members) (o : Ordering) → match_ordering o (get_member k ms) (Some m) (get_member k ms) ≡ Some v → (get_member k ms ≡ Some v → In q (schemas_named ms)) → In q (schemas_in One m ++ schemas_named ms)
    by_order l m ms Less f h = In-right q (schemas_in One m) _ (h f)
    by_order l m ms Greater f h = In-right q (schemas_in One m) _ (h f)
    by_order l m ms Equal f h = let is : v ≡ m = cc in In-left q _ _ (subst (λ x. In q (schemas_in One x)) is i)

-- and of a list
each_found : (n : ℕ) (k : List ℕ) (ds : Elements) (v q : Doc) → element_named n k ds ≡ Some v → In q (schemas_in One v) → In q (schemas_each ds)
each_found n k no_elements v q e i = absurd cc
each_found n k (element d ds) v q e i = by_test (bytes_eq (decimal n) k) e (λ f. each_found (suc n) k ds v q f i)
  where
    by_test : (b : Bool) → (if b then Some d else element_named (suc n) k ds) ≡ Some v → (element_named (suc n) k ds ≡ Some v → In q (schemas_each ds)) → In q (schemas_in One d ++ schemas_each ds)
    by_test true f rest = let is : v ≡ d = cc in In-left q _ _ (subst (λ x. In q (schemas_in One x)) is i)
    by_test false f rest = In-right q (schemas_in One d) _ (rest f)

-- a step along the tokens
pub walk_step : (h : Shape) (k : List ℕ) (ks : List (List ℕ)) (d : Doc) → walk h (k ∷ ks) d ≡ option_and_then (walk (shape_at h k) ks) (held_at h k d)
walk_step One k ks d = refl
walk_step Several k ks d = refl
walk_step Named k ks d = refl
walk_step Plain k ks d = refl

-- what is in the value that a token leads to is in the value before it
held_in : (h : Shape) (k : List ℕ) (d v q : Doc) → held_at h k d ≡ Some v → In q (schemas_in (shape_at h k) v) → In q (schemas_in h d)
held_in One k (object ms) v q e i = later (below_found k ms v q e i)
held_in Several k (list ds) v q e i = each_found 0 k ds v q e i
held_in Named k (object ms) v q e i = named_found k ms v q e i
held_in One k null v q e i = absurd cc
held_in One k (boolean b) v q e i = absurd cc
held_in One k (int z) v q e i = absurd cc
held_in One k (text s) v q e i = absurd cc
held_in One k (list ds) v q e i = absurd cc
held_in Several k null v q e i = absurd cc
held_in Several k (boolean b) v q e i = absurd cc
held_in Several k (int z) v q e i = absurd cc
held_in Several k (text s) v q e i = absurd cc
held_in Several k (object ms) v q e i = absurd cc
held_in Named k null v q e i = absurd cc
held_in Named k (boolean b) v q e i = absurd cc
held_in Named k (int z) v q e i = absurd cc
held_in Named k (text s) v q e i = absurd cc
held_in Named k (list ds) v q e i = absurd cc
held_in Plain k d v q e i = absurd cc

-- what is found along the tokens is in what they are followed from
pub walked : (ks : List (List ℕ)) (h : Shape) (d q : Doc) → walk h ks d ≡ Some q → In q (schemas_in h d)
walked [] One d q e = let is : d ≡ q = cc in subst (λ x. In x (schemas_in One d)) is (root_in d)
walked [] Several d q e = absurd cc
walked [] Named d q e = absurd cc
walked [] Plain d q e = absurd cc
walked (k ∷ ks) h d q e = by_held (held_at h k d) refl (sym (walk_step h k ks d) ∙ e) (λ v f. walked ks (shape_at h k) v q f)
  where
    by_held : (o : Option Doc) → held_at h k d ≡ o → option_and_then (walk (shape_at h k) ks) o ≡ Some q → ((v : Doc) → walk (shape_at h k) ks v ≡ Some q → In q (schemas_in (shape_at h k) v)) → In q (schemas_in h d)
    by_held None is f rest = absurd cc
    by_held (Some v) is f rest = held_in h k d v q is (rest v f)

-- a schema that has an anchor is one of those that it is looked for among
pub anchored : (s : List ℕ) (ds : List Doc) (d : Doc) → with_anchor s ds ≡ Some d → In d ds
anchored s [] d e = absurd cc
anchored s (c ∷ ds) d e = by_test (is_this s (anchor_of c)) e (λ f. anchored s ds d f)
  where
    by_test : (b : Bool) → (if b then Some c else with_anchor s ds) ≡ Some d → (with_anchor s ds ≡ Some d → In d ds) → In d (c ∷ ds)
    by_test true f rest = let is : c ≡ d = cc in subst (λ x. In x (c ∷ ds)) is first
    by_test false f rest = later (rest f)

-- the law
pub names_schema : (root v d : Doc) → target root v ≡ Some d → In d (schemas root)
names_schema root v d e = by_tokens (tokens_to root v) (spelled_by root v) e
  where
    by_tokens : (o : Option (List (List ℕ))) (name : Option (List ℕ)) → reached root o name ≡ Some d → In d (schemas root)
    by_tokens (Some ks) name f = walked ks One root d f
    by_tokens None None f = absurd cc
    by_tokens None (Some s) f = anchored s (schemas root) d f
