-- Where a position leads are positions.
use Rattle.std.proofs.Common.{◌≡◌, ℕ, suc, ◌⊎◌, inl, inr, ⊎_elim, Bool, true, false, if◌then◌else◌, List, [], ◌∷◌, ◌++◌, Option, Some, None, Ordering, Less, Equal, Greater, nat_cmp, decimal, map, refl, sym, ap, subst, ◌∙◌, append-nil, append_assoc}
use Rattle.std.proofs.lemmas.Map.Lookups.{exact_bytes}
use Rattle.std.specs.Cmp.Lexicographic.{slice_cmp}
use Rattle.std.specs.Option.{option_and_then, option_to_list}
use Rattle.std.specs.Ordering.{match_ordering}
use Rattle.std.specs.Str.{bytes_eq}
use Rattle.doc_tree.specs.Doc.{Doc, null, boolean, int, text, list, object, Elements, no_elements, element, Members, no_members, member, get_member, Place, name, index}
use Rattle.schema_graph.specs.Walks.{In, first, later}
use Rattle.schema_graph.proofs.Among.{In-left, In-right, In-parts, none_in}
use Rattle.schema_rules.specs.Keywords.{keyword_of, shape_of}
use Rattle.schema_rules.specs.Parts.{elements_in, members_in}
use Rattle.schema_rules.specs.Pointers.{held_at, shape_at, walk}
use Rattle.schema_rules.specs.References.{reached, spelled_by, target, tokens_to}
use Rattle.schema_rules.specs.Anchors.{anchor_of, is_this, with_anchor}
use Rattle.schema_references.proofs.Walked.{walk_step}
use Rattle.doc_pointer.specs.Place.{element_named}
use Rattle.schema_rules.specs.declared.keyword.Keyword.{Keyword}
use Rattle.schema_rules.specs.declared.keyword.Keyword.TheVariants.{AllOf, AnyOf, OneOf, Not, If, Then, Else, DependentSchemas, Ref}
use Rattle.schema_rules.specs.declared.keyword.Shape.{Shape}
use Rattle.schema_rules.specs.declared.keyword.Shape.TheVariants.{Plain, One, Several, Named}
use Rattle.doc_schema.specs.Positions.{Position, position, positions, positions_in, positions_each, positions_named, positions_below}
use Rattle.doc_schema.specs.Loops.{after_place, index_named, place_at, places_along, location_by, place_with_anchor, target_location, targets, elements_at, members_at, led_by, led_by_members, leads}
use Rattle.doc_schema.proofs.Bare.{schema_of, schemas_are}
use Rattle.doc_schema.proofs.Mapped.{of_map}

-- a schema is a position of itself
pub itself : (here : List Place) (d : Doc) → In (position here d) (positions_in One here d)
itself here null = first
itself here (boolean b) = first
itself here (int z) = first
itself here (text s) = first
itself here (list ds) = first
itself here (object ms) = first

-- ---- what is in a position is in what holds it

mutual
  pub within : (h : Shape) (here : List Place) (v : Doc) (p q : Position) → In p (positions_in h here v) → In q (positions_in One p.location p.schema) → In q (positions_in h here v)
  within One here (object ms) _ q first j = j
  within One here (object ms) p q (later i) j = later (within_below here ms p q i j)
  within One here null _ q first j = j
  within One here null p q (later i) j = none_in p i
  within One here (boolean b) _ q first j = j
  within One here (boolean b) p q (later i) j = none_in p i
  within One here (int z) _ q first j = j
  within One here (int z) p q (later i) j = none_in p i
  within One here (text s) _ q first j = j
  within One here (text s) p q (later i) j = none_in p i
  within One here (list ds) _ q first j = j
  within One here (list ds) p q (later i) j = none_in p i
  within Several here (list ds) p q i j = within_each here 0 ds p q i j
  within Named here (object ms) p q i j = within_named here ms p q i j
  within _ here _ p q i j = none_in p i

  within_each : (here : List Place) (n : ℕ) (ds : Elements) (p q : Position) → In p (positions_each here n ds) → In q (positions_in One p.location p.schema) → In q (positions_each here n ds)
  within_each here n no_elements p q i j = none_in p i
  within_each here n (element d ds) p q i j = ⊎_elim (λ h. In-left q _ _ (within One (here ++ index n ∷ []) d p q h j)) (λ h. In-right q (positions_in One (here ++ index n ∷ []) d) _ (within_each here (suc n) ds p q h j)) (In-parts p (positions_in One (here ++ index n ∷ []) d) _ i)

  within_named : (here : List Place) (ms : Members) (p q : Position) → In p (positions_named here ms) → In q (positions_in One p.location p.schema) → In q (positions_named here ms)
  within_named here no_members p q i j = none_in p i
  within_named here (member k d ms) p q i j = ⊎_elim (λ h. In-left q _ _ (within One (here ++ name k ∷ []) d p q h j)) (λ h. In-right q (positions_in One (here ++ name k ∷ []) d) _ (within_named here ms p q h j)) (In-parts p (positions_in One (here ++ name k ∷ []) d) _ i)

  within_below : (here : List Place) (ms : Members) (p q : Position) → In p (positions_below here ms) → In q (positions_in One p.location p.schema) → In q (positions_below here ms)
  within_below here no_members p q i j = none_in p i
  within_below here (member k d ms) p q i j = ⊎_elim (λ h. In-left q _ _ (within (shape_of (keyword_of k)) (here ++ name k ∷ []) d p q h j)) (λ h. In-right q (positions_in (shape_of (keyword_of k)) (here ++ name k ∷ []) d) _ (within_below here ms p q h j)) (In-parts p (positions_in (shape_of (keyword_of k)) (here ++ name k ∷ []) d) _ i)

-- ---- references

-- what is in the value found under a name is below the object
pub found_below : (here : List Place) (k : List ℕ) (ms : Members) (v : Doc) (q : Position) → get_member k ms ≡ Some v → In q (positions_in (shape_of (keyword_of k)) (here ++ name k ∷ []) v) → In q (positions_below here ms)
found_below here k no_members v q e i = absurd cc
found_below here k (member l m ms) v q e i = by_order l m ms (slice_cmp nat_cmp k l) refl e (λ f. found_below here k ms v q f i)
  where
    by_order : (l : List ℕ) (m : Doc) (ms : Members) (o : Ordering) → slice_cmp nat_cmp k l ≡ o → match_ordering o (get_member k ms) (Some m) (get_member k ms) ≡ Some v → (get_member k ms ≡ Some v → In q (positions_below here ms)) → In q (positions_in (shape_of (keyword_of l)) (here ++ name l ∷ []) m ++ positions_below here ms)
    by_order l m ms Less c f h = In-right q (positions_in (shape_of (keyword_of l)) (here ++ name l ∷ []) m) _ (h f)
    by_order l m ms Greater c f h = In-right q (positions_in (shape_of (keyword_of l)) (here ++ name l ∷ []) m) _ (h f)
    by_order l m ms Equal c f h =
        let named : k ≡ l = exact_bytes k l c in
        let is : v ≡ m = cc in
        In-left q _ _ (subst (λ x. In q (positions_in (shape_of (keyword_of l)) (here ++ name l ∷ []) x)) is (subst (λ x. In q (positions_in (shape_of (keyword_of x)) (here ++ name x ∷ []) v)) named i))

-- the value found under a name is a position, where all values are
found_named : (here : List Place) (k : List ℕ) (ms : Members) (v : Doc) → get_member k ms ≡ Some v → In (position (here ++ name k ∷ []) v) (positions_named here ms)
found_named here k no_members v e = absurd cc
found_named here k (member l m ms) v e = by_order l m ms (slice_cmp nat_cmp k l) refl e (λ f. found_named here k ms v f)
  where
    by_order : (l : List ℕ) (m : Doc) (ms : Members) (o : Ordering) → slice_cmp nat_cmp k l ≡ o → match_ordering o (get_member k ms) (Some m) (get_member k ms) ≡ Some v → (get_member k ms ≡ Some v → In (position (here ++ name k ∷ []) v) (positions_named here ms)) → In (position (here ++ name k ∷ []) v) (positions_in One (here ++ name l ∷ []) m ++ positions_named here ms)
    by_order l m ms Less c f h = In-right _ (positions_in One (here ++ name l ∷ []) m) _ (h f)
    by_order l m ms Greater c f h = In-right _ (positions_in One (here ++ name l ∷ []) m) _ (h f)
    by_order l m ms Equal c f h =
        let named : k ≡ l = exact_bytes k l c in
        let is : v ≡ m = cc in
        In-left _ _ _ (subst (λ x. In (position (here ++ name k ∷ []) v) (positions_in One (here ++ name x ∷ []) m)) named (subst (λ x. In (position (here ++ name k ∷ []) v) (positions_in One (here ++ name k ∷ []) x)) is (itself (here ++ name k ∷ []) v)))

-- what is in an element that a token names is in the list
found_each : (here : List Place) (n : ℕ) (k : List ℕ) (ds : Elements) (v : Doc) (q : Position) → element_named n k ds ≡ Some v → In q (positions_in One (here ++ index (index_named n k ds) ∷ []) v) → In q (positions_each here n ds)
found_each here n k no_elements v q e i = absurd cc
found_each here n k (element d ds) v q e i = by_test (bytes_eq (decimal n) k) e i (λ f j. found_each here (suc n) k ds v q f j)
  where
    by_test : (b : Bool) → (if b then Some d else element_named (suc n) k ds) ≡ Some v → In q (positions_in One (here ++ index (if b then n else index_named (suc n) k ds) ∷ []) v) → (element_named (suc n) k ds ≡ Some v → In q (positions_in One (here ++ index (index_named (suc n) k ds) ∷ []) v) → In q (positions_each here (suc n) ds)) → In q (positions_in One (here ++ index n ∷ []) d ++ positions_each here (suc n) ds)
    by_test true f j rest = let is : v ≡ d = cc in In-left q _ _ (subst (λ x. In q (positions_in One (here ++ index n ∷ []) x)) is j)
    by_test false f j rest = In-right q (positions_in One (here ++ index n ∷ []) d) _ (rest f j)

-- what is in the value that a token leads to is in the value before it
held_placed : (h : Shape) (here : List Place) (k : List ℕ) (d v : Doc) (q : Position) → held_at h k d ≡ Some v → In q (positions_in (shape_at h k) (here ++ place_at h k d ∷ []) v) → In q (positions_in h here d)
held_placed One here k (object ms) v q e i = later (found_below here k ms v q e i)
held_placed Several here k (list ds) v q e i = found_each here 0 k ds v q e i
held_placed Named here k (object ms) v q e i = within_named here ms (position (here ++ name k ∷ []) v) q (found_named here k ms v e) i
held_placed One here k null v q e i = absurd cc
held_placed One here k (boolean b) v q e i = absurd cc
held_placed One here k (int z) v q e i = absurd cc
held_placed One here k (text s) v q e i = absurd cc
held_placed One here k (list ds) v q e i = absurd cc
held_placed Several here k null v q e i = absurd cc
held_placed Several here k (boolean b) v q e i = absurd cc
held_placed Several here k (int z) v q e i = absurd cc
held_placed Several here k (text s) v q e i = absurd cc
held_placed Several here k (object ms) v q e i = absurd cc
held_placed Named here k null v q e i = absurd cc
held_placed Named here k (boolean b) v q e i = absurd cc
held_placed Named here k (int z) v q e i = absurd cc
held_placed Named here k (text s) v q e i = absurd cc
held_placed Named here k (list ds) v q e i = absurd cc
held_placed Plain here k d v q e i = absurd cc

-- the schema at the end of the tokens is a position at the location that they lead to
walk_placed : (ks : List (List ℕ)) (h : Shape) (here : List Place) (d q : Doc) → walk h ks d ≡ Some q → In (position (here ++ places_along h ks d) q) (positions_in h here d)
walk_placed [] One here d q e =
    let is : d ≡ q = cc in
    subst (λ l. In (position l q) (positions_in One here d)) (sym (append-nil here)) (subst (λ x. In (position here x) (positions_in One here d)) is (itself here d))
walk_placed [] Several here d q e = absurd cc
walk_placed [] Named here d q e = absurd cc
walk_placed [] Plain here d q e = absurd cc
walk_placed (k ∷ ks) h here d q e = by_held (held_at h k d) refl (sym (walk_step h k ks d) ∙ e) (λ v f. walk_placed ks (shape_at h k) (here ++ place_at h k d ∷ []) v q f)
  where
    by_held : (o : Option Doc) → held_at h k d ≡ o → option_and_then (walk (shape_at h k) ks) o ≡ Some q → ((v : Doc) → walk (shape_at h k) ks v ≡ Some q → In (position ((here ++ place_at h k d ∷ []) ++ places_along (shape_at h k) ks v) q) (positions_in (shape_at h k) (here ++ place_at h k d ∷ []) v)) → In (position (here ++ place_at h k d ∷ after_place (places_along (shape_at h k) ks) (held_at h k d)) q) (positions_in h here d)
    by_held None is f below = absurd cc
    by_held (Some v) is f below =
        let p = place_at h k d in
        let rest = places_along (shape_at h k) ks v in
        let there = below v f in
        let moved = subst (λ l. In (position l q) (positions_in (shape_at h k) (here ++ p ∷ []) v)) (append_assoc here (p ∷ []) rest) there in
        subst (λ o. In (position (here ++ p ∷ after_place (places_along (shape_at h k) ks) o) q) (positions_in h here d)) (sym is) (held_placed h here k d v (position (here ++ p ∷ rest) q) is moved)

-- the first schema that has an anchor is that of the first position
anchor_placed : (s : List ℕ) (ps : List Position) (d : Doc) → with_anchor s (map schema_of ps) ≡ Some d → In (position (place_with_anchor s ps) d) ps
anchor_placed s [] d e = absurd cc
anchor_placed s (p ∷ ps) d e = by_test (is_this s (anchor_of p.schema)) e (λ f. anchor_placed s ps d f)
  where
    by_test : (b : Bool) → (if b then Some p.schema else with_anchor s (map schema_of ps)) ≡ Some d → (with_anchor s (map schema_of ps) ≡ Some d → In (position (place_with_anchor s ps) d) ps) → In (position (if b then p.location else place_with_anchor s ps) d) (p ∷ ps)
    by_test true f rest = let is : p.schema ≡ d = cc in subst (λ x. In (position p.location x) (p ∷ ps)) is first
    by_test false f rest = later (rest f)

pub target_placed : (root v d : Doc) → target root v ≡ Some d → In (position (target_location root v) d) (positions root)
target_placed root v d e = by_tokens (tokens_to root v) (spelled_by root v) e
  where
    by_tokens : (o : Option (List (List ℕ))) (anchor : Option (List ℕ)) → reached root o anchor ≡ Some d → In (position (location_by root o anchor) d) (positions root)
    by_tokens (Some ks) anchor f = walk_placed ks One [] root d f
    by_tokens None None f = absurd cc
    by_tokens None (Some s) f = anchor_placed s (positions root) d (ap (with_anchor s) (schemas_are root) ∙ f)

targets_placed : (root v : Doc) (q : Position) → In q (targets root v) → In q (positions root)
targets_placed root v q i = by_target (target root v) (target_placed root v) (of_map (position (target_location root v)) q (option_to_list (target root v)) i)
  where
    by_target : (o : Option Doc) → ((d : Doc) → o ≡ Some d → In (position (target_location root v) d) (positions root)) → (d : Doc) × In d (option_to_list o) × (position (target_location root v) d ≡ q) → In q (positions root)
    by_target None h r = none_in r.0 r.1
    by_target (Some s) h r = subst (λ x. In x (positions root)) r.2 (h r.0 (only s r.0 r.1))
      where
        only : (s d : Doc) → In d (s ∷ []) → Some s ≡ Some d
        only s _ first = refl
        only s d (later j) = none_in d j

-- ---- what a position leads to

elements_placed : (here : List Place) (n : ℕ) (ds : Elements) (q : Position) → In q (elements_at here n ds) → In q (positions_each here n ds)
elements_placed here n no_elements q i = none_in q i
elements_placed here n (element d ds) _ first = In-left _ _ _ (itself (here ++ index n ∷ []) d)
elements_placed here n (element d ds) q (later i) = In-right q (positions_in One (here ++ index n ∷ []) d) _ (elements_placed here (suc n) ds q i)

several_placed : (here : List Place) (v : Doc) (q : Position) → In q (elements_at here 0 (elements_in v)) → In q (positions_in Several here v)
several_placed here (list ds) q i = elements_placed here 0 ds q i
several_placed here _ q i = none_in q i

by_name_placed : (here : List Place) (ms : Members) (q : Position) → In q (members_at here ms) → In q (positions_named here ms)
by_name_placed here no_members q i = none_in q i
by_name_placed here (member k d ms) _ first = In-left _ _ _ (itself (here ++ name k ∷ []) d)
by_name_placed here (member k d ms) q (later i) = In-right q (positions_in One (here ++ name k ∷ []) d) _ (by_name_placed here ms q i)

named_placed : (here : List Place) (v : Doc) (q : Position) → In q (members_at here (members_in v)) → In q (positions_in Named here v)
named_placed here (object ms) q i = by_name_placed here ms q i
named_placed here _ q i = none_in q i

one_placed : (here : List Place) (v : Doc) (q : Position) → In q (position here v ∷ []) → In q (positions_in One here v)
one_placed here v _ first = itself here v
one_placed here v q (later i) = none_in q i

led_placed : (root : Doc) (here : List Place) (k : Keyword) (v : Doc) (q : Position) → In q (led_by root here k v) → In q (positions_in (shape_of k) here v) ⊎ In q (positions root)
led_placed root here AllOf v q i = inl (several_placed here v q i)
led_placed root here AnyOf v q i = inl (several_placed here v q i)
led_placed root here OneOf v q i = inl (several_placed here v q i)
led_placed root here Not v q i = inl (one_placed here v q i)
led_placed root here If v q i = inl (one_placed here v q i)
led_placed root here Then v q i = inl (one_placed here v q i)
led_placed root here Else v q i = inl (one_placed here v q i)
led_placed root here DependentSchemas v q i = inl (named_placed here v q i)
led_placed root here Ref v q i = inr (targets_placed root v q i)
led_placed root here _ v q i = none_in q i

members_placed : (root : Doc) (here : List Place) (ms : Members) (q : Position) → In q (led_by_members root here ms) → In q (positions_below here ms) ⊎ In q (positions root)
members_placed root here no_members q i = none_in q i
members_placed root here (member k v ms) q i = ⊎_elim
    (λ h. ⊎_elim (λ x. inl (In-left q _ _ x)) (λ x. inr x) (led_placed root (here ++ name k ∷ []) (keyword_of k) v q h))
    (λ h. ⊎_elim (λ x. inl (In-right q (positions_in (shape_of (keyword_of k)) (here ++ name k ∷ []) v) _ x)) (λ x. inr x) (members_placed root here ms q h))
    (In-parts q (led_by root (here ++ name k ∷ []) (keyword_of k) v) _ i)

schema_placed : (root : Doc) (here : List Place) (s : Doc) (q : Position) → In q (led_by_members root here (members_in s)) → In q (positions_in One here s) ⊎ In q (positions root)
schema_placed root here (object ms) q i = ⊎_elim (λ h. inl (later h)) (λ h. inr h) (members_placed root here ms q i)
schema_placed root here _ q i = none_in q i

pub closed : (root : Doc) (p q : Position) → In p (positions root) → In q (leads root p) → In q (positions root)
closed root p q h i = ⊎_elim (λ x. within One [] root p q h x) (λ x. x) (schema_placed root p.location p.schema q i)
