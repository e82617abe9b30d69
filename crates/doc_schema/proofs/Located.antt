-- A position's schema is what stands at its location.
use Rattle.std.proofs.Common.{◌≡◌, ℕ, suc, ◌+◌, ⊎_elim, List, [], ◌∷◌, ◌++◌, Option, Some, None, Ordering, Less, Equal, Greater, nat_cmp, refl, sym, ap, subst, ◌∙◌, arith}
use Rattle.std.proofs.lemmas.Cmp.{nat_list_cmp_total}
use Rattle.std.specs.Cmp.Lexicographic.{slice_cmp}
use Rattle.std.specs.Option.{option_and_then}
use Rattle.std.specs.Ordering.{match_ordering, ordering_reverse}
use Rattle.doc_tree.specs.Doc.{Doc, null, boolean, int, text, list, object, Elements, no_elements, element, Members, no_members, member, get_member, get_element, Place, name, index, child, at}
use Rattle.doc_tree.specs.Sound.{IsSound, AreSound, MembersAreSound, IsBefore}
use Rattle.schema_graph.specs.Walks.{In, first, later}
use Rattle.schema_graph.proofs.Among.{In-parts, none_in}
use Rattle.schema_rules.specs.Keywords.{keyword_of, shape_of}
use Rattle.schema_rules.specs.declared.keyword.Shape.{Shape}
use Rattle.schema_rules.specs.declared.keyword.Shape.TheVariants.{One, Several, Named}
use Rattle.doc_schema.specs.Positions.{Position, positions, positions_in, positions_each, positions_named, positions_below}

-- ---- one step further

just : (o : Option Doc) → option_and_then (λ x. Some x) o ≡ o
just None = refl
just (Some d) = refl

further : (o : Option Doc) (f g : Doc → Option Doc) (v w : Doc) → ((d : Doc) → f d ≡ Some v → g d ≡ Some w) → option_and_then f o ≡ Some v → option_and_then g o ≡ Some w
further None f g v w h e = absurd cc
further (Some d) f g v w h e = h d e

pub at_step : (here : List Place) (p : Place) (root v w : Doc) → at here root ≡ Some v → child p v ≡ Some w → at (here ++ p ∷ []) root ≡ Some w
at_step [] p root v w e f = let is : root ≡ v = cc in just (child p root) ∙ ap (child p) is ∙ f
at_step (q ∷ here) p root v w e f = further (child q root) (at here) (at (here ++ p ∷ [])) v w (λ d h. at_step here p d v w h f) e

-- ---- each member of a sound object is found by its name

pub same_name : (k : List ℕ) → slice_cmp nat_cmp k k ≡ Equal
same_name k = by_reverse (slice_cmp nat_cmp k k) (nat_list_cmp_total.antisymm k k)
  where
    by_reverse : (o : Ordering) → o ≡ ordering_reverse o → o ≡ Equal
    by_reverse Less e = absurd cc
    by_reverse Equal e = refl
    by_reverse Greater e = absurd cc

found_first : (k : List ℕ) (d : Doc) (ms : Members) → get_member k (member k d ms) ≡ Some d
found_first k d ms = ap (λ o. match_ordering o (get_member k ms) (Some d) (get_member k ms)) (same_name k)

-- a name that stands before all isn't found among them
not_among : (k l : List ℕ) (d : Doc) (ms : Members) → IsBefore k ms → slice_cmp nat_cmp l k ≡ Equal → get_member l ms ≡ Some d → ⊥
not_among k l d no_members h c e = absurd cc
not_among k l d (member m x ms) h c e =
    let less : slice_cmp nat_cmp l m ≡ Less = nat_list_cmp_total.congr l k m c ∙ h.0 in
    not_among k l d ms h.1 c (sym (ap (λ o. match_ordering o (get_member l ms) (Some x) (get_member l ms)) less) ∙ e)

found_later : (k l : List ℕ) (d x : Doc) (ms : Members) → IsBefore k ms → get_member l ms ≡ Some d → get_member l (member k x ms) ≡ Some d
found_later k l d x ms h e = by_order (slice_cmp nat_cmp l k) refl
  where
    by_order : (o : Ordering) → slice_cmp nat_cmp l k ≡ o → match_ordering o (get_member l ms) (Some x) (get_member l ms) ≡ Some d
    by_order Less c = e
    by_order Greater c = e
    by_order Equal c = absurd (not_among k l d ms h c e)

-- ---- positions

-- the members are among those of a whole object, found under their names
abbrev pub AreFound : Members → Members → Type 0
AreFound whole ms = (k : List ℕ) (d : Doc) → get_member k ms ≡ Some d → get_member k whole ≡ Some d

-- the elements from the index n on are those of a whole array
abbrev pub AreFrom : Elements → ℕ → Elements → Type 0
AreFrom whole n ds = (i : ℕ) (d : Doc) → get_element i ds ≡ Some d → get_element (n + i) whole ≡ Some d

mutual
  found_in : (root : Doc) (h : Shape) (here : List Place) (v : Doc) (p : Position) → at here root ≡ Some v → IsSound v → In p (positions_in h here v) → at p.location root ≡ Some p.schema
  found_in root One here (object ms) _ e s first = e
  found_in root One here (object ms) p e s (later i) = found_below root here ms ms p e s (λ k d f. f) i
  found_in root One here null _ e s first = e
  found_in root One here null p e s (later i) = none_in p i
  found_in root One here (boolean b) _ e s first = e
  found_in root One here (boolean b) p e s (later i) = none_in p i
  found_in root One here (int z) _ e s first = e
  found_in root One here (int z) p e s (later i) = none_in p i
  found_in root One here (text t) _ e s first = e
  found_in root One here (text t) p e s (later i) = none_in p i
  found_in root One here (list ds) _ e s first = e
  found_in root One here (list ds) p e s (later i) = none_in p i
  found_in root Several here (list ds) p e s i = found_each root here ds 0 ds p e s (λ j d f. let n : 0 + j ≡ j = omega arith in rw n f) i
  found_in root Named here (object ms) p e s i = found_named root here ms ms p e s (λ k d f. f) i
  found_in root _ here _ p e s i = none_in p i

  found_each : (root : Doc) (here : List Place) (whole : Elements) (n : ℕ) (ds : Elements) (p : Position) → at here root ≡ Some (list whole) → AreSound ds → AreFrom whole n ds → In p (positions_each here n ds) → at p.location root ≡ Some p.schema
  found_each root here whole n no_elements p e s f i = none_in p i
  found_each root here whole n (element d ds) p e s f i = ⊎_elim
      (λ j. let z : n + 0 ≡ n = omega arith in
      found_in root One (here ++ index n ∷ []) d p (at_step here (index n) root (list whole) d e (subst (λ m. get_element m whole ≡ Some d) z (f 0 d refl))) s.0 j)
      (λ j. found_each root here whole (suc n) ds p e s.1 (λ i x g. let z : n + suc i ≡ suc n + i = omega arith in subst (λ m. get_element m whole ≡ Some x) z (f (suc i) x g)) j)
      (In-parts p (positions_in One (here ++ index n ∷ []) d) _ i)

  found_named : (root : Doc) (here : List Place) (whole ms : Members) (p : Position) → at here root ≡ Some (object whole) → MembersAreSound ms → AreFound whole ms → In p (positions_named here ms) → at p.location root ≡ Some p.schema
  found_named root here whole no_members p e s f i = none_in p i
  found_named root here whole (member k d ms) p e s f i = ⊎_elim
      (λ j. found_in root One (here ++ name k ∷ []) d p (at_step here (name k) root (object whole) d e (f k d (found_first k d ms))) s.1 j)
      (λ j. found_named root here whole ms p e s.3 (λ l x g. f l x (found_later k l x d ms s.2 g)) j)
      (In-parts p (positions_in One (here ++ name k ∷ []) d) _ i)

  found_below : (root : Doc) (here : List Place) (whole ms : Members) (p : Position) → at here root ≡ Some (object whole) → MembersAreSound ms → AreFound whole ms → In p (positions_below here ms) → at p.location root ≡ Some p.schema
  found_below root here whole no_members p e s f i = none_in p i
  found_below root here whole (member k d ms) p e s f i = ⊎_elim
      (λ j. found_in root (shape_of (keyword_of k)) (here ++ name k ∷ []) d p (at_step here (name k) root (object whole) d e (f k d (found_first k d ms))) s.1 j)
      (λ j. found_below root here whole ms p e s.3 (λ l x g. f l x (found_later k l x d ms s.2 g)) j)
      (In-parts p (positions_in (shape_of (keyword_of k)) (here ++ name k ∷ []) d) _ i)

pub found_at : (root : Doc) (p : Position) → IsSound root → In p (positions root) → at p.location root ≡ Some p.schema
found_at root p s i = found_in root One [] root p refl s i
