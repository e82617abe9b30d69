-- What a child is after a write in its parent.
use Rattle.std.proofs.Common.{◌≡◌, ◌≢◌, ℕ, zero, suc, ◌+◌, List, Option, Some, None, option_map, option_and_then, Ordering, Less, Equal, Greater, Bool, true, false, true≢false, if◌then◌else◌, nat_cmp, is_eq, decimal, refl, sym, ap, ◌∙◌, arith, add-zero}
use Rattle.std.proofs.lemmas.Cmp.{nat_list_cmp_total, tied_itself}
use Rattle.std.proofs.lemmas.Map.Text.{is_eq-slice_cmp}
use Rattle.std.proofs.lemmas.Slice.Eq.{bytes_eq-Decides}
use Rattle.std.specs.Cmp.Lexicographic.{slice_cmp}
use Rattle.std.specs.Ordering.{match_ordering}
use Rattle.std.specs.Str.{bytes_eq}
use Rattle.doc_tree.specs.Doc.{Doc, list, object, Elements, no_elements, element, Members, no_members, member, put, get_member, get_element}
use Rattle.doc_pointer.specs.Place.{child_named}
use Rattle.doc_edits.specs.Edit.{Token, elements_len, number_named, index_below, set_element, set_member, with_child, set_at}
use Rattle.doc_edits.proofs.Indices.{child_named-list}

pub tied : (k l : List ℕ) → slice_cmp nat_cmp k l ≡ Equal → k ≡ l
tied k l c = (bytes_eq-Decides k l).0 (sym (is_eq-slice_cmp k l) ∙ ap is_eq c)

pub equal : (k : List ℕ) → slice_cmp nat_cmp k k ≡ Equal
equal k = tied_itself nat_list_cmp_total k

pub distinct : (k l : List ℕ) → bytes_eq k l ≡ false → k ≢ l
distinct k l b e = absurd (true≢false (sym ((bytes_eq-Decides k l).1 e) ∙ b))

-- ---- the value that was written is there

get_set_at : (o : Ordering) (k l : List ℕ) (v c d : Doc) (ms : Members) (g : Option Doc) (ns : Members) → slice_cmp nat_cmp k l ≡ o → match_ordering o g (Some d) g ≡ Some c → (g ≡ Some c → get_member k ns ≡ Some v)
    → get_member k (match_ordering o (member l d ns) (member l v ms) (member l d ns)) ≡ Some v
get_set_at Less k l v c d ms g ns is h rest = rw is (rest h)
get_set_at Equal k l v c d ms g ns is h rest = rw is refl
get_set_at Greater k l v c d ms g ns is h rest = rw is (rest h)

pub get_set : (k : List ℕ) (v c : Doc) (ms : Members) → get_member k ms ≡ Some c → get_member k (set_member k v ms) ≡ Some v
get_set k v c no_members h = absurd (cc)
get_set k v c (member l d ms) h = get_set_at (slice_cmp nat_cmp k l) k l v c d ms (get_member k ms) (set_member k v ms) refl h (get_set k v c ms)

get_put_at : (o : Ordering) (k l : List ℕ) (v d : Doc) (ms ns : Members) → slice_cmp nat_cmp k l ≡ o → get_member k ns ≡ Some v
    → get_member k (match_ordering o (member k v (member l d ms)) (member l v ms) (member l d ns)) ≡ Some v
get_put_at Less k l v d ms ns is rest = rw (equal k) refl
get_put_at Equal k l v d ms ns is rest = rw is refl
get_put_at Greater k l v d ms ns is rest = rw is rest

pub get_put : (k : List ℕ) (v : Doc) (ms : Members) → get_member k (put k v ms) ≡ Some v
get_put k v no_members = rw (equal k) refl
get_put k v (member l d ms) = get_put_at (slice_cmp nat_cmp k l) k l v d ms (put k v ms) refl (get_put k v ms)

pub set_element_len : (i : ℕ) (v : Doc) (ds : Elements) → elements_len (set_element i v ds) ≡ elements_len ds
set_element_len i v no_elements = refl
set_element_len zero v (element d ds) = refl
set_element_len (suc i) v (element d ds) = ap (λ n. suc n) (set_element_len i v ds)

pub set_element_there : (i : ℕ) (v c : Doc) (ds : Elements) → get_element i ds ≡ Some c → get_element i (set_element i v ds) ≡ Some v
set_element_there i v c no_elements h = absurd (cc)
set_element_there zero v c (element d ds) h = refl
set_element_there (suc i) v c (element d ds) h = set_element_there i v c ds h

set_at_there : (o : Option ℕ) (t : Token) (v c : Doc) (ds : Elements) → index_below (elements_len ds) t ≡ o → option_and_then (λ i. get_element i ds) o ≡ Some c → child_named t (list (set_at o v ds)) ≡ Some v
set_at_there None t v c ds at h = absurd (cc)
set_at_there (Some i) t v c ds at h =
    child_named-list t (set_element i v ds) ∙ ap (λ n. option_and_then (λ j. get_element j (set_element i v ds)) (index_below n t)) (set_element_len i v ds)
    ∙ ap (option_and_then (λ j. get_element j (set_element i v ds))) at ∙ set_element_there i v c ds h

pub child_set : (t : Token) (v c d : Doc) → child_named t d ≡ Some c → child_named t (with_child t v d) ≡ Some v
child_set t v c (object ms) h = get_set t v c ms h
child_set t v c (list ds) h = set_at_there (index_below (elements_len ds) t) t v c ds refl (sym (child_named-list t ds) ∙ h)
child_set t v c _ h = absurd (cc)

-- ---- its siblings are as they were

get_other_at : (o p : Ordering) (t k l : List ℕ) (v d : Doc) (ms ns : Members) → slice_cmp nat_cmp t l ≡ o → slice_cmp nat_cmp k l ≡ p → t ≢ k → get_member k ns ≡ get_member k ms
    → get_member k (match_ordering o (member l d ns) (member l v ms) (member l d ns)) ≡ match_ordering p (get_member k ms) (Some d) (get_member k ms)
get_other_at Less Less t k l v d ms ns is at other rest = rw at rest
get_other_at Less Equal t k l v d ms ns is at other rest = rw at refl
get_other_at Less Greater t k l v d ms ns is at other rest = rw at rest
get_other_at Equal Less t k l v d ms ns is at other rest = rw at refl
get_other_at Equal Equal t k l v d ms ns is at other rest = absurd (other (tied t l is ∙ sym (tied k l at)))
get_other_at Equal Greater t k l v d ms ns is at other rest = rw at refl
get_other_at Greater Less t k l v d ms ns is at other rest = rw at rest
get_other_at Greater Equal t k l v d ms ns is at other rest = rw at refl
get_other_at Greater Greater t k l v d ms ns is at other rest = rw at rest

pub get_other : (t k : List ℕ) (v : Doc) (ms : Members) → t ≢ k → get_member k (set_member t v ms) ≡ get_member k ms
get_other t k v no_members other = refl
get_other t k v (member l d ms) other = get_other_at (slice_cmp nat_cmp t l) (slice_cmp nat_cmp k l) t k l v d ms (set_member t v ms) refl refl other (get_other t k v ms other)

named_by : (b : Bool) (n i : ℕ) (t : Token) (o : Option ℕ) → bytes_eq (decimal n) t ≡ b → (if b then Some 0 else option_map (λ j. suc j) o) ≡ Some i → ((j : ℕ) → o ≡ Some j → decimal (suc n + j) ≡ t) → decimal (n + i) ≡ t
named_by true n i t o is h rest = let same : 0 ≡ i = cc in ap (λ j. decimal (n + j)) (sym same) ∙ ap decimal (add-zero n) ∙ (bytes_eq-Decides (decimal n) t).0 is
named_by false n i t None is h rest = absurd (cc)
named_by false n i t (Some j) is h rest = let same : suc j ≡ i = cc in ap decimal (omega (arith, same)) ∙ rest j refl

number_named-text : (n count : ℕ) (t : Token) (i : ℕ) → number_named n count t ≡ Some i → decimal (n + i) ≡ t
number_named-text n zero t i h = absurd (cc)
number_named-text n (suc count) t i h = named_by (bytes_eq (decimal n) t) n i t (number_named (suc n) count t) refl h (number_named-text (suc n) count t)

-- a token that names an index is its decimal text
index_below-text : (bound : ℕ) (t : Token) (i : ℕ) → index_below bound t ≡ Some i → decimal i ≡ t
index_below-text bound t i h = ap decimal (omega arith) ∙ number_named-text 0 bound t i h

pub get_beside : (i j : ℕ) (v : Doc) (ds : Elements) → i ≢ j → get_element j (set_element i v ds) ≡ get_element j ds
get_beside i j v no_elements other = refl
get_beside zero zero v (element d ds) other = absurd (other refl)
get_beside zero (suc j) v (element d ds) other = refl
get_beside (suc i) zero v (element d ds) other = refl
get_beside (suc i) (suc j) v (element d ds) other = get_beside i j v ds (λ e. other (ap (λ n. suc n) e))

set_at_beside : (o p : Option ℕ) (t k : Token) (v : Doc) (ds : Elements) → index_below (elements_len ds) t ≡ o → index_below (elements_len ds) k ≡ p → t ≢ k
    → child_named k (list (set_at o v ds)) ≡ child_named k (list ds)
set_at_beside None p t k v ds at also other = refl
set_at_beside (Some i) None t k v ds at also other =
    child_named-list k (set_element i v ds) ∙ ap (λ n. option_and_then (λ j. get_element j (set_element i v ds)) (index_below n k)) (set_element_len i v ds)
    ∙ ap (option_and_then (λ j. get_element j (set_element i v ds))) also ∙ sym (child_named-list k ds ∙ ap (option_and_then (λ j. get_element j ds)) also)
set_at_beside (Some i) (Some j) t k v ds at also other =
    let apart : i ≢ j = λ e. other (sym (index_below-text (elements_len ds) t i at) ∙ ap decimal e ∙ index_below-text (elements_len ds) k j also) in
    child_named-list k (set_element i v ds) ∙ ap (λ n. option_and_then (λ m. get_element m (set_element i v ds)) (index_below n k)) (set_element_len i v ds)
    ∙ ap (option_and_then (λ m. get_element m (set_element i v ds))) also ∙ get_beside i j v ds apart ∙ sym (child_named-list k ds ∙ ap (option_and_then (λ m. get_element m ds)) also)

pub child_beside : (t k : Token) (v d : Doc) → t ≢ k → child_named k (with_child t v d) ≡ child_named k d
child_beside t k v (object ms) other = get_other t k v ms other
child_beside t k v (list ds) other = set_at_beside (index_below (elements_len ds) t) (index_below (elements_len ds) k) t k v ds refl refl other
child_beside t k v _ other = refl

-- ---- written twice

set_set_at : (o : Ordering) (k l : List ℕ) (v w d : Doc) (ms ns : Members) → slice_cmp nat_cmp k l ≡ o → set_member k v ns ≡ set_member k v ms
    → set_member k v (match_ordering o (member l d ns) (member l w ms) (member l d ns)) ≡ match_ordering o (member l d (set_member k v ms)) (member l v ms) (member l d (set_member k v ms))
set_set_at Less k l v w d ms ns is rest = rw is (ap (member l d) rest)
set_set_at Equal k l v w d ms ns is rest = rw is refl
set_set_at Greater k l v w d ms ns is rest = rw is (ap (member l d) rest)

set_set : (k : List ℕ) (v w : Doc) (ms : Members) → set_member k v (set_member k w ms) ≡ set_member k v ms
set_set k v w no_members = refl
set_set k v w (member l d ms) = set_set_at (slice_cmp nat_cmp k l) k l v w d ms (set_member k w ms) refl (set_set k v w ms)

set_element_twice : (i : ℕ) (v w : Doc) (ds : Elements) → set_element i v (set_element i w ds) ≡ set_element i v ds
set_element_twice i v w no_elements = refl
set_element_twice zero v w (element d ds) = refl
set_element_twice (suc i) v w (element d ds) = ap (element d) (set_element_twice i v w ds)

set_at_twice : (o : Option ℕ) (t : Token) (v w : Doc) (ds : Elements) → index_below (elements_len ds) t ≡ o → set_at (index_below (elements_len (set_at o w ds)) t) v (set_at o w ds) ≡ set_at o v ds
set_at_twice None t v w ds at = ap (λ p. set_at p v ds) at
set_at_twice (Some i) t v w ds at =
    ap (λ p. set_at p v (set_element i w ds)) (ap (λ n. index_below n t) (set_element_len i w ds) ∙ at) ∙ set_element_twice i v w ds

pub child_twice : (t : Token) (v w d : Doc) → with_child t v (with_child t w d) ≡ with_child t v d
child_twice t v w (object ms) = ap object (set_set t v w ms)
child_twice t v w (list ds) = ap list (set_at_twice (index_below (elements_len ds) t) t v w ds refl)
child_twice t v w _ = refl
