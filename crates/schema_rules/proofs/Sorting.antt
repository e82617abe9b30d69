-- Documents in order are distinct exactly where each comes before the next; and in whatever order, they are alike distinct.
use Rattle.std.proofs.Common.{◌≡◌, ◌<◌, ◌≤◌, ◌+◌, ℕ, zero, suc, List, [], ◌∷◌, map, length, take, slice_index_or, Bool, true, false, not, ◌&&◌, ◌||◌, Ordering, Less, Equal, Greater, refl, sym, ap, ◌∙◌, subst, arith}
use Rattle.std.proofs.lemmas.Bool.{and_parts}
use Rattle.std.proofs.lemmas.List.FromFn.{fill_by_all}
use Rattle.std.proofs.lemmas.List.Sorted.{sum_by-IsPermutation, IsPermutation-map}
use Rattle.std.proofs.lemmas.List.Sums.{sum_by-cons}
use Rattle.std.specs.List.{list_any, sum_by, range_with_len}
use Rattle.std.specs.List.Sorted.{IsPermutation, IsSortedBy}
use Rattle.std.specs.Ordering.{is_lt, ordering_reverse}
use Rattle.doc_tree.specs.Doc.{Doc}
use Rattle.doc_tree.specs.Lists.{elements_list}
use Rattle.doc_tree.specs.Same.{same}
use Rattle.doc_tree.specs.TreeView.{view, elements_view}
use Rattle.doc_tree.specs.declared.tree.Tree.{Tree}
use Rattle.doc_tree.proofs.Sameness.{same-Decides}
use Rattle.schema_rules.specs.Assertions.{are_distinct}
use Rattle.schema_rules.specs.Order.{doc_cmp, rise, at_place}
use Rattle.schema_rules.proofs.Ordered.{doc_total, doc_exact, doc_tied}

same_truth : (b c : Bool) → (b ≡ true → c ≡ true) → (c ≡ true → b ≡ true) → b ≡ c
same_truth true c h k = sym (h refl)
same_truth false true h k = k refl
same_truth false false h k = refl

not_true : (b : Bool) → not b ≡ true → b ≡ false
not_true true h = absurd (cc)
not_true false h = refl

neither : (b c : Bool) → b || c ≡ false → (b ≡ false) × (c ≡ false)
neither true c h = absurd (cc)
neither false c h = (refl, h)

same_itself : (d : Doc) → same d d ≡ true
same_itself d = (same-Decides d d).1 refl

-- ---- in whatever order: at most one of each

abbrev one_if : Bool → ℕ
one_if true = 1
one_if false = 0

abbrev count : Doc → List Doc → ℕ
count d [] = 0
count d (e ∷ ds) = one_if (same d e) + count d ds

count_is : (d : Doc) (ds : List Doc) → sum_by (λ e. one_if (same d e)) ds ≡ count d ds
count_is d [] = refl
count_is d (e ∷ ds) = sum_by-cons (λ e. one_if (same d e)) e ds ∙ ap (λ (n : ℕ). one_if (same d e) + n) (count_is d ds)

none_counted : (d : Doc) (ds : List Doc) → list_any (same d) ds ≡ false → count d ds ≡ 0
none_counted d [] h = refl
none_counted d (e ∷ ds) h = let p = neither (same d e) (list_any (same d) ds) h in rw (p.0, none_counted d ds p.1) refl

none_found_at : (d e : Doc) (ds : List Doc) (b : Bool) → same d e ≡ b → one_if b + count d ds ≡ 0 → (count d ds ≡ 0 → list_any (same d) ds ≡ false) → list_any (same d) (e ∷ ds) ≡ false
none_found_at d e ds true is h rest = absurd (omega arith)
none_found_at d e ds false is h rest = rw is (rest (omega arith))

none_found : (d : Doc) (ds : List Doc) → count d ds ≡ 0 → list_any (same d) ds ≡ false
none_found d [] h = refl
none_found d (e ∷ ds) h = none_found_at d e ds (same d e) refl h (none_found d ds)

few_at : (d e : Doc) (ds : List Doc) (b : Bool) → same d e ≡ b → count e ds ≡ 0 → count d ds ≤ 1 → one_if b + count d ds ≤ 1
few_at d e ds true is zero_left one_left = let none : count d ds ≡ 0 = subst (λ (x : Doc). count x ds ≡ 0) (sym ((same-Decides d e).0 is)) zero_left in omega arith
few_at d e ds false is zero_left one_left = omega arith

few : (ds : List Doc) → are_distinct ds ≡ true → (d : Doc) → count d ds ≤ 1
few [] h d = omega arith
few (e ∷ ds) h d =
    let p = and_parts (not (list_any (same e) ds)) (are_distinct ds) h in
    few_at d e ds (same d e) refl (none_counted e ds (not_true _ p.0)) (few ds p.1 d)

distinct_of_few : (ds : List Doc) → ((d : Doc) → count d ds ≤ 1) → are_distinct ds ≡ true
distinct_of_few [] h = refl
distinct_of_few (e ∷ ds) h =
    let first : one_if true + count e ds ≤ 1 = subst (λ b. one_if b + count e ds ≤ 1) (same_itself e) (h e) in
    let none : count e ds ≡ 0 = omega arith in
    let rest : (d : Doc) → count d ds ≤ 1 = λ d. (let all : one_if (same d e) + count d ds ≤ 1 = h d in omega arith) in
    rw (none_found e ds none, distinct_of_few ds rest) refl

distinct_alike : (ds es : List Doc) → IsPermutation ds es → are_distinct ds ≡ are_distinct es
distinct_alike ds es h =
    let counts : (d : Doc) → count d es ≡ count d ds = λ d. sym (count_is d es) ∙ (sum_by-IsPermutation (λ e. one_if (same d e)) ds es h ∙ count_is d ds) in
    same_truth _ _
    (λ e. distinct_of_few es (λ d. subst (λ (n : ℕ). n ≤ 1) (sym (counts d)) (few ds e d)))
    (λ e. distinct_of_few ds (λ d. subst (λ (n : ℕ). n ≤ 1) (counts d) (few es e d)))

-- ---- in order

less : (o : Ordering) → is_lt o ≡ true → o ≡ Less
less Less h = refl
less Equal h = absurd (cc)
less Greater h = absurd (cc)

skip_at : (d e : Doc) (es : List Doc) → doc_cmp d e ≡ Less → rise (e ∷ es) ≡ true → rise (d ∷ es) ≡ true
skip_at d e [] is h = refl
skip_at d e (x ∷ es) is h =
    let p = and_parts (is_lt (doc_cmp e x)) (rise (x ∷ es)) h in
    rw (doc_total.trans d e x is (less _ p.0), p.1) refl

apart_at : (d e : Doc) (b : Bool) → same d e ≡ b → doc_cmp d e ≡ Less → b ≡ false
apart_at d e true is h =
    let equal : d ≡ e = (same-Decides d e).0 is in
    let tied : doc_cmp d e ≡ Equal = subst (λ (x : Doc). doc_cmp d x ≡ Equal) equal (doc_tied d) in
    absurd (cc)
apart_at d e false is h = refl

above : (d : Doc) (es : List Doc) → rise (d ∷ es) ≡ true → list_any (same d) es ≡ false
above d [] h = refl
above d (e ∷ es) h =
    let p = and_parts (is_lt (doc_cmp d e)) (rise (e ∷ es)) h in
    let is = less _ p.0 in
    rw (apart_at d e (same d e) refl is) (above d es (skip_at d e es is p.1))

kept : (x r : Bool) → (r ≡ true → x ≡ false) → not x && r ≡ r
kept x true h = rw (h refl) refl
kept true false h = refl
kept false false h = refl

rise_at : (d e : Doc) (es : List Doc) (o : Ordering) → doc_cmp d e ≡ o → is_lt (doc_cmp e d) ≡ false → are_distinct (e ∷ es) ≡ rise (e ∷ es)
    → not (list_any (same d) (e ∷ es)) && are_distinct (e ∷ es) ≡ is_lt o && rise (e ∷ es)
rise_at d e es Less is up rest =
    ap (λ b. not (list_any (same d) (e ∷ es)) && b) rest ∙ kept (list_any (same d) (e ∷ es)) (rise (e ∷ es)) (λ h. above d (e ∷ es) (rw is h))
rise_at d e es Equal is up rest = rw ((same-Decides d e).1 (doc_exact d e is)) refl
rise_at d e es Greater is up rest =
    let back : doc_cmp e d ≡ Less = doc_total.antisymm e d ∙ ap ordering_reverse is in
    let yes : is_lt (doc_cmp e d) ≡ true = ap is_lt back in
    absurd (cc)

sorted_tail : (lt : ℕ → ℕ → Bool) (i : ℕ) (is : List ℕ) → IsSortedBy lt (i ∷ is) → IsSortedBy lt is
sorted_tail lt i is h = λ k d low high.
    let after : suc k + 1 ≡ suc (k + 1) = omega arith in
    subst (λ (n : ℕ). lt (slice_index_or (i ∷ is) n d) (slice_index_or is k d) ≡ false) after (h (suc k) d (omega arith) (omega arith))

rise_is : (f : ℕ → Doc) (is : List ℕ) → IsSortedBy (λ i j. is_lt (doc_cmp (f i) (f j))) is → are_distinct (map f is) ≡ rise (map f is)
rise_is f [] h = refl
rise_is f (i ∷ []) h = refl
rise_is f (i ∷ j ∷ is) h = rise_at (f i) (f j) (map f is) (doc_cmp (f i) (f j)) refl (h 0 i (omega arith) (omega arith)) (rise_is f (j ∷ is) (sorted_tail (λ a b. is_lt (doc_cmp (f a) (f b))) i (j ∷ is) h))

-- ---- places in order

map_itself : (is : List ℕ) → map (λ (i : ℕ). i) is ≡ is
map_itself [] = refl
map_itself (i ∷ is) = ap (λ (js : List ℕ). i ∷ js) (map_itself is)

all_places : (ds : List Doc) (other : Doc) (is : List ℕ) → length is ≡ length ds → ((k : ℕ) → k < length ds → slice_index_or is k 0 ≡ k) → map (at_place ds other) is ≡ ds
all_places ds other is len each =
    let n = length ds in
    let numbers : is ≡ range_with_len 0 n = fill_by_all (λ (i : ℕ). i) is n 0 len each ∙ map_itself (range_with_len 0 n) in
    ap (map (at_place ds other)) numbers ∙ sym (fill_by_all (at_place ds other) ds n other refl (λ k h. refl))

-- places that are numbered from 0, and then sorted, tell whether the documents there are distinct
pub sorted_places : (ds : List Doc) (other : Doc) (from to : List ℕ) → length from ≡ length ds → ((k : ℕ) → k < length ds → slice_index_or from k 0 ≡ k)
    → IsPermutation from to → IsSortedBy (λ i j. is_lt (doc_cmp (at_place ds other i) (at_place ds other j))) to → rise (map (at_place ds other) to) ≡ are_distinct ds
sorted_places ds other from to len each moved sorted =
    let f = at_place ds other in
    sym (rise_is f to sorted) ∙ (sym (distinct_alike (map f from) (map f to) (IsPermutation-map f from to moved)) ∙ ap are_distinct (all_places ds other from len each))

-- ---- trees

pub item_at : (ts : List Tree) (other : Doc) (i : ℕ) (t : Tree) → i < length ts → t ≡ slice_index_or ts i t → view t ≡ at_place (elements_list (elements_view ts)) other i
item_at [] other i t h is = absurd (omega arith)
item_at (u ∷ ts) other zero t h is = ap view is
item_at (u ∷ ts) other (suc i) t h is = item_at ts other i t (omega arith) is

pub none_at : (ts : List Tree) (other : Doc) (i : ℕ) → length ts ≤ i → other ≡ at_place (elements_list (elements_view ts)) other i
none_at [] other i h = refl
none_at (u ∷ ts) other zero h = absurd (omega arith)
none_at (u ∷ ts) other (suc i) h = none_at ts other i (omega arith)

any_front : (n : ℕ) (d : Doc) (ts : List Tree) → list_any (same d) (elements_list (elements_view ts)) ≡ false → list_any (same d) (elements_list (elements_view (take n ts))) ≡ false
any_front zero d ts h = refl
any_front (suc n) d [] h = refl
any_front (suc n) d (t ∷ ts) h = let p = neither (same d (view t)) (list_any (same d) (elements_list (elements_view ts))) h in rw (p.0) (any_front n d ts p.1)

front_distinct : (n : ℕ) (ts : List Tree) → are_distinct (elements_list (elements_view ts)) ≡ true → are_distinct (elements_list (elements_view (take n ts))) ≡ true
front_distinct zero ts h = refl
front_distinct (suc n) [] h = refl
front_distinct (suc n) (t ∷ ts) h =
    let p = and_parts (not (list_any (same (view t)) (elements_list (elements_view ts)))) (are_distinct (elements_list (elements_view ts))) h in
    rw (any_front n (view t) ts (not_true _ p.0), front_distinct n ts p.1) refl

front_fails : (a b : Bool) → a ≡ false → (b ≡ true → a ≡ true) → a ≡ b
front_fails true b h k = absurd (cc)
front_fails false true h k = k refl
front_fails false false h k = refl

-- where the first n aren't distinct, all aren't
pub front_and_all : (n : ℕ) (ts : List Tree) (b : Bool) → b ≡ false → b ≡ are_distinct (elements_list (elements_view (take n ts))) → b ≡ are_distinct (elements_list (elements_view ts))
front_and_all n ts b h is = front_fails b _ h (λ e. is ∙ front_distinct n ts e)
