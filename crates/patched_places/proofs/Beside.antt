-- The children beside one that comes or goes.
use Rattle.std.proofs.Common.{◌≡◌, ◌≢◌, ℕ, zero, suc, List, Option, Some, None, Ordering, Less, Equal, Greater, nat_cmp, refl, sym, ap, ◌∙◌, arith}
use Rattle.std.specs.Cmp.Lexicographic.{slice_cmp}
use Rattle.std.specs.Ordering.{match_ordering}
use Rattle.doc_tree.specs.Doc.{Doc, Elements, no_elements, element, Members, no_members, member, put, get_member, get_element}
use Rattle.doc_edits.specs.Edit.{append_element, cut, elements_len, insert_element, put_or_set, remove_element}
use Rattle.doc_edits.proofs.Children.{get_other, tied}
use Rattle.doc_edits.proofs.Heights.{mapped}

-- ---- members

passed_at : (o : Ordering) (k l : List ℕ) (v : Doc) (ms : Members) → slice_cmp nat_cmp k l ≡ o → l ≢ k → get_member k (member l v ms) ≡ get_member k ms
passed_at Less k l v ms is other = rw is refl
passed_at Equal k l v ms is other = absurd (other (sym (tied k l is)))
passed_at Greater k l v ms is other = rw is refl

-- a member of another name is passed by
passed : (k l : List ℕ) (v : Doc) (ms : Members) → l ≢ k → get_member k (member l v ms) ≡ get_member k ms
passed k l v ms other = passed_at (slice_cmp nat_cmp k l) k l v ms refl other

behind_same : (k l : List ℕ) (d : Doc) (ms ns : Members) → get_member k ms ≡ get_member k ns → get_member k (member l d ms) ≡ get_member k (member l d ns)
behind_same k l d ms ns h = ap (λ (g : Option Doc). match_ordering (slice_cmp nat_cmp k l) g (Some d) g) h

put_other_at : (o : Ordering) (t k l : List ℕ) (v d : Doc) (ms ns : Members) → slice_cmp nat_cmp t l ≡ o → t ≢ k → get_member k ns ≡ get_member k ms
    → get_member k (match_ordering o (member t v (member l d ms)) (member l v ms) (member l d ns)) ≡ get_member k (member l d ms)
put_other_at Less t k l v d ms ns is other rest = passed k t v (member l d ms) other
put_other_at Equal t k l v d ms ns is other rest =
    let apart : l ≢ k = λ e. other (tied t l is ∙ e) in
    passed k l v ms apart ∙ sym (passed k l d ms apart)
put_other_at Greater t k l v d ms ns is other rest = behind_same k l d ns ms rest

get_put_other : (t k : List ℕ) (v : Doc) (ms : Members) → t ≢ k → get_member k (put t v ms) ≡ get_member k ms
get_put_other t k v no_members other = passed k t v no_members other
get_put_other t k v (member l d ms) other = put_other_at (slice_cmp nat_cmp t l) t k l v d ms (put t v ms) refl other (get_put_other t k v ms other)

-- a member that is added or replaced leaves those of other names
pub get_added : (o : Option Doc) (t k : List ℕ) (v : Doc) (ms : Members) → t ≢ k → get_member k (put_or_set o v t ms) ≡ get_member k ms
get_added None t k v ms other = get_put_other t k v ms other
get_added (Some c) t k v ms other = get_other t k v ms other

cut_other_at : (o : Ordering) (t k l : List ℕ) (d : Doc) (ms ns : Members) → slice_cmp nat_cmp t l ≡ o → t ≢ k → get_member k ns ≡ get_member k ms
    → get_member k (match_ordering o (member l d ns) ms (member l d ns)) ≡ get_member k (member l d ms)
cut_other_at Less t k l d ms ns is other rest = behind_same k l d ns ms rest
cut_other_at Equal t k l d ms ns is other rest = sym (passed k l d ms (λ e. other (tied t l is ∙ e)))
cut_other_at Greater t k l d ms ns is other rest = behind_same k l d ns ms rest

-- and so does one that goes
pub get_cut : (t k : List ℕ) (ms : Members) → t ≢ k → get_member k (cut t ms) ≡ get_member k ms
get_cut t k no_members other = refl
get_cut t k (member l d ms) other = cut_other_at (slice_cmp nat_cmp t l) t k l d ms (cut t ms) refl other (get_cut t k ms other)

-- ---- elements

-- an element behind the others leaves them
pub get_before : (j : ℕ) (c : Doc) (ds : Elements) → j ≢ elements_len ds → get_element j (append_element c ds) ≡ get_element j ds
get_before zero c no_elements other = absurd (other refl)
get_before (suc j) c no_elements other = refl
get_before zero c (element d ds) other = refl
get_before (suc j) c (element d ds) other = get_before j c ds (λ e. other (ap (λ n. suc n) e))

pub appended_len : (c : Doc) (ds : Elements) → elements_len (append_element c ds) ≡ suc (elements_len ds)
appended_len c no_elements = refl
appended_len c (element d ds) = ap (λ n. suc n) (appended_len c ds)

-- one that is put at the end
pub inserted_behind : (i : ℕ) (c : Doc) (ds es : Elements) → i ≡ elements_len ds → insert_element i c ds ≡ Some es → es ≡ append_element c ds
inserted_behind zero c no_elements es is h = cc
inserted_behind zero c (element d ds) es is h = absurd (omega (arith, is))
inserted_behind (suc i) c no_elements es is h = absurd (omega (arith, is))
inserted_behind (suc i) c (element d ds) es is h =
    let m = mapped (element d) (insert_element i c ds) es h in
    m.2 ∙ ap (element d) (inserted_behind i c ds m.0 (omega (arith, is)) m.1)

-- one is less after a removal
pub removed_len : (i : ℕ) (ds es : Elements) → remove_element i ds ≡ Some es → elements_len ds ≡ suc (elements_len es)
removed_len i no_elements es h = absurd cc
removed_len zero (element d ds) es h = let same : ds ≡ es = cc in ap (λ l. suc (elements_len l)) same
removed_len (suc i) (element d ds) es h =
    let m = mapped (element d) (remove_element i ds) es h in
    ap (λ n. suc n) (removed_len i ds m.0 m.1 ∙ sym (ap elements_len m.2))

-- one that goes from the end
pub removed_behind : (i : ℕ) (ds es : Elements) → i ≡ elements_len es → remove_element i ds ≡ Some es → (c : Doc) × (ds ≡ append_element c es)
removed_behind i no_elements es is h = absurd cc
removed_behind zero (element d ds) no_elements is h = let same : ds ≡ no_elements = cc in (d, ap (element d) same)
removed_behind zero (element d ds) (element e es) is h = absurd (omega (arith, is))
removed_behind (suc i) (element d ds) es is h =
    let m = mapped (element d) (remove_element i ds) es h in
    let len : suc i ≡ suc (elements_len m.0) = is ∙ ap elements_len m.2 in
    let r = removed_behind i ds m.0 (omega (arith, len)) m.1 in
    (r.0, ap (element d) r.1 ∙ sym (ap (append_element r.0) m.2))
