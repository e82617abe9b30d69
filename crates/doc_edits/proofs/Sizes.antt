-- The length of a document's text by sums, and what a write in it adds.
use Rattle.std.proofs.Common.{◌≡◌, ℕ, zero, suc, ◌+◌, ◌≤◌, List, length, Option, Some, None, option_map, option_and_then, Ordering, Less, Equal, Greater, nat_cmp, refl, sym, ap, ◌∙◌, arith, is_eq}
use Rattle.std.proofs.lemmas.Map.Text.{is_eq-slice_cmp}
use Rattle.std.proofs.lemmas.Slice.Eq.{bytes_eq-Decides}
use Rattle.std.specs.Cmp.Lexicographic.{slice_cmp}
use Rattle.std.specs.Ordering.{match_ordering}
use Rattle.json.specs.Print.{quoted}
use Rattle.doc_tree.specs.Doc.{Doc, list, object, Elements, no_elements, element, Members, no_members, member, put, get_member, get_element}
use Rattle.doc_tree.proofs.Sizes.{elements_size, named_size, members_size, size-list, size-object, element_within, member_within, members_size-put_new}
use Rattle.doc_edits.specs.Size.{size, comma_beside, comma_beside_members}
use Rattle.doc_pointer.specs.Place.{child_named}
use Rattle.doc_edits.specs.Edit.{Token, elements_len, index_below}
use Rattle.doc_edits.proofs.Indices.{child_named-list}
use Rattle.doc_edits.specs.Edit.{insert_element, append_element, remove_element, set_element, cut, set_member, with_child, set_at}

-- ---- elements

pub size-set_element : (i : ℕ) (v old : Doc) (ds : Elements) → get_element i ds ≡ Some old → elements_size (set_element i v ds) + size old ≡ elements_size ds + size v
size-set_element i v old no_elements h = absurd (cc)
size-set_element zero v old (element d ds) h = let same : d ≡ old = cc in rw same (omega arith)
size-set_element (suc i) v old (element d ds) h = let rest = size-set_element i v old ds h in omega (arith, rest)

mapped : (d : Doc) (o : Option Elements) (es : Elements) → option_map (element d) o ≡ Some es → (fs : Elements) × (o ≡ Some fs) × (es ≡ element d fs)
mapped d None es h = absurd (cc)
mapped d (Some fs) es h = (fs, refl, cc)

pub size-insert_element : (i : ℕ) (v : Doc) (ds es : Elements) → insert_element i v ds ≡ Some es → elements_size es ≡ elements_size ds + size v + 1
size-insert_element zero v ds es h = let same : element v ds ≡ es = cc in rw (sym same) (omega arith)
size-insert_element (suc i) v no_elements es h = absurd (cc)
size-insert_element (suc i) v (element d ds) es h =
    let m = mapped d (insert_element i v ds) es h in
    let rest = size-insert_element i v ds m.0 m.1 in
    rw (m.2) (omega (arith, rest))

pub size-append_element : (v : Doc) (ds : Elements) → elements_size (append_element v ds) ≡ elements_size ds + size v + 1
size-append_element v no_elements = omega arith
size-append_element v (element d ds) = let rest = size-append_element v ds in omega (arith, rest)

pub size-remove_element : (i : ℕ) (old : Doc) (ds es : Elements) → remove_element i ds ≡ Some es → get_element i ds ≡ Some old → elements_size es + size old + 1 ≡ elements_size ds
size-remove_element i old no_elements es h g = absurd (cc)
size-remove_element zero old (element d ds) es h g = let same : ds ≡ es = cc in let that : d ≡ old = cc in rw (sym same, sym that) (omega arith)
size-remove_element (suc i) old (element d ds) es h g =
    let m = mapped d (remove_element i ds) es h in
    let rest = size-remove_element i old ds m.0 m.1 g in
    rw (m.2) (omega (arith, rest))

-- ---- members

set_member_at : (o : Ordering) (k l : List ℕ) (v d old : Doc) (ms : Members) → match_ordering o (get_member k ms) (Some d) (get_member k ms) ≡ Some old
    → (get_member k ms ≡ Some old → members_size (set_member k v ms) + size old ≡ members_size ms + size v)
    → members_size (match_ordering o (member l d (set_member k v ms)) (member l v ms) (member l d (set_member k v ms))) + size old ≡ members_size (member l d ms) + size v
set_member_at Less k l v d old ms h rest = let r = rest h in omega (arith, r)
set_member_at Equal k l v d old ms h rest = let same : d ≡ old = cc in rw same (omega arith)
set_member_at Greater k l v d old ms h rest = let r = rest h in omega (arith, r)

pub size-set_member : (k : List ℕ) (v old : Doc) (ms : Members) → get_member k ms ≡ Some old → members_size (set_member k v ms) + size old ≡ members_size ms + size v
size-set_member k v old no_members h = absurd (cc)
size-set_member k v old (member l d ms) h = set_member_at (slice_cmp nat_cmp k l) k l v d old ms h (size-set_member k v old ms)

-- ---- what a write adds to the text of its parent

index_set : (o : Option ℕ) (v old : Doc) (ds : Elements) → option_and_then (λ i. get_element i ds) o ≡ Some old → (elements_size (set_at o v ds) + size old ≡ elements_size ds + size v) × (size old + 1 ≤ elements_size ds)
index_set None v old ds h = absurd (cc)
index_set (Some i) v old ds h = (size-set_element i v old ds h, element_within i old ds h)

-- v in place of a child: the text grows and shrinks as the child's does
pub size-with_child : (t : Token) (v d old : Doc) → child_named t d ≡ Some old → (size (with_child t v d) + size old ≡ size d + size v) × (size old ≤ size d)
size-with_child t v (object ms) old h =
    let s = size-set_member t v old ms h in
    let low = member_within t old ms h in
    let a = size-object ms in
    let b = size-object (set_member t v ms) in
    (omega (arith, s, low, a, b), omega (arith, low, a))
size-with_child t v (list ds) old h =
    let s = index_set (index_below (elements_len ds) t) v old ds (sym (child_named-list t ds) ∙ h) in
    let a = size-list ds in
    let b = size-list (set_at (index_below (elements_len ds) t) v ds) in
    (omega (arith, s.0, s.1, a, b), omega (arith, s.1, a))
size-with_child t v _ old h = absurd (cc)

-- so what a change deep inside adds and takes is what it adds to and takes from the whole
pub size-stepped : (t : Token) (new d old : Doc) (more less : ℕ) → child_named t d ≡ Some old → size new + less ≡ size old + more → size (with_child t new d) + less ≡ size d + more
size-stepped t new d old more less h e = let s = size-with_child t new d old h in omega (arith, s.0, e)

pub size-inserted : (i : ℕ) (v : Doc) (ds es : Elements) → insert_element i v ds ≡ Some es → size (list es) ≡ size (list ds) + size v + comma_beside ds
size-inserted i v no_elements es h = let s = size-insert_element i v no_elements es h in let b = size-list es in omega (arith, s, b)
size-inserted i v (element d ds) es h =
    let s = size-insert_element i v (element d ds) es h in
    let a = size-list (element d ds) in
    let b = size-list es in
    omega (arith, s, a, b)

pub size-appended : (v : Doc) (ds : Elements) → size (list (append_element v ds)) ≡ size (list ds) + size v + comma_beside ds
size-appended v no_elements = let b = size-list (element v no_elements) in omega (arith, b)
size-appended v (element d ds) = let s = size-append_element v (element d ds) in let a = size-list (element d ds) in let b = size-list (append_element v (element d ds)) in omega (arith, s, a, b)

pub size-removed : (i : ℕ) (old : Doc) (ds es : Elements) → remove_element i ds ≡ Some es → get_element i ds ≡ Some old → size (list es) + size old + comma_beside es ≡ size (list ds)
size-removed i old ds no_elements h g = let s = size-remove_element i old ds no_elements h g in let a = size-list ds in omega (arith, s, a)
size-removed i old ds (element d es) h g =
    let s = size-remove_element i old ds (element d es) h g in
    let a = size-list ds in
    let b = size-list (element d es) in
    omega (arith, s, a, b)

pub size-put : (k : List ℕ) (v : Doc) (ms : Members) → get_member k ms ≡ None → size (object (put k v ms)) ≡ size (object ms) + (length (quoted k) + 1) + size v + comma_beside_members ms
size-put k v no_members h = let b = size-object (member k v no_members) in omega (arith, b)
size-put k v (member l d ms) h = let s = members_size-put_new k v (member l d ms) h in let a = size-object (member l d ms) in let b = size-object (put k v (member l d ms)) in omega (arith, s, a, b)

cut_at : (o : Ordering) (k l : List ℕ) (d old : Doc) (ms : Members) → slice_cmp nat_cmp k l ≡ o → match_ordering o (get_member k ms) (Some d) (get_member k ms) ≡ Some old
    → (get_member k ms ≡ Some old → members_size (cut k ms) + named_size k old ≡ members_size ms)
    → members_size (match_ordering o (member l d (cut k ms)) ms (member l d (cut k ms))) + named_size k old ≡ members_size (member l d ms)
cut_at Less k l d old ms c h rest = let r = rest h in omega (arith, r)
cut_at Equal k l d old ms c h rest =
    let same : d ≡ old = cc in
    let named : k ≡ l = (bytes_eq-Decides k l).0 (sym (is_eq-slice_cmp k l) ∙ ap is_eq c) in
    rw (same, named) (omega arith)
cut_at Greater k l d old ms c h rest = let r = rest h in omega (arith, r)

pub size-cut_members : (k : List ℕ) (old : Doc) (ms : Members) → get_member k ms ≡ Some old → members_size (cut k ms) + named_size k old ≡ members_size ms
size-cut_members k old no_members h = absurd (cc)
size-cut_members k old (member l d ms) h = cut_at (slice_cmp nat_cmp k l) k l d old ms refl h (size-cut_members k old ms)

size-cut_to : (k : List ℕ) (old : Doc) (ms ns : Members) → members_size ns + named_size k old ≡ members_size ms → size (object ns) + (length (quoted k) + 1) + size old + comma_beside_members ns ≡ size (object ms)
size-cut_to k old ms no_members s = let a = size-object ms in omega (arith, s, a)
size-cut_to k old ms (member l d ns) s = let a = size-object ms in let b = size-object (member l d ns) in omega (arith, s, a, b)

pub size-cut : (k : List ℕ) (old : Doc) (ms : Members) → get_member k ms ≡ Some old → size (object (cut k ms)) + (length (quoted k) + 1) + size old + comma_beside_members (cut k ms) ≡ size (object ms)
size-cut k old ms h = size-cut_to k old ms (cut k ms) (size-cut_members k old ms h)
