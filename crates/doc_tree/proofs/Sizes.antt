-- The length of a document's text by sums over its children.
use Rattle.std.proofs.Common.{◌≡◌, ℕ, zero, suc, ◌+◌, ◌≤◌, max, List, ◌++◌, ◌∷◌, length, length-append, Some, None, Ordering, Less, Equal, Greater, nat_cmp, refl, arith, true}
use Rattle.std.specs.Cmp.Lexicographic.{slice_cmp}
use Rattle.std.specs.Ordering.{match_ordering}
use Rattle.json.specs.Print.{quoted}
use Rattle.doc_tree.specs.Doc.{Doc, list, object, Elements, no_elements, element, Members, no_members, member, put, get_member, get_element}
use Rattle.doc_tree.specs.Text.{text_of, elements_text, members_text_of}

-- in bytes
abbrev pub size : Doc → ℕ
size d = length (text_of d)

-- each element with the comma or bracket after it
abbrev pub elements_size : Elements → ℕ
elements_size no_elements = 0
elements_size (element d ds) = size d + 1 + elements_size ds

-- the name and its colon, the member, and the comma or brace after it
abbrev pub named_size : List ℕ → Doc → ℕ
named_size k d = length (quoted k) + 1 + size d + 1

abbrev pub members_size : Members → ℕ
members_size no_members = 0
members_size (member k d ms) = named_size k d + members_size ms

later_elements : (ds : Elements) → length (elements_text true ds) ≡ elements_size ds + 1
later_elements no_elements = refl
later_elements (element d ds) = let rest = later_elements ds in let both = length-append (text_of d) (elements_text true ds) in omega (arith, rest, both)

later_members : (ms : Members) → length (members_text_of true ms) ≡ members_size ms + 1
later_members no_members = refl
later_members (member k d ms) =
    let rest = later_members ms in
    let both = length-append (text_of d) (members_text_of true ms) in
    let all = length-append (quoted k) (58 ∷ (text_of d ++ members_text_of true ms)) in
    omega (arith, rest, both, all)

-- brackets and commas made linear
pub size-list : (ds : Elements) → size (list ds) ≡ max 2 (elements_size ds + 1)
size-list no_elements = refl
size-list (element d ds) = let rest = later_elements ds in let both = length-append (text_of d) (elements_text true ds) in omega (arith, rest, both)

pub size-object : (ms : Members) → size (object ms) ≡ max 2 (members_size ms + 1)
size-object no_members = refl
size-object (member k d ms) =
    let rest = later_members ms in
    let both = length-append (text_of d) (members_text_of true ms) in
    let all = length-append (quoted k) (58 ∷ (text_of d ++ members_text_of true ms)) in
    omega (arith, rest, both, all)

-- ---- a child's part of the sum

pub element_within : (i : ℕ) (c : Doc) (ds : Elements) → get_element i ds ≡ Some c → size c + 1 ≤ elements_size ds
element_within i c no_elements h = absurd (cc)
element_within zero c (element d ds) h = let same : d ≡ c = cc in rw same (omega arith)
element_within (suc i) c (element d ds) h = let rest = element_within i c ds h in omega (arith, rest)

member_within_at : (o : Ordering) (k l : List ℕ) (d c : Doc) (ms : Members) → match_ordering o (get_member k ms) (Some d) (get_member k ms) ≡ Some c
    → (get_member k ms ≡ Some c → size c + 2 ≤ members_size ms) → size c + 2 ≤ members_size (member l d ms)
member_within_at Less k l d c ms h rest = let r = rest h in omega (arith, r)
member_within_at Equal k l d c ms h rest = let same : d ≡ c = cc in rw same (omega arith)
member_within_at Greater k l d c ms h rest = let r = rest h in omega (arith, r)

pub member_within : (k : List ℕ) (c : Doc) (ms : Members) → get_member k ms ≡ Some c → size c + 2 ≤ members_size ms
member_within k c no_members h = absurd (cc)
member_within k c (member l d ms) h = member_within_at (slice_cmp nat_cmp k l) k l d c ms h (member_within k c ms)

put_new_at : (o : Ordering) (k l : List ℕ) (v d : Doc) (ms : Members) → match_ordering o (get_member k ms) (Some d) (get_member k ms) ≡ None
    → (get_member k ms ≡ None → members_size (put k v ms) ≡ members_size ms + named_size k v)
    → members_size (match_ordering o (member k v (member l d ms)) (member l v ms) (member l d (put k v ms))) ≡ members_size (member l d ms) + named_size k v
put_new_at Less k l v d ms h rest = omega arith
put_new_at Equal k l v d ms h rest = absurd (cc)
put_new_at Greater k l v d ms h rest = let r = rest h in omega (arith, r)

-- a member that was not there adds its own part
pub members_size-put_new : (k : List ℕ) (v : Doc) (ms : Members) → get_member k ms ≡ None → members_size (put k v ms) ≡ members_size ms + named_size k v
members_size-put_new k v no_members h = omega arith
members_size-put_new k v (member l d ms) h = put_new_at (slice_cmp nat_cmp k l) k l v d ms h (members_size-put_new k v ms)
