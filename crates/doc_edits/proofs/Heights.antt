-- How high a document is after a write in it.
use Rattle.std.proofs.Common.{◌≡◌, ℕ, zero, suc, ◌+◌, ◌<◌, ◌≤◌, max, List, [], ◌∷◌, length, Option, Some, None, option_map, option_and_then, Ordering, Less, Equal, Greater, nat_cmp, refl, sym, ◌∙◌, arith, cond, Bool, true, false}
use Rattle.std.specs.Str.{bytes_eq}
use Rattle.std.specs.Cmp.Lexicographic.{slice_cmp}
use Rattle.std.specs.Ordering.{match_ordering}
use Rattle.doc_tree.specs.Doc.{Doc, list, object, Elements, no_elements, element, Members, no_members, member, put, get_member, get_element, height, elements_height, members_height}
use Rattle.doc_pointer.specs.Place.{child_named, resolve}
use Rattle.doc_edits.specs.Edit.{Token, Tokens, elements_len, index_below}
use Rattle.doc_edits.proofs.Indices.{child_named-list, index_below-below, element_at}
use Rattle.doc_edits.specs.Edit.{insert_element, append_element, remove_element, set_element, cut, set_member, with_child, set_at, in_child, at_last, put_or_set, add_here, add_item, add, dash, replace_here, replace_member, replace_item, replace, remove_here, remove_member, remove_item, remove}

-- what stands in a document is lower
element_lower : (i : ℕ) (c : Doc) (ds : Elements) → get_element i ds ≡ Some c → height c ≤ elements_height ds
element_lower i c no_elements h = absurd (cc)
element_lower zero c (element d ds) h = let same : d ≡ c = cc in rw same (omega arith)
element_lower (suc i) c (element d ds) h = let rest = element_lower i c ds h in omega (arith, rest)

member_lower_at : (o : Ordering) (c d : Doc) (g : Option Doc) (n : ℕ) → match_ordering o g (Some d) g ≡ Some c → (g ≡ Some c → height c ≤ n) → height c ≤ max (height d) n
member_lower_at Less c d g n h rest = let r = rest h in omega (arith, r)
member_lower_at Equal c d g n h rest = let same : d ≡ c = cc in rw same (omega arith)
member_lower_at Greater c d g n h rest = let r = rest h in omega (arith, r)

member_lower : (k : List ℕ) (c : Doc) (ms : Members) → get_member k ms ≡ Some c → height c ≤ members_height ms
member_lower k c no_members h = absurd (cc)
member_lower k c (member l d ms) h = member_lower_at (slice_cmp nat_cmp k l) c d (get_member k ms) (members_height ms) h (member_lower k c ms)

index_lower : (o : Option ℕ) (c : Doc) (ds : Elements) → option_and_then (λ i. get_element i ds) o ≡ Some c → height c ≤ elements_height ds
index_lower None c ds h = absurd (cc)
index_lower (Some i) c ds h = element_lower i c ds h

pub child_lower : (t : Token) (d c : Doc) → child_named t d ≡ Some c → suc (height c) ≤ height d
child_lower t (object ms) c h = let r = member_lower t c ms h in omega (arith, r)
child_lower t (list ds) c h = let r = index_lower (index_below (elements_len ds) t) c ds (sym (child_named-list t ds) ∙ h) in omega (arith, r)
child_lower t _ c h = absurd (cc)

-- ---- after a write in a child

set_element_upper : (i : ℕ) (v : Doc) (ds : Elements) → elements_height (set_element i v ds) ≤ max (elements_height ds) (height v)
set_element_upper i v no_elements = omega arith
set_element_upper zero v (element d ds) = omega arith
set_element_upper (suc i) v (element d ds) = let r = set_element_upper i v ds in omega (arith, r)

set_element_lower : (i : ℕ) (v c : Doc) (ds : Elements) → get_element i ds ≡ Some c → height v ≤ elements_height (set_element i v ds)
set_element_lower i v c no_elements h = absurd (cc)
set_element_lower zero v c (element d ds) h = omega arith
set_element_lower (suc i) v c (element d ds) h = let r = set_element_lower i v c ds h in omega (arith, r)

set_member_upper_at : (o : Ordering) (l : List ℕ) (v d : Doc) (ms ns : Members) → members_height ns ≤ max (members_height ms) (height v)
    → members_height (match_ordering o (member l d ns) (member l v ms) (member l d ns)) ≤ max (members_height (member l d ms)) (height v)
set_member_upper_at Less l v d ms ns r = omega arith
set_member_upper_at Equal l v d ms ns r = omega arith
set_member_upper_at Greater l v d ms ns r = omega arith

set_member_upper : (k : List ℕ) (v : Doc) (ms : Members) → members_height (set_member k v ms) ≤ max (members_height ms) (height v)
set_member_upper k v no_members = omega arith
set_member_upper k v (member l d ms) = set_member_upper_at (slice_cmp nat_cmp k l) l v d ms (set_member k v ms) (set_member_upper k v ms)

set_member_lower_at : (o : Ordering) (l : List ℕ) (v c d : Doc) (g : Option Doc) (ms ns : Members) → match_ordering o g (Some d) g ≡ Some c → (g ≡ Some c → height v ≤ members_height ns)
    → height v ≤ members_height (match_ordering o (member l d ns) (member l v ms) (member l d ns))
set_member_lower_at Less l v c d g ms ns h rest = let r = rest h in omega (arith, r)
set_member_lower_at Equal l v c d g ms ns h rest = omega arith
set_member_lower_at Greater l v c d g ms ns h rest = let r = rest h in omega (arith, r)

set_member_lower : (k : List ℕ) (v c : Doc) (ms : Members) → get_member k ms ≡ Some c → height v ≤ members_height (set_member k v ms)
set_member_lower k v c no_members h = absurd (cc)
set_member_lower k v c (member l d ms) h = set_member_lower_at (slice_cmp nat_cmp k l) l v c d (get_member k ms) ms (set_member k v ms) h (set_member_lower k v c ms)

set_at_upper : (o : Option ℕ) (v : Doc) (ds : Elements) → elements_height (set_at o v ds) ≤ max (elements_height ds) (height v)
set_at_upper None v ds = omega arith
set_at_upper (Some i) v ds = set_element_upper i v ds

set_at_lower : (o : Option ℕ) (v c : Doc) (ds : Elements) → option_and_then (λ i. get_element i ds) o ≡ Some c → height v ≤ elements_height (set_at o v ds)
set_at_lower None v c ds h = absurd (cc)
set_at_lower (Some i) v c ds h = set_element_lower i v c ds h

pub with_child_upper : (t : Token) (v d : Doc) → height (with_child t v d) ≤ max (height d) (suc (height v))
with_child_upper t v (object ms) = let r = set_member_upper t v ms in omega (arith, r)
with_child_upper t v (list ds) = let r = set_at_upper (index_below (elements_len ds) t) v ds in omega (arith, r)
with_child_upper t v _ = omega arith

pub with_child_lower : (t : Token) (v d c : Doc) → child_named t d ≡ Some c → suc (height v) ≤ height (with_child t v d)
with_child_lower t v (object ms) c h = let r = set_member_lower t v c ms h in omega (arith, r)
with_child_lower t v (list ds) c h = let r = set_at_lower (index_below (elements_len ds) t) v c ds (sym (child_named-list t ds) ∙ h) in omega (arith, r)
with_child_lower t v _ c h = absurd (cc)

-- ---- along the tokens

abbrev pub Does : Type 0
Does = Token → Doc → Option Doc

pub record Stepped (t : Token) (f : Doc → Option Doc) (d e : Doc) : Type 0 where
  pub child : Doc
  pub new : Doc
  pub found : child_named t d ≡ Some child
  pub made : f child ≡ Some new
  pub whole : e ≡ with_child t new d

stepped_with : (t : Token) (f : Doc → Option Doc) (d e c : Doc) (p : Option Doc) → child_named t d ≡ Some c → f c ≡ p → option_map (λ new. with_child t new d) p ≡ Some e → Stepped t f d e
stepped_with t f d e c None h k g = absurd (cc)
stepped_with t f d e c (Some new) h k g = record { child = c; new = new; found = h; made = k; whole = cc }

stepped_in : (t : Token) (f : Doc → Option Doc) (d e : Doc) (o : Option Doc) → child_named t d ≡ o → option_and_then (λ c. option_map (λ new. with_child t new d) (f c)) o ≡ Some e → Stepped t f d e
stepped_in t f d e None h g = absurd (cc)
stepped_in t f d e (Some c) h g = stepped_with t f d e c (f c) h refl g

pub in_child_steps : (t : Token) (f : Doc → Option Doc) (d e : Doc) → in_child t f d ≡ Some e → Stepped t f d e
in_child_steps t f d e h = stepped_in t f d e (child_named t d) refl h

abbrev pub LeafUpper : Does → ℕ → Type 0
LeafUpper f n = (t : Token) (d e : Doc) → f t d ≡ Some e → height e ≤ max (height d) (suc n)

abbrev pub LeafLower : Does → ℕ → Type 0
LeafLower f n = (t : Token) (d e : Doc) → f t d ≡ Some e → suc n ≤ height e

pub at_last_upper : (f : Does) (n : ℕ) → LeafUpper f n → (t : Token) (ts : Tokens) (d e : Doc) → at_last f t ts d ≡ Some e → height e ≤ max (height d) (suc (length ts) + n)
at_last_upper f n leaf t [] d e h = let r = leaf t d e h in omega (arith, r)
at_last_upper f n leaf t (u ∷ us) d e h =
    let s = in_child_steps t (at_last f u us) d e h in
    let r = at_last_upper f n leaf u us s.child s.new s.made in
    let w = with_child_upper t s.new d in
    let c = child_lower t d s.child s.found in
    rw (s.whole) (omega (arith, r, w, c))

pub at_last_lower : (f : Does) (n : ℕ) → LeafLower f n → (t : Token) (ts : Tokens) (d e : Doc) → at_last f t ts d ≡ Some e → suc (length ts) + n ≤ height e
at_last_lower f n leaf t [] d e h = let r = leaf t d e h in omega (arith, r)
at_last_lower f n leaf t (u ∷ us) d e h =
    let s = in_child_steps t (at_last f u us) d e h in
    let r = at_last_lower f n leaf u us s.child s.new s.made in
    let w = with_child_lower t s.new d s.child s.found in
    rw (s.whole) (omega (arith, r, w))

-- ---- at the last token of an addition

pub mapped : {A B : Type 0} (f : A → B) (o : Option A) (b : B) → option_map f o ≡ Some b → (a : A) × (o ≡ Some a) × (b ≡ f a)
mapped f None b h = absurd (cc)
mapped f (Some a) b h = (a, refl, cc)

insert_upper : (i : ℕ) (v : Doc) (ds es : Elements) → insert_element i v ds ≡ Some es → (elements_height es ≤ max (elements_height ds) (height v)) × (height v ≤ elements_height es)
insert_upper zero v ds es h = let same : element v ds ≡ es = cc in rw (sym same) (omega arith, omega arith)
insert_upper (suc i) v no_elements es h = absurd (cc)
insert_upper (suc i) v (element d ds) es h =
    let m = mapped (element d) (insert_element i v ds) es h in
    let r = insert_upper i v ds m.0 m.1 in
    rw (m.2) (omega (arith, r.0), omega (arith, r.1))

append_upper : (v : Doc) (ds : Elements) → (elements_height (append_element v ds) ≤ max (elements_height ds) (height v)) × (height v ≤ elements_height (append_element v ds))
append_upper v no_elements = (omega arith, omega arith)
append_upper v (element d ds) = let r = append_upper v ds in (omega (arith, r.0), omega (arith, r.1))

put_upper_at : (o : Ordering) (k l : List ℕ) (v d : Doc) (ms ns : Members) → (members_height ns ≤ max (members_height ms) (height v)) × (height v ≤ members_height ns)
    → (members_height (match_ordering o (member k v (member l d ms)) (member l v ms) (member l d ns)) ≤ max (members_height (member l d ms)) (height v))
    × (height v ≤ members_height (match_ordering o (member k v (member l d ms)) (member l v ms) (member l d ns)))
put_upper_at Less k l v d ms ns r = (omega arith, omega arith)
put_upper_at Equal k l v d ms ns r = (omega arith, omega arith)
put_upper_at Greater k l v d ms ns r = (omega (arith, r.0), omega (arith, r.1))

put_upper : (k : List ℕ) (v : Doc) (ms : Members) → (members_height (put k v ms) ≤ max (members_height ms) (height v)) × (height v ≤ members_height (put k v ms))
put_upper k v no_members = (omega arith, omega arith)
put_upper k v (member l d ms) = put_upper_at (slice_cmp nat_cmp k l) k l v d ms (put k v ms) (put_upper k v ms)

put_or_set_upper : (o : Option Doc) (k : List ℕ) (v : Doc) (ms : Members) → get_member k ms ≡ o → (members_height (put_or_set o v k ms) ≤ max (members_height ms) (height v)) × (height v ≤ members_height (put_or_set o v k ms))
put_or_set_upper None k v ms h = put_upper k v ms
put_or_set_upper (Some c) k v ms h = (set_member_upper k v ms, set_member_lower k v c ms h)

index_upper : (o : Option ℕ) (v : Doc) (ds es : Elements) → option_and_then (λ i. insert_element i v ds) o ≡ Some es → (elements_height es ≤ max (elements_height ds) (height v)) × (height v ≤ elements_height es)
index_upper None v ds es h = absurd (cc)
index_upper (Some i) v ds es h = insert_upper i v ds es h

item_upper : (b : Bool) (o : Option ℕ) (v : Doc) (ds es : Elements) → cond b (Some (append_element v ds)) (option_and_then (λ i. insert_element i v ds) o) ≡ Some es
    → (elements_height es ≤ max (elements_height ds) (height v)) × (height v ≤ elements_height es)
item_upper true o v ds es h = let same : append_element v ds ≡ es = cc in rw (sym same) (append_upper v ds)
item_upper false o v ds es h = index_upper o v ds es h

add_here_both : (v : Doc) (t : Token) (d e : Doc) → add_here v t d ≡ Some e → (height e ≤ max (height d) (suc (height v))) × (suc (height v) ≤ height e)
add_here_both v t (object ms) e h =
    let same : object (put_or_set (get_member t ms) v t ms) ≡ e = cc in
    let r = put_or_set_upper (get_member t ms) t v ms refl in
    rw (sym same) (omega (arith, r.0), omega (arith, r.1))
add_here_both v t (list ds) e h =
    let m = mapped list (add_item v t ds) e h in
    let r = item_upper (bytes_eq t dash) (index_below (suc (elements_len ds)) t) v ds m.0 m.1 in
    rw (m.2) (omega (arith, r.0), omega (arith, r.1))
add_here_both v t _ e h = absurd (cc)

-- after an addition a document is as high as the value reaches at its place, or as it was
pub add_high : (path : Tokens) (v d e : Doc) → add path v d ≡ Some e → height e ≤ max (height d) (length path + height v)
add_high [] v d e h = let same : v ≡ e = cc in rw (sym same) (omega arith)
add_high (t ∷ ts) v d e h = let up = at_last_upper (add_here v) (height v) (λ t d e h. (add_here_both v t d e h).0) t ts d e h in omega (arith, up)

pub add_low : (path : Tokens) (v d e : Doc) → add path v d ≡ Some e → length path + height v ≤ height e
add_low [] v d e h = let same : v ≡ e = cc in rw (sym same) (omega arith)
add_low (t ∷ ts) v d e h = let down = at_last_lower (add_here v) (height v) (λ t d e h. (add_here_both v t d e h).1) t ts d e h in omega (arith, down)

-- an addition to a document within the limit passes it exactly where the place's depth and the value's height do
pub add_deep : (path : Tokens) (v d e : Doc) → add path v d ≡ Some e → height d ≤ 64 → (64 < height e → 64 < length path + height v) × (64 < length path + height v → 64 < height e)
add_deep path v d e h low = let up = add_high path v d e h in let down = add_low path v d e h in (λ x. omega (arith, up), λ x. omega (arith, down))

-- ---- a replacement, and a removal

pub known : {A : Type 0} (o : Option Doc) (a b : A) → option_map (λ _. a) o ≡ Some b → (c : Doc) × (o ≡ Some c) × (a ≡ b)
known None a b h = absurd (cc)
known (Some c) a b h = (c, refl, cc)

set_index : (o : Option ℕ) (v : Doc) (ds es : Elements) → ((i : ℕ) → o ≡ Some i → i < elements_len ds) → option_map (λ i. set_element i v ds) o ≡ Some es
    → (elements_height es ≤ max (elements_height ds) (height v)) × (height v ≤ elements_height es)
set_index None v ds es below h = absurd (cc)
set_index (Some i) v ds es below h =
    let same : set_element i v ds ≡ es = cc in
    let at = element_at i ds (below i refl) in
    rw (sym same) (set_element_upper i v ds, set_element_lower i v at.0 ds at.1)

replace_here_both : (v : Doc) (t : Token) (d e : Doc) → replace_here v t d ≡ Some e → (height e ≤ max (height d) (suc (height v))) × (suc (height v) ≤ height e)
replace_here_both v t (object ms) e h =
    let m = mapped object (replace_member v t ms) e h in
    let k = known (get_member t ms) (set_member t v ms) m.0 m.1 in
    let up = set_member_upper t v ms in
    let low = set_member_lower t v k.0 ms k.1 in
    rw (m.2, sym (k.2)) (omega (arith, up), omega (arith, low))
replace_here_both v t (list ds) e h =
    let m = mapped list (replace_item v t ds) e h in
    let r = set_index (index_below (elements_len ds) t) v ds m.0 (index_below-below (elements_len ds) t) m.1 in
    rw (m.2) (omega (arith, r.0), omega (arith, r.1))
replace_here_both v t _ e h = absurd (cc)

pub replace_high : (path : Tokens) (v d e : Doc) → replace path v d ≡ Some e → height e ≤ max (height d) (length path + height v)
replace_high [] v d e h = let same : v ≡ e = cc in rw (sym same) (omega arith)
replace_high (t ∷ ts) v d e h = let up = at_last_upper (replace_here v) (height v) (λ t d e h. (replace_here_both v t d e h).0) t ts d e h in omega (arith, up)

pub replace_low : (path : Tokens) (v d e : Doc) → replace path v d ≡ Some e → length path + height v ≤ height e
replace_low [] v d e h = let same : v ≡ e = cc in rw (sym same) (omega arith)
replace_low (t ∷ ts) v d e h = let down = at_last_lower (replace_here v) (height v) (λ t d e h. (replace_here_both v t d e h).1) t ts d e h in omega (arith, down)

pub replace_deep : (path : Tokens) (v d e : Doc) → replace path v d ≡ Some e → height d ≤ 64 → (64 < height e → 64 < length path + height v) × (64 < length path + height v → 64 < height e)
replace_deep path v d e h low = let up = replace_high path v d e h in let down = replace_low path v d e h in (λ x. omega (arith, up), λ x. omega (arith, down))

remove_element_upper : (i : ℕ) (ds es : Elements) → remove_element i ds ≡ Some es → elements_height es ≤ elements_height ds
remove_element_upper i no_elements es h = absurd (cc)
remove_element_upper zero (element d ds) es h = let same : ds ≡ es = cc in rw (sym same) (omega arith)
remove_element_upper (suc i) (element d ds) es h =
    let m = mapped (element d) (remove_element i ds) es h in
    let r = remove_element_upper i ds m.0 m.1 in
    rw (m.2) (omega (arith, r))

remove_index : (o : Option ℕ) (ds es : Elements) → option_and_then (λ i. remove_element i ds) o ≡ Some es → elements_height es ≤ elements_height ds
remove_index None ds es h = absurd (cc)
remove_index (Some i) ds es h = remove_element_upper i ds es h

cut_upper_at : (o : Ordering) (l : List ℕ) (d : Doc) (ms ns : Members) → members_height ns ≤ members_height ms → members_height (match_ordering o (member l d ns) ms (member l d ns)) ≤ members_height (member l d ms)
cut_upper_at Less l d ms ns r = omega arith
cut_upper_at Equal l d ms ns r = omega arith
cut_upper_at Greater l d ms ns r = omega arith

cut_upper : (k : List ℕ) (ms : Members) → members_height (cut k ms) ≤ members_height ms
cut_upper k no_members = omega arith
cut_upper k (member l d ms) = cut_upper_at (slice_cmp nat_cmp k l) l d ms (cut k ms) (cut_upper k ms)

remove_here_upper : (t : Token) (d e : Doc) → remove_here t d ≡ Some e → height e ≤ height d
remove_here_upper t (object ms) e h =
    let m = mapped object (remove_member t ms) e h in
    let k = known (get_member t ms) (cut t ms) m.0 m.1 in
    let up = cut_upper t ms in
    rw (m.2, sym (k.2)) (omega (arith, up))
remove_here_upper t (list ds) e h =
    let m = mapped list (remove_item t ds) e h in
    let r = remove_index (index_below (elements_len ds) t) ds m.0 m.1 in
    rw (m.2) (omega (arith, r))
remove_here_upper t _ e h = absurd (cc)

remove_at_upper : (t : Token) (ts : Tokens) (d e : Doc) → at_last remove_here t ts d ≡ Some e → height e ≤ height d
remove_at_upper t [] d e h = remove_here_upper t d e h
remove_at_upper t (u ∷ us) d e h =
    let s = in_child_steps t (at_last remove_here u us) d e h in
    let r = remove_at_upper u us s.child s.new s.made in
    let w = with_child_upper t s.new d in
    let c = child_lower t d s.child s.found in
    rw (s.whole) (omega (arith, r, w, c))

pub remove_not_higher : (path : Tokens) (d e : Doc) → remove path d ≡ Some e → height e ≤ height d
remove_not_higher [] d e h = absurd (cc)
remove_not_higher (t ∷ ts) d e h = remove_at_upper t ts d e h

-- what stands at a place reaches no deeper than the document
resolved_low : (o : Option Doc) (ks : Tokens) (v : Doc) (n : ℕ) → option_and_then (resolve ks) o ≡ Some v → ((c : Doc) → o ≡ Some c → suc (height c) ≤ n) → ((c : Doc) → resolve ks c ≡ Some v → length ks + height v ≤ height c) → suc (length ks) + height v ≤ n
resolved_low None ks v n h child rest = absurd (cc)
resolved_low (Some c) ks v n h child rest = let up = child c refl in let low = rest c h in omega (arith, up, low)

pub resolve_low : (ks : Tokens) (d v : Doc) → resolve ks d ≡ Some v → length ks + height v ≤ height d
resolve_low [] d v h = let same : d ≡ v = cc in rw same (omega arith)
resolve_low (k ∷ ks) d v h = resolved_low (child_named k d) ks v (height d) h (λ c found. child_lower k d c found) (λ c found. resolve_low ks c v found)
