-- A change leaves a sound document sound.
use Rattle.std.proofs.Common.{◌≡◌, ℕ, zero, suc, List, [], ◌∷◌, Option, Some, None, option_map, option_and_then, Ordering, Less, Equal, Greater, Bool, true, false, cond, nat_cmp, String, Global, refl, sym, ap, ◌∙◌, subst}
use Rattle.std.proofs.lemmas.Cmp.{nat_list_cmp_total}
use Rattle.std.proofs.lemmas.Str.{IsUtf8-string_bytes}
use Rattle.std.specs.Cmp.Lexicographic.{slice_cmp}
use Rattle.std.specs.Ordering.{match_ordering, ordering_reverse}
use Rattle.std.specs.Prelude.{⊤}
use Rattle.std.specs.Str.{IsUtf8, bytes_eq}
use Rattle.doc_tree.specs.Doc.{Doc, list, object, Elements, no_elements, element, Members, no_members, member, put, get_member, get_element}
use Rattle.doc_tree.specs.Sound.{IsBefore, IsSound, AreSound, MembersAreSound}
use Rattle.doc_pointer.specs.Place.{child_named, resolve}
use Rattle.doc_edits.specs.Change.{tokens_of}
use Rattle.doc_edits.specs.Edit as edit
use Rattle.doc_edits.specs.Edit.{Token, Tokens, elements_len, index_below, insert_element, append_element, remove_element, set_element, cut, set_member, with_child, set_at, at_last, put_or_set, add_here, add_item, dash, replace_here, replace_member, replace_item, remove_here, remove_member, remove_item}
use Rattle.doc_edits.proofs.Heights.{Does, in_child_steps, mapped, known}
use Rattle.doc_edits.proofs.Indices.{child_named-list}

abbrev pub AreUtf8 : Tokens → Type 0
AreUtf8 [] = ⊤
AreUtf8 (t ∷ ts) = IsUtf8 t × AreUtf8 ts

pub AreUtf8-tokens_of : (xs : List (String Global)) → AreUtf8 (tokens_of xs)
AreUtf8-tokens_of [] = tt
AreUtf8-tokens_of (x ∷ xs) = (IsUtf8-string_bytes x, AreUtf8-tokens_of xs)

-- ---- what stands in a sound document is sound

element_sound : (i : ℕ) (c : Doc) (ds : Elements) → get_element i ds ≡ Some c → AreSound ds → IsSound c
element_sound i c no_elements h s = absurd (cc)
element_sound zero c (element d ds) h s = let same : d ≡ c = cc in subst IsSound same s.0
element_sound (suc i) c (element d ds) h s = element_sound i c ds h s.1

member_sound_at : (o : Ordering) (c d : Doc) (g : Option Doc) → match_ordering o g (Some d) g ≡ Some c → IsSound d → (g ≡ Some c → IsSound c) → IsSound c
member_sound_at Less c d g h s rest = rest h
member_sound_at Equal c d g h s rest = let same : d ≡ c = cc in subst IsSound same s
member_sound_at Greater c d g h s rest = rest h

member_sound : (k : List ℕ) (c : Doc) (ms : Members) → get_member k ms ≡ Some c → MembersAreSound ms → IsSound c
member_sound k c no_members h s = absurd (cc)
member_sound k c (member l d ms) h s = member_sound_at (slice_cmp nat_cmp k l) c d (get_member k ms) h s.1 (λ g. member_sound k c ms g s.3)

index_sound : (o : Option ℕ) (c : Doc) (ds : Elements) → option_and_then (λ i. get_element i ds) o ≡ Some c → AreSound ds → IsSound c
index_sound None c ds h s = absurd (cc)
index_sound (Some i) c ds h s = element_sound i c ds h s

pub child_sound : (t : Token) (d c : Doc) → child_named t d ≡ Some c → IsSound d → IsSound c
child_sound t (object ms) c h s = member_sound t c ms h s
child_sound t (list ds) c h s = index_sound (index_below (elements_len ds) t) c ds (sym (child_named-list t ds) ∙ h) s
child_sound t _ c h s = absurd (cc)

resolved_in : (o : Option Doc) (ks : Tokens) (v : Doc) → option_and_then (resolve ks) o ≡ Some v → (c : Doc) × (o ≡ Some c) × (resolve ks c ≡ Some v)
resolved_in None ks v h = absurd (cc)
resolved_in (Some c) ks v h = (c, refl, h)

pub resolve_sound : (ks : Tokens) (d v : Doc) → resolve ks d ≡ Some v → IsSound d → IsSound v
resolve_sound [] d v h s = let same : d ≡ v = cc in subst IsSound same s
resolve_sound (k ∷ ks) d v h s = let r = resolved_in (child_named k d) ks v h in resolve_sound ks r.0 v r.2 (child_sound k d r.0 r.1 s)

-- ---- after a write in a child

set_element_sound : (i : ℕ) (v : Doc) (ds : Elements) → IsSound v → AreSound ds → AreSound (set_element i v ds)
set_element_sound i v no_elements w s = tt
set_element_sound zero v (element d ds) w s = (w, s.1)
set_element_sound (suc i) v (element d ds) w s = (s.0, set_element_sound i v ds w s.1)

before_set_at : (o : Ordering) (j l : List ℕ) (v d : Doc) (ms ns : Members) → IsBefore j (member l d ms) → IsBefore j ns → IsBefore j (match_ordering o (member l d ns) (member l v ms) (member l d ns))
before_set_at Less j l v d ms ns h r = (h.0, r)
before_set_at Equal j l v d ms ns h r = (h.0, h.1)
before_set_at Greater j l v d ms ns h r = (h.0, r)

before_set : (j k : List ℕ) (v : Doc) (ms : Members) → IsBefore j ms → IsBefore j (set_member k v ms)
before_set j k v no_members h = tt
before_set j k v (member l d ms) h = before_set_at (slice_cmp nat_cmp k l) j l v d ms (set_member k v ms) h (before_set j k v ms h.1)

set_member_sound_at : (o : Ordering) (l : List ℕ) (v d : Doc) (ms ns : Members) → IsSound v → MembersAreSound (member l d ms) → IsBefore l ns → MembersAreSound ns
    → MembersAreSound (match_ordering o (member l d ns) (member l v ms) (member l d ns))
set_member_sound_at Less l v d ms ns w s b r = (s.0, s.1, b, r)
set_member_sound_at Equal l v d ms ns w s b r = (s.0, w, s.2, s.3)
set_member_sound_at Greater l v d ms ns w s b r = (s.0, s.1, b, r)

set_member_sound : (k : List ℕ) (v : Doc) (ms : Members) → IsSound v → MembersAreSound ms → MembersAreSound (set_member k v ms)
set_member_sound k v no_members w s = tt
set_member_sound k v (member l d ms) w s =
    set_member_sound_at (slice_cmp nat_cmp k l) l v d ms (set_member k v ms) w s (before_set l k v ms s.2) (set_member_sound k v ms w s.3)

set_at_sound : (o : Option ℕ) (v : Doc) (ds : Elements) → IsSound v → AreSound ds → AreSound (set_at o v ds)
set_at_sound None v ds w s = s
set_at_sound (Some i) v ds w s = set_element_sound i v ds w s

with_child_sound : (t : Token) (v d : Doc) → IsSound v → IsSound d → IsSound (with_child t v d)
with_child_sound t v (object ms) w s = set_member_sound t v ms w s
with_child_sound t v (list ds) w s = set_at_sound (index_below (elements_len ds) t) v ds w s
with_child_sound t v _ w s = s

-- what the last token does keeps a document sound
abbrev LeafSound : Does → Type 0
LeafSound f = (t : Token) (d e : Doc) → IsUtf8 t → f t d ≡ Some e → IsSound d → IsSound e

at_last_sound : (f : Does) → LeafSound f → (t : Token) (ts : Tokens) (d e : Doc) → IsUtf8 t → AreUtf8 ts → at_last f t ts d ≡ Some e → IsSound d → IsSound e
at_last_sound f leaf t [] d e u us h s = leaf t d e u h s
at_last_sound f leaf t (v ∷ vs) d e u us h s =
    let step = in_child_steps t (at_last f v vs) d e h in
    let new = at_last_sound f leaf v vs step.child step.new us.0 us.1 step.made (child_sound t d step.child step.found s) in
    subst IsSound (sym step.whole) (with_child_sound t step.new d new s)

-- ---- at the last token

insert_sound : (i : ℕ) (v : Doc) (ds es : Elements) → insert_element i v ds ≡ Some es → IsSound v → AreSound ds → AreSound es
insert_sound zero v ds es h w s = let same : element v ds ≡ es = cc in subst AreSound same (w, s)
insert_sound (suc i) v no_elements es h w s = absurd (cc)
insert_sound (suc i) v (element d ds) es h w s =
    let m = mapped (element d) (insert_element i v ds) es h in
    subst AreSound (sym m.2) (s.0, insert_sound i v ds m.0 m.1 w s.1)

append_sound : (v : Doc) (ds : Elements) → IsSound v → AreSound ds → AreSound (append_element v ds)
append_sound v no_elements w s = (w, tt)
append_sound v (element d ds) w s = (s.0, append_sound v ds w s.1)

remove_element_sound : (i : ℕ) (ds es : Elements) → remove_element i ds ≡ Some es → AreSound ds → AreSound es
remove_element_sound i no_elements es h s = absurd (cc)
remove_element_sound zero (element d ds) es h s = let same : ds ≡ es = cc in subst AreSound same s.1
remove_element_sound (suc i) (element d ds) es h s =
    let m = mapped (element d) (remove_element i ds) es h in
    subst AreSound (sym m.2) (s.0, remove_element_sound i ds m.0 m.1 s.1)

before_later : (j k : List ℕ) (ms : Members) → slice_cmp nat_cmp j k ≡ Less → IsBefore k ms → IsBefore j ms
before_later j k no_members less h = tt
before_later j k (member l d ms) less h = (nat_list_cmp_total.trans j k l less h.0, before_later j k ms less h.1)

before_put_at : (o : Ordering) (j k l : List ℕ) (v d : Doc) (ms ns : Members) → slice_cmp nat_cmp j k ≡ Less → IsBefore j (member l d ms) → IsBefore j ns
    → IsBefore j (match_ordering o (member k v (member l d ms)) (member l v ms) (member l d ns))
before_put_at Less j k l v d ms ns less h r = (less, (h.0, h.1))
before_put_at Equal j k l v d ms ns less h r = (h.0, h.1)
before_put_at Greater j k l v d ms ns less h r = (h.0, r)

before_put : (j k : List ℕ) (v : Doc) (ms : Members) → slice_cmp nat_cmp j k ≡ Less → IsBefore j ms → IsBefore j (put k v ms)
before_put j k v no_members less h = (less, tt)
before_put j k v (member l d ms) less h = before_put_at (slice_cmp nat_cmp k l) j k l v d ms (put k v ms) less h (before_put j k v ms less h.1)

put_sound_at : (o : Ordering) (k l : List ℕ) (v d : Doc) (ms ns : Members) → slice_cmp nat_cmp k l ≡ o → IsUtf8 k → IsSound v → MembersAreSound (member l d ms)
    → (slice_cmp nat_cmp l k ≡ Less → IsBefore l ns) → MembersAreSound ns → MembersAreSound (match_ordering o (member k v (member l d ms)) (member l v ms) (member l d ns))
put_sound_at Less k l v d ms ns is u w s b r = (u, w, (is, before_later k l ms is s.2), s)
put_sound_at Equal k l v d ms ns is u w s b r = (s.0, w, s.2, s.3)
put_sound_at Greater k l v d ms ns is u w s b r = (s.0, s.1, b (nat_list_cmp_total.antisymm l k ∙ ap ordering_reverse is), r)

put_sound : (k : List ℕ) (v : Doc) (ms : Members) → IsUtf8 k → IsSound v → MembersAreSound ms → MembersAreSound (put k v ms)
put_sound k v no_members u w s = (u, w, tt, tt)
put_sound k v (member l d ms) u w s =
    put_sound_at (slice_cmp nat_cmp k l) k l v d ms (put k v ms) refl u w s (λ less. before_put l k v ms less s.2) (put_sound k v ms u w s.3)

put_or_set_sound : (o : Option Doc) (k : List ℕ) (v : Doc) (ms : Members) → IsUtf8 k → IsSound v → MembersAreSound ms → MembersAreSound (put_or_set o v k ms)
put_or_set_sound None k v ms u w s = put_sound k v ms u w s
put_or_set_sound (Some c) k v ms u w s = set_member_sound k v ms w s

before_cut_at : (o : Ordering) (j l : List ℕ) (d : Doc) (ms ns : Members) → IsBefore j (member l d ms) → IsBefore j ns → IsBefore j (match_ordering o (member l d ns) ms (member l d ns))
before_cut_at Less j l d ms ns h r = (h.0, r)
before_cut_at Equal j l d ms ns h r = h.1
before_cut_at Greater j l d ms ns h r = (h.0, r)

before_cut : (j k : List ℕ) (ms : Members) → IsBefore j ms → IsBefore j (cut k ms)
before_cut j k no_members h = tt
before_cut j k (member l d ms) h = before_cut_at (slice_cmp nat_cmp k l) j l d ms (cut k ms) h (before_cut j k ms h.1)

cut_sound_at : (o : Ordering) (l : List ℕ) (d : Doc) (ms ns : Members) → MembersAreSound (member l d ms) → IsBefore l ns → MembersAreSound ns → MembersAreSound (match_ordering o (member l d ns) ms (member l d ns))
cut_sound_at Less l d ms ns s b r = (s.0, s.1, b, r)
cut_sound_at Equal l d ms ns s b r = s.3
cut_sound_at Greater l d ms ns s b r = (s.0, s.1, b, r)

cut_sound : (k : List ℕ) (ms : Members) → MembersAreSound ms → MembersAreSound (cut k ms)
cut_sound k no_members s = tt
cut_sound k (member l d ms) s = cut_sound_at (slice_cmp nat_cmp k l) l d ms (cut k ms) s (before_cut l k ms s.2) (cut_sound k ms s.3)

index_insert_sound : (o : Option ℕ) (v : Doc) (ds es : Elements) → option_and_then (λ i. insert_element i v ds) o ≡ Some es → IsSound v → AreSound ds → AreSound es
index_insert_sound None v ds es h w s = absurd (cc)
index_insert_sound (Some i) v ds es h w s = insert_sound i v ds es h w s

add_item_sound : (b : Bool) (o : Option ℕ) (v : Doc) (ds es : Elements) → cond b (Some (append_element v ds)) (option_and_then (λ i. insert_element i v ds) o) ≡ Some es → IsSound v → AreSound ds → AreSound es
add_item_sound true o v ds es h w s = let same : append_element v ds ≡ es = cc in subst AreSound same (append_sound v ds w s)
add_item_sound false o v ds es h w s = index_insert_sound o v ds es h w s

add_here_sound : (v : Doc) → IsSound v → LeafSound (add_here v)
add_here_sound v w t (object ms) e u h s =
    let same : object (put_or_set (get_member t ms) v t ms) ≡ e = cc in
    subst IsSound same (put_or_set_sound (get_member t ms) t v ms u w s)
add_here_sound v w t (list ds) e u h s =
    let m = mapped list (add_item v t ds) e h in
    subst IsSound (sym m.2) (add_item_sound (bytes_eq t dash) (index_below (suc (elements_len ds)) t) v ds m.0 m.1 w s)
add_here_sound v w t _ e u h s = absurd (cc)

set_index_sound : (o : Option ℕ) (v : Doc) (ds es : Elements) → option_map (λ i. set_element i v ds) o ≡ Some es → IsSound v → AreSound ds → AreSound es
set_index_sound None v ds es h w s = absurd (cc)
set_index_sound (Some i) v ds es h w s = let same : set_element i v ds ≡ es = cc in subst AreSound same (set_element_sound i v ds w s)

replace_here_sound : (v : Doc) → IsSound v → LeafSound (replace_here v)
replace_here_sound v w t (object ms) e u h s =
    let m = mapped object (replace_member v t ms) e h in
    let k = known (get_member t ms) (set_member t v ms) m.0 m.1 in
    subst IsSound (sym m.2) (subst MembersAreSound k.2 (set_member_sound t v ms w s))
replace_here_sound v w t (list ds) e u h s =
    let m = mapped list (replace_item v t ds) e h in
    subst IsSound (sym m.2) (set_index_sound (index_below (elements_len ds) t) v ds m.0 m.1 w s)
replace_here_sound v w t _ e u h s = absurd (cc)

remove_index_sound : (o : Option ℕ) (ds es : Elements) → option_and_then (λ i. remove_element i ds) o ≡ Some es → AreSound ds → AreSound es
remove_index_sound None ds es h s = absurd (cc)
remove_index_sound (Some i) ds es h s = remove_element_sound i ds es h s

remove_here_sound : LeafSound remove_here
remove_here_sound t (object ms) e u h s =
    let m = mapped object (remove_member t ms) e h in
    let k = known (get_member t ms) (cut t ms) m.0 m.1 in
    subst IsSound (sym m.2) (subst MembersAreSound k.2 (cut_sound t ms s))
remove_here_sound t (list ds) e u h s =
    let m = mapped list (remove_item t ds) e h in
    subst IsSound (sym m.2) (remove_index_sound (index_below (elements_len ds) t) ds m.0 m.1 s)
remove_here_sound t _ e u h s = absurd (cc)

-- ---- the changes

pub add_sound : (path : Tokens) (v d e : Doc) → edit.add path v d ≡ Some e → AreUtf8 path → IsSound v → IsSound d → IsSound e
add_sound [] v d e h us w s = let same : v ≡ e = cc in subst IsSound same w
add_sound (t ∷ ts) v d e h us w s = at_last_sound (add_here v) (add_here_sound v w) t ts d e us.0 us.1 h s

pub replace_sound : (path : Tokens) (v d e : Doc) → edit.replace path v d ≡ Some e → AreUtf8 path → IsSound v → IsSound d → IsSound e
replace_sound [] v d e h us w s = let same : v ≡ e = cc in subst IsSound same w
replace_sound (t ∷ ts) v d e h us w s = at_last_sound (replace_here v) (replace_here_sound v w) t ts d e us.0 us.1 h s

pub remove_sound : (path : Tokens) (d e : Doc) → edit.remove path d ≡ Some e → AreUtf8 path → IsSound d → IsSound e
remove_sound [] d e h us s = absurd (cc)
remove_sound (t ∷ ts) d e h us s = at_last_sound remove_here remove_here_sound t ts d e us.0 us.1 h s
