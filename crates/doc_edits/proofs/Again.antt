-- A replacement is a removal, then an addition.
use Rattle.std.proofs.Common.{◌≡◌, ℕ, zero, suc, List, [], ◌∷◌, Option, Some, None, option_map, option_and_then, Ordering, Less, Equal, Greater, nat_cmp, refl, sym, ap, ◌∙◌}
use Rattle.std.proofs.lemmas.Cmp.{nat_list_cmp_total}
use Rattle.std.specs.Cmp.Lexicographic.{slice_cmp}
use Rattle.std.specs.Ordering.{match_ordering}
use Rattle.std.specs.Str.{bytes_eq}
use Rattle.doc_tree.specs.Doc.{Doc, list, object, Elements, no_elements, element, Members, no_members, member, put, get_member, get_element}
use Rattle.doc_tree.specs.Sound.{IsBefore, IsSound, MembersAreSound}
use Rattle.doc_pointer.specs.Place.{child_named}
use Rattle.doc_edits.specs.Edit as edit
use Rattle.doc_edits.specs.Edit.{Token, Tokens, elements_len, index_below, insert_element, append_element, remove_element, set_element, cut, set_member, with_child, in_child, at_last, put_or_set, add_here, add_item, dash, replace_here, replace_member, replace_item, remove_here, remove_member, remove_item}
use Rattle.doc_edits.proofs.Children.{child_set, child_twice, tied}
use Rattle.doc_edits.proofs.Heights.{in_child_steps, known, mapped}
use Rattle.doc_edits.proofs.Indices.{child_named-list, element_at, index_below-below}
use Rattle.doc_edits.proofs.Places.{no_dash}
use Rattle.doc_edits.proofs.Soundness.{child_sound}

-- ---- in the object or array that holds the place

before_tied : (k l : List ℕ) (ms : Members) → slice_cmp nat_cmp k l ≡ Equal → IsBefore l ms → IsBefore k ms
before_tied k l no_members c h = tt
before_tied k l (member m d ms) c h = (nat_list_cmp_total.congr k l m c ∙ h.0, before_tied k l ms c h.1)

before_less : (k l : List ℕ) (ms : Members) → slice_cmp nat_cmp k l ≡ Less → IsBefore l ms → IsBefore k ms
before_less k l no_members c h = tt
before_less k l (member m d ms) c h = (nat_list_cmp_total.trans k l m c h.0, before_less k l ms c h.1)

absent : (k : List ℕ) (ms : Members) → IsBefore k ms → get_member k ms ≡ None
absent k no_members h = refl
absent k (member l d ms) h = rw (h.0) (absent k ms h.1)

put_first : (k : List ℕ) (v : Doc) (ms : Members) → IsBefore k ms → put k v ms ≡ member k v ms
put_first k v no_members h = refl
put_first k v (member l d ms) h = rw (h.0) refl

absent_cut_at : (o : Ordering) (k l : List ℕ) (d : Doc) (ms ns : Members) → slice_cmp nat_cmp k l ≡ o → IsBefore l ms → get_member k ns ≡ None → get_member k (match_ordering o (member l d ns) ms (member l d ns)) ≡ None
absent_cut_at Less k l d ms ns is b rest = rw is rest
absent_cut_at Equal k l d ms ns is b rest = absent k ms (before_tied k l ms is b)
absent_cut_at Greater k l d ms ns is b rest = rw is rest

pub absent_cut : (k : List ℕ) (ms : Members) → MembersAreSound ms → get_member k (cut k ms) ≡ None
absent_cut k no_members s = refl
absent_cut k (member l d ms) s = absent_cut_at (slice_cmp nat_cmp k l) k l d ms (cut k ms) refl s.2 (absent_cut k ms s.3)

put_cut_at : (o : Ordering) (k l : List ℕ) (v c d : Doc) (ms ns : Members) → slice_cmp nat_cmp k l ≡ o → IsBefore l ms → match_ordering o (get_member k ms) (Some d) (get_member k ms) ≡ Some c
    → (get_member k ms ≡ Some c → put k v ns ≡ set_member k v ms)
    → put k v (match_ordering o (member l d ns) ms (member l d ns)) ≡ match_ordering o (member l d (set_member k v ms)) (member l v ms) (member l d (set_member k v ms))
put_cut_at Less k l v c d ms ns is b h rest = let none = absent k ms (before_less k l ms is b) in let clash : None ≡ Some c = sym none ∙ h in absurd (cc)
put_cut_at Equal k l v c d ms ns is b h rest = put_first k v ms (before_tied k l ms is b) ∙ ap (λ (x : List ℕ). member x v ms) (tied k l is)
put_cut_at Greater k l v c d ms ns is b h rest = rw is (ap (member l d) (rest h))

pub put_cut : (k : List ℕ) (v c : Doc) (ms : Members) → MembersAreSound ms → get_member k ms ≡ Some c → put k v (cut k ms) ≡ set_member k v ms
put_cut k v c no_members s h = absurd (cc)
put_cut k v c (member l d ms) s h = put_cut_at (slice_cmp nat_cmp k l) k l v c d ms (cut k ms) refl s.2 h (put_cut k v c ms s.3)

pub removed_at : (i : ℕ) (v c : Doc) (ds : Elements) → get_element i ds ≡ Some c → (es : Elements) × (remove_element i ds ≡ Some es) × (suc (elements_len es) ≡ elements_len ds) × (insert_element i v es ≡ Some (set_element i v ds))
removed_at i v c no_elements h = absurd (cc)
removed_at zero v c (element d ds) h = (ds, refl, refl, refl)
removed_at (suc i) v c (element d ds) h =
    let r = removed_at i v c ds h in
    (element d r.0, ap (option_map (element d)) r.1, ap (λ n. suc n) r.2, ap (option_map (element d)) r.3)

item_again : (o : Option ℕ) (t : Token) (v : Doc) (ds es : Elements) → index_below (elements_len ds) t ≡ o → option_map (λ i. set_element i v ds) o ≡ Some es
    → (fs : Elements) × (option_and_then (λ i. remove_element i ds) o ≡ Some fs) × (add_item v t fs ≡ Some es)
item_again None t v ds es at h = absurd (cc)
item_again (Some i) t v ds es at h =
    let is : set_element i v ds ≡ es = cc in
    let there = element_at i ds (index_below-below (elements_len ds) t i at) in
    let r = removed_at i v there.0 ds there.1 in
    let found : child_named t (list ds) ≡ Some there.0 = child_named-list t ds ∙ ap (option_and_then (λ j. get_element j ds)) at ∙ there.1 in
    let plain = no_dash (bytes_eq t dash) t there.0 ds refl found in
    let index : index_below (suc (elements_len r.0)) t ≡ Some i = ap (λ n. index_below n t) r.2 ∙ at in
    (r.0, r.1, rw (plain, index) (r.3 ∙ ap Some is))

pub again_here : (v : Doc) (t : Token) (d e : Doc) → IsSound d → replace_here v t d ≡ Some e → (a : Doc) × (remove_here t d ≡ Some a) × (add_here v t a ≡ Some e)
again_here v t (object ms) e s h =
    let m = mapped object (replace_member v t ms) e h in
    let k = known (get_member t ms) (set_member t v ms) m.0 m.1 in
    let gone : remove_here t (object ms) ≡ Some (object (cut t ms)) = ap (λ o. option_map object (option_map (λ _. cut t ms) o)) k.1 in
    let none = absent_cut t ms s in
    let back : add_here v t (object (cut t ms)) ≡ Some e = ap (λ o. Some (object (put_or_set o v t (cut t ms)))) none ∙ ap (λ x. Some (object x)) (put_cut t v k.0 ms s k.1 ∙ k.2) ∙ ap Some (sym m.2) in
    (object (cut t ms), gone, back)
again_here v t (list ds) e s h =
    let m = mapped list (replace_item v t ds) e h in
    let r = item_again (index_below (elements_len ds) t) t v ds m.0 refl m.1 in
    (list r.0, ap (option_map list) r.1, ap (option_map list) r.2 ∙ ap Some (sym m.2))
again_here v t _ e s h = absurd (cc)

-- ---- at the place

pub in_found : (f : Doc → Option Doc) (t : Token) (d c new : Doc) → child_named t d ≡ Some c → f c ≡ Some new → in_child t f d ≡ Some (with_child t new d)
in_found f t d c new found made = ap (option_and_then (λ e. option_map (λ n. with_child t n d) (f e))) found ∙ ap (option_map (λ n. with_child t n d)) made

again_at_last : (v : Doc) (t : Token) (ts : Tokens) (d e : Doc) → IsSound d → at_last (replace_here v) t ts d ≡ Some e → (a : Doc) × (at_last remove_here t ts d ≡ Some a) × (at_last (add_here v) t ts a ≡ Some e)
again_at_last v t [] d e s h = again_here v t d e s h
again_at_last v t (u ∷ us) d e s h =
    let step = in_child_steps t (at_last (replace_here v) u us) d e h in
    let r = again_at_last v u us step.child step.new (child_sound t d step.child step.found s) step.made in
    let gone = in_found (at_last remove_here u us) t d step.child r.0 step.found r.1 in
    let there = child_set t r.0 step.child d step.found in
    let back = in_found (at_last (add_here v) u us) t (with_child t r.0 d) r.0 step.new there r.2 in
    (with_child t r.0 d, gone, back ∙ ap Some (child_twice t step.new r.0 d ∙ sym step.whole))

pub replaced_again : (t : Token) (ts : Tokens) (v d e : Doc) → IsSound d → edit.replace (t ∷ ts) v d ≡ Some e → option_and_then (edit.add (t ∷ ts) v) (edit.remove (t ∷ ts) d) ≡ Some e
replaced_again t ts v d e s h = let r = again_at_last v t ts d e s h in ap (option_and_then (edit.add (t ∷ ts) v)) r.1 ∙ r.2
