-- A value that went comes back to where it was, in the room that was kept for it.
use Rattle.std.proofs.Common.{◌≡◌, ℕ, suc, ◌<◌, ◌≤◌, Option, Some, None, option_map, option_and_then, Bool, true, ◌&&◌, nat_lt, is_none, if◌then◌else◌, Ordering, Less, Equal, Greater, nat_cmp, List, [], ◌∷◌, refl, sym, ap, ◌∙◌, arith}
use Rattle.std.proofs.lemmas.Bool.Decides.{nat_tests}
use Rattle.std.specs.Cmp.Lexicographic.{slice_cmp}
use Rattle.std.specs.Ordering.{match_ordering}
use Rattle.doc_tree.specs.Doc.{Doc, list, object, Elements, Members, no_members, member, put, get_member, get_element}
use Rattle.doc_tree.specs.Sound.{IsSound, MembersAreSound}
use Rattle.doc_pointer.specs.Place.{child_named}
use Rattle.doc_edits.specs.Back.{return_here}
use Rattle.doc_edits.specs.Change.{value_at}
use Rattle.doc_edits.specs.Edit.{Token, Tokens, at_last, cut, elements_len, index_below, insert_element, remove_element, remove_here, remove_item, set_at, set_element, set_member}
use Rattle.doc_edits.specs.Keeping.{last_of}
use Rattle.doc_edits.specs.Spare.{count, IsSpareIn, IsSpareAt, put_within, insert_within}
use Rattle.doc_edits.specs.declared.spare.Spare.{Spare}
use Rattle.doc_edits.specs.declared.spare.Spare.TheVariants.{Members as in_object, Elements as in_list}
use Rattle.doc_edits.proofs.Again.{absent_cut, put_cut, removed_at}
use Rattle.doc_edits.proofs.Heights.{mapped}
use Rattle.doc_edits.proofs.Indices.{child_named-list}
use Rattle.doc_edits.proofs.Same.{child_same}
use Rattle.doc_edits.proofs.Soundness.{child_sound}
use Rattle.doc_edits.proofs.TakenBack.{in_back}

-- ---- members

count_cut_at : (o : Ordering) (l : List ℕ) (c d : Doc) (g : Option Doc) (ms ns : Members) → match_ordering o g (Some d) g ≡ Some c → (g ≡ Some c → suc (count ns) ≡ count ms)
    → suc (count (match_ordering o (member l d ns) ms (member l d ns))) ≡ suc (count ms)
count_cut_at Less l c d g ms ns h rest = ap (λ n. suc n) (rest h)
count_cut_at Equal l c d g ms ns h rest = refl
count_cut_at Greater l c d g ms ns h rest = ap (λ n. suc n) (rest h)

count_cut : (k : List ℕ) (c : Doc) (ms : Members) → get_member k ms ≡ Some c → suc (count (cut k ms)) ≡ count ms
count_cut k c no_members h = absurd (cc)
count_cut k c (member l d ms) h = count_cut_at (slice_cmp nat_cmp k l) l c d (get_member k ms) ms (cut k ms) h (count_cut k c ms)

is_below : (m n : ℕ) → m < n → nat_lt m n ≡ true
is_below m n h = grind (arith, nat_tests, h)

both : {A : Type 0} (b c : Bool) (x : Option A) → b ≡ true → c ≡ true → (if b && c then x else None) ≡ x
both b c x e f = rw (e, f) refl

member_again : (n : ℕ) (k : List ℕ) (c : Doc) (ms : Members) → MembersAreSound ms → get_member k ms ≡ Some c → count ms ≤ n → put_within n c k (cut k ms) ≡ Some (set_member k c ms)
member_again n k c ms s h room =
    let len = count_cut k c ms h in
    both (nat_lt (count (cut k ms)) n) (is_none (get_member k (cut k ms))) (Some (put k c (cut k ms))) (is_below _ n (omega (arith, len, room))) (ap is_none (absent_cut k ms s))
    ∙ ap Some (put_cut k c c ms s h)

-- ---- elements

if_true : {A : Type 0} (b : Bool) (x : Option A) → b ≡ true → (if b then x else None) ≡ x
if_true b x e = rw e refl

item_again : (o : Option ℕ) (n : ℕ) (t : Token) (c : Doc) (ds es : Elements) → index_below (elements_len ds) t ≡ o → option_and_then (λ i. get_element i ds) o ≡ Some c → option_and_then (λ i. remove_element i ds) o ≡ Some es
    → elements_len ds ≤ n → (i : ℕ) × (index_below (elements_len ds) t ≡ Some i) × (insert_within n c t es ≡ Some (set_element i c ds))
item_again None n t c ds es at found gone room = absurd (cc)
item_again (Some i) n t c ds es at found gone room =
    let r = removed_at i c c ds found in
    let is : r.0 ≡ es = cc in
    let len : suc (elements_len es) ≡ elements_len ds = ap (λ x. suc (elements_len x)) (sym is) ∙ r.2 in
    let index : index_below (suc (elements_len es)) t ≡ Some i = ap (λ m. index_below m t) len ∙ at in
    (i, at, if_true (nat_lt (elements_len es) n) _ (is_below (elements_len es) n (omega (arith, len, room))) ∙ ap (option_and_then (λ j. insert_element j c es)) index ∙ ap (insert_element i c) (sym is) ∙ r.3)

-- ---- in the object or array that holds the place

returned_here : (s : Spare) (c : Doc) (t : Token) (d e : Doc) → IsSound d → IsSpareIn s d → remove_here t d ≡ Some e → child_named t d ≡ Some c → return_here t s c t e ≡ Some d
returned_here (in_object n) c t (object ms) e sound room h at =
    let gone : Some (object (cut t ms)) ≡ Some e = sym (ap (λ o. option_map object (option_map (λ _. cut t ms) o)) at) ∙ h in
    let is : object (cut t ms) ≡ e = cc in
    ap (return_here t (in_object n) c t) (sym is) ∙ ap (option_map object) (member_again n t c ms sound at room) ∙ ap Some (child_same t c (object ms) at)
returned_here (in_list n) c t (list ds) e sound room h at =
    let m = mapped list (remove_item t ds) e h in
    let r = item_again (index_below (elements_len ds) t) n t c ds m.0 refl (sym (child_named-list t ds) ∙ at) m.1 room in
    let same : list (set_element r.0 c ds) ≡ list ds = sym (ap (λ o. list (set_at o c ds)) r.1) ∙ child_same t c (list ds) at in
    ap (return_here t (in_list n) c t) m.2 ∙ ap (option_map list) r.2 ∙ ap Some same
returned_here (in_object n) c t (list ds) e sound room h at = absurd room
returned_here (in_list n) c t (object ms) e sound room h at = absurd room
returned_here s c t _ e sound room h at = absurd (cc)

-- ---- at the place

pub returned : (s : Spare) (c : Doc) (t : Token) (ts : Tokens) (d e : Doc) → IsSound d → IsSpareAt s t ts d → at_last remove_here t ts d ≡ Some e → value_at t ts d ≡ Some c → at_last (return_here (last_of t ts) s c) t ts e ≡ Some d
returned s c t [] d e sound room h at = returned_here s c t d e sound room h at
returned s c t (u ∷ us) d e sound room h at =
    in_back (at_last remove_here u us) (at_last (return_here (last_of u us) s c) u us) t d e h (λ child new found made.
    returned s c u us child new (child_sound t d child found sound) (room child found) made (sym (ap (option_and_then (value_at u us)) found) ∙ at))
