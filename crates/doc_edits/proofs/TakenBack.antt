-- One operation taken back.
use Rattle.std.proofs.Common.{◌≡◌, ℕ, zero, suc, ◌^◌, ◌<◌, List, [], ◌∷◌, Option, Some, None, option_map, option_and_then, true, false, Bool, cond, Ordering, Less, Equal, Greater, nat_cmp, decimal, if◌then◌else◌, refl, sym, ap, ◌∙◌, arith}
use Rattle.std.specs.Cmp.Lexicographic.{slice_cmp}
use Rattle.std.specs.Ordering.{match_ordering}
use Rattle.std.specs.Str.{bytes_eq}
use Rattle.doc_tree.specs.Doc.{Doc, list, object, Elements, no_elements, element, Members, no_members, member, put, get_member, get_element}
use Rattle.doc_pointer.specs.Place.{child_named, resolve}
use Rattle.doc_edits.specs.Change.{value_at}
use Rattle.doc_edits.specs.Back.{exchanged}
use Rattle.doc_edits.specs.Keeping.{LeadsBack, end_at, with_last}
use Rattle.doc_edits.proofs.Growths.{value_at-resolve}
use Rattle.doc_edits.specs.Edit as edit
use Rattle.doc_edits.specs.Edit.{Token, Tokens, member_at, elements_len, index_below, insert_element, append_element, remove_element, set_element, cut, set_member, with_child, in_child, at_last, put_or_set, add_here, add_item, dash, replace_here, replace_member, replace_item, remove_here, remove_member, remove_item}
use Rattle.doc_edits.proofs.Again.{in_found}
use Rattle.doc_edits.proofs.Children.{child_set, child_twice, equal, get_put}
use Rattle.doc_edits.proofs.Heights.{in_child_steps, mapped}
use Rattle.doc_edits.proofs.Indices.{child_named-list, index_below_at}
use Rattle.doc_edits.proofs.Places.{replaced_here, inserted_at, item_there, member_there, one_step}
use Rattle.doc_edits.proofs.Same.{child_same}

-- ---- what replaced a value is replaced by it

write_here : (v c : Doc) (t : Token) (d : Doc) → child_named t d ≡ Some c → replace_here v t d ≡ Some (with_child t v d)
write_here v c t (object ms) h = ap (λ o. option_map object (option_map (λ _. set_member t v ms) o)) h
write_here v c t (list ds) h = go (index_below (elements_len ds) t) refl (sym (child_named-list t ds) ∙ h)
  where
    go : (o : Option ℕ) → index_below (elements_len ds) t ≡ o → option_and_then (λ i. get_element i ds) o ≡ Some c → replace_here v t (list ds) ≡ Some (with_child t v (list ds))
    go None at k = absurd (cc)
    go (Some i) at k = ap (λ o. option_map list (option_map (λ j. set_element j v ds) o)) at ∙ ap (λ o. Some (list (edit.set_at o v ds))) (sym at)
write_here v c t _ h = absurd (cc)

-- a change of a child is taken back in it
pub in_back : (f g : Doc → Option Doc) (t : Token) (d e : Doc) → in_child t f d ≡ Some e → ((child new : Doc) → child_named t d ≡ Some child → f child ≡ Some new → g new ≡ Some child) → in_child t g e ≡ Some d
in_back f g t d e h back =
    let s = in_child_steps t f d e h in
    let there = child_set t s.new s.child d s.found in
    ap (in_child t g) s.whole ∙ in_found g t (with_child t s.new d) s.new s.child there (back s.child s.new s.found s.made) ∙ ap Some (child_twice t s.child s.new d ∙ child_same t s.child d s.found)

back_at_last : (v c : Doc) (t : Token) (ts : Tokens) (d e : Doc) → at_last (replace_here v) t ts d ≡ Some e → value_at t ts d ≡ Some c → at_last (replace_here c) t ts e ≡ Some d
back_at_last v c t [] d e h at =
    let r = replaced_here v t d e h in
    ap (replace_here c t) r.2 ∙ write_here c v t (with_child t v d) (child_set t v r.0 d r.1) ∙ ap Some (child_twice t c v d ∙ child_same t c d at)
back_at_last v c t (u ∷ us) d e h at =
    in_back (at_last (replace_here v) u us) (at_last (replace_here c) u us) t d e h
    (λ child new found made. back_at_last v c u us child new made (sym (ap (option_and_then (value_at u us)) found) ∙ at))

stood_there : (v : Doc) (t : Token) (ts : Tokens) (d e : Doc) → at_last (replace_here v) t ts d ≡ Some e → (c : Doc) × (value_at t ts d ≡ Some c)
stood_there v t [] d e h = let r = replaced_here v t d e h in (r.0, r.1)
stood_there v t (u ∷ us) d e h =
    let s = in_child_steps t (at_last (replace_here v) u us) d e h in
    let r = stood_there v u us s.child s.new s.made in
    (r.0, ap (option_and_then (value_at u us)) s.found ∙ r.1)

-- a replacement is taken back by the value that stood there
replaced_back : (path : Tokens) (v c d e : Doc) → edit.replace path v d ≡ Some e → resolve path d ≡ Some c → edit.replace path c e ≡ Some d
replaced_back [] v c d e h at = let same : d ≡ c = cc in ap Some (sym same)
replaced_back (t ∷ ts) v c d e h at = back_at_last v c t ts d e h (value_at-resolve t ts d ∙ at)

-- nothing is replaced where nothing stands
nothing_replaced : (path : Tokens) (v d e : Doc) → resolve path d ≡ None → edit.replace path v d ≡ Some e → ⊥
nothing_replaced [] v d e none h = absurd (cc)
nothing_replaced (t ∷ ts) v d e none h =
    let r = stood_there v t ts d e h in
    let clash : None ≡ Some r.0 = sym none ∙ sym (value_at-resolve t ts d) ∙ r.1 in
    absurd (cc)

pub replacement_back : (path : Tokens) (v d e : Doc) → edit.replace path v d ≡ Some e → exchanged path (resolve path d) e ≡ Some d
replacement_back path v d e h = go (resolve path d) refl
  where
    go : (o : Option Doc) → resolve path d ≡ o → exchanged path o e ≡ Some d
    go None none = absurd (nothing_replaced path v d e none h)
    go (Some c) at = replaced_back path v c d e h at

-- ---- what was added goes

cut_put_at : (o : Ordering) (k l : List ℕ) (v d : Doc) (ms ns : Members) → slice_cmp nat_cmp k l ≡ o → match_ordering o (get_member k ms) (Some d) (get_member k ms) ≡ None → (get_member k ms ≡ None → cut k ns ≡ ms)
    → cut k (match_ordering o (member k v (member l d ms)) (member l v ms) (member l d ns)) ≡ member l d ms
cut_put_at Less k l v d ms ns is none rest = rw (equal k) refl
cut_put_at Equal k l v d ms ns is none rest = absurd (cc)
cut_put_at Greater k l v d ms ns is none rest = rw is (ap (member l d) (rest none))

cut_put : (k : List ℕ) (v : Doc) (ms : Members) → get_member k ms ≡ None → cut k (put k v ms) ≡ ms
cut_put k v no_members none = rw (equal k) refl
cut_put k v (member l d ms) none = cut_put_at (slice_cmp nat_cmp k l) k l v d ms (put k v ms) refl none (cut_put k v ms)

inserted_gone : (i : ℕ) (v : Doc) (ds es : Elements) → insert_element i v ds ≡ Some es → remove_element i es ≡ Some ds
inserted_gone zero v ds es h = let is : element v ds ≡ es = cc in rw (sym is) refl
inserted_gone (suc i) v no_elements es h = absurd (cc)
inserted_gone (suc i) v (element d ds) es h =
    let m = mapped (element d) (insert_element i v ds) es h in
    rw (m.2) (ap (option_map (element d)) (inserted_gone i v ds m.0 m.1))

appended_len : (v : Doc) (ds : Elements) → elements_len (append_element v ds) ≡ suc (elements_len ds)
appended_len v no_elements = refl
appended_len v (element d ds) = ap (λ n. suc n) (appended_len v ds)

appended_gone : (v : Doc) (ds : Elements) → remove_element (elements_len ds) (append_element v ds) ≡ Some ds
appended_gone v no_elements = refl
appended_gone v (element d ds) = ap (option_map (element d)) (appended_gone v ds)

appended_there : (v : Doc) (ds : Elements) → get_element (elements_len ds) (append_element v ds) ≡ Some v
appended_there v no_elements = refl
appended_there v (element d ds) = appended_there v ds

item_gone : (o : Option ℕ) (t : Token) (v : Doc) (ds es : Elements) → index_below (suc (elements_len ds)) t ≡ o → option_and_then (λ i. insert_element i v ds) o ≡ Some es → remove_item t es ≡ Some ds
item_gone None t v ds es at h = absurd (cc)
item_gone (Some i) t v ds es at h =
    let r = inserted_at i v ds es h in
    ap (λ n. option_and_then (λ j. remove_element j es) (index_below n t)) r.0 ∙ ap (option_and_then (λ j. remove_element j es)) at ∙ inserted_gone i v ds es h

-- in the child
below : {A : Type 0} (f : Token → Tokens → Doc → Option A) (o : Option A) (u : Token) (us : Tokens) (t : Token) (d child : Doc) → child_named t d ≡ Some child → option_and_then (f u us) (child_named t d) ≡ o → f u us child ≡ o
below f o u us t d child found is = sym (ap (option_and_then (f u us)) found) ∙ is

free_item : (b : Bool) (n : ℕ) (t : Token) (v : Doc) (ds es : Elements) → (if b then Some n else None) ≡ None → cond b (Some (append_element v ds)) (option_and_then (λ i. insert_element i v ds) (index_below (suc (elements_len ds)) t)) ≡ Some es
    → (remove_item t es ≡ Some ds) × (child_named t (list es) ≡ Some v)
free_item true n t v ds es far h = absurd (cc)
free_item false n t v ds es far h = (item_gone (index_below (suc (elements_len ds)) t) t v ds es refl h, item_there (index_below (suc (elements_len ds)) t) t v ds es refl h)

free_here : (v : Doc) (t : Token) (d e : Doc) → end_at t [] d ≡ None → member_at t [] d ≡ None → add_here v t d ≡ Some e → remove_here t e ≡ Some d
free_here v t (object ms) e far none h =
    let is : object (put t v ms) ≡ e = let put_it : Some (object (put_or_set (get_member t ms) v t ms)) ≡ Some (object (put t v ms)) = ap (λ o. Some (object (put_or_set o v t ms))) none in cc in
    ap (remove_here t) (sym is) ∙ ap (λ o. option_map object (option_map (λ _. cut t (put t v ms)) o)) (get_put t v ms) ∙ ap (λ x. Some (object x)) (cut_put t v ms none)
free_here v t (list ds) e far none h =
    let m = mapped list (add_item v t ds) e h in
    ap (remove_here t) m.2 ∙ ap (option_map list) (free_item (bytes_eq t dash) (elements_len ds) t v ds m.0 far m.1).0
free_here v t _ e far none h = absurd (cc)

free_back : (v : Doc) (t : Token) (ts : Tokens) (d e : Doc) → end_at t ts d ≡ None → member_at t ts d ≡ None → at_last (add_here v) t ts d ≡ Some e → at_last remove_here t ts e ≡ Some d
free_back v t [] d e far none h = free_here v t d e far none h
free_back v t (u ∷ us) d e far none h =
    in_back (at_last (add_here v) u us) (at_last remove_here u us) t d e h
    (λ child new found made. free_back v u us child new (below end_at None u us t d child found far) (below member_at None u us t d child found none) made)

-- ---- over a member

over_here : (v c : Doc) (t : Token) (d e : Doc) → member_at t [] d ≡ Some c → add_here v t d ≡ Some e → replace_here c t e ≡ Some d
over_here v c t (object ms) e some h =
    let is : with_child t v (object ms) ≡ e = let set_it : Some (object (put_or_set (get_member t ms) v t ms)) ≡ Some (object (set_member t v ms)) = ap (λ o. Some (object (put_or_set o v t ms))) some in cc in
    ap (replace_here c t) (sym is) ∙ write_here c v t (with_child t v (object ms)) (child_set t v c (object ms) some) ∙ ap Some (child_twice t c v (object ms) ∙ child_same t c (object ms) some)
over_here v c t _ e some h = absurd (cc)

over_back : (v c : Doc) (t : Token) (ts : Tokens) (d e : Doc) → member_at t ts d ≡ Some c → at_last (add_here v) t ts d ≡ Some e → at_last (replace_here c) t ts e ≡ Some d
over_back v c t [] d e some h = over_here v c t d e some h
over_back v c t (u ∷ us) d e some h =
    in_back (at_last (add_here v) u us) (at_last (replace_here c) u us) t d e h (λ child new found made. over_back v c u us child new (below member_at (Some c) u us t d child found some) made)

-- ---- what was added is there

-- what is found in the child is found from its parent
from_parent : (f : Doc → Option Doc) (t : Token) (ks : Tokens) (v d e : Doc) → in_child t f d ≡ Some e → ((child new : Doc) → child_named t d ≡ Some child → f child ≡ Some new → resolve ks new ≡ Some v) → resolve (t ∷ ks) e ≡ Some v
from_parent f t ks v d e h there =
    let s = in_child_steps t f d e h in
    ap (option_and_then (resolve ks)) (ap (child_named t) s.whole ∙ child_set t s.new s.child d s.found) ∙ there s.child s.new s.found s.made

there_here : (v : Doc) (t : Token) (d e : Doc) → end_at t [] d ≡ None → add_here v t d ≡ Some e → child_named t e ≡ Some v
there_here v t (object ms) e far h =
    let is : object (put_or_set (get_member t ms) v t ms) ≡ e = cc in
    ap (child_named t) (sym is) ∙ member_there (get_member t ms) t v ms refl
there_here v t (list ds) e far h =
    let m = mapped list (add_item v t ds) e h in
    ap (child_named t) m.2 ∙ (free_item (bytes_eq t dash) (elements_len ds) t v ds m.0 far m.1).1
there_here v t _ e far h = absurd (cc)

there_at_last : (v : Doc) (t : Token) (ts : Tokens) (d e : Doc) → end_at t ts d ≡ None → at_last (add_here v) t ts d ≡ Some e → resolve (t ∷ ts) e ≡ Some v
there_at_last v t [] d e far h = one_step t e v (there_here v t d e far h)
there_at_last v t (u ∷ us) d e far h = from_parent (at_last (add_here v) u us) t (u ∷ us) v d e h (λ child new found made. there_at_last v u us child new (below end_at None u us t d child found far) made)

-- an addition whose place isn't the end of an array is taken back at its place
pub leads_back : (t : Token) (ts : Tokens) (d : Doc) → end_at t ts d ≡ None → LeadsBack (t ∷ ts) (t ∷ ts) d
leads_back t ts d far = λ v e h. (there_at_last v t ts d e far h, go v e h (member_at t ts d) refl)
  where
    go : (v e : Doc) → at_last (add_here v) t ts d ≡ Some e → (o : Option Doc) → member_at t ts d ≡ o → exchanged (t ∷ ts) o e ≡ Some d
    go v e h None none = free_back v t ts d e far none h
    go v e h (Some c) some = over_back v c t ts d e some h

-- ---- at the end of an array

end_item : (b : Bool) (n : ℕ) (t : Token) (v : Doc) (ds es : Elements) → n < 2 ^ 64 → (if b then Some (elements_len ds) else None) ≡ Some n
    → cond b (Some (append_element v ds)) (option_and_then (λ i. insert_element i v ds) (index_below (suc (elements_len ds)) t)) ≡ Some es → (remove_item (decimal n) es ≡ Some ds) × (child_named (decimal n) (list es) ≡ Some v)
end_item false n t v ds es small far h = absurd (cc)
end_item true n t v ds es small far h =
    let len : elements_len ds ≡ n = cc in
    let is : append_element v ds ≡ es = cc in
    let here : elements_len es ≡ suc n = ap elements_len (sym is) ∙ appended_len v ds ∙ ap (λ m. suc m) len in
    let at : index_below (elements_len es) (decimal n) ≡ Some n = ap (λ m. index_below m (decimal n)) here ∙ index_below_at n (suc n) (decimal n) (omega (arith, small)) (omega arith) refl in (
      ap (option_and_then (λ j. remove_element j es)) at ∙ ap (λ m. remove_element m es) (sym len) ∙ ap (remove_element (elements_len ds)) (sym is) ∙ appended_gone v ds,
      child_named-list (decimal n) es ∙ ap (option_and_then (λ j. get_element j es)) at ∙ ap (λ m. get_element m es) (sym len) ∙ ap (get_element (elements_len ds)) (sym is) ∙ appended_there v ds,
    )

end_here : (v : Doc) (n : ℕ) (t : Token) (d e : Doc) → n < 2 ^ 64 → end_at t [] d ≡ Some n → add_here v t d ≡ Some e → (remove_here (decimal n) e ≡ Some d) × (child_named (decimal n) e ≡ Some v)
end_here v n t (list ds) e small far h =
    let m = mapped list (add_item v t ds) e h in
    let r = end_item (bytes_eq t dash) n t v ds m.0 small far m.1 in
    (ap (remove_here (decimal n)) m.2 ∙ ap (option_map list) r.0, ap (child_named (decimal n)) m.2 ∙ r.1)
end_here v n t _ e small far h = absurd (cc)

end_step : (k t u : Token) (us : Tokens) (e : Doc) → edit.remove (with_last k t (u ∷ us)) e ≡ in_child t (edit.remove (with_last k u us)) e
end_step k t u [] e = refl
end_step k t u (w ∷ ws) e = refl

end_back : (v : Doc) (n : ℕ) (t : Token) (ts : Tokens) (d e : Doc) → n < 2 ^ 64 → end_at t ts d ≡ Some n → at_last (add_here v) t ts d ≡ Some e → edit.remove (with_last (decimal n) t ts) e ≡ Some d
end_back v n t [] d e small far h = (end_here v n t d e small far h).0
end_back v n t (u ∷ us) d e small far h =
    end_step (decimal n) t u us e
    ∙ in_back (at_last (add_here v) u us) (edit.remove (with_last (decimal n) u us)) t d e h (λ child new found made. end_back v n u us child new small (below end_at (Some n) u us t d child found far) made)

end_there : (v : Doc) (n : ℕ) (t : Token) (ts : Tokens) (d e : Doc) → n < 2 ^ 64 → end_at t ts d ≡ Some n → at_last (add_here v) t ts d ≡ Some e → resolve (with_last (decimal n) t ts) e ≡ Some v
end_there v n t [] d e small far h = one_step (decimal n) e v (end_here v n t d e small far h).1
end_there v n t (u ∷ us) d e small far h =
    from_parent (at_last (add_here v) u us) t (with_last (decimal n) u us) v d e h (λ child new found made. end_there v n u us child new small (below end_at (Some n) u us t d child found far) made)

none_below : (n : ℕ) (u : Token) (us : Tokens) (o : Option Doc) → option_and_then (end_at u us) o ≡ Some n → ((c : Doc) → end_at u us c ≡ Some n → member_at u us c ≡ None) → option_and_then (member_at u us) o ≡ None
none_below n u us None h rest = refl
none_below n u us (Some c) h rest = rest c h

-- no member is there
end_is_free : (n : ℕ) (t : Token) (ts : Tokens) (d : Doc) → end_at t ts d ≡ Some n → member_at t ts d ≡ None
end_is_free n t [] (object ms) far = absurd (cc)
end_is_free n t [] _ far = refl
end_is_free n t (u ∷ us) d far = none_below n u us (child_named t d) far (end_is_free n u us)

-- an addition at the end of an array is taken back at the index that it took
pub end_leads_back : (n : ℕ) (t : Token) (ts : Tokens) (d : Doc) → n < 2 ^ 64 → end_at t ts d ≡ Some n → LeadsBack (with_last (decimal n) t ts) (t ∷ ts) d
end_leads_back n t ts d small far = λ v e h. (end_there v n t ts d e small far h, ap (λ o. exchanged (with_last (decimal n) t ts) o e) (end_is_free n t ts d far) ∙ end_back v n t ts d e small far h)
