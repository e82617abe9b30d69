-- What stands at places after a change.
use Rattle.std.proofs.Common.{◌≡◌, ℕ, zero, suc, [], ◌∷◌, Option, Some, None, option_map, option_and_then, Bool, true, false, true≢false, cond, refl, sym, ap, ◌∙◌}
use Rattle.std.proofs.lemmas.Slice.Eq.{bytes_eq-Decides}
use Rattle.std.specs.Str.{bytes_eq}
use Rattle.doc_tree.specs.Doc.{Doc, list, object, Elements, no_elements, element, Members, get_member, get_element}
use Rattle.doc_pointer.specs.Place.{child_named, resolve}
use Rattle.doc_pointer.proofs.Places.{element_named_dash}
use Rattle.doc_edits.specs.Edit as edit
use Rattle.doc_edits.specs.Edit.{Token, Tokens, elements_len, index_below, insert_element, append_element, remove_element, set_element, cut, set_member, with_child, in_child, at_last, put_or_set, add_here, add_item, dash, replace_here, replace_member, replace_item, remove_here, remove_member, remove_item}
use Rattle.doc_edits.specs.Edit.{ends_in_dash}
use Rattle.doc_edits.proofs.Children.{child_set, get_put, get_set}
use Rattle.doc_edits.proofs.Heights.{in_child_steps, known, mapped}
use Rattle.doc_edits.proofs.Indices.{child_named-list, element_at, index_below-below}

-- `-` names no element
pub no_dash : (b : Bool) (t : Token) (c : Doc) (ds : Elements) → bytes_eq t dash ≡ b → child_named t (list ds) ≡ Some c → b ≡ false
no_dash true t c ds is h =
    let at : t ≡ dash = (bytes_eq-Decides t dash).0 is in
    let none : child_named t (list ds) ≡ None = ap (λ (x : Token). child_named x (list ds)) at ∙ element_named_dash 0 ds in
    let clash : None ≡ Some c = sym none ∙ h in
    absurd (cc)
no_dash false t c ds is h = refl

-- ---- what was added is there

pub inserted_at : (i : ℕ) (v : Doc) (ds es : Elements) → insert_element i v ds ≡ Some es → (elements_len es ≡ suc (elements_len ds)) × (get_element i es ≡ Some v)
inserted_at zero v ds es h = let is : element v ds ≡ es = cc in rw (sym is) (refl, refl)
inserted_at (suc i) v no_elements es h = absurd (cc)
inserted_at (suc i) v (element d ds) es h =
    let m = mapped (element d) (insert_element i v ds) es h in
    let r = inserted_at i v ds m.0 m.1 in
    rw (m.2) (ap (λ n. suc n) r.0, r.1)

pub item_there : (o : Option ℕ) (t : Token) (v : Doc) (ds es : Elements) → index_below (suc (elements_len ds)) t ≡ o → option_and_then (λ i. insert_element i v ds) o ≡ Some es → child_named t (list es) ≡ Some v
item_there None t v ds es at h = absurd (cc)
item_there (Some i) t v ds es at h =
    let r = inserted_at i v ds es h in
    child_named-list t es ∙ ap (λ n. option_and_then (λ j. get_element j es) (index_below n t)) r.0 ∙ ap (option_and_then (λ j. get_element j es)) at ∙ r.1

added_item : (b : Bool) (t : Token) (v : Doc) (ds es : Elements) → b ≡ false → cond b (Some (append_element v ds)) (option_and_then (λ i. insert_element i v ds) (index_below (suc (elements_len ds)) t)) ≡ Some es → child_named t (list es) ≡ Some v
added_item true t v ds es plain h = absurd (true≢false plain)
added_item false t v ds es plain h = item_there (index_below (suc (elements_len ds)) t) t v ds es refl h

pub member_there : (o : Option Doc) (t : Token) (v : Doc) (ms : Members) → get_member t ms ≡ o → get_member t (put_or_set o v t ms) ≡ Some v
member_there None t v ms h = get_put t v ms
member_there (Some c) t v ms h = get_set t v c ms h

add_here_there : (v : Doc) (t : Token) (d e : Doc) → bytes_eq t dash ≡ false → add_here v t d ≡ Some e → child_named t e ≡ Some v
add_here_there v t (object ms) e plain h =
    let is : object (put_or_set (get_member t ms) v t ms) ≡ e = cc in
    rw (sym is) (member_there (get_member t ms) t v ms refl)
add_here_there v t (list ds) e plain h =
    let m = mapped list (add_item v t ds) e h in
    rw (m.2) (added_item (bytes_eq t dash) t v ds m.0 plain m.1)
add_here_there v t _ e plain h = absurd (cc)

pub one_step : (k : Token) (d v : Doc) → child_named k d ≡ Some v → resolve (k ∷ []) d ≡ Some v
one_step k d v h = ap (option_and_then (resolve [])) h

added_at_last : (v : Doc) (t : Token) (ts : Tokens) (d e : Doc) → ends_in_dash (t ∷ ts) ≡ false → at_last (add_here v) t ts d ≡ Some e → resolve (t ∷ ts) e ≡ Some v
added_at_last v t [] d e plain h = one_step t e v (add_here_there v t d e plain h)
added_at_last v t (u ∷ us) d e plain h =
    let s = in_child_steps t (at_last (add_here v) u us) d e h in
    let rest = added_at_last v u us s.child s.new plain s.made in
    ap (option_and_then (resolve (u ∷ us))) (ap (child_named t) s.whole ∙ child_set t s.new s.child d s.found) ∙ rest

pub added_is_there : (path : Tokens) (v d e : Doc) → ends_in_dash path ≡ false → edit.add path v d ≡ Some e → resolve path e ≡ Some v
added_is_there [] v d e plain h = sym h
added_is_there (t ∷ ts) v d e plain h = added_at_last v t ts d e plain h

-- ---- nothing but what was added is there

both_there : (o : Option Doc) (v w : Doc) → o ≡ Some v → o ≡ Some w → w ≡ v
both_there o v w h k = let same : Some v ≡ Some w = sym h ∙ k in cc

item_only : (b : Bool) (t : Token) (v w : Doc) (ds es : Elements) → bytes_eq t dash ≡ b → cond b (Some (append_element v ds)) (option_and_then (λ i. insert_element i v ds) (index_below (suc (elements_len ds)) t)) ≡ Some es
    → child_named t (list es) ≡ Some w → w ≡ v
item_only true t v w ds es is h k = absurd (true≢false (no_dash true t w es is k))
item_only false t v w ds es is h k = both_there (child_named t (list es)) v w (item_there (index_below (suc (elements_len ds)) t) t v ds es refl h) k

add_here_only : (v w : Doc) (t : Token) (d e : Doc) → add_here v t d ≡ Some e → child_named t e ≡ Some w → w ≡ v
add_here_only v w t (object ms) e h k =
    let is : object (put_or_set (get_member t ms) v t ms) ≡ e = cc in
    both_there (child_named t e) v w (rw (sym is) (member_there (get_member t ms) t v ms refl)) k
add_here_only v w t (list ds) e h k =
    let m = mapped list (add_item v t ds) e h in
    item_only (bytes_eq t dash) t v w ds m.0 refl m.1 (ap (child_named t) (sym m.2) ∙ k)
add_here_only v w t _ e h k = absurd (cc)

-- the value that one token leads to
one_child : (t : Token) (d w : Doc) → resolve (t ∷ []) d ≡ Some w → child_named t d ≡ Some w
one_child t d w h = go (child_named t d) h
  where
    go : (o : Option Doc) → option_and_then (resolve []) o ≡ Some w → o ≡ Some w
    go None k = k
    go (Some x) k = k

added_at_last_only : (v w : Doc) (t : Token) (ts : Tokens) (d e : Doc) → at_last (add_here v) t ts d ≡ Some e → resolve (t ∷ ts) e ≡ Some w → w ≡ v
added_at_last_only v w t [] d e h k = add_here_only v w t d e h (one_child t e w k)
added_at_last_only v w t (u ∷ us) d e h k =
    let s = in_child_steps t (at_last (add_here v) u us) d e h in
    let there = ap (option_and_then (resolve (u ∷ us))) (ap (child_named t) s.whole ∙ child_set t s.new s.child d s.found) in
    added_at_last_only v w u us s.child s.new s.made (sym there ∙ k)

-- what stands at the place of an addition, where anything does, is what was added
pub added_only : (path : Tokens) (v w d e : Doc) → edit.add path v d ≡ Some e → resolve path e ≡ Some w → w ≡ v
added_only [] v w d e h k = both_there (Some e) v w (sym h) k
added_only (t ∷ ts) v w d e h k = added_at_last_only v w t ts d e h k

-- ---- what a replacement is

-- a replacement is a write in place of a child
replaced_index : (o : Option ℕ) (t : Token) (v : Doc) (ds es : Elements) → index_below (elements_len ds) t ≡ o → option_map (λ i. set_element i v ds) o ≡ Some es → (c : Doc) × (child_named t (list ds) ≡ Some c) × (list es ≡ with_child t v (list ds))
replaced_index None t v ds es at h = absurd (cc)
replaced_index (Some i) t v ds es at h =
    let is : set_element i v ds ≡ es = cc in
    let there = element_at i ds (index_below-below (elements_len ds) t i at) in
    (there.0, child_named-list t ds ∙ ap (option_and_then (λ j. get_element j ds)) at ∙ there.1, sym (ap (λ o. list (edit.set_at o v ds)) at ∙ ap list is))

pub replaced_here : (v : Doc) (t : Token) (d e : Doc) → replace_here v t d ≡ Some e → (c : Doc) × (child_named t d ≡ Some c) × (e ≡ with_child t v d)
replaced_here v t (object ms) e h =
    let m = mapped object (replace_member v t ms) e h in
    let k = known (get_member t ms) (set_member t v ms) m.0 m.1 in
    (k.0, k.1, m.2 ∙ ap object (sym k.2))
replaced_here v t (list ds) e h =
    let m = mapped list (replace_item v t ds) e h in
    let r = replaced_index (index_below (elements_len ds) t) t v ds m.0 refl m.1 in
    (r.0, r.1, m.2 ∙ r.2)
replaced_here v t _ e h = absurd (cc)
