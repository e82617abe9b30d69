-- A document agrees with the one before but for a list in which an element came or went.
use Rattle.std.proofs.Common.{◌≡◌, ℕ, zero, suc, ◌<◌, ◌≤◌, inl, inr, List, [], ◌∷◌, ◌++◌, length, Option, Some, None, Ok, Bool, true, false, cond, refl, sym, ap, subst, ◌∙◌, arith}
use Rattle.std.specs.Option.{option_and_then}
use Rattle.std.specs.Prelude.{IfSome, String}
use Rattle.std.specs.Str.{bytes_eq}
use Rattle.std.specs.declared.alloc.Global.{Global}
use Rattle.doc_tree.specs.Doc.{Doc, null, boolean, int, text, list, object, Elements, no_elements, element, Place, index, child, get_element}
use Rattle.doc_tree.specs.TreeView.{elements_view}
use Rattle.doc_tree.specs.declared.tree.Tree.{Tree}
use Rattle.doc_pointer.specs.Place.{child_named, resolve}
use Rattle.doc_edits.specs.Change.{tokens_of}
use Rattle.doc_edits.specs.Edit as edit
use Rattle.doc_edits.specs.Edit.{Token, Tokens, add_here, add_item, at_last, append_element, dash, elements_len, in_child, index_below, insert_element, remove_element, remove_here, remove_item, remove_member}
use Rattle.doc_edits.specs.Operation as pure
use Rattle.doc_edits.specs.Operation.{Operation, change, or_missing}
use Rattle.doc_edits.proofs.Children.{child_set}
use Rattle.doc_edits.proofs.Heights.{Does, in_child_steps, mapped}
use Rattle.doc_edits.proofs.Indices.{elements_len-view}
use Rattle.doc_edits.proofs.Places.{inserted_at}
use Rattle.doc_patch.specs.Patch.{patch}
use Rattle.doc_patch.proofs.Untouched.{goes_on, was_there}
use Rattle.schema_changes.specs.Agree.{AgreeBeside, AgreeButShifted, AtBoth, HasOneMore, IsShifted}
use Rattle.patched_places.specs.Along.{end_places, on_child, on_place, place_named, places_along}
use Rattle.patched_places.specs.Shift.{IsLenAt, IsShiftAt, shifted_index}
use Rattle.patched_places.specs.declared.shift.Shift.{Shift}
use Rattle.patched_places.proofs.Agreeing.{Replaced, step}
use Rattle.patched_places.proofs.AtEnd.{added, at_tokens, taken}
use Rattle.patched_places.proofs.Beside.{removed_len}

-- ---- elements before and behind

-- the longer list has one element more, at the index
HasMore : ℕ → Elements → Elements → Type 0
HasMore i es ds = ((k : ℕ) → k < i → get_element k es ≡ get_element k ds) × ((k : ℕ) → i ≤ k → get_element (suc k) es ≡ get_element k ds)

one_before : (i : ℕ) (d : Doc) (es ds : Elements) → HasMore i es ds → (k : ℕ) → k < suc i → get_element k (element d es) ≡ get_element k (element d ds)
unfolding HasMore
one_before i d es ds h zero lt = refl
one_before i d es ds h (suc k) lt = h.0 k (omega arith)

one_behind : (i : ℕ) (d : Doc) (es ds : Elements) → HasMore i es ds → (k : ℕ) → suc i ≤ k → get_element (suc k) (element d es) ≡ get_element k (element d ds)
unfolding HasMore
one_behind i d es ds h zero le = absurd (omega arith)
one_behind i d es ds h (suc k) le = h.1 k (omega arith)

more_cons : (i : ℕ) (d : Doc) (es ds : Elements) → HasMore i es ds → HasMore (suc i) (element d es) (element d ds)
unfolding HasMore
more_cons i d es ds h = (one_before i d es ds h, one_behind i d es ds h)

more_first : (d : Doc) (ds : Elements) → HasMore zero (element d ds) ds
unfolding HasMore
more_first d ds = (λ k lt. absurd (omega arith), λ k le. refl)

inserted : (i : ℕ) (v : Doc) (ds es : Elements) → insert_element i v ds ≡ Some es → HasMore i es ds
inserted zero v ds es h = let same : element v ds ≡ es = cc in subst (λ l. HasMore zero l ds) same (more_first v ds)
inserted (suc i) v no_elements es h = absurd cc
inserted (suc i) v (element d ds) es h =
    let m = mapped (element d) (insert_element i v ds) es h in
    subst (λ l. HasMore (suc i) l (element d ds)) (sym m.2) (more_cons i d m.0 ds (inserted i v ds m.0 m.1))

removed : (i : ℕ) (ds es : Elements) → remove_element i ds ≡ Some es → HasMore i ds es
removed i no_elements es h = absurd cc
removed zero (element d ds) es h = let same : ds ≡ es = cc in subst (HasMore zero (element d ds)) same (more_first d ds)
removed (suc i) (element d ds) es h =
    let m = mapped (element d) (remove_element i ds) es h in
    subst (HasMore (suc i) (element d ds)) (sym m.2) (more_cons i d ds m.0 (removed i ds m.0 m.1))

one_more : (n i : ℕ) (es ds : Elements) → i ≡ n → HasMore i es ds → HasOneMore n (list es) (list ds)
unfolding HasMore
one_more n i es ds e h = subst (λ k. HasOneMore k (list es) (list ds)) e h

-- ---- at the last token

item_came : (o : Option ℕ) (n : ℕ) (t : Token) (v : Doc) (ds es : Elements) → index_below (suc (elements_len ds)) t ≡ o → option_and_then (λ i. insert_element i v ds) o ≡ Some es → index_below (elements_len es) t ≡ Some n → HasOneMore n (list es) (list ds)
item_came None n t v ds es at h k = absurd cc
item_came (Some i) n t v ds es at h k =
    let len : elements_len es ≡ suc (elements_len ds) = (inserted_at i v ds es h).0 in
    let both : Some i ≡ Some n = sym at ∙ ap (λ m. index_below m t) (sym len) ∙ k in
    let same : i ≡ n = cc in
    one_more n i es ds same (inserted i v ds es h)

item_went : (o : Option ℕ) (n : ℕ) (t : Token) (ds es : Elements) → index_below (elements_len ds) t ≡ o → option_and_then (λ i. remove_element i ds) o ≡ Some es → index_below (suc (elements_len es)) t ≡ Some n → HasOneMore n (list ds) (list es)
item_went None n t ds es at h k = absurd cc
item_went (Some i) n t ds es at h k =
    let both : Some i ≡ Some n = sym at ∙ ap (λ m. index_below m t) (removed_len i ds es h) ∙ k in
    let same : i ≡ n = cc in
    one_more n i ds es same (removed i ds es h)

by_dash : (b : Bool) (n : ℕ) (t : Token) (v : Doc) (ds es : Elements) → cond b (Some (append_element v ds)) (option_and_then (λ i. insert_element i v ds) (index_below (suc (elements_len ds)) t)) ≡ Some es → cond b None (index_below (elements_len es) t) ≡ Some n
    → HasOneMore n (list es) (list ds)
by_dash true n t v ds es h k = absurd cc
by_dash false n t v ds es h k = item_came (index_below (suc (elements_len ds)) t) n t v ds es refl h k

same_list : (es ds : Elements) → list es ≡ list ds → es ≡ ds
same_list es ds e = cc

came : (t : Token) (n : ℕ) (v d : Doc) (es : Elements) → shifted_index true (elements_len es) t ≡ Some n → add_here v t d ≡ Some (list es) → IsShifted (index n) d (list es)
came t n v (list ds) es k h =
    let m = mapped list (add_item v t ds) (list es) h in
    inl (by_dash (bytes_eq t dash) n t v ds es (m.1 ∙ ap Some (sym (same_list es m.0 m.2))) k)
came t n v (object ms) es k h = absurd cc
came t n v null es k h = absurd cc
came t n v (boolean b) es k h = absurd cc
came t n v (int z) es k h = absurd cc
came t n v (text s) es k h = absurd cc

went : (t : Token) (n : ℕ) (d : Doc) (es : Elements) → shifted_index false (elements_len es) t ≡ Some n → remove_here t d ≡ Some (list es) → IsShifted (index n) d (list es)
went t n (list ds) es k h =
    let m = mapped list (remove_item t ds) (list es) h in
    inr (item_went (index_below (elements_len ds) t) n t ds es refl (m.1 ∙ ap Some (sym (same_list es m.0 m.2))) k)
went t n (object ms) es k h = let m = mapped object (remove_member t ms) (list es) h in let wrong : list es ≡ object m.0 = m.2 in absurd cc
went t n null es k h = absurd cc
went t n (boolean b) es k h = absurd cc
went t n (int z) es k h = absurd cc
went t n (text s) es k h = absurd cc

-- ---- along the tokens

below_place : (p q : Place) (ps : List Place) (d e : Doc) → AgreeBeside p d e → AtBoth (AgreeButShifted (ps ++ q ∷ [])) (child p d) (child p e) → AgreeButShifted (p ∷ (ps ++ q ∷ [])) d e
below_place p q [] d e beside here = inr (beside, here)
below_place p q (r ∷ ps) d e beside here = inr (beside, here)

abbrev pub Way : Tokens → ℕ → Doc → List Place
Way ts n made = places_along (end_places None) ts made ++ index n ∷ []

one_down : (f : Doc → Option Doc) (u : Token) (us : Tokens) (n : ℕ) (es : Elements) (d made : Doc) → in_child u f d ≡ Some made → resolve (u ∷ us) made ≡ Some (list es)
    → ((c new : Doc) → f c ≡ Some new → resolve us new ≡ Some (list es) → AgreeButShifted (Way us n new) c new) → AgreeButShifted (Way (u ∷ us) n made) d made
one_down f u us n es d made h there below =
    let st = in_child_steps u f d made h in
    let s = step u d st.child st.new st.found in
    let was : Replaced s.0 d made st.child st.new = subst (λ x. Replaced s.0 d x st.child st.new) (sym st.whole) s.2 in
    let named : place_named u made ≡ Some s.0 = ap (place_named u) st.whole ∙ s.1 in
    let along : places_along (end_places None) (u ∷ us) made ≡ s.0 ∷ places_along (end_places None) us st.new = ap (λ o. on_place o made (places_along (end_places None) us)) named ∙ ap (λ o. on_child s.0 o (places_along (end_places None) us)) was.is in
    let down : child_named u made ≡ Some st.new = ap (child_named u) st.whole ∙ child_set u st.new st.child d st.found in
    let rest : resolve us st.new ≡ Some (list es) = sym (ap (option_and_then (resolve us)) down) ∙ there in
    let agree = below st.child st.new st.made rest in
    let here : AtBoth (AgreeButShifted (places_along (end_places None) us st.new ++ index n ∷ [])) (child s.0 d) (child s.0 made) = rw (was.was, was.is) agree in
    subst (λ ps. AgreeButShifted (ps ++ index n ∷ []) d made) (sym along) (below_place s.0 (index n) (places_along (end_places None) us st.new) d made was.beside here)

along : (f : Does) (t : Token) (ts : Tokens) (n : ℕ) (es : Elements) (d made : Doc) → ((c : Doc) → f t c ≡ Some (list es) → IsShifted (index n) c (list es)) → at_tokens f (ts ++ t ∷ []) d ≡ Some made → resolve ts made ≡ Some (list es) → AgreeButShifted (Way ts n made) d made
unfolding at_tokens
along f t [] n es d made leaf h there =
    let is : made ≡ list es = cc in
    subst (IsShifted (index n) d) (sym is) (leaf d (h ∙ there))
along f t (u ∷ []) n es d made leaf h there = one_down (at_last f t []) u [] n es d made h there (λ c new k r. along f t [] n es c new leaf k r)
along f t (u ∷ w ∷ ws) n es d made leaf h there = one_down (at_last f w (ws ++ t ∷ [])) u (w ∷ ws) n es d made h there (λ c new k r. along f t (w ∷ ws) n es c new leaf k r)

-- ---- an operation

abbrev pub Shifts : Option Shift → Operation → Doc → Type 0
Shifts o op made = IfSome o (λ s. (before : Doc) → change op before ≡ Ok made → AgreeButShifted (places_along (end_places None) (tokens_of s.holder.now) made ++ index s.index ∷ []) before made)

added_at : (path : Tokens) (s : Shift) (v before made : Doc) → IsShiftAt path true s made → edit.add path v before ≡ Some made → AgreeButShifted (Way (tokens_of s.holder.now) s.index made) before made
added_at path s v before made at h =
    along (add_here v) at.token (tokens_of s.holder.now) s.index at.elements before made (λ c k. came at.token s.index v c at.elements at.named k)
    (sym (ap (λ p. edit.add p v before) at.path_is ∙ added (tokens_of s.holder.now) at.token v before) ∙ h) at.holds

taken_at : (path : Tokens) (s : Shift) (before made : Doc) → IsShiftAt path false s made → edit.remove path before ≡ Some made → AgreeButShifted (Way (tokens_of s.holder.now) s.index made) before made
taken_at path s before made at h =
    along remove_here at.token (tokens_of s.holder.now) s.index at.elements before made (λ c k. went at.token s.index c at.elements at.named k)
    (sym (ap (λ p. edit.remove p before) at.path_is ∙ taken (tokens_of s.holder.now) at.token before) ∙ h) at.holds

remove_is : (path : Tokens) (before made : Doc) → change (pure.remove path) before ≡ Ok made → edit.remove path before ≡ Some made
remove_is [] before made h = absurd cc
remove_is (t ∷ ts) before made h = was_there (edit.remove (t ∷ ts) before) made h

pub add_shifts : (o : Option Shift) (path : Tokens) (v made : Doc) (op : Operation) → op ≡ pure.add path v → IfSome o (λ s. IsShiftAt path true s made) → Shifts o op made
add_shifts None path v made op is h = tt
add_shifts (Some s) path v made op is h = λ before k. added_at path s v before made h (was_there (edit.add path v before) made (sym (ap (λ x. change x before) is) ∙ k))

pub copy_shifts : (o : Option Shift) (from path : Tokens) (made : Doc) (op : Operation) → op ≡ pure.copy from path → IfSome o (λ s. IsShiftAt path true s made) → Shifts o op made
copy_shifts None from path made op is h = tt
copy_shifts (Some s) from path made op is h = λ before k.
    let g = goes_on (or_missing (resolve from before)) (λ v. or_missing (edit.add path v before)) made (sym (ap (λ x. change x before) is) ∙ k) in
    added_at path s g.0 before made h (was_there (edit.add path g.0 before) made g.2)

pub remove_shifts : (o : Option Shift) (path : Tokens) (made : Doc) (op : Operation) → op ≡ pure.remove path → IfSome o (λ s. IsShiftAt path false s made) → Shifts o op made
remove_shifts None path made op is h = tt
remove_shifts (Some s) path made op is h = λ before k. taken_at path s before made h (remove_is path before made (sym (ap (λ x. change x before) is) ∙ k))

pub only_shifts : (o : Option Shift) (os : List Operation) (op : Operation) (made : Doc) → ((d e : Doc) → patch os d ≡ Ok e → change op d ≡ Ok e) → Shifts o op made
    → IfSome o (λ s. (before : Doc) → patch os before ≡ Ok made → AgreeButShifted (places_along (end_places None) (tokens_of s.holder.now) made ++ index s.index ∷ []) before made)
only_shifts None os op made only h = tt
only_shifts (Some s) os op made only h = λ before k. h before (only before made k)

-- where the tokens end at a list
pub len_here : (tokens : List (String Global)) (d : Doc) (items : List Tree) (n : ℕ) → length tokens ≡ 0 → d ≡ list (elements_view items) → n ≡ length items → IsLenAt (tokens_of tokens) d n
len_here [] d items n e is len = (elements_view items, ap Some is, len ∙ sym (elements_len-view items))
len_here (t ∷ ts) d items n e is len = absurd (omega (arith, e))
