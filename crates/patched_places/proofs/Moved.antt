-- A value that moves between places of which neither holds the other changes its document at the one, and then at the other.
use Rattle.std.proofs.Common.{◌≡◌, ◌≢◌, ℕ, ◌⊎◌, inl, inr, List, [], ◌∷◌, ◌++◌, map, Vec, Option, Some, None, option_map, option_to_list, Ok, Bool, true, false, cond, refl, sym, ap, subst, ◌∙◌}
use Rattle.std.specs.Bool.{⊤}
use Rattle.std.specs.Option.{option_and_then}
use Rattle.std.specs.Cmp.Lexicographic.{pointwise}
use Rattle.std.specs.Prelude.{IfSome}
use Rattle.std.specs.Str.{bytes_eq}
use Rattle.std.specs.declared.alloc.Global.{Global}
use Rattle.doc_tree.specs.Doc.{Doc, null, boolean, int, text, list, object, Elements, Place, name, index, get_element, get_member}
use Rattle.doc_tree.specs.Place.{place_of}
use Rattle.doc_tree.specs.declared.tree.Step.{Step}
use Rattle.doc_pointer.specs.Place.{child_named, resolve}
use Rattle.doc_edits.specs.Change.{tokens_of}
use Rattle.doc_edits.specs.Edit as edit
use Rattle.doc_edits.specs.Edit.{Token, Tokens, add_here, add_item, at_last, elements_len, index_below, put_or_set, set_at, with_child}
use Rattle.doc_edits.specs.Operation as pure
use Rattle.doc_edits.specs.Operation.{Operation, and_then, change, moved, or_missing}
use Rattle.doc_edits.proofs.Children.{child_beside, child_set, set_element_len}
use Rattle.doc_edits.proofs.Heights.{in_child_steps, mapped}
use Rattle.doc_edits.proofs.Indices.{child_named-list}
use Rattle.doc_patch.specs.Patch.{patch}
use Rattle.doc_patch.proofs.Untouched.{goes_on, was_there}
use Rattle.schema_changes.specs.Agree.{AgreeOff, AgreeOffEach}
use Rattle.patched_places.specs.Along.{end_index, end_place, end_places, on_child, on_place, place_named, places_along}
use Rattle.patched_places.specs.Apart.{ArePartedIn, IsObject, LeavesOthers}
use Rattle.patched_places.specs.Moved.{AreEndsOf, moved_places}
use Rattle.patched_places.specs.declared.ends.End.{End}
use Rattle.patched_places.specs.declared.ends.Moved.{Moved}
use Rattle.patched_places.proofs.Agreeing.{same_agrees}
use Rattle.patched_places.proofs.AtEnd.{agrees_added, agrees_taken}
use Rattle.patched_places.proofs.Beside.{get_added}

-- ---- tokens name the same places in both

-- both are objects, or both lists of as many elements
abbrev SameKind : Doc → Doc → Type 0
SameKind (object ms) (object ns) = ⊤
SameKind (list ds) (list es) = elements_len ds ≡ elements_len es
SameKind _ _ = ⊥

kind_end : (e : End) (a b : Doc) → SameKind a b → end_place e a ≡ end_place e b
kind_end e (object ms) (object ns) k = refl
kind_end e (list ds) (list es) k = ap (λ n. option_map index (end_index e.is_there n e.token.now)) k
kind_end e _ _ k = absurd k

-- the children lead on alike: they are the same, or the way goes on alike from each
abbrev LeadAlike : (Doc → List Place) → Option Doc → Option Doc → Type 0
LeadAlike rest o p = (o ≡ p) ⊎ ((x y : Doc) × (o ≡ Some x) × (p ≡ Some y) × (rest x ≡ rest y))

on_alike : (rest : Doc → List Place) (q : Place) (o p : Option Doc) → LeadAlike rest o p → on_child q o rest ≡ on_child q p rest
on_alike rest q o p (inl e) = ap (λ c. on_child q c rest) e
on_alike rest q o p (inr h) = ap (λ c. on_child q c rest) h.2 ∙ ap (λ l. q ∷ l) h.4 ∙ sym (ap (λ c. on_child q c rest) h.3)

list_alike : (rest : Doc → List Place) (s : Token) (o : Option ℕ) (ds es : Elements) → index_below (elements_len ds) s ≡ o → index_below (elements_len es) s ≡ o → LeadAlike rest (child_named s (list ds)) (child_named s (list es))
    → on_place (place_named s (list ds)) (list ds) rest ≡ on_place (place_named s (list es)) (list es) rest
list_alike rest s None ds es at at' alike = ap (λ p. on_place (option_map index p) (list ds) rest) at ∙ sym (ap (λ p. on_place (option_map index p) (list es) rest) at')
list_alike rest s (Some i) ds es at at' alike =
    let there : child_named s (list ds) ≡ get_element i ds = child_named-list s ds ∙ ap (option_and_then (λ j. get_element j ds)) at in
    let there' : child_named s (list es) ≡ get_element i es = child_named-list s es ∙ ap (option_and_then (λ j. get_element j es)) at' in
    ap (λ p. on_place (option_map index p) (list ds) rest) at
    ∙ sym (ap (λ c. on_child (index i) c rest) there)
    ∙ on_alike rest (index i) (child_named s (list ds)) (child_named s (list es)) alike
    ∙ ap (λ c. on_child (index i) c rest) there'
    ∙ sym (ap (λ p. on_place (option_map index p) (list es) rest) at')

kind_alike : (end : Doc → List Place) (s : Token) (ss : Tokens) (a b : Doc) → SameKind a b → LeadAlike (places_along end ss) (child_named s a) (child_named s b) → places_along end (s ∷ ss) a ≡ places_along end (s ∷ ss) b
kind_alike end s ss (object ms) (object ns) k alike = on_alike (places_along end ss) (name s) (get_member s ms) (get_member s ns) alike
kind_alike end s ss (list ds) (list es) k alike = list_alike (places_along end ss) s (index_below (elements_len ds) s) ds es refl (ap (λ n. index_below n s) (sym k)) alike
kind_alike end s ss _ _ k alike = absurd k

-- ---- a child was replaced

set_at_len : (o : Option ℕ) (v : Doc) (ds : Elements) → elements_len ds ≡ elements_len (set_at o v ds)
set_at_len None v ds = refl
set_at_len (Some i) v ds = sym (set_element_len i v ds)

child_kind : (t : Token) (c new d : Doc) → child_named t d ≡ Some c → SameKind d (with_child t new d)
child_kind t c new (object ms) found = tt
child_kind t c new (list ds) found = set_at_len (index_below (elements_len ds) t) new ds
child_kind t c new null found = absurd cc
child_kind t c new (boolean b) found = absurd cc
child_kind t c new (int z) found = absurd cc
child_kind t c new (text s) found = absurd cc

-- ---- where the tokens part

-- an addition at another child leaves this one
record Left (s : Token) (a b : Doc) : Type 0 where
  pub kind : SameKind a b
  pub child : child_named s a ≡ child_named s b

left_here : (s t : Token) (v mid made : Doc) → s ≢ t → IsObject made → add_here v t mid ≡ Some made → Left s mid made
left_here s t v (object ms) made ne is h =
    let ns = put_or_set (get_member t ms) v t ms in
    let same : object ns ≡ made = cc in
    let others : get_member s ns ≡ get_member s ms = get_added (get_member t ms) t s v ms (λ e. ne (sym e)) in
    subst (Left s (object ms)) same (record { kind = tt; child = sym others })
left_here s t v (list ds) made ne is h =
    let m = mapped list (add_item v t ds) made h in
    absurd (subst IsObject m.2 is)
left_here s t v null made ne is h = absurd cc
left_here s t v (boolean b) made ne is h = absurd cc
left_here s t v (int z) made ne is h = absurd cc
left_here s t v (text k) made ne is h = absurd cc

left : (s t : Token) (ts : Tokens) (v mid made : Doc) → s ≢ t → LeavesOthers ts made → at_last (add_here v) t ts mid ≡ Some made → Left s mid made
left s t [] v mid made ne is h = left_here s t v mid made ne is h
left s t (u ∷ us) v mid made ne is h =
    let st = in_child_steps t (at_last (add_here v) u us) mid made h in
    subst (Left s mid) (sym st.whole) (record { kind = child_kind t st.child st.new mid st.found; child = sym (child_beside t s st.new mid (λ e. ne (sym e))) })

ends_parted : (ss : Tokens) (d : Doc) → ArePartedIn ss [] d → ⊥
ends_parted [] d h = h
ends_parted (s ∷ ss) d h = h

-- the way to the first place is the same before and after the addition at the second
same_way : (e : End) (v : Doc) (ss : Tokens) (t : Token) (ts : Tokens) (mid made : Doc) → ArePartedIn (ss ++ e.token.now ∷ []) (t ∷ ts) made → at_last (add_here v) t ts mid ≡ Some made
    → places_along (end_places (Some e)) ss mid ≡ places_along (end_places (Some e)) ss made
same_way e v [] t ts mid made (inl h) k = ap option_to_list (kind_end e mid made (left e.token.now t ts v mid made h.0 h.1 k).kind)
same_way e v [] t ts mid made (inr h) k = absurd h.3
same_way e v (s ∷ ss) t ts mid made (inl h) k =
    let l = left s t ts v mid made h.0 h.1 k in
    kind_alike (end_places (Some e)) s ss mid made l.kind (inl l.child)
same_way e v (s ∷ ss) t [] mid made (inr h) k = absurd (ends_parted (ss ++ e.token.now ∷ []) h.1 h.3)
same_way e v (s ∷ ss) t (u ∷ us) mid made (inr h) k =
    let st = in_child_steps t (at_last (add_here v) u us) mid made k in
    let there : child_named t made ≡ Some st.new = ap (child_named t) st.whole ∙ child_set t st.new st.child mid st.found in
    let both : Some h.1 ≡ Some st.new = sym h.2 ∙ there in
    let new_is : h.1 ≡ st.new = cc in
    let rest = same_way e v ss u us st.child st.new (subst (ArePartedIn (ss ++ e.token.now ∷ []) (u ∷ us)) new_is h.3) st.made in
    let was : child_named s mid ≡ Some st.child = ap (λ x. child_named x mid) h.0 ∙ st.found in
    let now : child_named s made ≡ Some st.new = ap (λ x. child_named x made) h.0 ∙ there in
    let kind : SameKind mid made = subst (SameKind mid) (sym st.whole) (child_kind t st.child st.new mid st.found) in
    kind_alike (end_places (Some e)) s ss mid made kind (inr (st.child, st.new, was, now, rest))

-- ---- a move

abbrev pub Both : Tokens → End → Tokens → End → Doc → List (List Place)
Both ts gone us came made = places_along (end_places (Some gone)) ts made ∷ places_along (end_places (Some came)) us made ∷ []

at_both : (from path ts us : Tokens) (gone came : End) (v before mid made : Doc) → from ≡ ts ++ gone.token.now ∷ [] → gone.is_there ≡ false → path ≡ us ++ came.token.now ∷ [] → came.is_there ≡ true → ArePartedIn from path made
    → edit.remove from before ≡ Some mid → edit.add path v mid ≡ Some made → AgreeOffEach (Both ts gone us came made) before made
at_both from [] ts us gone came v before mid made is went to is_there parted h k = absurd (ends_parted from made parted)
at_both from (t ∷ path) ts us gone came v before mid made is went to is_there parted h k =
    let way = same_way gone v ts t path mid made (subst (λ l. ArePartedIn l (t ∷ path) made) is parted) k in
    (mid, subst (λ ps. AgreeOff ps before mid) way (agrees_taken from ts gone before mid is went h), (made, agrees_added (t ∷ path) us came v mid made to is_there k, refl))

by_same : (b : Bool) (from path ts us : Tokens) (gone came : End) (v before made : Doc) → from ≡ ts ++ gone.token.now ∷ [] → gone.is_there ≡ false → path ≡ us ++ came.token.now ∷ [] → came.is_there ≡ true → ArePartedIn from path made
    → cond b (Ok before) (and_then (or_missing (edit.remove from before)) (λ e. or_missing (edit.add path v e))) ≡ Ok made → AgreeOffEach (Both ts gone us came made) before made
by_same true from path ts us gone came v before made is went to is_there parted h =
    let same : before ≡ made = cc in
    (before, same_agrees (places_along (end_places (Some gone)) ts made) before, (before, same_agrees (places_along (end_places (Some came)) us made) before, same))
by_same false from path ts us gone came v before made is went to is_there parted h =
    let g = goes_on (or_missing (edit.remove from before)) (λ e. or_missing (edit.add path v e)) made h in
    at_both from path ts us gone came v before g.0 made is went to is_there parted (was_there (edit.remove from before) g.0 g.1) (was_there (edit.add path v g.0) made g.2)

pub moved_agrees : (from path ts us : Tokens) (gone came : End) (before made : Doc) → from ≡ ts ++ gone.token.now ∷ [] → gone.is_there ≡ false → path ≡ us ++ came.token.now ∷ [] → came.is_there ≡ true → ArePartedIn from path made
    → change (pure.move from path) before ≡ Ok made → AgreeOffEach (Both ts gone us came made) before made
moved_agrees from path ts us gone came before made is went to is_there parted h =
    let g = goes_on (or_missing (resolve from before)) (moved from path before) made h in
    by_same (pointwise bytes_eq from path) from path ts us gone came g.0 before made is went to is_there parted g.2

-- ---- what the code finds

pub by_move : (o : Option Moved) (from path : Tokens) (op : Operation) (made : Doc) → op ≡ pure.move from path → ArePartedIn from path made → IfSome o (λ m. AreEndsOf from path m)
    → IfSome o (λ m. (before : Doc) → change op before ≡ Ok made → AgreeOffEach (moved_places m made) before made)
by_move None from path op made is parted h = tt
by_move (Some m) from path op made is parted h = λ before k. moved_agrees from path (tokens_of m.from.now) (tokens_of m.path.now) m.gone m.came before made h.from_is h.goes h.path_is h.comes parted (sym (ap (λ x. change x before) is) ∙ k)

pub parted_of : (from path fs ps : Tokens) (made : Doc) → fs ≡ from → ps ≡ path → ArePartedIn fs ps made → ArePartedIn from path made
parted_of from path fs ps made e k h = subst (λ l. ArePartedIn from l made) k (subst (λ l. ArePartedIn l ps made) e h)

pub by_only : (o : Option Moved) (os : List Operation) (op : Operation) (made : Doc) → ((d e : Doc) → patch os d ≡ Ok e → change op d ≡ Ok e) → IfSome o (λ m. (before : Doc) → change op before ≡ Ok made → AgreeOffEach (moved_places m made) before made)
    → IfSome o (λ m. (before : Doc) → patch os before ≡ Ok made → AgreeOffEach (moved_places m made) before made)
by_only None os op made only h = tt
by_only (Some m) os op made only h = λ before k. h before (only before made k)

-- the steps that were found, after none
pub one_place : (places : List Place) (steps : Vec Step Global) (front : List Step) → front ≡ [] → map place_of steps.items ≡ map place_of front ++ places → map place_of steps.items ≡ places
one_place places steps front none is = is ∙ ap (λ l. map place_of l ++ places) none
