-- Documents that differ below a place alone agree off the places that lead there.
use Rattle.std.proofs.Common.{◌≡◌, ℕ, inl, inr, List, [], ◌∷◌, ◌++◌, length, map, Vec, Global, Ok, true, Option, Some, None, option_map, refl, sym, ap, subst, ◌∙◌}
use Rattle.std.specs.Option.{option_and_then}
use Rattle.doc_tree.specs.Doc.{Doc, null, boolean, int, text, list, object, Elements, Members, Place, name, index, child, get_element, get_member}
use Rattle.doc_tree.specs.Place.{place_of}
use Rattle.doc_tree.specs.TreeView.{elements_view}
use Rattle.doc_tree.specs.declared.tree.Step.{Step}
use Rattle.doc_tree.specs.declared.tree.Tree.{Tree}
use Rattle.doc_pointer.specs.Place.{child_named}
use Rattle.doc_edits.specs.Edit.{Token, Tokens, elements_len, index_below, set_at, set_element, set_member, with_child}
use Rattle.doc_edits.specs.Operation.{Operation}
use Rattle.doc_patch.specs.Patch.{patch}
use Rattle.doc_patch.specs.Within.{DiffersWithin, KeepsBut, holds_all}
use Rattle.doc_edits.proofs.Children.{get_beside, get_other, get_set, set_element_len, set_element_there}
use Rattle.doc_edits.proofs.Indices.{child_named-list, index_in}
use Rattle.doc_patch.proofs.Within.{patched_within}
use Rattle.schema_changes.specs.Agree.{AgreeBeside, AgreeOff, AreAlike, AtChild}
use Rattle.patched_places.specs.Along.{end_places, on_child, on_place, place_named, places_along}

-- a child was replaced at the place
pub record Replaced (p : Place) (d e c new : Doc) : Type 0 where
  pub like : AreAlike d e
  pub beside : AgreeBeside p d e
  pub was : child p d ≡ Some c
  pub is : child p e ≡ Some new

in_object : (t : Token) (ms : Members) (c new : Doc) → get_member t ms ≡ Some c → Replaced (name t) (object ms) (object (set_member t new ms)) c new
in_object t ms c new found = record { like = tt; beside = beside; was = found; is = get_set t new c ms found }
  where
    beside : AgreeBeside (name t) (object ms) (object (set_member t new ms))
    beside (name k) ne = sym (get_other t k new ms (λ e. ne (ap name (sym e))))
    beside (index n) ne = refl

in_list : (i : ℕ) (ds : Elements) (c new : Doc) → get_element i ds ≡ Some c → Replaced (index i) (list ds) (list (set_element i new ds)) c new
in_list i ds c new found = record { like = tt; beside = beside; was = found; is = set_element_there i new c ds found }
  where
    beside : AgreeBeside (index i) (list ds) (list (set_element i new ds))
    beside (index j) ne = sym (get_beside i j new ds (λ e. ne (ap index (sym e))))
    beside (name k) ne = refl

step_list : (o : Option ℕ) (t : Token) (ds : Elements) (c new : Doc) → index_below (elements_len ds) t ≡ o → child_named t (list ds) ≡ Some c → (p : Place) × (place_named t (list (set_at o new ds)) ≡ Some p) × Replaced p (list ds) (list (set_at o new ds)) c new
step_list None t ds c new at found = absurd (let none = sym (child_named-list t ds ∙ ap (option_and_then (λ i. get_element i ds)) at) ∙ found in cc)
step_list (Some i) t ds c new at found =
    let there : get_element i ds ≡ Some c = sym (child_named-list t ds ∙ ap (option_and_then (λ j. get_element j ds)) at) ∙ found in
    let named : option_map index (index_below (elements_len (set_element i new ds)) t) ≡ Some (index i) = ap (λ n. option_map index (index_below n t)) (set_element_len i new ds) ∙ ap (option_map index) at in
    (index i, named, in_list i ds c new there)

pub step : (t : Token) (d c new : Doc) → child_named t d ≡ Some c → (p : Place) × (place_named t (with_child t new d) ≡ Some p) × Replaced p d (with_child t new d) c new
step t (object ms) c new found = (name t, refl, in_object t ms c new found)
step t (list ds) c new found = step_list (index_below (elements_len ds) t) t ds c new refl found
step t null c new found = absurd cc
step t (boolean b) c new found = absurd cc
step t (int z) c new found = absurd cc
step t (text s) c new found = absurd cc

-- a change below a child that stays
pub agrees_on : (end : Doc → List Place) (t : Token) (ts : Tokens) (d e c new : Doc) → child_named t d ≡ Some c → e ≡ with_child t new d → AgreeOff (places_along end ts new) c new → AgreeOff (places_along end (t ∷ ts) e) d e
agrees_on end t ts d e c new found whole rest =
    let s = step t d c new found in
    let made : Replaced s.0 d e c new = subst (λ x. Replaced s.0 d x c new) (sym whole) s.2 in
    let named : place_named t e ≡ Some s.0 = ap (place_named t) whole ∙ s.1 in
    let along : places_along end (t ∷ ts) e ≡ s.0 ∷ places_along end ts new = ap (λ o. on_place o e (places_along end ts)) named ∙ ap (λ o. on_child s.0 o (places_along end ts)) made.is in
    let below : AtChild (places_along end ts new) (AgreeOff (places_along end ts new)) (child s.0 d) (child s.0 e) = rw (made.was, made.is) rest in
    subst (λ ps. AgreeOff ps d e) (sym along) (inr (made.like, made.beside, below))

agrees : (ts : Tokens) (d e : Doc) → DiffersWithin ts d e → AgreeOff (places_along (end_places None) ts e) d e
agrees [] d e h = tt
agrees (t ∷ ts) d e h = agrees_on (end_places None) t ts d e h.0 h.1 h.2 h.3 (agrees ts h.0 h.1 h.4)

pub same_agrees : (ps : List Place) (d : Doc) → AgreeOff ps d d
same_agrees [] d = tt
same_agrees (p ∷ ps) d = inl refl

pub kept_agrees : (ts : Tokens) (d e : Doc) → KeepsBut ts d e → AgreeOff (places_along (end_places None) ts e) d e
kept_agrees ts d e (inl is) = subst (AgreeOff (places_along (end_places None) ts e) d) is (same_agrees (places_along (end_places None) ts e) d)
kept_agrees ts d e (inr h) = agrees ts d e h

-- ---- what the code finds

pub list_named : (t : Token) (d : Doc) (ts : List Tree) (n : ℕ) (o : Option ℕ) → d ≡ list (elements_view ts) → n ≡ length ts → o ≡ index_below n t → option_map index o ≡ place_named t d
list_named t d ts n o is len found = ap (option_map index) (sym (index_in t ts n o len found)) ∙ sym (ap (place_named t) is)

-- all that is reached
pub reached_agrees : (os : List Operation) (ts : Tokens) → holds_all ts os ≡ true → (before made : Doc) → patch os before ≡ Ok made → AgreeOff (places_along (end_places None) ts made) before made
reached_agrees os ts all before made patched = kept_agrees ts before made (patched_within 0 os ts before made all patched)

-- the steps that were found, after none
pub made_agrees : (os : List Operation) (places : List Place) (made : Doc) (steps : Vec Step Global) (front : List Step) → front ≡ [] → map place_of steps.items ≡ map place_of front ++ places → ((before : Doc) → patch os before ≡ Ok made → AgreeOff places before made)
    → (before : Doc) → patch os before ≡ Ok made → AgreeOff (map place_of steps.items) before made
made_agrees os places made steps front none is all before patched =
    let along : map place_of steps.items ≡ places = is ∙ ap (λ l. map place_of l ++ places) none in
    subst (λ ps. AgreeOff ps before made) (sym along) (all before patched)
