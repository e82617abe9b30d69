-- A child written over by itself changes nothing.
use Rattle.std.proofs.Common.{◌≡◌, ℕ, zero, suc, List, Option, Some, None, option_and_then, Ordering, Less, Equal, Greater, Result, Ok, Err, OnErr, nat_cmp, refl, sym, ap, ◌∙◌}
use Rattle.std.specs.Cmp.Lexicographic.{slice_cmp}
use Rattle.std.specs.Ordering.{match_ordering}
use Rattle.doc_tree.specs.Doc.{Doc, list, object, Elements, no_elements, element, Members, no_members, member, get_member, get_element}
use Rattle.doc_tree.specs.Doc.{as_object}
use Rattle.doc_tree.specs.TreeView.{view, members_view}
use Rattle.doc_tree.specs.declared.tree.Tree.{Tree, Object}
use Rattle.doc_tree.proofs.Views.{view-Object}
use Rattle.doc_pointer.specs.Place.{child_named}
use Rattle.doc_edits.specs.Edit.{Token, elements_len, index_below, set_element, set_member, with_child, set_at}
use Rattle.doc_edits.proofs.Indices.{child_named-list}
use Rattle.name_map.specs.Entries.{Entries}

set_same_at : (o : Ordering) (l : List ℕ) (c d : Doc) (g : Option Doc) (ms ns : Members) → match_ordering o g (Some d) g ≡ Some c → (g ≡ Some c → ns ≡ ms) → match_ordering o (member l d ns) (member l c ms) (member l d ns) ≡ member l d ms
set_same_at Less l c d g ms ns h rest = ap (member l d) (rest h)
set_same_at Equal l c d g ms ns h rest = let same : d ≡ c = cc in ap (λ x. member l x ms) (sym same)
set_same_at Greater l c d g ms ns h rest = ap (member l d) (rest h)

pub set_same : (k : List ℕ) (c : Doc) (ms : Members) → get_member k ms ≡ Some c → set_member k c ms ≡ ms
set_same k c no_members h = refl
set_same k c (member l d ms) h = set_same_at (slice_cmp nat_cmp k l) l c d (get_member k ms) ms (set_member k c ms) h (set_same k c ms)

set_element_same : (i : ℕ) (c : Doc) (ds : Elements) → get_element i ds ≡ Some c → set_element i c ds ≡ ds
set_element_same i c no_elements h = refl
set_element_same zero c (element d ds) h = let same : d ≡ c = cc in ap (λ x. element x ds) (sym same)
set_element_same (suc i) c (element d ds) h = ap (element d) (set_element_same i c ds h)

set_at_same : (o : Option ℕ) (c : Doc) (ds : Elements) → option_and_then (λ i. get_element i ds) o ≡ Some c → set_at o c ds ≡ ds
set_at_same None c ds h = refl
set_at_same (Some i) c ds h = set_element_same i c ds h

pub child_same : (t : Token) (c d : Doc) → child_named t d ≡ Some c → with_child t c d ≡ d
child_same t c (object ms) h = ap object (set_same t c ms h)
child_same t c (list ds) h = ap list (set_at_same (index_below (elements_len ds) t) c ds (sym (child_named-list t ds) ∙ h))
child_same t c _ h = refl

-- a child that stays leaves its parent as it is
pub stepped_unchanged : {A E : Type 0} (t : Token) (d child new after : Doc) → child_named t d ≡ Some child → after ≡ with_child t new d → (r : Result A E) → OnErr r (new ≡ child) → OnErr r (after ≡ d)
stepped_unchanged t d child new after found written (Ok a) h = tt
stepped_unchanged t d child new after found written (Err e) h = written ∙ ap (λ x. with_child t x d) h ∙ child_same t child d found

object_is : (ms : Members) (d : Doc) → Some ms ≡ as_object d → object ms ≡ d
object_is ms (object ns) h = let same : ms ≡ ns = cc in ap object same
object_is ms _ h = absurd (cc)

-- an object in which nothing was found is as it was
pub looked_in : (d : Doc) (m n : Entries Tree) → n ≡ m → Some (members_view m.entries) ≡ as_object d → view (Object n) ≡ d
looked_in d m n same h = view-Object n ∙ ap (λ (x : Entries Tree). object (members_view x.entries)) same ∙ object_is (members_view m.entries) d h
