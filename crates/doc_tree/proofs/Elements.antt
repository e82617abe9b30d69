-- Elements beside the lists of documents that they are.
use Rattle.std.proofs.Common.{◌≡◌, ℕ, zero, suc, List, [], ◌∷◌, length, map, Some, refl, ap, subst}
use Rattle.doc_tree.specs.Doc.{Doc, Elements, no_elements, element, get_element}
use Rattle.doc_tree.specs.Lists.{elements_list}
use Rattle.doc_tree.specs.Sound.{IsSound, AreSound}
use Rattle.doc_tree.specs.TreeView.{view, elements_of, elements_view}
use Rattle.doc_tree.specs.declared.tree.Tree.{Tree}

pub elements_list-elements_of : (ds : List Doc) → elements_list (elements_of ds) ≡ ds
elements_list-elements_of [] = refl
elements_list-elements_of (d ∷ ds) = ap (λ es. d ∷ es) (elements_list-elements_of ds)

pub elements_of-elements_list : (ds : Elements) → elements_of (elements_list ds) ≡ ds
elements_of-elements_list no_elements = refl
elements_of-elements_list (element d ds) = ap (element d) (elements_of-elements_list ds)

pub elements_list-elements_view : (ts : List Tree) → elements_list (elements_view ts) ≡ map view ts
elements_list-elements_view ts = elements_list-elements_of (map view ts)

pub length-elements_list : (ts : List Tree) → length (elements_list (elements_view ts)) ≡ length ts
length-elements_list [] = refl
length-elements_list (t ∷ ts) = ap suc (length-elements_list ts)

-- an element of sound elements is sound
pub IsSound-get_element : (i : ℕ) (d : Doc) (ds : Elements) → AreSound ds → get_element i ds ≡ Some d → IsSound d
IsSound-get_element i d no_elements h found = absurd (cc)
IsSound-get_element zero d (element e ds) h found = let same : e ≡ d = cc in subst IsSound same h.0
IsSound-get_element (suc i) d (element e ds) h found = IsSound-get_element i d ds h.1 found
