-- A tree's children beside those of its document, after a write.
use Rattle.std.proofs.Common.{◌≡◌, ℕ, zero, suc, ◌<◌, ◌≤◌, List, [], ◌∷◌, ◌++◌, length, Option, Some, None, option_map, String, Global, Ordering, Less, Equal, Greater, string_bytes, nat_cmp, is_eq, cond, refl, ap, arith, MutBor}
use Rattle.std.specs.Cmp.Lexicographic.{slice_cmp}
use Rattle.std.specs.List.{insert, remove}
use Rattle.std.specs.Map.{set_value, remove_entry}
use Rattle.std.specs.Ordering.{match_ordering}
use Rattle.std.specs.BTreeMap.{is_at}
use Rattle.std.specs.Prelude.{slice_set}
use Rattle.doc_tree.specs.Doc.{Doc, element, Members, member}
use Rattle.doc_tree.specs.TreeView.{view, elements_view, members_view}
use Rattle.doc_tree.specs.declared.tree.Tree.{Tree}
use Rattle.doc_edits.specs.Edit.{insert_element, append_element, remove_element, set_element, cut, set_member}

abbrev pub Entry : Type 0
Entry = String Global × Tree

set_entry_at : (o : Ordering) (k : String Global) (t w : Tree) (es fs : List Entry) (m : Members) → members_view fs ≡ m
    → members_view (cond (is_eq o) ((k, w) ∷ es) ((k, t) ∷ fs)) ≡ match_ordering o (member (string_bytes k) (view t) m) (member (string_bytes k) (view w) (members_view es)) (member (string_bytes k) (view t) m)
set_entry_at Less k t w es fs m e = ap (member (string_bytes k) (view t)) e
set_entry_at Equal k t w es fs m e = refl
set_entry_at Greater k t w es fs m e = ap (member (string_bytes k) (view t)) e

pub members_view-set_value : (name : List ℕ) (es : List Entry) (w : Tree)
    → members_view (set_value (is_at (λ k. slice_cmp nat_cmp name (string_bytes k))) es w) ≡ set_member name (view w) (members_view es)
members_view-set_value name [] w = refl
members_view-set_value name (e ∷ es) w = set_entry_at (slice_cmp nat_cmp name (string_bytes e.0)) e.0 e.1 w es _ _ (members_view-set_value name es w)

remove_entry_at : (o : Ordering) (e : Entry) (es fs : List Entry) (m : Members) → members_view fs ≡ m
    → members_view (cond (is_eq o) es (e ∷ fs)) ≡ match_ordering o (member (string_bytes e.0) (view e.1) m) (members_view es) (member (string_bytes e.0) (view e.1) m)
remove_entry_at Less e es fs m h = ap (member (string_bytes e.0) (view e.1)) h
remove_entry_at Equal e es fs m h = refl
remove_entry_at Greater e es fs m h = ap (member (string_bytes e.0) (view e.1)) h

pub members_view-remove_entry : (name : List ℕ) (es : List Entry)
    → members_view (remove_entry (is_at (λ k. slice_cmp nat_cmp name (string_bytes k))) es) ≡ cut name (members_view es)
members_view-remove_entry name [] = refl
members_view-remove_entry name (e ∷ es) = remove_entry_at (slice_cmp nat_cmp name (string_bytes e.0)) e es _ _ (members_view-remove_entry name es)

pub elements_view-set : (ts : List Tree) (i : ℕ) (w : Tree) → elements_view (slice_set ts i w) ≡ set_element i (view w) (elements_view ts)
elements_view-set [] i w = refl
elements_view-set (t ∷ ts) zero w = refl
elements_view-set (t ∷ ts) (suc i) w = ap (element (view t)) (elements_view-set ts i w)

pub elements_view-insert : (ts : List Tree) (i : ℕ) (w : Tree) → i ≤ length ts → insert_element i (view w) (elements_view ts) ≡ Some (elements_view (insert ts i w))
elements_view-insert ts zero w h = refl
elements_view-insert [] (suc i) w h = absurd (omega arith)
elements_view-insert (t ∷ ts) (suc i) w h = ap (option_map (element (view t))) (elements_view-insert ts i w (omega arith))

pub insert_element-past : (ts : List Tree) (i : ℕ) (v : Doc) → length ts < i → insert_element i v (elements_view ts) ≡ None
insert_element-past ts zero v h = absurd (omega arith)
insert_element-past [] (suc i) v h = refl
insert_element-past (t ∷ ts) (suc i) v h = ap (option_map (element (view t))) (insert_element-past ts i v (omega arith))

pub elements_view-push : (ts : List Tree) (w : Tree) → elements_view (ts ++ w ∷ []) ≡ append_element (view w) (elements_view ts)
elements_view-push [] w = refl
elements_view-push (t ∷ ts) w = ap (element (view t)) (elements_view-push ts w)

pub elements_view-remove : (ts : List Tree) (i : ℕ) → i < length ts → remove_element i (elements_view ts) ≡ Some (elements_view (remove ts i))
elements_view-remove [] i h = absurd (omega arith)
elements_view-remove (t ∷ ts) zero h = refl
elements_view-remove (t ∷ ts) (suc i) h = ap (option_map (element (view t))) (elements_view-remove ts i (omega arith))

pub remove_element-past : (ts : List Tree) (i : ℕ) → length ts ≤ i → remove_element i (elements_view ts) ≡ None
remove_element-past [] i h = refl
remove_element-past (t ∷ ts) zero h = absurd (omega arith)
remove_element-past (t ∷ ts) (suc i) h = ap (option_map (element (view t))) (remove_element-past ts i (omega arith))

pub view_of_mut : (r : Option (MutBor Tree)) → option_map (λ x. view x.now) r ≡ option_map view (option_map (λ x. x.now) r)
view_of_mut None = refl
view_of_mut (Some x) = refl
