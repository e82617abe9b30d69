-- What the writes of a leaf are in the document.
use Rattle.std.proofs.Common.{◌≡◌, ℕ, suc, ◌<◌, List, [], ◌∷◌, ◌++◌, length, get_or, String, string_bytes, string_cmp, Global, Option, Some, None, option_map, option_and_then, nat_cmp, slice_set, refl, sym, ap, ◌∙◌, arith, true, false}
use Rattle.std.specs.Cmp.Lexicographic.{slice_cmp}
use Rattle.std.specs.List.{insert, remove}
use Rattle.std.specs.Map.{lookup, set_value, remove_entry}
use Rattle.std.specs.BTreeMap.{is_at, insert_entry}
use Rattle.std.specs.Str.{bytes_eq}
use Rattle.doc_tree.specs.Doc.{Doc, list, put, get_member, get_element}
use Rattle.doc_tree.specs.TreeView.{view, elements_view, members_view}
use Rattle.doc_tree.specs.declared.tree.Tree.{Tree}
use Rattle.doc_tree.proofs.Views.{view-lookup, members_view-insert_entry, get_element_within}
use Rattle.doc_pointer.specs.Place.{child_named}
use Rattle.doc_edits.specs.Edit.{Token, index_below}
use Rattle.doc_edits.proofs.Indices.{child_named-list, index_in, index_to_end}
use Rattle.doc_edits.specs.Edit.{add_member, remove_member, replace_member, add_item, remove_item, replace_item, set_member, set_element, dash}
use Rattle.doc_edits.proofs.Views.{Entry, members_view-set_value, members_view-remove_entry, elements_view-set, elements_view-insert, elements_view-push, elements_view-remove}

pub found : (t : Token) (es : List Entry) (o : Option Tree) → o ≡ lookup (is_at (λ k. slice_cmp nat_cmp t (string_bytes k))) es → get_member t (members_view es) ≡ option_map view o
found t es o e = sym (view-lookup t es) ∙ ap (option_map view) (sym e)

pub member_added : (t : Token) (es fs : List Entry) (key : String Global) (v : Tree) → None ≡ lookup (is_at (λ k. slice_cmp nat_cmp t (string_bytes k))) es → string_bytes key ≡ t → fs ≡ insert_entry string_cmp es key v
    → add_member (view v) t (members_view es) ≡ Some (members_view fs)
member_added t es fs key v absent named e =
    rw (found t es None absent) (ap Some (ap (λ (n : Token). put n (view v) (members_view es)) (sym named) ∙ sym (members_view-insert_entry es key v) ∙ ap members_view (sym e)))

pub member_set : (t : Token) (es fs : List Entry) (old v w : Tree) → w ≡ v → Some old ≡ lookup (is_at (λ k. slice_cmp nat_cmp t (string_bytes k))) es
    → fs ≡ set_value (is_at (λ k. slice_cmp nat_cmp t (string_bytes k))) es w → add_member (view v) t (members_view es) ≡ Some (members_view fs)
member_set t es fs old v w same e h = rw (found t es (Some old) e) (ap Some (ap (λ (x : Tree). set_member t (view x) (members_view es)) (sym same) ∙ sym (members_view-set_value t es w) ∙ ap members_view (sym h)))

pub member_missing_to_remove : (t : Token) (es : List Entry) → None ≡ lookup (is_at (λ k. slice_cmp nat_cmp t (string_bytes k))) es → remove_member t (members_view es) ≡ None
member_missing_to_remove t es e = rw (found t es None e)

pub member_removed : (t : Token) (es fs : List Entry) (old : Tree) → Some old ≡ lookup (is_at (λ k. slice_cmp nat_cmp t (string_bytes k))) es
    → fs ≡ remove_entry (is_at (λ k. slice_cmp nat_cmp t (string_bytes k))) es → remove_member t (members_view es) ≡ Some (members_view fs)
member_removed t es fs old e h = rw (found t es (Some old) e) (ap Some (sym (members_view-remove_entry t es) ∙ ap members_view (sym h)))

pub member_missing_to_replace : (t : Token) (v : Doc) (es : List Entry) → None ≡ lookup (is_at (λ k. slice_cmp nat_cmp t (string_bytes k))) es → replace_member v t (members_view es) ≡ None
member_missing_to_replace t v es e = rw (found t es None e)

pub member_replaced : (t : Token) (es fs : List Entry) (old v w : Tree) → w ≡ v → Some old ≡ lookup (is_at (λ k. slice_cmp nat_cmp t (string_bytes k))) es
    → fs ≡ set_value (is_at (λ k. slice_cmp nat_cmp t (string_bytes k))) es w → replace_member (view v) t (members_view es) ≡ Some (members_view fs)
member_replaced t es fs old v w same e h = rw (found t es (Some old) e) (ap Some (ap (λ (x : Tree). set_member t (view x) (members_view es)) (sym same) ∙ sym (members_view-set_value t es w) ∙ ap members_view (sym h)))

-- ---- elements

pub item_appended : (t : Token) (ts us : List Tree) (v : Tree) → bytes_eq t dash ≡ true → us ≡ ts ++ v ∷ [] → add_item (view v) t (elements_view ts) ≡ Some (elements_view us)
item_appended t ts us v b e = rw b (ap Some (sym (elements_view-push ts v) ∙ ap elements_view (sym e)))

pub item_added : (t : Token) (ts us : List Tree) (n i : ℕ) (v : Tree) → bytes_eq t dash ≡ false → n ≡ suc (length ts) → Some i ≡ index_below n t → i < n → us ≡ insert ts i v → add_item (view v) t (elements_view ts) ≡ Some (elements_view us)
item_added t ts us n i v b len at h e = rw (b, index_to_end t ts n (Some i) len at) (elements_view-insert ts i v (omega (arith, len, h)) ∙ ap (λ xs. Some (elements_view xs)) (sym e))

pub item_not_added : (t : Token) (ts : List Tree) (n : ℕ) (v : Doc) → bytes_eq t dash ≡ false → n ≡ suc (length ts) → None ≡ index_below n t → add_item v t (elements_view ts) ≡ None
item_not_added t ts n v b len none = rw (b, index_to_end t ts n None len none) refl

pub item_removed : (t : Token) (ts us : List Tree) (n i : ℕ) → n ≡ length ts → Some i ≡ index_below n t → i < n → us ≡ remove ts i → remove_item t (elements_view ts) ≡ Some (elements_view us)
item_removed t ts us n i len at h e = rw (index_in t ts n (Some i) len at) (elements_view-remove ts i (omega (arith, len, h)) ∙ ap (λ xs. Some (elements_view xs)) (sym e))

pub item_not_removed : (t : Token) (ts : List Tree) (n : ℕ) → n ≡ length ts → None ≡ index_below n t → remove_item t (elements_view ts) ≡ None
item_not_removed t ts n len none = rw (index_in t ts n None len none) refl

pub item_replaced : (t : Token) (ts us : List Tree) (n i : ℕ) (v w : Tree) → w ≡ v → n ≡ length ts → Some i ≡ index_below n t → us ≡ slice_set ts i w → replace_item (view v) t (elements_view ts) ≡ Some (elements_view us)
item_replaced t ts us n i v w same len at e =
    rw (index_in t ts n (Some i) len at) (ap Some (ap (λ (x : Tree). set_element i (view x) (elements_view ts)) (sym same) ∙ sym (elements_view-set ts i w) ∙ ap elements_view (sym e)))

pub item_not_replaced : (t : Token) (ts : List Tree) (n : ℕ) (v : Doc) → n ≡ length ts → None ≡ index_below n t → replace_item v t (elements_view ts) ≡ None
item_not_replaced t ts n v len none = rw (index_in t ts n None len none) refl

pub item_taken : (t : Token) (ts : List Tree) (n i : ℕ) (old : Tree) → n ≡ length ts → Some i ≡ index_below n t → i < n → old ≡ get_or ts i old → child_named t (list (elements_view ts)) ≡ Some (view old)
item_taken t ts n i old len at h is =
    child_named-list t (elements_view ts) ∙ ap (option_and_then (λ j. get_element j (elements_view ts))) (index_in t ts n (Some i) len at)
    ∙ sym (get_element_within ts i old (omega (arith, h, len))) ∙ ap (λ x. Some (view x)) (sym is)
