-- One step of the walk: what is done in a child, seen from its parent.
use Rattle.std.proofs.Common.{◌≡◌, ℕ, ◌-◌, ◌<◌, ◌≤◌, List, [], ◌∷◌, length, get_or, take, drop, take_all, String, string_bytes, Vec, Global, nat_cmp, option_and_then, slice_set, arith, Option, Some, None, option_map, Result, MatchResult, inl, inr, sym, ap, ◌∙◌, Ok, Err}
use Rattle.std.specs.Cmp.Lexicographic.{slice_cmp}
use Rattle.std.specs.Map.{lookup, set_value}
use Rattle.std.specs.BTreeMap.{is_at}
use Rattle.doc_tree.specs.Doc.{Doc, list, object, Elements, Members, get_member, get_element, as_list, as_object}
use Rattle.doc_tree.specs.TreeView.{view, elements_view, members_view}
use Rattle.doc_tree.specs.declared.tree.Tree.{Tree, List as the_list, Object}
use Rattle.doc_tree.proofs.Views.{view-List, view-Object, view-lookup, get_element_within}
use Rattle.doc_edits.specs.OperationFault.{IsMissing}
use Rattle.doc_edits.specs.Edit.{in_child, with_child, at_last, set_element, set_member}
use Rattle.doc_pointer.specs.Place.{child_named}
use Rattle.doc_edits.specs.Change.{tokens_of}
use Rattle.doc_edits.specs.Edit.{Token, Tokens, elements_len, index_below}
use Rattle.doc_edits.proofs.Indices.{child_named-list, index_in}
use Rattle.doc_edits.proofs.Views.{members_view-set_value, elements_view-set}
use Rattle.doc_edits.specs.declared.fault.Unmade.{Unmade}
use Rattle.name_map.specs.Entries.{Entries}

abbrev pub Does : Type 0
Does = Token → Doc → Option Doc

some_by : (f : Does) (t u : Token) (us : Tokens) (d child new : Doc) → child_named t d ≡ Some child → at_last f u us child ≡ Some new → in_child t (at_last f u us) d ≡ Some (with_child t new d)
some_by f t u us d child new e h = rw (e, h)

none_by : (f : Does) (t u : Token) (us : Tokens) (d child : Doc) → child_named t d ≡ Some child → at_last f u us child ≡ None → in_child t (at_last f u us) d ≡ None
none_by f t u us d child e h = rw (e, h)

missing_by : (f : Does) (t u : Token) (us : Tokens) (d : Doc) → child_named t d ≡ None → in_child t (at_last f u us) d ≡ None
missing_by f t u us d e = rw e

pub missing : (f : Does) (t u : Token) (us ts : Tokens) (d : Doc) → ts ≡ u ∷ us → child_named t d ≡ None → at_last f t ts d ≡ None
missing f t u us ts d same e = ap (λ (x : Tokens). at_last f t x d) same ∙ missing_by f t u us d e

pub stepped : {A : Type 0} (f : Does) (t u : Token) (us ts : Tokens) (d child new after : Doc) → ts ≡ u ∷ us → child_named t d ≡ Some child → after ≡ with_child t new d
    → (r : Result A Unmade) → MatchResult r (λ _. at_last f u us child ≡ Some new) (λ e. IsMissing (at_last f u us child) e.fault) → MatchResult r (λ _. at_last f t ts d ≡ Some after) (λ e. IsMissing (at_last f t ts d) e.fault)
stepped f t u us ts d child new after same e w (Ok a) h = ap (λ (x : Tokens). at_last f t x d) same ∙ some_by f t u us d child new e h ∙ ap Some (sym w)
stepped f t u us ts d child new after same e w (Err unmade) (inl none) = inl (none.0, ap (λ (x : Tokens). at_last f t x d) same ∙ none_by f t u us d child e none.1)
stepped f t u us ts d child new after same e w (Err unmade) (inr memory) = inr memory

-- ---- what the parent is

pub tokens_step : (xs : List (String Global)) (x : String Global) → 1 ≤ length xs → x ≡ get_or xs 0 x → tokens_of xs ≡ string_bytes x ∷ tokens_of (take (length xs - 1) (drop 1 xs))
tokens_step [] x h e = absurd (omega arith)
tokens_step (y ∷ ys) x h e =
    let whole : take (length (y ∷ ys) - 1) ys ≡ ys = take_all _ ys (omega arith) in
    rw whole (ap (λ (s : String Global). string_bytes s ∷ tokens_of ys) (sym e))

pub as_str_step : (xs : List (String Global)) (x : String Global) (u : Token) → 1 ≤ length xs → x ≡ get_or xs 0 x → u ≡ string_bytes x → tokens_of xs ≡ u ∷ tokens_of (take (length xs - 1) (drop 1 xs))
as_str_step xs x u h e f = tokens_step xs x h e ∙ ap (λ (s : Token). s ∷ tokens_of (take (length xs - 1) (drop 1 xs))) (sym f)

child_of_object : (t : Token) (d : Doc) (ms : Members) → Some ms ≡ as_object d → child_named t d ≡ get_member t ms
child_of_object t (object ns) ms e = let same : ms ≡ ns = cc in ap (get_member t) (sym same)
child_of_object t _ ms e = absurd (cc)

pub found_in_object : (t : Token) (d : Doc) (m : Entries Tree) (child : Tree) → Some (members_view m.entries) ≡ as_object d
    → Some child ≡ lookup (is_at (λ k. slice_cmp nat_cmp t (string_bytes k))) m.entries → child_named t d ≡ Some (view child)
found_in_object t d m child e h = child_of_object t d _ e ∙ sym (view-lookup t m.entries) ∙ ap (option_map view) (sym h)

pub not_in_object : (t : Token) (d : Doc) (m : Entries Tree) → Some (members_view m.entries) ≡ as_object d
    → None ≡ lookup (is_at (λ k. slice_cmp nat_cmp t (string_bytes k))) m.entries → child_named t d ≡ None
not_in_object t d m e h = child_of_object t d _ e ∙ sym (view-lookup t m.entries) ∙ ap (option_map view) (sym h)

object_with_child : (t : Token) (v d : Doc) (ms : Members) → Some ms ≡ as_object d → object (set_member t v ms) ≡ with_child t v d
object_with_child t v (object ns) ms e = let same : ms ≡ ns = cc in ap (λ m. object (set_member t v m)) same
object_with_child t v _ ms e = absurd (cc)

pub written_in_object : (t : Token) (d : Doc) (m n : Entries Tree) (new : Tree) → Some (members_view m.entries) ≡ as_object d
    → n.entries ≡ set_value (is_at (λ k. slice_cmp nat_cmp t (string_bytes k))) m.entries new → view (Object n) ≡ with_child t (view new) d
written_in_object t d m n new e h = view-Object n ∙ ap (λ es. object (members_view es)) h ∙ ap object (members_view-set_value t m.entries new) ∙ object_with_child t (view new) d _ e

child_of_list : (t : Token) (d : Doc) (ds : Elements) → Some ds ≡ as_list d → child_named t d ≡ option_and_then (λ i. get_element i ds) (index_below (elements_len ds) t)
child_of_list t (list es) ds e = let same : ds ≡ es = cc in ap (λ (x : Elements). child_named t (list x)) (sym same) ∙ child_named-list t ds
child_of_list t _ ds e = absurd (cc)

pub found_in_list : (t : Token) (d : Doc) (v : Vec Tree Global) (n i : ℕ) (child : Tree) → Some (elements_view v.items) ≡ as_list d → n ≡ length v.items → Some i ≡ index_below n t → i < n
    → child ≡ get_or v.items i child → child_named t d ≡ Some (view child)
found_in_list t d v n i child e len at h c =
    child_of_list t d _ e ∙ ap (option_and_then (λ j. get_element j (elements_view v.items))) (index_in t v.items n (Some i) len at) ∙ sym (get_element_within v.items i child (omega (arith, h, len))) ∙ ap (λ x. Some (view x)) (sym c)

list_with_child : (t : Token) (i : ℕ) (v d : Doc) (ds : Elements) → Some ds ≡ as_list d → index_below (elements_len ds) t ≡ Some i → list (set_element i v ds) ≡ with_child t v d
list_with_child t i v (list es) ds e at = let same : ds ≡ es = cc in let there = ap (λ (x : Elements). index_below (elements_len x) t) (sym same) ∙ at in rw (there, same)
list_with_child t i v _ ds e at = absurd (cc)

pub written_in_list : (t : Token) (d : Doc) (v w : Vec Tree Global) (n i : ℕ) (new : Tree) → Some (elements_view v.items) ≡ as_list d → n ≡ length v.items → Some i ≡ index_below n t
    → w.items ≡ slice_set v.items i new → view (the_list w) ≡ with_child t (view new) d
written_in_list t d v w n i new e len at h = view-List w ∙ ap (λ ts. list (elements_view ts)) h ∙ ap list (elements_view-set v.items i new) ∙ list_with_child t i (view new) d _ e (index_in t v.items n (Some i) len at)

pub not_in_list : (t : Token) (d : Doc) (v : Vec Tree Global) (n : ℕ) → Some (elements_view v.items) ≡ as_list d → n ≡ length v.items → None ≡ index_below n t → child_named t d ≡ None
not_in_list t d v n e len none = child_of_list t d _ e ∙ ap (option_and_then (λ j. get_element j (elements_view v.items))) (index_in t v.items n None len none)
