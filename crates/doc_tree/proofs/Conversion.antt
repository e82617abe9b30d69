-- A list and a map that grow at their ends as data is turned into a document.
use Rattle.std.proofs.Common.{◌≡◌, ℕ, ◌≤◌, Bool, true, false, List, [], ◌∷◌, ◌++◌, Option, Some, None, option_map, Result, Ok, Err, IfOk, IfErr, MatchResult, string_bytes, refl, sym, ap, ◌∙◌}
use Rattle.std.proofs.lemmas.Str.{IsUtf8-from_is_utf8, is_utf8-from_IsUtf8}
use Rattle.std.specs.Str.{IsUtf8, is_utf8}
use Rattle.serde_json.specs.Data.{Data}
use Rattle.serde_json.specs.Read.{read}
use Rattle.doc_tree.specs.Fault.{IsFaultOf, IsRefusalOf, refusal_of}
use Rattle.doc_tree.specs.Read.{document, not_json, if_whole, reading_of, doc_of, read_of}
use Rattle.doc_tree.specs.declared.fault.TreeFault.{TreeFault}
use Rattle.refusals.specs.declared.numbers.TheConstants.{NOT_JSON}
use Rattle.doc_tree.specs.Doc.{Doc, height, Elements, no_elements, element, Members, no_members, member}
use Rattle.doc_tree.specs.TreeView.{view, elements_view, members_view}
use Rattle.doc_tree.specs.declared.tree.Tree.{Tree}
use Rattle.doc_tree.proofs.Depth.{height_of_read}
use Rattle.doc_tree.proofs.Views.{Entry}

abbrev pub elements_before : List Tree → Elements → Elements
elements_before [] rest = rest
elements_before (t ∷ ts) rest = element (view t) (elements_before ts rest)

pub elements_before-none : (ts : List Tree) → elements_before ts no_elements ≡ elements_view ts
elements_before-none [] = refl
elements_before-none (t ∷ ts) = ap (element (view t)) (elements_before-none ts)

elements_before-push : (ts : List Tree) (t : Tree) (rest : Elements) → elements_before ts (element (view t) rest) ≡ elements_before (ts ++ t ∷ []) rest
elements_before-push [] t rest = refl
elements_before-push (u ∷ ts) t rest = ap (element (view u)) (elements_before-push ts t rest)

pub one_more_element : (ts : List Tree) (t : Tree) (o : Option Elements) → option_map (elements_before ts) (option_map (element (view t)) o) ≡ option_map (elements_before (ts ++ t ∷ [])) o
one_more_element ts t None = refl
one_more_element ts t (Some rest) = ap Some (elements_before-push ts t rest)

abbrev pub members_before : List Entry → Members → Members
members_before [] rest = rest
members_before (e ∷ es) rest = member (string_bytes e.0) (view e.1) (members_before es rest)

pub members_before-none : (es : List Entry) → members_before es no_members ≡ members_view es
members_before-none [] = refl
members_before-none (e ∷ es) = ap (member (string_bytes e.0) (view e.1)) (members_before-none es)

members_before-push : (es : List Entry) (e : Entry) (rest : Members) → members_before es (member (string_bytes e.0) (view e.1) rest) ≡ members_before (es ++ e ∷ []) rest
members_before-push [] e rest = refl
members_before-push (f ∷ es) e rest = ap (member (string_bytes f.0) (view f.1)) (members_before-push es e rest)

pub one_more_member : (es : List Entry) (e : Entry) (o : Option Members) → option_map (members_before es) (option_map (member (string_bytes e.0) (view e.1)) o) ≡ option_map (members_before (es ++ e ∷ [])) o
one_more_member es e None = refl
one_more_member es e (Some rest) = ap Some (members_before-push es e rest)

pub unmapped : {A : Type 0} (o : Option A) → o ≡ option_map (λ a. a) o
unmapped None = refl
unmapped (Some a) = refl

-- ---- the whole text

whole_utf8 : (bytes : List ℕ) (d : Data) → IsUtf8 bytes → read bytes ≡ Some d → read_of bytes ≡ if_whole (doc_of d)
whole_utf8 bytes d utf8 e = rw (is_utf8-from_IsUtf8 bytes utf8) (ap reading_of e)

pub ok_part : (bytes : List ℕ) (d : Data) → IsUtf8 bytes × (read bytes ≡ Some d) → (r : Result Tree TreeFault) → MatchResult r (λ t. doc_of d ≡ Some (view t)) (λ e. IsRefusalOf e (doc_of d))
    → IfOk r (λ t. read_of bytes ≡ document (view t))
ok_part bytes d e (Ok t) h = whole_utf8 bytes d e.0 e.1 ∙ ap if_whole h
ok_part bytes d e (Err f) h = tt

fault_part : (bytes : List ℕ) (d : Data) → read_of bytes ≡ if_whole (doc_of d) → (f : TreeFault) → IsRefusalOf f (doc_of d) → IsFaultOf f (read_of bytes)
fault_part bytes d e f h other = let r = h other in ap refusal_of (e ∙ ap if_whole r.1) ∙ ap Some (sym r.0)

pub err_part : (bytes : List ℕ) (d : Data) → IsUtf8 bytes × (read bytes ≡ Some d) → (r : Result Tree TreeFault) → MatchResult r (λ t. doc_of d ≡ Some (view t)) (λ e. IsRefusalOf e (doc_of d))
    → IfErr r (λ e. IsFaultOf e (read_of bytes))
err_part bytes d e (Ok t) h = tt
err_part bytes d e (Err f) h = fault_part bytes d (whole_utf8 bytes d e.0 e.1) f h

refused_at : (bytes : List ℕ) (b : Bool) → is_utf8 bytes ≡ b → (IsUtf8 bytes → read bytes ≡ None) → read_of bytes ≡ not_json
refused_at bytes true e h = rw e (ap reading_of (h (IsUtf8-from_is_utf8 bytes e)))
refused_at bytes false e h = rw e

pub refused : (bytes : List ℕ) → (IsUtf8 bytes → read bytes ≡ None) → refusal_of (read_of bytes) ≡ Some NOT_JSON
refused bytes h = ap refusal_of (refused_at bytes _ refl h)

shallow_of : (r : Result Tree TreeFault) (o : Option Doc) → MatchResult r (λ t. o ≡ Some (view t)) (λ e. IsRefusalOf e o) → ((d : Doc) → o ≡ Some d → height d ≤ 127) → IfOk r (λ t. height (view t) ≤ 127)
shallow_of (Ok t) o h low = low (view t) h
shallow_of (Err f) o h low = tt

pub shallow_part : (bytes : List ℕ) (x : Data) → read bytes ≡ Some x → (r : Result Tree TreeFault) → MatchResult r (λ t. doc_of x ≡ Some (view t)) (λ e. IsRefusalOf e (doc_of x)) → IfOk r (λ t. height (view t) ≤ 127)
shallow_part bytes x e r h = shallow_of r (doc_of x) h (λ d whole. height_of_read bytes x d e whole)
