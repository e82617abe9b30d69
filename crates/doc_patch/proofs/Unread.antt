-- What the pointers of a spelling, read or not, make of its operation.
use Rattle.std.proofs.Common.{◌≡◌, ◌⊎◌, ◌∙◌, sym, ap, subst, inl, inr, Option, None, Some, option_map, Result, Err, IsErrAnd, MatchResult}
use Rattle.std.specs.Prelude.{ℕ, option_and_then}
use Rattle.doc_tree.specs.Doc.{Doc}
use Rattle.doc_edits.specs.Edit.{Tokens}
use Rattle.doc_edits.specs.Operation.{Operation}
use Rattle.doc_edits.specs.OperationFault.{IsOperationFaultOf}
use Rattle.doc_patch.specs.Reading.{checked, not_into_itself, meant}
use Rattle.doc_patch.specs.Meaning.{spelled}
use Rattle.doc_edits.specs.declared.fault.OperationFault.{OperationFault}
use Rattle.doc_patch.specs.declared.spelling.Spelling.{Spelling}
use Rattle.doc_edits.proofs.Missing.{refused_same}
use Rattle.refusals.specs.declared.numbers.TheConstants.{PATCH_POINTER, MEMORY}

-- what is known where a pointer isn't read
abbrev pub IsUnread : Option Tokens → OperationFault → Type 0
IsUnread read e = ((e.number ≡ PATCH_POINTER) × (read ≡ None)) ⊎ (e.number ≡ MEMORY)

-- a spelling's refusal is handed on as it is
pub refused_spelling : {A : Type 0} (s t : Spelling) (r : Result A OperationFault) (e : OperationFault) (P : A → Type 0) → s ≡ t → IsOperationFaultOf (meant (spelled t)) e → IsErrAnd r (λ f. f ≡ e)
    → MatchResult r P (IsOperationFaultOf (meant (spelled s)))
refused_spelling s t r e P is refused h = refused_same r e P (IsOperationFaultOf (meant (spelled s))) (subst (λ x. IsOperationFaultOf (meant (spelled x)) e) (sym is) refused) h

-- its only pointer isn't read
pub unread : (f : Tokens → Operation) (read : Option Tokens) (e : OperationFault) → IsUnread read e → IsOperationFaultOf (checked (option_map f read)) e
unread f read e (inl none) = inl (ap (λ o. checked (option_map f o)) none.1 ∙ ap Err (sym none.0))
unread f read e (inr memory) = inr memory

abbrev from_both : (Tokens → Tokens → Operation) → Option Tokens → Option Tokens → Result Operation ℕ
from_both f from path = checked (option_and_then (λ p. option_map (λ q. f q p) from) path)

-- `path` isn't read, which comes first
pub unread_path : (f : Tokens → Tokens → Operation) (from path : Option Tokens) (e : OperationFault) → IsUnread path e → IsOperationFaultOf (from_both f from path) e
unread_path f from path e (inl none) = inl (ap (from_both f from) none.1 ∙ ap Err (sym none.0))
unread_path f from path e (inr memory) = inr memory

-- `path` is read, and `from` isn't
pub unread_from : (f : Tokens → Tokens → Operation) (from path : Option Tokens) (p : Tokens) (e : OperationFault) → path ≡ Some p → IsUnread from e → IsOperationFaultOf (from_both f from path) e
unread_from f from path p e is (inl none) = inl (ap (from_both f from) is ∙ ap (λ o. from_both f o (Some p)) none.1 ∙ ap Err (sym none.0))
unread_from f from path p e is (inr memory) = inr memory

-- both are read
pub read_both : (f : Tokens → Tokens → Operation) (from path : Option Tokens) (q p : Tokens) → path ≡ Some p → from ≡ Some q → from_both f from path ≡ not_into_itself (f q p)
read_both f from path q p is from_is = ap (from_both f from) is ∙ ap (λ o. from_both f o (Some p)) from_is

-- the pointer of an operation with a value, which is copied
pub read_value : (f : Tokens → Doc → Operation) (read : Option Tokens) (p : Tokens) (v w : Doc) → read ≡ Some p → w ≡ v → checked (option_map (λ q. f q v) read) ≡ not_into_itself (f p w)
read_value f read p v w is same = ap (λ o. checked (option_map (λ q. f q v) o)) is ∙ ap (λ x. not_into_itself (f p x)) (sym same)
