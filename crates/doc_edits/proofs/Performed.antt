-- What is answered where an operation is refused.
use Rattle.std.proofs.Common.{◌≡◌, ◌∙◌, sym, ap, subst, inl, inr, ℕ, Option, None, Result, Ok, Err, IfOk, IsErrAnd, MatchResult}
use Rattle.std.specs.Option.{ForSome}
use Rattle.doc_tree.specs.Doc.{Doc}
use Rattle.doc_edits.specs.Operation.{change, or_missing}
use Rattle.doc_edits.specs.OperationFault.{IsOperationFaultOf, IsMissing}
use Rattle.doc_edits.specs.SizeChange.{IsKnown}
use Rattle.doc_edits.specs.Meaning.{meaning}
use Rattle.doc_edits.specs.declared.size_change.KnownPlace.{KnownPlace}
use Rattle.doc_edits.specs.declared.operation.Operation.{Operation}
use Rattle.doc_edits.specs.declared.fault.OperationFault.{OperationFault}
use Rattle.doc_edits.proofs.Missing.{refused_same}

-- the refusal of that operation is handed on as it is
pub refused_as : {A : Type 0} (o p : Operation) (d : Doc) (r : Result A OperationFault) (e : OperationFault) (P : A → Type 0) → o ≡ p → IsOperationFaultOf (change (meaning p) d) e → IsErrAnd r (λ f. f ≡ e)
    → MatchResult r P (IsOperationFaultOf (change (meaning o) d))
refused_as o p d r e P is refused h = refused_same r e P (IsOperationFaultOf (change (meaning o) d)) (subst (λ x. IsOperationFaultOf (change (meaning x) d) e) (sym is) refused) h

-- what isn't there is refused as missing
pub refused_missing : (made : Option Doc) (e : OperationFault) → IsMissing made e → IsOperationFaultOf (or_missing made) e
refused_missing made e (inl none) = inl (ap or_missing none.1 ∙ ap Err (sym none.0))
refused_missing made e (inr memory) = inr memory

pub nothing_known : (k : Option KnownPlace) (d : Doc) → k ≡ None → ForSome k (λ k. IsKnown k d)
nothing_known k d none = λ x has. (let contrary = sym none ∙ has in absurd (cc contrary))

-- what holds at each bound holds at this one
pub with_most : {A : Type 0} (r : Result A OperationFault) (most : ℕ) (P : ℕ → A → Type 0) → IfOk r (λ a. (m : ℕ) → P m a) → IfOk r (P most)
with_most (Ok a) most P h = h most
with_most (Err e) most P h = tt
