-- What is answered where something isn't there.
use Rattle.std.proofs.Common.{◌≡◌, ℕ, Option, None, Result, Ok, Err, IsErrAnd, MatchResult, inl, sym, ap, ◌∙◌, subst}
use Rattle.std.specs.Prelude.{ok_or}
use Rattle.doc_edits.specs.OperationFault.{IsMissing}
use Rattle.doc_edits.specs.declared.fault.OperationFault.{OperationFault}
use Rattle.doc_edits.specs.declared.fault.Unmade.{Unmade}
use Rattle.doc_edits.specs.declared.fault.TheConstants.{MISSING}
use Rattle.refusals.specs.declared.numbers.TheConstants.{PATCH_MISSING}

-- an error that `?` hands on as it is
pub refused_same : {A E : Type 0} (r : Result A E) (e : E) (P : A → Type 0) (Q : E → Type 0) → Q e → IsErrAnd r (λ d. d ≡ e) → MatchResult r P Q
refused_same (Ok a) e P Q q h = absurd h
refused_same (Err d) e P Q q h = subst Q (sym h) q

number_of : {A : Type 0} → Result A OperationFault → ℕ
number_of (Ok a) = 0
number_of (Err e) = e.number

-- what was not there is answered as missing
pub missed : {A B C : Type 0} (r : Result B OperationFault) (e m : OperationFault) (o : Option A) (made : Option C) (P : B → Type 0) → Err e ≡ ok_or o m → o ≡ None → m.number ≡ PATCH_MISSING
    → made ≡ None → IsErrAnd r (λ d. d ≡ e) → MatchResult r P (IsMissing made)
unfolding number_of
missed r e m o made P is none missing gone h = refused_same r e P (IsMissing made) (inl (ap number_of is ∙ ap (λ p. number_of (ok_or p m)) none ∙ missing, gone)) h

-- what wasn't made since its place isn't there
pub as_missing : {A : Type 0} (u : Unmade) (made : Option A) → u.fault ≡ MISSING → made ≡ None → IsMissing made u.fault
as_missing u made is none = inl (ap (λ (f : OperationFault). f.number) is, none)
