-- The refusal that a call answers for one operation.
use Rattle.std.specs.Prelude.{◌≡◌, ◌⊎◌, ℕ, Option, None, Result, Err}
use Rattle.doc_edits.specs.declared.fault.OperationFault.{OperationFault}
use Rattle.refusals.specs.declared.numbers.TheConstants.{PATCH_MISSING, MEMORY}

-- the refusal is the one that the definition gives, or there was no memory
abbrev pub IsOperationFaultOf : {A : Type 0} → Result A ℕ → OperationFault → Type 0
IsOperationFaultOf made fault = (made ≡ Err fault.number) ⊎ (fault.number ≡ MEMORY)

-- the place isn't there, or there was no memory
abbrev pub IsMissing : {A : Type 0} → Option A → OperationFault → Type 0
IsMissing made fault = ((fault.number ≡ PATCH_MISSING) × (made ≡ None)) ⊎ (fault.number ≡ MEMORY)
