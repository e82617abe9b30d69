-- The refusal that a call answers.
use Rattle.std.specs.Prelude.{◌≡◌, ◌⊎◌, Result, Err, None}
use Rattle.doc_patch.specs.declared.fault.PatchFault.{PatchFault}
use Rattle.refusals.specs.declared.numbers.TheConstants.{MEMORY}

-- there was no memory; no operation is named
abbrev pub no_memory : PatchFault
no_memory = record { number = MEMORY; op = None }

-- the refusal is the one that the definition gives, or there was no memory
abbrev pub IsFaultOf : {A : Type 0} → Result A PatchFault → PatchFault → Type 0
IsFaultOf made fault = (made ≡ Err fault) ⊎ (fault ≡ no_memory)
