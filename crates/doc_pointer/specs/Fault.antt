-- The texts that are refused, and the number of the refusal.
use Rattle.std.specs.Prelude.{◌≡◌, ◌≢◌, ◌⊎◌, ℕ, List}
use Rattle.doc_pointer.specs.Text.{escaped, pointer_text}
use Rattle.doc_pointer.specs.declared.fault.PointerFault.{PointerFault}
use Rattle.refusals.specs.declared.numbers.TheConstants.{POINTER, MEMORY}

-- no list of tokens has the text
abbrev pub IsNoPointer : List ℕ → Type 0
IsNoPointer text = (ks : List (List ℕ)) → pointer_text ks ≢ text

-- the text is no pointer, or there was no memory
abbrev pub IsFaultOf : List ℕ → PointerFault → Type 0
IsFaultOf text fault = ((fault.number ≡ POINTER) × IsNoPointer text) ⊎ (fault.number ≡ MEMORY)

-- no token is written in this way
abbrev pub IsNoToken : List ℕ → Type 0
IsNoToken text = (k : List ℕ) → escaped k ≢ text

-- no token is written in this way, or there was no memory
abbrev pub IsTokenFaultOf : List ℕ → PointerFault → Type 0
IsTokenFaultOf text fault = ((fault.number ≡ POINTER) × IsNoToken text) ⊎ (fault.number ≡ MEMORY)
