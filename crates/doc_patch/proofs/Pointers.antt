-- Pointers as they are read.
use Rattle.std.proofs.Common.{◌≡◌, ◌≢◌, ◌⊎◌, inl, inr, ℕ, List, Option, Some, None, refl}
use Rattle.doc_pointer.specs.Fault.{IsNoPointer, IsFaultOf}
use Rattle.doc_pointer.specs.Reading.{pointer_of}
use Rattle.doc_pointer.specs.declared.fault.PointerFault.{PointerFault}
use Rattle.doc_pointer.proofs.Readings.{pointer_of-Some}
use Rattle.refusals.specs.declared.numbers.TheConstants.{PATCH_POINTER, MEMORY}

none_read : (text : List ℕ) (o : Option (List (List ℕ))) → pointer_of text ≡ o → IsNoPointer text → o ≡ None
none_read text None e none = refl
none_read text (Some ks) e none = absurd (none ks (pointer_of-Some text ks e))

pub unread : (text : List ℕ) (fault : PointerFault) (n : ℕ) → IsFaultOf text fault → fault.number ≢ MEMORY → n ≡ PATCH_POINTER → ((n ≡ PATCH_POINTER) × (pointer_of text ≡ None)) ⊎ (n ≡ MEMORY)
unread text fault n (inl none) other e = inl (e, none_read text (pointer_of text) refl none.1)
unread text fault n (inr memory) other e = absurd (other memory)
