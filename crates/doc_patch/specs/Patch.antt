-- The document that a patch makes of another, or a refusal that names its operation, counted from 0 (RFC 6902, section
-- 5).
use Rattle.std.specs.Prelude.{ℕ, suc, List, [], ◌∷◌, Some, Result, Ok, Err}
use Rattle.doc_tree.specs.Doc.{Doc}
use Rattle.doc_edits.specs.Operation.{Operation, op}
use Rattle.doc_patch.specs.declared.fault.PatchFault.{PatchFault}

-- the refusal of a patch at its operation i
abbrev pub fault_at : ℕ → ℕ → PatchFault
fault_at number i = record { number = number; op = Some i }

-- what the operation i made goes on to the later ones, and its refusal is the patch's
abbrev pub go_on : ℕ → Result Doc ℕ → (Doc → Result Doc PatchFault) → Result Doc PatchFault
go_on i (Err number) f = Err (fault_at number i)
go_on i (Ok d) f = f d

-- the operations one after the other, the first of them the i-th, until one is refused
abbrev pub patch_from : ℕ → List Operation → Doc → Result Doc PatchFault
patch_from i [] d = Ok d
patch_from i (o ∷ os) d = go_on i (op o d) (patch_from (suc i) os)

-- what the patch makes of the document (section 5)
abbrev pub patch : List Operation → Doc → Result Doc PatchFault
patch os d = patch_from 0 os d
