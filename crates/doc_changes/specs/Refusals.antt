-- Refusals as calls answer them.
use Rattle.std.specs.Prelude.{ℕ, List, [], ◌∷◌, Bool, Option, Some, None, if◌then◌else◌}
use Rattle.std.specs.Option.{option_or}
use Rattle.doc_patch.specs.declared.fault.PatchFault.{PatchFault}
use Rattle.refusals.specs.declared.numbers.TheConstants.{REVISION}
use Rattle.doc_changes.specs.declared.refusal.Refusal.{Refusal}

-- the refusal of that number that names no operation of a patch, no revision and no change of a transaction
abbrev pub plain : ℕ → Refusal
plain n = record { number = n; op = None; rev = None; change = None }

-- the refusal of a patch, with the operation at fault
abbrev pub of_patch : PatchFault → Refusal
of_patch fault = record { number = fault.number; op = fault.op; rev = None; change = None }

-- a patch asks for another revision than the document's, which is this one
abbrev pub other_revision : ℕ → Refusal
other_revision revision = record { number = REVISION; op = None; rev = Some revision; change = None }

-- the refusal of the change at that place of a transaction
abbrev pub at_change : ℕ → Refusal → Refusal
at_change place r = record r { change = Some place }

-- that refusal if the test holds
abbrev pub refused_if : Bool → ℕ → Option Refusal
refused_if test n = if test then Some (plain n) else None

-- the first of several refusals
abbrev pub first : List (Option Refusal) → Option Refusal
first [] = None
first (r ∷ rs) = option_or r (first rs)
