-- The number that refuses a text.
use Rattle.std.specs.Prelude.{◌≡◌, ◌≢◌, ℕ, Option, Some, None}
use Rattle.doc_tree.specs.Read.{Reading, document, not_json, not_whole}
use Rattle.doc_tree.specs.declared.fault.TreeFault.{TreeFault}
use Rattle.refusals.specs.declared.numbers.TheConstants.{NOT_JSON, NUMBER, MEMORY}

-- the number that refuses a text, by what it is read as, if it is refused
abbrev pub refusal_of : Reading → Option ℕ
refusal_of (document d) = None
refusal_of not_json = Some NOT_JSON
refusal_of not_whole = Some NUMBER

-- unless memory was refused, the fault is the reading's own
abbrev pub IsFaultOf : TreeFault → Reading → Type 0
IsFaultOf e r = e.number ≢ MEMORY → refusal_of r ≡ Some e.number

-- the same of data that was read, in which a number may not be whole
abbrev pub IsRefusalOf : {A : Type 0} → TreeFault → Option A → Type 0
IsRefusalOf e o = e.number ≢ MEMORY → (e.number ≡ NUMBER) × (o ≡ None)
