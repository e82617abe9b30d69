-- The knowledge that an operation leaves.
use Rattle.std.specs.Prelude.{◌≡◌, ℕ, Result, Ok, MatchResult}
use Rattle.std.specs.Option.{ForSome}
use Rattle.doc_tree.specs.Doc.{Doc}
use Rattle.doc_edits.specs.SizeChange.{IsKnown, IsMeasured}
use Rattle.doc_edits.specs.OperationFault.{IsOperationFaultOf}
use Rattle.doc_edits.specs.declared.fault.OperationFault.{OperationFault}
use Rattle.doc_edits.specs.declared.operation.After.{After}

-- the document is what was made, and its measure is answered, with what is known of the value that was put at a place; or what was made is refused
abbrev pub LeavesMeasured : Result Doc ℕ → Doc → Result After OperationFault → Type 0
LeavesMeasured made d result = MatchResult result (λ a. (made ≡ Ok d) × IsMeasured a.measure d × ForSome a.known (λ k. IsKnown k d)) (IsOperationFaultOf made)
