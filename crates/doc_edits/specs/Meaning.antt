-- The operation that an `Operation` holds.
use Rattle.doc_tree.specs.TreeView.{view}
use Rattle.doc_edits.specs.Operation as pure
use Rattle.doc_edits.specs.declared.operation.Operation.{Operation}
use Rattle.doc_edits.specs.declared.operation.Operation.TheVariants.{Add, Remove, Replace, Move, Copy, Test}

-- the operation that the code's value holds
abbrev pub meaning : Operation → pure.Operation
meaning (Add path value) = pure.add path (view value)
meaning (Remove path) = pure.remove path
meaning (Replace path value) = pure.replace path (view value)
meaning (Move from path) = pure.move from path
meaning (Copy from path) = pure.copy from path
meaning (Test path value) = pure.test path (view value)
