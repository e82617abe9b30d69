use Rattle.std.proofs.Common.{take}
use Rattle.doc_patch.specs.Meaning.{meanings}
use Rattle.doc_patch.proofs.Fronts.{IsHolder}
use Rattle.doc_patch.proofs.patch.Patch.reach.Given as goal

abbrev pub invariant-loop-operation : goal.invariant-loop-operation
invariant-loop-operation l = IsHolder l.found (meanings (take l.operation-index l.self.operations.items))
