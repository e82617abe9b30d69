use Rattle.std.proofs.Common.{◌≡◌, Ok, drop}
use Rattle.doc_tree.specs.Doc.{Doc}
use Rattle.doc_patch.specs.Meaning.{meanings}
use Rattle.doc_patch.specs.Patch.{patch}
use Rattle.doc_patch.proofs.Single.{Counts, Leaves}
use Rattle.doc_patch.proofs.patch.Patch.only_change.Given as goal

abbrev pub invariant-loop-operation : goal.invariant-loop-operation
invariant-loop-operation l = ((d e : Doc) → patch (meanings l.self.operations.items) d ≡ Ok e → Leaves l.found l.operation-index (drop l.operation-index l.self.operations.items) d e)
    × Counts l.found (drop l.operation-index l.self.operations.items) l.self.operations.items
