use Rattle.std.proofs.Common.{◌≡◌, drop}
use Rattle.doc_patch.specs.Meaning.{meanings}
use Rattle.doc_patch.specs.Reading.{operations_from}
use Rattle.doc_tree.specs.TreeView.{elements_view}
use Rattle.doc_patch.proofs.Operations.{prepended}
use Rattle.doc_patch.proofs.patch.Patch.read.Given as goal

abbrev pub invariant-loop-index : goal.invariant-loop-index
invariant-loop-index l = prepended (meanings l.operations.items) (operations_from l.index (elements_view (drop l.index l.item-items))) ≡ operations_from 0 (elements_view l.item-items)
