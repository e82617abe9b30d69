use Rattle.std.proofs.Common.{◌≡◌, ◌+◌, drop}
use Rattle.std.specs.Option.{ForSome}
use Rattle.doc_edits.specs.SizeChange.{IsKnown, IsMeasured}
use Rattle.doc_patch.specs.Held.{capped, copied, siblings, sum}
use Rattle.doc_patch.specs.Keeping.{IsWhole, kept}
use Rattle.doc_patch.specs.Meaning.{meanings}
use Rattle.doc_patch.specs.Patch.{patch_from}
use Rattle.doc_patch.specs.Undo.{steps_back}
use Rattle.doc_tree.specs.Sound.{IsSound}
use Rattle.doc_tree.specs.TreeView.{view}
use Rattle.doc_patch.proofs.patch.Patch.apply_each.Given as goal

abbrev pub invariant-loop-index : goal.invariant-loop-index
invariant-loop-index l =
    (patch_from l.index (meanings (drop l.index l.operation-items)) (view l.tree) ≡ patch_from 0 (meanings l.operation-items) (view l.initial.tree))
    × IsMeasured l.measure (view l.tree) × ForSome l.known (λ k. IsKnown k (view l.tree)) × IsSound (view l.tree)
    × (steps_back (kept l.log) (view l.tree) ≡ steps_back (kept l.initial.log) (view l.initial.tree)) × IsWhole l.log
    × (capped (l.log.copied + sum copied (meanings (drop l.index l.operation-items)) (view l.tree)) ≡ capped (l.initial.log.copied + sum copied (meanings l.operation-items) (view l.initial.tree)))
    × (capped (l.log.siblings + sum siblings (meanings (drop l.index l.operation-items)) (view l.tree)) ≡ capped (l.initial.log.siblings + sum siblings (meanings l.operation-items) (view l.initial.tree)))
