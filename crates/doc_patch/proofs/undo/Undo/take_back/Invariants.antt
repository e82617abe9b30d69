use Rattle.std.proofs.Common.{◌≡◌, map, is_some, true, length}
use Rattle.doc_patch.specs.Undo.{steps_back}
use Rattle.doc_edits.specs.Back.{step_of}
use Rattle.doc_tree.specs.TreeView.{view}
use Rattle.doc_patch.proofs.undo.Undo.take_back.Given as goal

abbrev pub invariant-loop-step : goal.invariant-loop-step
invariant-loop-step l = (steps_back (map step_of l.steps.items) (view l.tree) ≡ steps_back (map step_of l.fn.self.steps.items) (view l.fn.tree)) × (is_some (steps_back (map step_of l.steps.items) (view l.tree)) ≡ true)

abbrev pub decreases-loop-step : goal.decreases-loop-step
decreases-loop-step l = length l.steps.items
