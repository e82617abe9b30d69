use Rattle.std.proofs.Common.{◌≡◌, length}
use Rattle.doc_changes.specs.MarkView.{AreSet, all_before}
use Rattle.doc_changes.proofs.marks.Marks.unset_all.Given as goal

-- those that are left lead back to the same marks
abbrev pub invariant-loop-last : goal.invariant-loop-last
invariant-loop-last l = (all_before l.left.items l.self ≡ all_before l.fn.unsets.items l.fn.self) × AreSet l.left.items l.self

abbrev pub decreases-loop-last : goal.decreases-loop-last
decreases-loop-last l = length l.left.items
