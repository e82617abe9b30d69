use Rattle.std.proofs.Common.{◌-◌, ◌≤◌, length}
use Rattle.doc_tree.specs.Spans.{SameBetween}
use Rattle.doc_tree.proofs.front.are_many_same.Given as goal

abbrev pub invariant-loop-at : goal.invariant-loop-at
invariant-loop-at l = (l.at ≤ length l.a) × SameBetween l.a l.b 0 l.at

abbrev pub decreases-loop-at : goal.decreases-loop-at
decreases-loop-at l = length l.a - l.at
