use Rattle.doc_tree.specs.Spans.{SameBetween}
use Rattle.doc_tree.proofs.front.are_few_same.Given as goal

abbrev pub invariant-loop-at : goal.invariant-loop-at
invariant-loop-at l = SameBetween l.a l.b 0 l.at
