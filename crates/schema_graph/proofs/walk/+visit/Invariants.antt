use Rattle.schema_graph.specs.Marks.{unseen}
use Rattle.schema_graph.proofs.Ordering.{Kept}
use Rattle.schema_graph.proofs.walk.+visit.Given as goal

abbrev pub decreases-visit : goal.decreases-visit
decreases-visit l = unseen l.walk.now.marks.items

abbrev pub invariant-loop-next : goal.invariant-loop-next
invariant-loop-next l = Kept l.graph l.fn.walk.marks.items l.place l.next-index l.walk
