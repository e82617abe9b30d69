use Rattle.std.proofs.Common.{arith}
use Rattle.schema_graph.proofs.Ordering.{ordered}
use Rattle.schema_graph.proofs.walk.order_of.Goals as goal

pub returns : goal.returns
returns c =
    let w = c.loop-place.invariant.0 in
    ordered c.args.graph.now c.loop-place.walk.marks.items c.loop-place.walk.places.items c.loop-place.walk.ranks.items c.loop-place.walk.count w.settled w.placed w.many_marks w.many_places w.many_ranks
    (λ a lt. c.loop-place.invariant.2 a (omega (arith, lt, c.loop-place-test.false, c.loop-place.auto.place-end)))
