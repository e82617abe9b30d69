use Rattle.std.proofs.Common.{◌<◌, ◌+◌, length, arith, rules, subst, ◌∙◌, sym}
use Rattle.schema_graph.specs.Numbered.{row_at}
use Rattle.schema_graph.specs.Marks.{Goes}
use Rattle.schema_graph.proofs.Settling.{leads_on, goes_on, ends, edge_at, loops, all_done, more_done, each_done, in_row}
use Rattle.schema_graph.proofs.Ordering.{opened, finished, room, Kept}
use Rattle.schema_graph.proofs.walk.+visit.Goals.{in-Unseen+else-visit, in-Done}
use Rattle.schema_graph.proofs.walk.+visit.Goals as goal

pub loop-next-init : goal.loop-next-init
loop-next-init t c =
    let o = opened c.args.graph.now c.args.walk.now c.open.new.walk c.args.place c.requires.here c.requires.unseen c.requires.walk c.open.ensures.marks c.open.ensures.places c.open.ensures.ranks c.open.ensures.count in
    (o.0, o.1, λ k lt. absurd (omega arith))

pub mark_of-requires : goal.mark_of-requires
mark_of-requires t c =
    let e = edge_at c.args.graph.now c.args.place c.loop-next.next-index c.row-next-items.result.now c.row-next-items.ensures c.loop-next-test.true in
    omega (arith, c.requires.closed c.args.place _ e, c.loop-next.invariant.0.many_marks)

pub returns-in-Open-clause-found : goal.returns-in-Open-clause-found
returns-in-Open-clause-found t c =
    λ _. loops c.args.graph.now c.args.walk.now.marks.items c.loop-next.walk.marks.items c.args.place _ c.requires.closed c.loop-next.invariant.1 c.requires.lead
    (edge_at c.args.graph.now c.args.place c.loop-next.next-index c.row-next-items.result.now c.row-next-items.ensures c.loop-next-test.true) (sym c.mark_of.ensures ∙ c.in-Open.is)

pub visit-requires : goal.visit-requires
visit-requires t c =
    let e = edge_at c.args.graph.now c.args.place c.loop-next.next-index c.row-next-items.result.now c.row-next-items.ensures c.loop-next-test.true in
    let b = c.loop-next.invariant.1 in
    let lt = c.requires.closed c.args.place _ e in
    let fewer = b.fewer in
    (search rules, (lt, (c.loop-next.invariant.0, (c.requires.closed, (sym c.mark_of.ensures ∙ c.in-Unseen.is, leads_on c.args.graph.now c.args.walk.now.marks.items c.loop-next.walk.marks.items c.args.place _ b c.requires.lead e)))))

pub loop-next-preserved : goal.loop-next-preserved
loop-next-preserved t c =
    let g = c.args.graph.now in
    let v = c.args.place in
    let i = c.loop-next.next-index in
    let row = c.row-next-items.result.now in
    let old = c.args.walk.now.marks.items in
    let m = c.loop-next.walk.marks.items in
    let b = c.loop-next.invariant.1 in
    elim c.match-mark_of.branch [
      | in-Unseen+else-visit w ↦ (
          let new = w.visit.new.walk.marks.items in
          let goes = w.visit.ensures.goes w.if-visit.false in
          let walk = w.visit.ensures.walk w.if-visit.false in
          subst (Kept g old v (i + 1)) (sym w.walk-is) (
            walk,
            goes_on g old m new v b goes walk.settled,
            more_done i (row_at g v) new (λ k lt. goes.done _ (c.loop-next.invariant.2 k lt)) (in_row g v i row new c.row-next-items.ensures (w.visit.ensures.done w.if-visit.false)),
          ))
      | in-Done w ↦ subst (Kept g old v (i + 1)) (sym w.walk-is) (
        c.loop-next.invariant.0,
        b,
        more_done i (row_at g v) m c.loop-next.invariant.2 (in_row g v i row m c.row-next-items.ensures (sym c.mark_of.ensures ∙ w.in-Done.is)),
      )
    ]

pub finish-requires-clause-places : goal.finish-requires-clause-places
finish-requires-clause-places t c =
    let w = c.loop-next.invariant.0 in
    let long : c.args.place < length c.loop-next.walk.marks.items = omega (arith, c.requires.here, w.many_marks) in
    omega (arith, w.many_places, w.many_marks, w.placed.many, room c.loop-next.walk.marks.items c.args.place long c.loop-next.invariant.1.here)

pub returns-clause-walk : goal.returns-clause-walk
returns-clause-walk t c =
    λ _. finished c.args.graph.now c.loop-next.walk c.finish.new.walk c.args.place c.requires.here c.loop-next.invariant.1.here c.loop-next.invariant.0
    (each_done c.args.graph.now c.args.place c.loop-next.walk.marks.items (all_done c.loop-next.next-index c.args.graph.now c.args.place c.loop-next.walk.marks.items c.row-next-items.result.now c.row-next-items.ensures c.loop-next-test.false c.loop-next.invariant.2))
    c.finish.ensures.marks c.finish.ensures.places c.finish.ensures.ranks c.finish.ensures.count

pub returns-clause-goes : goal.returns-clause-goes
returns-clause-goes t c =
    λ _. subst (λ m. Goes c.args.walk.now.marks.items m) (sym c.finish.ensures.marks)
    (ends c.args.graph.now c.args.walk.now.marks.items c.loop-next.walk.marks.items c.args.place (omega (arith, c.requires.walk.many_marks, c.requires.here)) c.loop-next.invariant.1 c.requires.unseen
    (all_done c.loop-next.next-index c.args.graph.now c.args.place c.loop-next.walk.marks.items c.row-next-items.result.now c.row-next-items.ensures c.loop-next-test.false c.loop-next.invariant.2)).1
