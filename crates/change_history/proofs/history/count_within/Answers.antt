use Rattle.std.proofs.Common.{◌∙◌, ap, length, add-one, arith}
use Rattle.std.specs.VecDeque.Iter.{deque_iter_rest}
use Rattle.change_history.proofs.First.{drop_one, first_more}
use Rattle.change_history.proofs.history.count_within.Goals as goal

pub loop-told-preserved : goal.loop-told-preserved
loop-told-preserved c =
    let all = deque_iter_rest c.args.rest in
    let rest = deque_iter_rest c.loop-told.told-iterator in
    let more = deque_iter_rest c.next-in-loop-told.new.self in
    let told = c.in-Some-told.told.now in
    let before = c.loop-told.invariant in
    let step = c.in-Some-told.ensures.steps in
    let count = before.count in
    let len = ap length step in record {
      can_next = tt;
      is_finite = tt;
      first = first_more c.args.most c.loop-told.left c.loop-told.count c.bytes-bytes.result all told rest more before.first before.rest step c.bytes-bytes.ensures c.if-left-bytes.false;
      rest = rw add-one (drop_one all c.loop-told.count told more (before.rest ∙ step));
      count = omega (arith, count, len);
    }
