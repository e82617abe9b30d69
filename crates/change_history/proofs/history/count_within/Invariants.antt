use Rattle.std.proofs.Common.{◌≡◌, ◌+◌, ◌++◌, drop, length, take}
use Rattle.std.specs.VecDeque.Iter.{deque_iter_rest}
use Rattle.change_history.specs.History.{first_within, within}
use Rattle.change_history.proofs.history.count_within.Given as goal

abbrev pub invariant-loop-told : goal.invariant-loop-told
invariant-loop-told l =
    let all = deque_iter_rest l.fn.rest in
    let others = deque_iter_rest l.told-iterator in record {
      can_next : goal.iterator-loop-told.can_next l.told-iterator;
      is_finite : goal.iterator-loop-told.is_finite l.told-iterator;
      first : first_within l.most all ≡ take l.count all ++ within l.left others;
      rest : drop l.count all ≡ others;
      count : l.count + length others ≡ length all;
    }
