-- The transactions that an iterator gives.
use Rattle.std.specs.Iterator.Runs.{YieldsRefsInOrder}
use Rattle.std.specs.VecDeque.Iter.{deque_iter_rest, deque_iter_steps}
use Rattle.change_history.specs.History.{Told}

-- each run of it gives what was left, in order
abbrev pub TellsInOrder : Type 0
TellsInOrder = YieldsRefsInOrder (deque_iter_steps {X = Told}) (deque_iter_rest {X = Told})
