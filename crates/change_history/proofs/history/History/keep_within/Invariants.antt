use Rattle.std.proofs.Common.{◌≡◌, ◌≤◌, length}
use Rattle.std.specs.VecDeque.{deque_capacity}
use Rattle.change_history.specs.History.{bytes_of, trimmed, Rises}
use Rattle.change_history.proofs.history.History.keep_within.Given as goal

abbrev pub invariant-loop-self : goal.invariant-loop-self
invariant-loop-self l = record {
  limit : l.self-inside.limit ≡ l.fn.self.history.limit;
  trimmed : trimmed l.most l.self-inside.floor l.self-inside.told.items ≡ trimmed l.most l.fn.self.history.floor l.fn.self.history.told;
  rises : Rises l.self-inside.floor l.self-inside.told.items;
  bytes : l.self-inside.bytes ≡ bytes_of l.self-inside.told.items;
  within : bytes_of l.self-inside.told.items ≤ l.self-inside.limit;
  capacity : deque_capacity l.self-inside.told ≡ l.fn.self.capacity;
}

abbrev pub decreases-loop-self : goal.decreases-loop-self
decreases-loop-self l = length l.self-inside.told.items
