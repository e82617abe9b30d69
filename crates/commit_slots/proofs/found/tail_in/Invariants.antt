use Rattle.std.proofs.Common.{◌≡◌, ◌<◌, ◌+◌, ◌*◌, ◌-◌, ◌/◌, ◌%◌, length, min, get_or, ℕ, []}
use Rattle.commit_slots.proofs.found.tail_in.Given as goal

abbrev pub invariant-loop-k : goal.invariant-loop-k
invariant-loop-k l = record {
  size : length l.tail.items ≡ min l.bytes (484 * l.k - 60);
  read : (i : ℕ) → i < length l.tail.items → get_or l.tail.items i 0 ≡ get_or (get_or l.slot ((60 + i) / 484) []) (28 + (60 + i) % 484) 0;
}
