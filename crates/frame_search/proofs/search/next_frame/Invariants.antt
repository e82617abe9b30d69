use Rattle.std.proofs.Common.{◌≤◌, ◌-◌, length}
use Rattle.frame_search.specs.Places.{IsFirstFrom}
use Rattle.frame_search.proofs.search.next_frame.Given as goal

abbrev pub invariant-loop-at : goal.invariant-loop-at
invariant-loop-at l = record {
  onward : l.from ≤ l.at;
  first : IsFirstFrom l.version l.bytes l.from l.at;
}

abbrev pub decreases-loop-at : goal.decreases-loop-at
decreases-loop-at l = length l.bytes - l.at
