use Rattle.std.proofs.Common.{◌-◌, ◌<◌, ◌≤◌}
use Rattle.store_parts.proofs.pieces.end_of.Given as goal

abbrev pub invariant-loop-end : goal.invariant-loop-end
invariant-loop-end l = record {
  after : l.at < l.end;
  inside : l.end ≤ 128;
}

abbrev pub decreases-loop-end : goal.decreases-loop-end
decreases-loop-end l = 128 - l.end
