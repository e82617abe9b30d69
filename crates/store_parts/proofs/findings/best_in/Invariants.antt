use Rattle.std.proofs.Common.{◌≤◌}
use Rattle.store_parts.specs.Copies.{IsBestOf}
use Rattle.store_parts.proofs.findings.best_in.Given as goal

abbrev pub invariant-loop-place : goal.invariant-loop-place
invariant-loop-place l = record {
  few : l.place ≤ 4;
  best : IsBestOf l.size l.slots l.place l.best;
}
