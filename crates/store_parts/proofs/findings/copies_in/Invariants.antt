use Rattle.std.proofs.Common.{◌≡◌, ◌≤◌, length}
use Rattle.store_parts.specs.Copies.{AreToldFrom}
use Rattle.store_parts.proofs.findings.copies_in.Given as goal

abbrev pub invariant-loop-place : goal.invariant-loop-place
invariant-loop-place l = record {
  few : l.place ≤ 4;
  long : length l.copies.items ≡ l.place;
  told : AreToldFrom l.size l.slots 0 l.copies.items;
}
