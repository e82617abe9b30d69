use Rattle.std.proofs.Common.{◌≡◌, ◌+◌, ◌-◌, ◌^◌, ◌≤◌, drop, length, min}
use Rattle.change_history.specs.Frames.{bytes_all}
use Rattle.change_history.proofs.batch.bytes_in.Given as goal

abbrev pub invariant-loop-one : goal.invariant-loop-one
invariant-loop-one l = record {
  all : min (l.bytes + length (bytes_all (drop l.one-index l.each))) (2 ^ 64 - 1) ≡ min (length (bytes_all l.each)) (2 ^ 64 - 1);
  most : l.bytes ≤ 2 ^ 64 - 1;
}
