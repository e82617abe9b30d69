use Rattle.std.proofs.Common.{◌≡◌, length}
use Rattle.slot_commits.specs.Pairs.{AreSectors}
use Rattle.slot_commits.proofs.pair.make_sectors.Given as goal

abbrev pub invariant-loop-k : goal.invariant-loop-k
invariant-loop-k l =
    record {
      size : length l.sectors ≡ 32;
      made : AreSectors l.slot l.tail l.sectors l.k;
    }
