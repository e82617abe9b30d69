use Rattle.std.proofs.Common.{◌≡◌, drop, length}
use Rattle.sector_device.specs.Kept.{put_all}
use Rattle.sector_device.proofs.memory.settle.Given as goal

abbrev pub invariant-loop-write : goal.invariant-loop-write
invariant-loop-write l = record {
  size : length l.settled.items ≡ length l.fn.settled.items;
  rest : put_all l.settled.items (drop l.write-index l.unsettled) ≡ put_all l.fn.settled.items l.unsettled;
}
