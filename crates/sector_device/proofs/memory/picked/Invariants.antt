use Rattle.std.proofs.Common.{◌≡◌, ◌∷◌, drop}
use Rattle.sector_device.specs.Kept.{written_to}
use Rattle.sector_device.specs.Pick.{picked_of}
use Rattle.sector_device.proofs.memory.picked.Given as goal

abbrev pub invariant-loop-write : goal.invariant-loop-write
invariant-loop-write l = picked_of l.left (l.chosen ∷ written_to l.i (drop l.write-index l.unsettled)) ≡ picked_of l.pick (l.settled ∷ written_to l.i l.unsettled)
