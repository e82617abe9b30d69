use Rattle.std.proofs.Common.{◌≡◌, take, length}
use Rattle.sector_device.proofs.memory.copy.Given as goal

abbrev pub invariant-loop-i : goal.invariant-loop-i
invariant-loop-i l = record { size : length l.to.items ≡ length l.from; same : take l.i l.to.items ≡ take l.i l.from }
