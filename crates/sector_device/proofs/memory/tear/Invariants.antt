use Rattle.std.proofs.Common.{◌≡◌, ◌<◌, ℕ, [], drop, get_or, length}
use Rattle.sector_device.specs.Disk.{HasShape}
use Rattle.sector_device.specs.Kept.{written_near}
use Rattle.sector_device.specs.Pick.{torn_of}
use Rattle.sector_device.proofs.memory.tear.Given as goal

abbrev pub invariant-loop-torn : goal.invariant-loop-torn
invariant-loop-torn l =
    record {
      size : length l.settled.items ≡ length l.fn.settled.items;
      shape : HasShape (length l.fn.settled.items) l.fn.settled.items → HasShape (length l.fn.settled.items) l.settled.items;
      rest : (i : ℕ) → i < length l.settled.items → torn_of (written_near i l.unsettled) i (drop l.torn-index l.damage) (get_or l.settled.items i []) ≡ torn_of (written_near i l.unsettled) i l.damage (get_or l.fn.settled.items i []);
    }
