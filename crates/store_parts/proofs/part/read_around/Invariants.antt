use Rattle.std.proofs.Common.{◌≤◌, ◌*◌, min}
use Rattle.sector_device.specs.Charges.{IsSameRead}
use Rattle.sector_device.specs.Sectors.{KeepsImages}
use Rattle.store_parts.specs.Parts.{IsReadBut}
use Rattle.store_parts.proofs.part.read_around.Given as goal

abbrev pub invariant-loop-k : goal.invariant-loop-k
invariant-loop-k g l =
    let disk = g.D.SectorDevice.disk in
    record {
      same : IsSameRead (disk l.fn.device) (disk l.device);
      later : (disk l.fn.device).failures ≤ (disk l.device).failures;
      keeps : (disk l.device).honest → KeepsImages (disk l.fn.device) (disk l.device);
      read : (disk l.device).honest → IsReadBut (disk l.fn.device).seen l.first (min l.len (512 * l.k)) l.unread.items l.bytes.items;
    }
