use Rattle.std.proofs.Common.{◌≤◌, ◌≡◌, length}
use Rattle.sector_device.specs.Charges.{IsSameRead}
use Rattle.sector_device.specs.Sectors.{KeepsImages}
use Rattle.store_parts.specs.Parts.{AreSlotsOf}
use Rattle.store_parts.proofs.findings.read_slots.Given as goal

abbrev pub invariant-loop-at : goal.invariant-loop-at
invariant-loop-at g l =
    let disk = g.D.SectorDevice.disk in
    record {
      same : IsSameRead (disk l.fn.device) (disk l.device);
      later : (disk l.fn.device).failures ≤ (disk l.device).failures;
      keeps : (disk l.device).honest → KeepsImages (disk l.fn.device) (disk l.device);
      long : length l.slots.items ≡ l.at;
      slots : (disk l.device).honest → AreSlotsOf (disk l.fn.device).seen l.slots.items;
    }
