use Rattle.std.proofs.Common.{drop}
use Rattle.sector_device.specs.Charges.{IsSameRead}
use Rattle.sector_device.specs.Sectors.{KeepsImages}
use Rattle.store_parts.specs.Parts.{AreParts}
use Rattle.damaged_files.proofs.PartTexts.{WroteBefore}
use Rattle.damaged_files.proofs.parts.show_parts.Given as goal

abbrev pub invariant-loop-part : goal.invariant-loop-part
invariant-loop-part g l =
    let disk = g.D.SectorDevice.disk in
    record {
      same : IsSameRead (disk l.fn.device) (disk l.device);
      keeps : (disk l.device).honest → KeepsImages (disk l.fn.device) (disk l.device);
      parts : AreParts (disk l.fn.device).sectors (drop l.part-index l.part-items);
      shown : (disk l.device).honest → WroteBefore (disk l.fn.device).seen l.found l.part-items l.part-index (g.O.Write.contents l.fn.writer) (g.O.Write.contents l.writer);
    }
