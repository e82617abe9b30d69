use Rattle.std.proofs.Common.{◌≤◌, IfSome, drop}
use Rattle.doc_changes.specs.State.{Good}
use Rattle.sector_device.specs.Charges.{IsSameRead}
use Rattle.sector_device.specs.Sectors.{KeepsImages}
use Rattle.store_parts.specs.Parts.{AreParts}
use Rattle.store_salvage.specs.Making.{IsMade}
use Rattle.store_salvage.proofs.making.newest.Given as goal

abbrev pub invariant-loop-place : goal.invariant-loop-place
invariant-loop-place g l =
    let disk = g.D.SectorDevice.disk in
    record {
      same : IsSameRead (disk l.fn.device) (disk l.device);
      later : (disk l.fn.device).failures ≤ (disk l.device).failures;
      keeps : (disk l.device).honest → KeepsImages (disk l.fn.device) (disk l.device);
      parts : AreParts (disk l.fn.device).sectors (drop l.place l.part-items);
      good : IfSome l.best (λ m. Good m.machine);
      made : (disk l.device).honest → IfSome l.best (IsMade (disk l.fn.device).seen l.found);
    }
