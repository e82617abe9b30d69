use Rattle.std.proofs.Common.{◌≤◌, ◌≡◌, ◌<◌, []}
use Rattle.std.specs.List.{AllByRecursion}
use Rattle.sector_device.specs.Charges.{IsSameRead}
use Rattle.damaged_files.proofs.examined.unread_sectors.Given as goal

abbrev pub invariant-loop-at : goal.invariant-loop-at
invariant-loop-at g l =
    let disk = g.D.SectorDevice.disk in
    record {
      same : IsSameRead (disk l.fn.device) (disk l.device);
      later : (disk l.fn.device).failures ≤ (disk l.device).failures;
      within : AllByRecursion (λ at. at < (disk l.fn.device).sectors) l.unread.items;
      heard : l.unread.items ≡ [] → (disk l.device).failures ≡ (disk l.fn.device).failures;
    }
