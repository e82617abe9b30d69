use Rattle.std.proofs.Common.{◌≡◌, ℕ, List, Bool, Option, length}
use Rattle.sector_device.specs.Charges.{IsSameRead, Made}
use Rattle.sector_device.specs.Sectors.{KeepsImages}
use Rattle.commit_slots.specs.Finding.{BeginsAs}
use Rattle.slot_commits.specs.Tears.{tearing_by}
use Rattle.slot_commits.proofs.reading.read_slots.Given as goal

abbrev pub invariant-loop-k : goal.invariant-loop-k
invariant-loop-k g l =
    let disk = g.D.SectorDevice.disk in
    record {
      same : IsSameRead (disk l.fn.device) (disk l.device);
      made : Made (disk l.fn.device) (disk l.device) l.k;
      keeps : (torn : Option (List ℕ → Bool)) → (disk l.device).honest → KeepsImages (tearing_by torn (disk l.fn.device)) (tearing_by torn (disk l.device));
      buffer : length l.sector ≡ 512;
      long : length l.slots.items ≡ l.k;
      begins : (disk l.device).honest → BeginsAs l.slots.items (disk l.fn.device).seen;
    }
