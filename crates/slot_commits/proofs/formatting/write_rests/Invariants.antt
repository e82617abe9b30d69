use Rattle.std.proofs.Common.{◌<◌, List, ℕ, [], get_or, Bool, Option}
use Rattle.sector_device.specs.Disk.{LeavesOnly}
use Rattle.sector_device.specs.Charges.{IsSame, Made}
use Rattle.slot_commits.specs.Formats.{IsRest, PlanSome}
use Rattle.slot_commits.specs.Tears.{tearing_by}
use Rattle.slot_commits.proofs.formatting.write_rests.Given as goal

abbrev pub invariant-loop-k : goal.invariant-loop-k
invariant-loop-k g l =
    let disk = g.D.SectorDevice.disk in
    record {
      same : IsSame (disk l.fn.device) (disk l.device);
      made : Made (disk l.fn.device) (disk l.device) l.k;
      any_moment : (torn : Option (List ℕ → Bool)) → (disk l.fn.device).honest → LeavesOnly (tearing_by torn (disk l.fn.device)) (tearing_by torn (disk l.device)) (PlanSome torn (IsRest l.slot l.tail) (tearing_by torn (disk l.fn.device)).left);
      written : (disk l.fn.device).honest → (j : ℕ) → j < l.k → IsRest l.slot l.tail j (get_or (disk l.device).seen j []);
    }
