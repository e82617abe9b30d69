use Rattle.std.proofs.Common.{◌≡◌, ◌*◌, ◌/◌, ◌<◌, List, ℕ, [], get_or, Bool, Option, None}
use Rattle.sector_device.specs.Disk.{LeavesOnly}
use Rattle.sector_device.specs.Charges.{IsSame, Made}
use Rattle.commit_slots.specs.Slots.{slot_sector}
use Rattle.slot_commits.specs.Formats.{IsFirst, PlanOver, PlanSome, numbered}
use Rattle.slot_commits.specs.Tears.{tearing_by}
use Rattle.slot_commits.proofs.formatting.write_firsts.Given as goal

abbrev pub invariant-loop-place : goal.invariant-loop-place
invariant-loop-place g l =
    let disk = g.D.SectorDevice.disk in
    record {
      same : IsSame (disk l.fn.device) (disk l.device);
      made : Made (disk l.fn.device) (disk l.device) l.place;
      any_moment : (torn : Option (List ℕ → Bool)) → (disk l.fn.device).honest → LeavesOnly (tearing_by torn (disk l.fn.device)) (tearing_by torn (disk l.device)) (PlanSome torn (IsFirst l.slot l.tail) (tearing_by torn (disk l.fn.device)).left);
      seen : (disk l.fn.device).honest → PlanOver None (IsFirst l.slot l.tail) (disk l.fn.device).seen (disk l.device).seen;
      written : (disk l.fn.device).honest → (j : ℕ) → j < l.place → get_or (disk l.device).seen (32 * j) [] ≡ slot_sector (numbered l.slot (j / 2)) l.tail 0;
    }
