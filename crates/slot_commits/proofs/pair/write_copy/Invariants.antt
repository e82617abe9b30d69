use Rattle.std.proofs.Common.{◌≡◌, ◌+◌, ◌<◌, List, ℕ, [], get_or, Bool, Option, None}
use Rattle.sector_device.specs.Disk.{LeavesOnly}
use Rattle.sector_device.specs.Charges.{IsSame, Made}
use Rattle.commit_slots.specs.Slots.{slot_sector, slot_start}
use Rattle.slot_commits.specs.Pairs.{SlotOver, SlotSome}
use Rattle.slot_commits.specs.Tears.{tearing_by}
use Rattle.slot_commits.proofs.pair.write_copy.Given as goal

abbrev pub invariant-loop-k : goal.invariant-loop-k
invariant-loop-k g l =
    let disk = g.D.SectorDevice.disk in
    record {
      same : IsSame (disk l.fn.device) (disk l.device);
      made : Made (disk l.fn.device) (disk l.device) l.k;
      any_moment : (torn : Option (List ℕ → Bool)) → (disk l.fn.device).honest → LeavesOnly (tearing_by torn (disk l.fn.device)) (tearing_by torn (disk l.device)) (SlotSome torn l.slot l.tail l.copy (tearing_by torn (disk l.fn.device)).left);
      seen : (disk l.fn.device).honest → SlotOver None l.slot l.tail l.copy (disk l.fn.device).seen (disk l.device).seen;
      held : (disk l.fn.device).honest → (k : ℕ) → k < l.k → get_or (disk l.device).seen (slot_start l.slot.number l.copy + k) [] ≡ slot_sector l.slot l.tail k;
    }
