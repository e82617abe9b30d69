-- A device that was brought to format 3, but begins with a sector from before.
use Rattle.std.specs.Prelude.{◌≡◌, ◌⊎◌, ℕ, ◌<◌, ◌≤◌, List, [], length, slice_index_or, Bool, true}
use Rattle.sector_device.specs.Disk.{Disk, Image}
use Rattle.sector_device.specs.Charges.{Failed, IsSameRead, Made}
use Rattle.sector_device.specs.Sectors.{KeepsImages}
use Rattle.commit_slots.specs.Slots.{Counts}
use Rattle.commit_slots.specs.declared.slot.Slot.{Slot}
use Rattle.half_journal.specs.Layout.{Fits, IsOf, sector_of}
use Rattle.half_journal.specs.declared.commit_sector.Commit.{Commit}
use Rattle.store_journal.specs.Layout.{IsSized}
use Rattle.store_journal.specs.Models.{model}
use Rattle.refusals.specs.declared.numbers.TheConstants.{DAMAGED, DEVICE, MEMORY}

-- the slot has more changes, or more openings, than the commit sector
abbrev pub IsPast : Commit → Slot → Type 0
IsPast commit slot = (commit.seq < slot.seq) ⊎ (commit.opens < slot.opens)

-- Sector 0 is a commit sector of format 1 or 2, and the slots hold a commit of format 3 that counts and is past it.
pub record IsOutdated (image : Image) : Type 0 where
  pub sized : IsSized true (length image)
  pub commit : Commit
  pub of : IsOf (length image) commit
  pub fits : Fits commit
  pub names : slice_index_or image 0 [] ≡ sector_of commit
  pub slot : Slot
  pub tail : List ℕ
  pub copy : ℕ
  pub counts : Counts slot tail copy image
  pub past : IsPast commit slot

-- nothing was written, and 129 calls were made at most, each of which passed
pub record OnlyLooked (old new : Disk) : Type 0 where
  pub calls : ℕ
  pub few : calls ≤ 129
  pub made : Made old new calls

-- a device that isn't so
pub record IsNewest (old new : Disk) : Type 0 where
  pub same : IsSameRead old new
  pub keeps : new.honest → (rides : Bool) → KeepsImages (model rides old) (model rides new)
  pub newest : new.honest → IsOutdated old.seen → ⊥
  pub looked : OnlyLooked old new

-- one that is, or of which that wasn't found out
pub record IsNotNewest (old new : Disk) (number : ℕ) : Type 0 where
  pub same : IsSameRead old new
  pub keeps : new.honest → (rides : Bool) → KeepsImages (model rides old) (model rides new)
  pub why : ((number ≡ DAMAGED) × (new.honest → IsOutdated old.seen) × OnlyLooked old new) ⊎ ((number ≡ DEVICE) × Failed old new 129) ⊎ ((number ≡ MEMORY) × OnlyLooked old new)
