-- A journal that is brought to another format, in place.
use Rattle.std.specs.Prelude.{◌≡◌, ◌⊎◌, ℕ, ◌-◌, ◌≤◌, ◌<◌, List, [], Bool, true, false, length, replicate, slice_index_or}
use Rattle.sector_device.specs.Disk.{Disk, Image}
use Rattle.sector_device.specs.Charges.{Made, Failed}
use Rattle.sector_device.specs.Sectors.{KeepsImages}
use Rattle.commit_slots.specs.Fresh.{IsFresh}
use Rattle.commit_slots.specs.declared.slot.Slot.{Slot}
use Rattle.half_journal.specs.declared.commit_sector.Commit.{Commit}
use Rattle.slot_commits.specs.Loads.{number_end}
use Rattle.store_journal.specs.Calls.{Moved, Stays}
use Rattle.store_journal.specs.Carries.{identity_in, turned}
use Rattle.store_journal.specs.Held.{Numbers}
use Rattle.store_journal.specs.JournalView.{JournalView, carried_of}
use Rattle.store_journal.specs.Writes.{downgrade_calls, upgrade_calls}
use Rattle.refusals.specs.declared.numbers.TheConstants.{BROKEN, DEVICE, MEMORY, SEQ_END}

-- What older slots are on the device leave two numbers for an upgrade, of which the first is odd.
abbrev pub LeavesNumbers : Image → Type 0
LeavesNumbers image = IsFresh (number_end - 3) image

-- the numbers in the other format, in format 3 with this identity: bytes of this size in the other half
abbrev pub numbers_turned : Numbers → Bool → ℕ → ℕ → ℕ → ℕ → Numbers
numbers_turned old rides identity used next blocks =
    record {
      sectors = old.sectors;
      version = 2;
      rides = rides;
      half = 1 - old.half;
      used = used;
      seq = old.seq;
      opens = old.opens;
      identity = identity_in rides identity;
      settled = true;
      next = next;
      blocks = blocks;
    }

-- the commit sector of that many bytes in half 1, with the numbers of that slot
abbrev pub commit_turned : Slot → ℕ → Commit
commit_turned slot used = record { format = 2; half = 1; length = used; seq = slot.seq; opens = slot.opens; sectors = slot.sectors }

-- nothing was written, and 129 calls were made at most, each of which passed
pub record Looked (disk new_disk : Disk) : Type 0 where
  pub kept : new_disk.honest → KeepsImages disk new_disk
  pub calls : ℕ
  pub few : calls ≤ 129
  pub made : Made disk new_disk calls

-- why a conversion to format 3 came to nothing
abbrev pub TurnRefusal : Disk → Disk → ℕ → ℕ → Type 0
TurnRefusal disk new_disk calls number =
    ((number ≡ MEMORY) × Looked disk new_disk)
    ⊎ ((number ≡ SEQ_END) × (new_disk.honest → LeavesNumbers disk.seen → ⊥) × Looked disk new_disk)
    ⊎ ((number ≡ DEVICE) × Failed disk new_disk calls)

-- An upgrade that succeeded: in format 3 with this identity, with the target in the other half. It reads, so nothing is said of bytes if the device isn't honest afterwards.
pub record Upgraded {D : Type 0} (disk new_disk : Disk) (old new : JournalView D) (identity : ℕ) (target : List ℕ) : Type 0 where
  pub worked : old.broken ≡ false
  pub numbers : new_disk.honest → LeavesNumbers disk.seen
  pub bytes : new_disk.honest → new.bytes ≡ target
  pub used : length new.bytes ≡ length target
  pub version : new.version ≡ 2
  pub rides : new.rides ≡ true
  pub half : new.half ≡ 1 - old.half
  pub seq : new.seq ≡ old.seq
  pub opens : new.opens ≡ old.opens
  pub identity_is : new.identity ≡ identity
  pub sectors : new.sectors ≡ old.sectors
  pub works : new.broken ≡ false
  pub settled : new.settled ≡ true
  pub next : new.next < number_end
  pub copied : new.copied ≡ []
  pub made : Made disk new_disk (upgrade_calls (length target))

-- one that wrote nothing: the journal works as before
pub record Unwritten {D : Type 0} (disk new_disk : Disk) (old new : JournalView D) : Type 0 where
  pub worked : old.broken ≡ false
  pub stays : Stays new_disk old new
  pub works : new.broken ≡ false
  pub copied : new_disk.honest → new.copied ≡ old.copied
  pub size : length new.copied ≡ length old.copied
  pub looked : Looked disk new_disk
  pub open looked use *

-- one of its calls failed
pub record Halted {D : Type 0} (disk new_disk : Disk) (calls : ℕ) (old new : JournalView D) : Type 0 where
  pub worked : old.broken ≡ false
  pub stays : Stays new_disk old new
  pub broken : new.broken ≡ true
  pub failed : Failed disk new_disk calls

-- why an upgrade is refused
abbrev pub UpgradeRefusal : {D : Type 0} → Disk → Disk → ℕ → JournalView D → JournalView D → ℕ → Type 0
UpgradeRefusal disk new_disk calls old new number =
    ((number ≡ BROKEN) × (old.broken ≡ true) × (new ≡ old))
    ⊎ ((number ≡ MEMORY) × Unwritten disk new_disk old new)
    ⊎ ((number ≡ SEQ_END) × (new_disk.honest → LeavesNumbers disk.seen → ⊥) × Unwritten disk new_disk old new)
    ⊎ ((number ≡ DEVICE) × Halted disk new_disk calls old new)

-- the sectors of the slots are zeros, but for those in the block of sector 0: so no slot is there, also if sector 0 is damaged
abbrev pub HasNoSlots : Image → Type 0
HasNoSlots image = (k : ℕ) → 8 ≤ k → k < 128 → slice_index_or image k [] ≡ replicate 512 0

-- a downgrade that succeeded: in format 2, with the target in the other half
abbrev pub Downgraded : {D : Type 0} → Disk → Disk → JournalView D → JournalView D → List ℕ → Type 0
Downgraded disk new_disk old new target = Moved disk new_disk old new (turned false 0 (carried_of old) target) (downgrade_calls (length target))
