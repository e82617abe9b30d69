-- The commit of an opening: what it asks for, and what a crash leaves.
use Rattle.std.specs.Prelude.{◌≡◌, ℕ, ◌+◌, ◌*◌, ◌/◌, List, Bool, Option, Result, OnOk}
use Rattle.sector_device.specs.Disk.{Disk, Image, LeavesOnly}
use Rattle.commit_slots.specs.Slots.{count_of}
use Rattle.commit_slots.specs.declared.slot.Slot.{Slot}
use Rattle.slot_commits.specs.Loads.{Awaits}
use Rattle.slot_commits.specs.Puts.{EitherBelow}
use Rattle.slot_commits.specs.States.{Stands, State, slot_of, tail_of}
use Rattle.slot_commits.specs.Tears.{IsToldBy, tearing_by}

-- No torn sector verifies. The device is settled, and carries what was found. The new commit has the same bytes, in the same blocks and the same tail.
pub record CanRenew (torn : Option (List ℕ → Bool)) (disk : Disk) (slot : Slot) (tail : List ℕ) (first : ℕ) (found new : State) : Type 0 where
  pub told : IsToldBy torn
  pub honest : disk.honest
  pub names : slot ≡ slot_of new disk.sectors slot.number
  pub tail_is : tail ≡ tail_of new
  pub half_is : new.half ≡ found.half
  pub bytes_are : new.bytes ≡ found.bytes
  pub blocks_are : new.blocks ≡ found.blocks
  pub alone : (image : Image) → (tearing_by torn disk).left image → image ≡ disk.seen
  pub awaits : Awaits slot.number first found disk.seen

-- At any moment each image carries what was found or what is new. At Ok it has `Stands` under the new number.
pub record Renewed {T E : Type 0} (torn : Option (List ℕ → Bool)) (old new_disk : Disk) (number : ℕ) (found new : State) (result : Result T E) : Type 0 where
  pub any_moment : LeavesOnly (tearing_by torn old) (tearing_by torn new_disk) (EitherBelow (number + 1) found new)
  pub done : OnOk result ((image : Image) → (tearing_by torn new_disk).left image → Stands number new image)

-- the calls of an opening's commit: the whole blocks of the tail, and each copy with a sync
abbrev pub renew_calls : ℕ → ℕ
renew_calls tail = 8 * (tail / 4096) + 2 * (count_of tail + 1)
