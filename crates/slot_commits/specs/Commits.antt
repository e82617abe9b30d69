-- A commit in blocks and slots: what it asks for.
use Rattle.std.specs.Prelude.{◌≡◌, ℕ, ◌+◌, ◌*◌, ◌/◌, ◌≤◌, List, length, drop, Bool, false, Option}
use Rattle.sector_device.specs.Disk.{Disk, Image}
use Rattle.commit_slots.specs.Slots.{IsSlotOf, block_start}
use Rattle.commit_slots.specs.declared.slot.Slot.{Slot}
use Rattle.slot_commits.specs.States.{HoldsBlocks, Stands, State, blocks_of, slot_of, tail_of}
use Rattle.slot_commits.specs.Tears.{IsToldBy, tearing_by}

-- No torn sector verifies. Each image has `Stands` under the number before. As it reads, the half begins with `from` blocks of the new bytes. The blocks that are written are those after them, and none of them counts. If they are not settled first, the slot names none of them, and each image holds those that it names.
pub record CanCommit (torn : Option (List ℕ → Bool)) (disk : Disk) (first : ℕ) (blocks : List ℕ) (settles : Bool) (slot : Slot) (tail : List ℕ) (number : ℕ) (c new : State) (from : ℕ) : Type 0 where
  pub told : IsToldBy torn
  pub honest : disk.honest
  pub names : slot ≡ slot_of new disk.sectors (number + 1)
  pub tail_is : tail ≡ tail_of new
  pub of : IsSlotOf disk.sectors slot tail
  pub stands : (image : Image) → (tearing_by torn disk).left image → Stands number c image
  pub read : HoldsBlocks from new disk.seen
  pub held : settles ≡ false → (image : Image) → (tearing_by torn disk).left image → HoldsBlocks new.blocks new image
  pub first_is : first ≡ block_start disk.sectors new.half + 8 * from
  pub blocks_are : blocks ≡ drop (4096 * from) (blocks_of (length new.bytes / 4096) new.bytes)
  pub apart : new.half ≡ c.half → length c.bytes / 4096 ≤ from
  pub settled : settles ≡ false → new.blocks ≤ from
