-- A commit that is written to its slots: what it asks for, and what a crash leaves.
use Rattle.std.specs.Prelude.{◌≡◌, ℕ, ◌+◌, ◌/◌, List, length, Bool, Option, Result, OnOk}
use Rattle.sector_device.specs.Disk.{Disk, Image, LeavesOnly}
use Rattle.commit_slots.specs.Slots.{IsSlotOf}
use Rattle.commit_slots.specs.Fresh.{IsFresh}
use Rattle.commit_slots.specs.declared.slot.Slot.{Slot}
use Rattle.slot_commits.specs.States.{EitherInSlots, HoldsBlocks, Stands, State, slot_of, tail_of}
use Rattle.slot_commits.specs.Tears.{IsToldBy, tearing_by}

-- No torn sector verifies. Each image has `Stands` under the number before, and holds the blocks that the slot names; as it reads, the device holds all whole blocks.
pub record CanPut (torn : Option (List ℕ → Bool)) (disk : Disk) (slot : Slot) (tail : List ℕ) (number : ℕ) (c new : State) : Type 0 where
  pub told : IsToldBy torn
  pub honest : disk.honest
  pub names : slot ≡ slot_of new disk.sectors (number + 1)
  pub tail_is : tail ≡ tail_of new
  pub of : IsSlotOf disk.sectors slot tail
  pub stands : (image : Image) → (tearing_by torn disk).left image → Stands number c image
  pub holds : (image : Image) → (tearing_by torn disk).left image → HoldsBlocks new.blocks new image
  pub whole : HoldsBlocks (length new.bytes / 4096) new disk.seen

-- the one or the other, and all numbers of sectors are below this one
abbrev pub EitherBelow : ℕ → State → State → Image → Type 0
EitherBelow number old new image = EitherInSlots old new image × IsFresh number image

-- At any moment each image carries what was committed before or what is new. At Ok it has `Stands` under the new number. The old blocks stay.
pub record Put {T E : Type 0} (torn : Option (List ℕ → Bool)) (old new_disk : Disk) (number : ℕ) (c new : State) (result : Result T E) : Type 0 where
  pub any_moment : LeavesOnly (tearing_by torn old) (tearing_by torn new_disk) (EitherBelow (number + 2) c new)
  pub done : OnOk result ((image : Image) → (tearing_by torn new_disk).left image → Stands (number + 1) new image)
  pub stays : HoldsBlocks (length c.bytes / 4096) c new_disk.seen
