-- A store of another format that becomes one in slots, in place: what it asks for, and what a crash leaves.
use Rattle.std.specs.Prelude.{◌≡◌, ◌⊎◌, ℕ, ◌+◌, ◌*◌, ◌/◌, ◌%◌, List, length, Bool, Option, Result, OnOk}
use Rattle.sector_device.specs.Disk.{Disk, Image, LeavesOnly}
use Rattle.commit_slots.specs.Slots.{count_of}
use Rattle.commit_slots.specs.Fresh.{IsFresh}
use Rattle.slot_commits.specs.Pairs.{KeepsOutside}
use Rattle.slot_commits.specs.States.{CarriesInSlots, Stands, State}
use Rattle.slot_commits.specs.Tears.{IsToldBy, tearing_by}

-- No torn sector verifies. The device is settled, and the number is fresh.
pub record CanConvert (torn : Option (List ℕ → Bool)) (disk : Disk) (number : ℕ) : Type 0 where
  pub told : IsToldBy torn
  pub honest : disk.honest
  pub alone : (image : Image) → (tearing_by torn disk).left image → image ≡ disk.seen
  pub fresh : IsFresh number disk.seen

-- Sectors 0 to 63 are as they were, and those after the blocks; or these are, and the image carries c, by slots of low numbers.
abbrev pub Converting : ℕ → State → Image → Image → Type 0
Converting number c before image =
    KeepsOutside 64 (64 + 8 * (length c.bytes / 4096)) before image ⊎ (KeepsOutside 0 (128 + 8 * (length c.bytes / 4096)) before image × CarriesInSlots c image × IsFresh (number + 2) image)

-- so at any moment; at Ok each image has `Stands` under the number after this one
pub record Converted {T E : Type 0} (torn : Option (List ℕ → Bool)) (old new : Disk) (number : ℕ) (c : State) (result : Result T E) : Type 0 where
  pub any_moment : LeavesOnly (tearing_by torn old) (tearing_by torn new) (Converting number c old.seen)
  pub done : OnOk result ((image : Image) → (tearing_by torn new).left image → Stands (number + 1) c image)

-- the calls: the whole blocks of that many bytes, and twice both copies of a commit and a sync
abbrev pub convert_calls : ℕ → ℕ
convert_calls bytes = 8 * (bytes / 4096) + 2 * (2 * count_of (bytes % 4096) + 1)
