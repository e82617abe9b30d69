-- Damage of an image: sectors of the slots that don't verify, and blocks with another check than the slot has.
use Rattle.std.specs.Prelude.{◌≡◌, ◌≢◌, ◌⊎◌, ℕ, ◌/◌, ◌<◌, List, [], length, slice_index_or}
use Rattle.sector_device.specs.Disk.{Image}
use Rattle.sector_device.specs.Sectors.{Begins}
use Rattle.checksum.specs.Crc.{crc_of}
use Rattle.commit_slots.specs.Sealed.{Verifies}
use Rattle.commit_slots.specs.Slots.{IsHeld, block_start, slot_start}
use Rattle.slot_commits.specs.States.{State, blocks_of, slot_of, tail_of}

-- each sector of the slots is as it was, or doesn't verify; the others may be anything
pub record IsDamaged (before image : Image) : Type 0 where
  pub size : length image ≡ length before
  pub slots : (k : ℕ) → k < 128 → (slice_index_or image k [] ≡ slice_index_or before k []) ⊎ (Verifies (slice_index_or image k []) → ⊥)

-- but for one block of 8 sectors, all is as it was
abbrev pub IsOneBlock : ℕ → Image → Image → Type 0
IsOneBlock block before image = (k : ℕ) → k / 8 ≢ block → slice_index_or image k [] ≡ slice_index_or before k []

-- the check notices it: the half begins with the blocks that the slot names, or with others, which have another check
abbrev pub IsTold : State → Image → Type 0
IsTold c image =
    (bytes : List ℕ) → length bytes ≡ length (blocks_of c.blocks c.bytes) → Begins image (block_start (length image) c.half) bytes → crc_of bytes ≡ crc_of (blocks_of c.blocks c.bytes) → bytes ≡ blocks_of c.blocks c.bytes

-- that copy of the commit is as it was
abbrev pub HoldsCopy : ℕ → State → ℕ → Image → Type 0
HoldsCopy number c copy image = IsHeld (slot_of c (length image) number) (tail_of c) (slot_start number copy) image
