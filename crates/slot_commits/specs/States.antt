-- The state of a device in slots and blocks, and the images that carry it.
use Rattle.std.specs.Prelude.{◌⊎◌, ℕ, ◌+◌, ◌*◌, ◌/◌, List, length, take, drop}
use Rattle.sector_device.specs.Disk.{Image}
use Rattle.sector_device.specs.Sectors.{Begins}
use Rattle.checksum.specs.Crc.{crc_of}
use Rattle.commit_slots.specs.Slots.{Counts, IsHeld, IsSlotOf, block_start, slot_start}
use Rattle.commit_slots.specs.Fresh.{IsFresh}
use Rattle.commit_slots.specs.declared.slot.Slot.{Slot}

-- the half that counts, the committed bytes and their numbers, and how many blocks of 4,096 of the bytes the half holds for the slot
pub record State : Type 0 where
  pub half : ℕ
  pub bytes : List ℕ
  pub seq : ℕ
  pub opens : ℕ
  pub blocks : ℕ
  -- the identity of the store
  pub identity : ℕ

-- the first `count` blocks of bytes
abbrev pub blocks_of : ℕ → List ℕ → List ℕ
blocks_of count bytes = take (4096 * count) bytes

-- what the slot says, on a device of `sectors` sectors, under this number
abbrev pub slot_of : State → ℕ → ℕ → Slot
slot_of c sectors number =
    record {
      number = number;
      length = length c.bytes;
      seq = c.seq;
      opens = c.opens;
      sectors = sectors;
      half = c.half;
      blocks = c.blocks;
      check = crc_of (blocks_of c.blocks c.bytes);
      identity = c.identity;
    }

-- the bytes that the slot holds itself
abbrev pub tail_of : State → List ℕ
tail_of c = drop (4096 * c.blocks) c.bytes

-- the half begins with the first `count` blocks of the bytes
abbrev pub HoldsBlocks : ℕ → State → Image → Type 0
HoldsBlocks count c image = Begins image (block_start (length image) c.half) (blocks_of count c.bytes)

-- the copy that counts says so, and the half holds the blocks that it names
pub record CarriesInSlots (c : State) (image : Image) : Type 0 where
  pub number : ℕ
  pub copy : ℕ
  pub counted : Counts (slot_of c (length image) number) (tail_of c) copy image
  pub begins : HoldsBlocks c.blocks c image

-- the one or the other
abbrev pub EitherInSlots : State → State → Image → Type 0
EitherInSlots old new image = CarriesInSlots old image ⊎ CarriesInSlots new image

-- An image of a device that works: both copies of the commit are held, no other sector has its number or a higher one, and the half holds all whole blocks.
pub record Stands (number : ℕ) (c : State) (image : Image) : Type 0 where
  pub of : IsSlotOf (length image) (slot_of c (length image) number) (tail_of c)
  pub first : IsHeld (slot_of c (length image) number) (tail_of c) (slot_start number 0) image
  pub mate : IsHeld (slot_of c (length image) number) (tail_of c) (slot_start number 1) image
  pub fresh : IsFresh (number + 1) image
  pub begins : HoldsBlocks (length c.bytes / 4096) c image
