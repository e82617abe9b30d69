-- The parts of a device that may hold frames.
use Rattle.std.specs.Prelude.{◌≡◌, ◌≢◌, ◌≤◌, ◌<◌, ◌+◌, ◌*◌, ◌/◌, ◌^◌, ◌⊎◌, ◌++◌, ◌%◌, [], Contains, ℕ, List, Some, None, replicate, slice_index, slice_index_or, take, length}
use Rattle.std.specs.List.{AllByRecursion}
use Rattle.checksum.specs.Crc.{crc_of}
use Rattle.commit_slots.specs.Sealed.{Verifies, beginning}
use Rattle.sector_device.specs.Disk.{Image}
use Rattle.sector_device.specs.Sectors.{byte_at}
use Rattle.store_parts.specs.declared.checking.Check.{Check}
use Rattle.store_parts.specs.declared.checking.Check.TheVariants.{Held as CheckHeld, Failed, Unknown}
use Rattle.store_parts.specs.declared.part.Part.{Part}

-- a device of `sectors` sectors has the part
pub record HasPart (sectors : ℕ) (part : Part) : Type 0 where
  pub inside : 512 * part.first + part.len ≤ 512 * sectors
  pub small : 512 * part.first + part.len < 2 ^ 60

-- it has each of them
abbrev pub AreParts : ℕ → List Part → Type 0
AreParts sectors parts = AllByRecursion (HasPart sectors) parts

-- the byte `i` of the tail that is in the slot which begins with that sector: after the numbers, 484 bytes in each sector
abbrev pub slot_byte : Image → ℕ → ℕ → ℕ
slot_byte image slot i = slice_index (slice_index_or image (slot + (60 + i) / 484) []) (28 + (60 + i) % 484)

-- each byte of a part's tail is that of its slot, or in the place of a sector that isn't one of it, zero
abbrev pub HasTail : Image → Part → Type 0
HasTail image part = (i : ℕ) → i < length part.tail.items → (slice_index part.tail.items i ≡ slot_byte image part.slot i) ⊎ (slice_index part.tail.items i ≡ 0)

-- and of each of the parts
abbrev pub HaveTails : Image → List Part → Type 0
HaveTails image parts = AllByRecursion (HasTail image) parts

-- a sector as it was read, or if it wasn't or isn't there, zeros
abbrev pub IsSectorOrZeros : Image → ℕ → List ℕ → Type 0
IsSectorOrZeros image at sector = (sector ≡ slice_index_or image at []) ⊎ (sector ≡ replicate 512 0)

-- the sectors of the slots so
abbrev pub AreSlotsOf : Image → List (List ℕ) → Type 0
AreSlotsOf image slots = (k : ℕ) → k < length slots → IsSectorOrZeros image k (slice_index_or slots k [])

-- a sector of these has its checksum
abbrev pub HasSealed : List (List ℕ) → Type 0
HasSealed slots = (k : ℕ) × (k < length slots) × Verifies (slice_index_or slots k [])

-- the first sector of a slot begins as slots do
abbrev pub BeginSlots : List (List ℕ) → Type 0
BeginSlots slots = (place : ℕ) × (place < 4) × (take 12 (slice_index_or slots (32 * place) []) ≡ beginning)

-- that, or a sector of a slot has its checksum
abbrev pub IsMarkedSlots : List (List ℕ) → Type 0
IsMarkedSlots slots = BeginSlots slots ⊎ HasSealed slots

-- what is said of the part's bytes in the half, the first of these: they have the checksum that is known, or another
abbrev pub HasCheck : Part → List ℕ → Check → Type 0
HasCheck part bytes CheckHeld = (part.len ≤ length bytes) × (part.check ≡ Some (crc_of (take part.len bytes)))
HasCheck part bytes Failed = (part.len ≤ length bytes) × (part.check ≢ Some (crc_of (take part.len bytes)))
HasCheck part bytes Unknown = (part.check ≡ None) ⊎ (length bytes < part.len)

-- the bytes, `count` in number, are those of the sectors from `start` on; of a sector that was not read they are zeros
pub record IsReadBut (image : Image) (start count : ℕ) (unread bytes : List ℕ) : Type 0 where
  pub size : length bytes ≡ count
  pub each : (i : ℕ) → i < count → (byte_at image start i ≡ slice_index bytes i) ⊎ (Contains unread (start + i / 512) × (slice_index bytes i ≡ 0))

-- the part's bytes are those of its sectors, and after them its tail
abbrev pub HasBytes : Image → Part → List ℕ → List ℕ → Type 0
HasBytes image part unread bytes = (half : List ℕ) × IsReadBut image part.first part.len unread half × (bytes ≡ half ++ part.tail.items)
