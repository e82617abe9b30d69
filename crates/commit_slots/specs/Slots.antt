-- A commit in a slot: its numbers and the last committed bytes, over up to 32 sectors. All numbers are big-endian.
use Rattle.std.specs.Prelude.{◌≡◌, ◌⊎◌, ℕ, ◌+◌, ◌-◌, ◌*◌, ◌/◌, ◌%◌, ◌<◌, ◌≤◌, ◌^◌, List, [], ◌++◌, length, take, drop, replicate, slice_index_or}
use Rattle.std.specs.Int.{w32, w64, w128, to_be_bytes}
use Rattle.commit_slots.specs.Sealed.{sealed, rest_of}
use Rattle.commit_slots.specs.declared.slot.Slot.{Slot}

-- the contents of all sectors, in order
abbrev pub Image : Type 0
Image = List (List ℕ)

-- its numbers, 60 bytes
abbrev pub numbers_in : Slot → List ℕ
numbers_in slot =
    to_be_bytes w64 slot.length ++ to_be_bytes w64 slot.seq ++ to_be_bytes w64 slot.opens ++ to_be_bytes w64 slot.sectors
    ++ to_be_bytes w32 slot.half ++ to_be_bytes w32 slot.blocks ++ to_be_bytes w32 slot.check ++ to_be_bytes w128 slot.identity

-- the content of a slot: the numbers, and the tail of the committed bytes
abbrev pub content_of : Slot → List ℕ → List ℕ
content_of slot tail = numbers_in slot ++ tail

-- its sectors
abbrev pub count_of : ℕ → ℕ
count_of tail = (60 + tail + 483) / 484

-- the piece in sector k, with zeros after its end
abbrev pub piece_of : ℕ → List ℕ → List ℕ
piece_of k content = take 484 (drop (484 * k) content ++ replicate 484 0)

-- sector k of the slot
unfoldable pub slot_sector : Slot → List ℕ → ℕ → List ℕ
slot_sector slot tail k = sealed (rest_of slot.number k (piece_of k (content_of slot tail)))

-- the slot that begins with that sector of the image holds this commit
abbrev pub IsHeld : Slot → List ℕ → ℕ → Image → Type 0
IsHeld slot tail start image = (k : ℕ) → k < count_of (length tail) → slice_index_or image (start + k) [] ≡ slot_sector slot tail k

-- the parts of a device of `sectors` sectors: four slots of 32 sectors, two halves of whole blocks of 8
abbrev pub half_blocks : ℕ → ℕ
half_blocks sectors = (sectors - 128) / 16

-- the last blocks of a half are for checks of blocks
abbrev pub check_blocks : ℕ → ℕ
check_blocks sectors = (half_blocks sectors + 1024) / 1025

abbrev pub slots_capacity : ℕ → ℕ
slots_capacity sectors = 4096 * (half_blocks sectors - check_blocks sectors)

abbrev pub block_start : ℕ → ℕ → ℕ
block_start sectors half = 128 + half * (8 * half_blocks sectors)

-- the first sector of a copy, 0 or 1, of the commit of that number: even numbers in the first pair of slots
abbrev pub slot_start : ℕ → ℕ → ℕ
slot_start number copy = 64 * (number % 2) + 32 * copy

-- a commit of a device of `sectors` sectors: what its slot doesn't hold is in whole blocks of the half
pub record IsSlotOf (sectors : ℕ) (slot : Slot) (tail : List ℕ) : Type 0 where
  pub sectors_is : slot.sectors ≡ sectors
  pub sectors_fit : sectors ≤ 2 ^ 32
  pub half_fits : slot.half ≤ 1
  pub length_is : slot.length ≡ 4096 * slot.blocks + length tail
  pub length_fits : slot.length ≤ slots_capacity sectors
  pub tail_fits : length tail ≤ 15428
  pub number_fits : slot.number < 2 ^ 64
  pub seq_fits : slot.seq < 2 ^ 64
  pub opens_fits : slot.opens < 2 ^ 64
  pub blocks_fit : slot.blocks < 2 ^ 32
  pub check_fits : slot.check < 2 ^ 32
  pub identity_fits : slot.identity < 2 ^ 128

-- a copy of a commit that is valid
pub record IsCopy (slot : Slot) (tail : List ℕ) (copy : ℕ) (image : Image) : Type 0 where
  pub one_of_two : copy ≤ 1
  pub of : IsSlotOf (length image) slot tail
  pub held : IsHeld slot tail (slot_start slot.number copy) image

-- the copy that counts: a valid one of the highest number, the first of two
pub record Counts (slot : Slot) (tail : List ℕ) (copy : ℕ) (image : Image) : Type 0 where
  pub valid : IsCopy slot tail copy image
  pub highest : (other : Slot) (rest : List ℕ) (place : ℕ) → IsCopy other rest place image → (other.number < slot.number) ⊎ ((other.number ≡ slot.number) × (copy ≤ place))
