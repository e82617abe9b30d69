-- The commit sector of formats 1 and 2: what is written in sector 0. All numbers are big-endian. And the parts of a device.
use Rattle.std.specs.Prelude.{◌≡◌, ◌≢◌, ℕ, ◌+◌, ◌-◌, ◌*◌, ◌/◌, ◌<◌, ◌≤◌, ◌^◌, List, [], ◌∷◌, ◌++◌, replicate, slice_index_or, take, length}
use Rattle.std.specs.Int.{w32, w64, to_be_bytes}
use Rattle.sector_device.specs.Disk.{Image}
use Rattle.half_journal.specs.declared.commit_sector.Commit.{Commit}

-- JPSTORE1
abbrev pub magic : List ℕ
magic = 74 ∷ 80 ∷ 83 ∷ 84 ∷ 79 ∷ 82 ∷ 69 ∷ 49 ∷ []

-- bytes 0 to 47: the magic, the format and the five numbers
abbrev pub fields_of : Commit → List ℕ
fields_of c = magic ++ to_be_bytes w32 c.format ++ to_be_bytes w32 c.half ++ to_be_bytes w64 c.length ++ to_be_bytes w64 c.seq ++ to_be_bytes w64 c.opens ++ to_be_bytes w64 c.sectors

-- the sector: these, and zeros to byte 511
abbrev pub sector_of : Commit → List ℕ
sector_of c = fields_of c ++ replicate 464 0

-- each number fits its field
pub record Fits (c : Commit) : Type 0 where
  pub format : c.format < 2 ^ 32
  pub half : c.half < 2 ^ 32
  pub length : c.length < 2 ^ 64
  pub seq : c.seq < 2 ^ 64
  pub opens : c.opens < 2 ^ 64
  pub sectors : c.sectors < 2 ^ 64

-- the sectors of each half of a device of `sectors` sectors
abbrev pub half_size : ℕ → ℕ
half_size sectors = (sectors - 1) / 2

-- the bytes that a half holds
abbrev pub half_capacity : ℕ → ℕ
half_capacity sectors = 512 * half_size sectors

-- the first sector of half 0 or 1
abbrev pub half_start : ℕ → ℕ → ℕ
half_start sectors half = 1 + half * half_size sectors

-- the format of frames is 1 or 2
pub record IsFormat (format : ℕ) : Type 0 where
  pub at_least : 1 ≤ format
  pub at_most : format ≤ 2

-- The commit sectors of a device of `sectors` sectors. One names format 1 or 2.
pub record IsOf (sectors : ℕ) (c : Commit) : Type 0 where
  pub sectors_is : c.sectors ≡ sectors
  pub format_fits : IsFormat c.format
  pub half_fits : c.half ≤ 1
  pub length_fits : c.length ≤ half_capacity sectors

-- sector 0 is none of them
abbrev pub HasNoSector : Image → Type 0
HasNoSector image = (commit : Commit) → IsOf (length image) commit → Fits commit → slice_index_or image 0 [] ≢ sector_of commit

-- sector 0 begins as one does, whatever follows
abbrev pub HasMagic : Image → Type 0
HasMagic image = take 8 (slice_index_or image 0 []) ≡ magic

-- a number of sectors from the least on
pub record IsFrom (least sectors : ℕ) : Type 0 where
  pub at_least : least ≤ sectors
  pub at_most : sectors ≤ 2 ^ 32

-- the numbers of sectors with which a device can hold a store
abbrev pub IsHalfSized : ℕ → Type 0
IsHalfSized sectors = IsFrom 3 sectors
