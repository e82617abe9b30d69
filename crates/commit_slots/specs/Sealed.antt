-- A sector of a slot: bytes that verify by their checksum, with the number of their commit and their place in its slot.
use Rattle.std.specs.Prelude.{◌≡◌, ℕ, List, [], ◌∷◌, ◌++◌, length, take, drop, Bool, IsTrue}
use Rattle.std.specs.Int.{w32, w64, to_be_bytes, from_be_bytes}
use Rattle.checksum.specs.Crc.{crc_of}

-- JPSTORE1
abbrev pub magic : List ℕ
magic = 74 ∷ 80 ∷ 83 ∷ 84 ∷ 79 ∷ 82 ∷ 69 ∷ 49 ∷ []

-- bytes 0 to 11: JPSTORE1, format 3
abbrev pub beginning : List ℕ
beginning = 74 ∷ 80 ∷ 83 ∷ 84 ∷ 79 ∷ 82 ∷ 69 ∷ 49 ∷ 0 ∷ 0 ∷ 0 ∷ 3 ∷ []

-- bytes 12 to 15: the checksum of those after them
abbrev pub sealed : List ℕ → List ℕ
sealed rest = beginning ++ to_be_bytes w32 (crc_of rest) ++ rest

-- bytes 16 to 511: the number of the commit, the place in the slot, and 484 bytes of its content
abbrev pub rest_of : ℕ → ℕ → List ℕ → List ℕ
rest_of number place piece = to_be_bytes w64 number ++ to_be_bytes w32 place ++ piece

-- the sector has 512 bytes, and the checksum of its bytes 16 to 511
pub record Verifies (sector : List ℕ) : Type 0 where
  pub whole : length sector ≡ 512
  pub begins : take 16 sector ≡ beginning ++ to_be_bytes w32 (crc_of (drop 16 sector))

-- what it says
abbrev pub number_of : List ℕ → ℕ
number_of sector = from_be_bytes w64 (take 8 (drop 16 sector))

abbrev pub place_of : List ℕ → ℕ
place_of sector = from_be_bytes w32 (take 4 (drop 24 sector))

-- the premise of all: a torn sector doesn't verify
abbrev pub IsNoticed : (List ℕ → Bool) → Type 0
IsNoticed torn = (sector : List ℕ) → IsTrue (torn sector) → Verifies sector → ⊥
