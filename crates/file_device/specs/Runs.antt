-- For the clauses within the crate: runs of sectors, and a file some of whose writes wait in memory.
use Rattle.std.specs.Prelude.{◌≡◌, ◌⊎◌, ℕ, zero, suc, ◌+◌, ◌<◌, List, [], length, slice_index_or, slice_set, Bool, Option, None, Some}
use Rattle.sector_device.specs.Disk.{Image, IsDamage}
use Rattle.sector_device.specs.Sectors.{IsNear}
use Rattle.sector_device.specs.declared.history.History.{History}
use Rattle.sector_device.specs.History.{seen_after, left_by, KeepsTo}

-- the sectors from `first` on replaced by the first `count` of the run
abbrev pub put_run : Image → ℕ → Image → ℕ → Image
put_run image first run zero = image
put_run image first run (suc n) = slice_set (put_run image first run n) (first + n) (slice_index_or run n [])

-- image is before, but that some of the sectors from `first` on are replaced by those of the run
pub record IsOver (first : ℕ) (run : Image) (count : ℕ) (before image : Image) : Type 0 where
  pub length_is : length image ≡ length before
  pub each : (k : ℕ) → (slice_index_or image k [] ≡ slice_index_or before k []) ⊎ ((j : ℕ) × (j < count) × (k ≡ first + j) × (slice_index_or image k [] ≡ slice_index_or run j []))

-- the same, and some of their blocks are torn
pub record IsTornOver (torn : List ℕ → Bool) (first : ℕ) (run : Image) (count : ℕ) (before image : Image) : Type 0 where
  pub size : length image ≡ length before
  pub each : (k : ℕ) → (slice_index_or image k [] ≡ slice_index_or before k []) ⊎ ((j : ℕ) × (j < count) × (k ≡ first + j) × (slice_index_or image k [] ≡ slice_index_or run j [])) ⊎ (IsNear first count k × IsDamage torn (slice_index_or image k []))

-- the one or the other
abbrev pub IsOverBy : Option (List ℕ → Bool) → ℕ → Image → ℕ → Image → Image → Type 0
IsOverBy None = IsOver
IsOverBy (Some torn) = IsTornOver torn

-- such an image of one of those
abbrev pub IsOverSome : Option (List ℕ → Bool) → (Image → Type 0) → ℕ → Image → ℕ → Image → Type 0
IsOverSome torn left first run count image = (before : Image) × left before × IsOverBy torn first run count before image

-- A history whose last writes, of the first `gathered` sectors of the run, the system has not made yet: its calls are
-- those of `told`. As many sectors of the run as were fetched are as the file has them.
pub record IsGathered (sectors : ℕ) (told history : History) (first : ℕ) (run : Image) (gathered fetched : ℕ) : Type 0 where
  -- reads give what the system's reads give, and over it what is gathered
  pub seen : seen_after history ≡ put_run (seen_after told) first run gathered
  -- a crash leaves what the history allows, whether the system has made all of the gathered writes, some, or none
  pub left : (torn : Option (List ℕ → Bool)) (image : Image) → IsOverSome torn (left_by torn told) first run gathered image → left_by torn history image
  -- the device answers as the history has it if the system does
  pub honest : KeepsTo sectors told → KeepsTo sectors history
  pub gives : KeepsTo sectors told → (j : ℕ) → j < fetched → slice_index_or run j [] ≡ slice_index_or (seen_after history) (first + j) []
