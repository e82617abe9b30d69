-- Sectors that are written aside: no block of theirs has one that a commit needs.
use Rattle.std.specs.Prelude.{◌≡◌, ◌≢◌, ◌⊎◌, ℕ, ◌+◌, ◌*◌, ◌/◌, ◌<◌, ◌≤◌, [], length, slice_index_or}
use Rattle.sector_device.specs.Disk.{Image}
use Rattle.commit_slots.specs.Slots.{block_start}
use Rattle.slot_commits.specs.States.{State}

-- sector k is one of the slots, or of the whole blocks
abbrev pub IsNeeded : ℕ → State → ℕ → Type 0
IsNeeded sectors c k = (k < 128) ⊎ ((block_start sectors c.half ≤ k) × (k < block_start sectors c.half + 8 * (length c.bytes / 4096)))

-- of no such sector a block of 8 is touched by the count sectors from first on
abbrev pub IsAside : ℕ → State → ℕ → ℕ → Type 0
IsAside sectors c first count = (k j : ℕ) → IsNeeded sectors c k → j < count → k / 8 ≢ (first + j) / 8

-- all needed sectors are as they were
pub record KeepsNeeded (c : State) (before image : Image) : Type 0 where
  pub size : length image ≡ length before
  pub same : (k : ℕ) → IsNeeded (length before) c k → slice_index_or image k [] ≡ slice_index_or before k []
