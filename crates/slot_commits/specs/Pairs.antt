-- The writes of a commit's copies: what a crash may leave meanwhile.
use Rattle.std.specs.Prelude.{◌≡◌, ◌⊎◌, ℕ, ◌+◌, ◌/◌, ◌<◌, ◌≤◌, List, [], length, slice_index_or, Bool, Option}
use Rattle.sector_device.specs.Disk.{Disk, Image}
use Rattle.commit_slots.specs.Slots.{IsSlotOf, count_of, slot_sector, slot_start}
use Rattle.commit_slots.specs.Fresh.{IsFresh}
use Rattle.commit_slots.specs.declared.slot.Slot.{Slot}
use Rattle.slot_commits.specs.States.{HoldsBlocks, State, slot_of, tail_of}
use Rattle.slot_commits.specs.Tears.{IsTornBy}

-- sector k is one of that copy, and holds what it is to hold
abbrev pub IsOfCopy : Slot → List ℕ → ℕ → ℕ → List ℕ → Type 0
IsOfCopy slot tail copy k sector = (j : ℕ) × (j < count_of (length tail)) × (k ≡ slot_start slot.number copy + j) × (sector ≡ slot_sector slot tail j)

-- the first `count` of these are those of the slot
abbrev pub AreSectors : Slot → List ℕ → List (List ℕ) → ℕ → Type 0
AreSectors slot tail sectors count = (k : ℕ) → k < count → slice_index_or sectors k [] ≡ slot_sector slot tail k

-- image is before, but that some sectors of that copy are written, and some of its slot torn
pub record SlotOver (torn : Option (List ℕ → Bool)) (slot : Slot) (tail : List ℕ) (copy : ℕ) (before image : Image) : Type 0 where
  pub size : length image ≡ length before
  pub each : (k : ℕ) → (slice_index_or image k [] ≡ slice_index_or before k []) ⊎ IsOfCopy slot tail copy k (slice_index_or image k [])
      ⊎ ((k / 32 ≡ slot_start slot.number copy / 32) × IsTornBy torn (slice_index_or image k []))

-- such an image of one of those
abbrev pub SlotSome : Option (List ℕ → Bool) → Slot → List ℕ → ℕ → (Image → Type 0) → Image → Type 0
SlotSome torn slot tail copy old image = (before : Image) × old before × SlotOver torn slot tail copy before image

-- all but the count sectors from first on are as they were
pub record KeepsOutside (first count : ℕ) (before image : Image) : Type 0 where
  pub size : length image ≡ length before
  pub same : (k : ℕ) → (k < first) ⊎ (first + count ≤ k) → slice_index_or image k [] ≡ slice_index_or before k []

-- such an image of one of those
abbrev pub OutsideSome : (Image → Type 0) → ℕ → ℕ → Image → Type 0
OutsideSome old first count image = (before : Image) × old before × KeepsOutside first count before image

-- The commit is named by this state, and its number is fresh; as it reads, the device holds all whole blocks.
pub record CanLay (disk : Disk) (slot : Slot) (tail : List ℕ) (new : State) : Type 0 where
  pub honest : disk.honest
  pub names : slot ≡ slot_of new disk.sectors slot.number
  pub tail_is : tail ≡ tail_of new
  pub of : IsSlotOf disk.sectors slot tail
  pub fresh : IsFresh slot.number disk.seen
  pub whole : HoldsBlocks (length new.bytes / 4096) new disk.seen
