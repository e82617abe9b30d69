-- The formatting of a device: what a crash leaves.
use Rattle.std.specs.Prelude.{◌≡◌, ◌⊎◌, ℕ, ◌+◌, ◌*◌, ◌/◌, ◌%◌, ◌<◌, ◌≤◌, List, [], length, take, replicate, slice_index_or, Bool, Option, None, Some, Result, OnOk}
use Rattle.sector_device.specs.Disk.{Disk, Image, LeavesOnly}
use Rattle.commit_slots.specs.Sealed.{beginning, magic}
use Rattle.commit_slots.specs.Slots.{IsHeld, count_of, slot_sector, slot_start}
use Rattle.commit_slots.specs.Finding.{HasNone, IsMarked}
use Rattle.commit_slots.specs.Fresh.{IsFresh}
use Rattle.commit_slots.specs.declared.slot.Slot.{Slot}
use Rattle.slot_commits.specs.States.{CarriesInSlots, Stands, State, slot_of, tail_of}
use Rattle.slot_commits.specs.Tears.{IsTornBy, tearing_by}

-- what a device carries that was formatted with these bytes and numbers, and this identity: in half 0, all whole blocks of them
abbrev pub formatted : List ℕ → ℕ → ℕ → ℕ → State
formatted bytes seq opens identity = record { half = 0; bytes = bytes; seq = seq; opens = opens; blocks = length bytes / 4096; identity = identity }

-- sector 0 is no sector of another format: it doesn't begin as a store's, or as a slot, or is torn
abbrev pub IsOfSlots : Option (List ℕ → Bool) → Image → Type 0
IsOfSlots torn image = (take 8 (slice_index_or image 0 []) ≡ magic → ⊥) ⊎ (take 12 (slice_index_or image 0 []) ≡ beginning) ⊎ IsTornBy torn (slice_index_or image 0 [])

-- no store yet: no copy is valid, and sector 0 is none of another format; if no sector tears, nothing looks like one
abbrev pub IsUnmade : Option (List ℕ → Bool) → Image → Type 0
IsUnmade None image = HasNone image × (IsMarked image → ⊥)
IsUnmade (Some torn) image = HasNone image × IsOfSlots (Some torn) image

-- the store, of a device that was just formatted
pub record IsMade (torn : Option (List ℕ → Bool)) (c : State) (image : Image) : Type 0 where
  pub carries : CarriesInSlots c image
  pub fresh : IsFresh 2 image
  pub first : IsOfSlots torn image

-- all of it: both copies under number 1, and both under number 0
pub record IsAllMade (c : State) (image : Image) : Type 0 where
  pub stands : Stands 1 c image
  pub earlier : (copy : ℕ) → copy ≤ 1 → IsHeld (slot_of c (length image) 0) (tail_of c) (slot_start 0 copy) image
  pub first : take 12 (slice_index_or image 0 []) ≡ beginning

-- at any moment no store or all of it, at Ok all
pub record Formatted {T E : Type 0} (torn : Option (List ℕ → Bool)) (old new : Disk) (c : State) (result : Result T E) : Type 0 where
  pub any_moment : LeavesOnly (tearing_by torn old) (tearing_by torn new) (λ image. IsUnmade torn image ⊎ IsMade torn c image)
  pub done : OnOk result ((image : Image) → (tearing_by torn new).left image → IsAllMade c image)

-- the calls: the sectors of the slots, those of the blocks, sync, the first sector of each slot, sync
abbrev pub format_calls : ℕ → ℕ
format_calls bytes = 134 + 8 * (bytes / 4096)

-- the commit under another number
abbrev pub numbered : Slot → ℕ → Slot
numbered slot number = record slot { number = number }

-- Sector k of the slots, before the first of each is written: two copies under number 0 and two under 1, with zeros after them, and in place of the first.
pub record IsRest (slot : Slot) (tail : List ℕ) (k : ℕ) (sector : List ℕ) : Type 0 where
  pub zeros : (k % 32 ≡ 0) ⊎ (count_of (length tail) ≤ k % 32) → sector ≡ replicate 512 0
  pub part : 0 < k % 32 → k % 32 < count_of (length tail) → sector ≡ slot_sector (numbered slot (k / 64)) tail (k % 32)

-- the first sector of one of them
abbrev pub IsFirst : Slot → List ℕ → ℕ → List ℕ → Type 0
IsFirst slot tail k sector = (k % 32 ≡ 0) × (sector ≡ slot_sector (numbered slot (k / 64)) tail 0)

-- image is before, but that some sectors of the slots are written as planned, or torn
pub record PlanOver (torn : Option (List ℕ → Bool)) (plan : ℕ → List ℕ → Type 0) (before image : Image) : Type 0 where
  pub size : length image ≡ length before
  pub each : (k : ℕ) → (slice_index_or image k [] ≡ slice_index_or before k []) ⊎ ((k < 128) × plan k (slice_index_or image k [])) ⊎ ((k < 128) × IsTornBy torn (slice_index_or image k []))

-- such an image of one of those
abbrev pub PlanSome : Option (List ℕ → Bool) → (ℕ → List ℕ → Type 0) → (Image → Type 0) → Image → Type 0
PlanSome torn plan old image = (before : Image) × old before × PlanOver torn plan before image
