-- The commit that counts, found in the first sectors of a device.
use Rattle.std.specs.Prelude.{◌≡◌, ◌≢◌, ◌⊎◌, ℕ, ◌+◌, ◌*◌, ◌%◌, ◌<◌, ◌≤◌, List, [], length, take, slice_index_or, Option, Some, None}
use Rattle.commit_slots.specs.Sealed.{beginning, magic}
use Rattle.commit_slots.specs.Slots.{Counts, Image, IsCopy}
use Rattle.commit_slots.specs.declared.slot.Slot.{Slot}
use Rattle.commit_slots.specs.declared.counted.Counted.{Counted}

-- the image begins with these sectors
abbrev pub BeginsAs : List (List ℕ) → Image → Type 0
BeginsAs sectors image = (k : ℕ) → k < length sectors → slice_index_or image k [] ≡ slice_index_or sectors k []

-- the copy that counts, or none is valid
abbrev pub IsFoundIn : Image → Option Counted → Type 0
IsFoundIn image None = (slot : Slot) (tail : List ℕ) (copy : ℕ) → IsCopy slot tail copy image → ⊥
IsFoundIn image (Some c) = Counts c.slot c.tail.items c.copy image

-- which of the four slots a copy of a commit has
abbrev pub slot_place : ℕ → ℕ → ℕ
slot_place number copy = 2 * (number % 2) + copy

-- the copy that is valid in that slot, or none is
abbrev pub IsFoundAt : ℕ → Image → Option Counted → Type 0
IsFoundAt place image None = (slot : Slot) (tail : List ℕ) (copy : ℕ) → IsCopy slot tail copy image → slot_place slot.number copy ≢ place
IsFoundAt place image (Some c) = IsCopy c.slot c.tail.items c.copy image × (slot_place c.slot.number c.copy ≡ place)

-- the copy that counts, if only the first `places` slots are looked at
abbrev pub IsBestOf : ℕ → Image → Option Counted → Type 0
IsBestOf places image None = (slot : Slot) (tail : List ℕ) (copy : ℕ) → IsCopy slot tail copy image → places ≤ slot_place slot.number copy
IsBestOf places image (Some c) =
    IsCopy c.slot c.tail.items c.copy image × (slot_place c.slot.number c.copy < places)
    × ((other : Slot) (rest : List ℕ) (copy : ℕ) → IsCopy other rest copy image → slot_place other.number copy < places → (other.number < c.slot.number) ⊎ ((other.number ≡ c.slot.number) × (c.copy ≤ copy)))

-- a valid copy of a commit with an even number, or with an odd one: pair 0 or 1
abbrev pub HasPair : ℕ → Image → Type 0
HasPair pair image = (slot : Slot) × (tail : List ℕ) × (copy : ℕ) × IsCopy slot tail copy image × (slot.number % 2 ≡ pair)

-- no copy is valid
abbrev pub HasNone : Image → Type 0
HasNone image = (slot : Slot) (tail : List ℕ) (copy : ℕ) → IsCopy slot tail copy image → ⊥

-- It looks like a store: sector 0 begins with JPSTORE1, whatever follows, or another slot with that and format 3.
abbrev pub IsMarked : Image → Type 0
IsMarked image =
    (take 8 (slice_index_or image 0 []) ≡ magic) ⊎ (take 12 (slice_index_or image 32 []) ≡ beginning) ⊎ (take 12 (slice_index_or image 64 []) ≡ beginning) ⊎ (take 12 (slice_index_or image 96 []) ≡ beginning)
