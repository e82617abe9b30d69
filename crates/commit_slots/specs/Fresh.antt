-- Slots that are written under a fresh number: the images that a crash may leave of them.
use Rattle.std.specs.Prelude.{◌≡◌, ◌⊎◌, ℕ, ◌+◌, ◌<◌, ◌≤◌, List, [], length, slice_index_or}
use Rattle.commit_slots.specs.Sealed.{Verifies, number_of}
use Rattle.commit_slots.specs.Slots.{Counts, Image, count_of, slot_sector, slot_start}
use Rattle.commit_slots.specs.declared.slot.Slot.{Slot}

-- sector k is one of a copy of the commit, and holds what it is to hold
abbrev pub IsPartOf : Slot → List ℕ → ℕ → List ℕ → Type 0
IsPartOf slot tail k sector = (copy j : ℕ) × (copy ≤ 1) × (j < count_of (length tail)) × (k ≡ slot_start slot.number copy + j) × (sector ≡ slot_sector slot tail j)

-- of the 128 sectors of slots each is as it was, or is torn, of which alone is known that it doesn't verify, or is one of a copy of the new commit
abbrev pub MayTear : Slot → List ℕ → Image → Image → Type 0
MayTear slot tail before image =
    (k : ℕ) → k < 128 → (slice_index_or image k [] ≡ slice_index_or before k []) ⊎ (Verifies (slice_index_or image k []) → ⊥) ⊎ IsPartOf slot tail k (slice_index_or image k [])

-- no sector of the slots that verifies has this number or a higher one
abbrev pub IsFresh : ℕ → Image → Type 0
IsFresh number image = (k : ℕ) → k < 128 → Verifies (slice_index_or image k []) → number_of (slice_index_or image k []) < number

-- one copy of the commit at least counts
abbrev pub IsCounted : Slot → List ℕ → Image → Type 0
IsCounted slot tail image = (copy : ℕ) × Counts slot tail copy image
