-- The result of reading the slots of a device.
use Rattle.std.specs.Prelude.{◌≡◌, ◌⊎◌, ◌↔◌, ℕ, ◌+◌, ◌-◌, ◌%◌, ◌<◌, List, [], slice_index_or, Bool, IsTrue, Option, Some, None}
use Rattle.commit_slots.specs.Sealed.{Verifies, number_of}
use Rattle.commit_slots.specs.Slots.{Image, IsHeld, slot_start}
use Rattle.commit_slots.specs.Finding.{HasPair, IsFoundIn, IsMarked}
use Rattle.commit_slots.specs.Fresh.{IsFresh}
use Rattle.commit_slots.specs.declared.slot.Slot.{Slot}
use Rattle.commit_slots.specs.declared.counted.Counted.{Counted}
use Rattle.slot_commits.specs.declared.found.Found.{Found}
use Rattle.slot_commits.specs.declared.found.Notice.{Notice}
use Rattle.slot_commits.specs.declared.found.Notice.TheVariants.{Whole, Mended, CutOff}

-- both copies of the commit are valid
abbrev pub HasBoth : Slot → List ℕ → Image → Type 0
HasBoth slot tail image = IsHeld slot tail (slot_start slot.number 0) image × IsHeld slot tail (slot_start slot.number 1) image

-- a copy is valid in the pair of slots that isn't the commit's
abbrev pub HasOther : Slot → Image → Type 0
HasOther slot image = HasPair (1 - slot.number % 2) image

-- what is found beside the commit that counts
abbrev pub IsBeside : Image → Option Counted → Bool → Bool → Type 0
IsBeside image None both other = Unit {0}
IsBeside image (Some c) both other = (IsTrue both ↔ HasBoth c.slot c.tail.items image) × (IsTrue other ↔ HasOther c.slot image)

-- this counts, and the next number is fresh; if it isn't 1, the one before is some sector's
pub record IsFound (image : Image) (found : Found) : Type 0 where
  pub counted : IsFoundIn image found.counted
  pub beside : IsBeside image found.counted found.both found.other
  pub fresh : IsFresh (found.highest + 1) image
  pub reached : (found.highest ≡ 0) ⊎ ((k : ℕ) × (k < 128) × Verifies (slice_index_or image k []) × (number_of (slice_index_or image k []) ≡ found.highest))
  pub marked : IsTrue found.marked ↔ IsMarked image

-- what the slots say
abbrev pub IsNotice : Image → Slot → List ℕ → Notice → Type 0
IsNotice image slot tail Whole = HasBoth slot tail image × HasOther slot image
IsNotice image slot tail Mended = (HasBoth slot tail image → ⊥) × HasOther slot image
IsNotice image slot tail CutOff = HasOther slot image → ⊥
