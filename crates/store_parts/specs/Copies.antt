-- The commits in the slots of format 3, and what is said of each slot.
use Rattle.std.specs.Prelude.{◌≡◌, ◌≢◌, ◌≤◌, ◌<◌, ◌+◌, ◌*◌, ◌/◌, ◌%◌, ◌⊎◌, ◌↔◌, [], ◌∷◌, ℕ, List, IsTrue, MatchOption, Option, Some, None, slice_index_or, take, length}
use Rattle.commit_slots.specs.Sealed.{beginning}
use Rattle.commit_slots.specs.Slots.{IsHeld, IsSlotOf}
use Rattle.commit_slots.specs.declared.slot.Slot.{Slot}
use Rattle.sector_device.specs.Disk.{Image}
use Rattle.store_parts.specs.Parts.{AreSlotsOf}
use Rattle.store_parts.specs.declared.findings.Findings.{Findings}
use Rattle.store_parts.specs.declared.findings.Held.{Held}
use Rattle.store_parts.specs.declared.findings.SlotCopy.{SlotCopy}

-- the slot at that place, from A to B', holds this commit of a device of `sectors` sectors
pub record IsCommitAt (sectors : ℕ) (slots : Image) (place : ℕ) (slot : Slot) (tail : List ℕ) : Type 0 where
  pub of : IsSlotOf sectors slot tail
  pub held : IsHeld slot tail (32 * place) slots
  pub pair : slot.number % 2 ≡ place / 2

-- it holds none
abbrev pub HasNoneAt : ℕ → Image → ℕ → Type 0
HasNoneAt sectors slots place = (slot : Slot) (tail : List ℕ) → IsCommitAt sectors slots place slot tail → ⊥

-- of the first `places` slots that one holds the commit that counts: no number is higher, nor does one before it hold it
pub record IsLast (sectors : ℕ) (slots : Image) (places place : ℕ) (slot : Slot) (tail : List ℕ) : Type 0 where
  pub commit : IsCommitAt sectors slots place slot tail
  pub within : place < places
  pub highest : (at : ℕ) (other : Slot) (rest : List ℕ) → at < places → IsCommitAt sectors slots at other rest → (other.number < slot.number) ⊎ ((other.number ≡ slot.number) × (place ≤ at))

-- it was found there
pub record IsHeldIn (sectors : ℕ) (slots : Image) (held : Held) : Type 0 where
  pub commit : IsCommitAt sectors slots held.place held.slot held.tail.items
  pub place : held.place < 4

-- the commit in the slot at that place, if it holds one
abbrev pub IsFoundAt : ℕ → Image → ℕ → Option Held → Type 0
IsFoundAt sectors slots place None = HasNoneAt sectors slots place
IsFoundAt sectors slots place (Some held) = IsHeldIn sectors slots held × (held.place ≡ place)

-- the one that counts of the first `places` slots, if one holds any
abbrev pub IsBestOf : ℕ → Image → ℕ → Option Held → Type 0
IsBestOf sectors slots places None = (place : ℕ) → place < places → HasNoneAt sectors slots place
IsBestOf sectors slots places (Some held) = IsHeldIn sectors slots held × IsLast sectors slots places held.place held.slot held.tail.items

-- the slot is in the pair of that commit, and doesn't hold it
abbrev pub LacksTwin : Image → ℕ → Option Held → Type 0
LacksTwin slots place None = ⊥
LacksTwin slots place (Some held) = (held.slot.number % 2 ≡ place / 2) × (IsHeld held.slot held.tail.items (32 * place) slots → ⊥)

-- it holds a commit, and is in the pair of the one that counts, but doesn't hold that
pub record IsOldAt (sectors : ℕ) (slots : Image) (place : ℕ) : Type 0 where
  pub other : Slot
  pub rest : List ℕ
  pub commit : IsCommitAt sectors slots place other rest
  pub at : ℕ
  pub slot : Slot
  pub tail : List ℕ
  pub last : IsLast sectors slots 4 at slot tail
  pub pair : slot.number % 2 ≡ place / 2
  pub lacks : IsHeld slot tail (32 * place) slots → ⊥

-- what is said of the slot at a place
pub record IsTold (sectors : ℕ) (slots : Image) (place : ℕ) (copy : SlotCopy) : Type 0 where
  pub valid : MatchOption copy.slot (HasNoneAt sectors slots place) (λ slot. (tail : List ℕ) × IsCommitAt sectors slots place slot tail)
  pub begun : IsTrue copy.begun ↔ (take 12 (slice_index_or slots (32 * place) []) ≡ beginning)
  pub old : IsTrue copy.old ↔ IsOldAt sectors slots place

-- of the slots from a place on
abbrev pub AreToldFrom : ℕ → Image → ℕ → List SlotCopy → Type 0
AreToldFrom sectors slots place [] = Unit {0}
AreToldFrom sectors slots place (copy ∷ copies) = IsTold sectors slots place copy × AreToldFrom sectors slots (place + 1) copies

-- of all four
abbrev pub AreTold : ℕ → Image → List SlotCopy → Type 0
AreTold sectors slots copies = (length copies ≡ 4) × AreToldFrom sectors slots 0 copies

-- the number of changes of the commit that counts, if one does
abbrev pub IsSeqOf : ℕ → Image → Option ℕ → Type 0
IsSeqOf sectors slots None = (place : ℕ) → place < 4 → HasNoneAt sectors slots place
IsSeqOf sectors slots (Some seq) = (at : ℕ) × (slot : Slot) × (tail : List ℕ) × IsLast sectors slots 4 at slot tail × (slot.seq ≡ seq)

-- it is format 1 or 2, and nothing is said of slots
abbrev pub IsNotOf3 : Findings → Type 0
IsNotOf3 found = (found.format ≢ 3) × (found.copies.items ≡ [])

-- in format 3 that is said of all, as these sectors were read
abbrev pub AreToldOn : Image → Findings → Type 0
AreToldOn image found = IsNotOf3 found ⊎ ((found.format ≡ 3) × (slots : List (List ℕ)) × AreSlotsOf image slots × AreTold found.size slots found.copies.items × IsSeqOf found.size slots found.seq)
