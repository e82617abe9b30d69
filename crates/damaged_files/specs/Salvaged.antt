-- The condition of a store that was salvaged: anything is lost, or nothing.
use Rattle.std.specs.Prelude.{ℕ, List, [], ◌∷◌, Bool, true, false, ◌&&◌, ◌||◌, not, nat_eq, Option, Some, None, is_some, slice_get, if◌then◌else◌}
use Rattle.sector_device.specs.Disk.{Image}
use Rattle.store_parts.specs.Parts.{HaveTails}
use Rattle.store_salvage.specs.Making.{IsMade}
use Rattle.damaged_files.specs.declared.salvaged.Salvaged.{Salvaged}
use Rattle.store_parts.specs.declared.checking.Check.{Check}
use Rattle.store_parts.specs.declared.checking.Check.TheVariants.{Held, Failed, Unknown}
use Rattle.store_parts.specs.declared.findings.Findings.{Findings}
use Rattle.store_parts.specs.declared.findings.SlotCopy.{SlotCopy}
use Rattle.store_salvage.specs.declared.making.Made.{Made}
use Rattle.damaged_files.specs.declared.showing.Condition.{Condition}
use Rattle.damaged_files.specs.declared.showing.Condition.TheVariants.{Whole, Damaged}

-- the documents are made of frames that a device with this image holds: in the sectors of the halves, and in those of slots
pub record IsSalvagedOf (image : Image) (salvaged : Salvaged) : Type 0 where
  pub tails : HaveTails image salvaged.found.parts.items
  pub made : IsMade image salvaged.found salvaged.made

-- the slot of that place holds a valid commit
abbrev pub is_valid : Option SlotCopy → Bool
is_valid None = false
is_valid (Some copy) = is_some copy.slot

abbrev pub has_slot : List SlotCopy → ℕ → Bool
has_slot copies place = is_valid (slice_get copies place)

-- there are slots, and of the pair of even numbers or of that of odd numbers neither is valid: a commit may be missing
abbrev pub is_cut_off : List SlotCopy → Bool
is_cut_off [] = false
is_cut_off (c ∷ cs) = let copies = c ∷ cs in not ((has_slot copies 0 || has_slot copies 1) && (has_slot copies 2 || has_slot copies 3))

abbrev pub has_failed : Check → Bool
has_failed Held = false
has_failed Failed = true
has_failed Unknown = false

abbrev pub is_empty : {T : Type 0} → List T → Bool
is_empty [] = true
is_empty (x ∷ xs) = false

-- a commit counts, the device has as many sectors as it says, no later one may be missing, and all of its bytes were read and are in the documents
abbrev pub is_whole : Findings → Made → Bool
is_whole found made =
    is_some found.seq && nat_eq found.size found.sectors && not (is_cut_off found.copies.items) && not (has_failed made.check) && is_empty made.doubts.items && is_empty made.unread.items

abbrev pub salvaged_condition : Findings → Made → Condition
salvaged_condition found made = if is_whole found made then Whole else Damaged
