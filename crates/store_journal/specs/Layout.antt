-- The parts of a device by its format. In formats 1 and 2 they are those of half_journal, in format 3 those of commit_slots.
use Rattle.std.specs.Prelude.{ℕ, ◌+◌, ◌*◌, ◌/◌, ◌≤◌, Bool, true, false}
use Rattle.commit_slots.specs.Slots.{block_start, slots_capacity}
use Rattle.half_journal.specs.Layout.{IsFrom, half_capacity, half_start as start_in_half}

-- the bytes that a half holds: in format 3 whole blocks, but for those of checks
abbrev pub capacity_of : Bool → ℕ → ℕ
capacity_of false sectors = half_capacity sectors
capacity_of true sectors = slots_capacity sectors

-- the first sector of half 0 or 1
abbrev pub half_start : Bool → ℕ → ℕ → ℕ
half_start false sectors half = start_in_half sectors half
half_start true sectors half = block_start sectors half

-- the fewest sectors with which a device can hold a store: in format 3 those of the slots and two blocks a half
abbrev pub least_sectors : Bool → ℕ
least_sectors false = 3
least_sectors true = 160

-- the numbers of sectors with which it can
abbrev pub IsSized : Bool → ℕ → Type 0
IsSized rides sectors = IsFrom (least_sectors rides) sectors

-- That many bytes in half 0 of format 3 end before half 1 of formats 1 and 2 begins: they can be on the device together.
pub record FitsBetween (sectors used : ℕ) : Type 0 where
  pub sized : IsSized true sectors
  pub fits : used ≤ capacity_of true sectors
  pub apart : half_start true sectors 0 + 8 * (used / 4096) ≤ half_start false sectors 1
