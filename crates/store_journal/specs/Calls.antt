-- The effects of a journal's calls. Nothing is said of the bytes on a device that isn't honest.
use Rattle.std.specs.Prelude.{◌≡◌, ◌≢◌, ◌⊎◌, ℕ, ◌+◌, ◌*◌, ◌/◌, ◌<◌, ◌≤◌, ◌^◌, min, List, [], true, false, length, take, if◌then◌else◌}
use Rattle.sector_device.specs.Disk.{Disk}
use Rattle.sector_device.specs.Charges.{Made, Failed}
use Rattle.sector_device.specs.Sectors.{sectors_of}
use Rattle.slot_commits.specs.Loads.{number_end}
use Rattle.store_journal.specs.Layout.{capacity_of}
use Rattle.store_journal.specs.Carries.{Carried, appended, counted, migrated, replaced, switched}
use Rattle.store_journal.specs.JournalView.{JournalView, carried_of}
use Rattle.store_journal.specs.Writes.{append_calls, count_calls, step_count}
use Rattle.refusals.specs.declared.numbers.TheConstants.{FULL, DEVICE, BROKEN, SEQ_END}

-- the list begins with these
abbrev pub BeginsWith : List ℕ → List ℕ → Type 0
BeginsWith front all = take (length front) all ≡ front

-- a working journal has room for `more` bytes, seq for `adds` changes, and in format 3 a number is left for the commit
pub record Takes {D : Type 0} (view : JournalView D) (more adds : ℕ) : Type 0 where
  pub works : view.broken ≡ false
  pub fits : length view.bytes + more ≤ capacity_of view.rides view.sectors
  pub seq_fits : view.seq + adds < 2 ^ 64
  pub next_fits : view.next < number_end

-- why an append is refused: the first of these in this order
abbrev pub AppendFault : {D : Type 0} → JournalView D → ℕ → ℕ → ℕ → Type 0
AppendFault view more adds number =
    ((number ≡ BROKEN) × (view.broken ≡ true))
    ⊎ ((number ≡ FULL) × (view.broken ≡ false) × (capacity_of view.rides view.sectors < length view.bytes + more))
    ⊎ ((number ≡ SEQ_END) × (view.broken ≡ false) × (length view.bytes + more ≤ capacity_of view.rides view.sectors) × ((2 ^ 64 ≤ view.seq + adds) ⊎ (number_end ≤ view.next)))
    ⊎ ((number ≡ DEVICE) × Takes view more adds)

-- why a step of a copy, or a migration, is refused
abbrev pub CallFault : {D : Type 0} → JournalView D → ℕ → Type 0
CallFault view number = ((number ≡ BROKEN) × (view.broken ≡ true)) ⊎ ((number ≡ DEVICE) × (view.broken ≡ false))

-- why another commit is refused: the first of these in this order
abbrev pub CommitFault : {D : Type 0} → JournalView D → ℕ → Type 0
CommitFault view number =
    ((number ≡ BROKEN) × (view.broken ≡ true)) ⊎ ((number ≡ SEQ_END) × (view.broken ≡ false) × (number_end ≤ view.next)) ⊎ ((number ≡ DEVICE) × (view.broken ≡ false) × (view.next < number_end))

-- the committed bytes and their numbers stay
pub record Stays {D : Type 0} (disk : Disk) (old new : JournalView D) : Type 0 where
  pub bytes : disk.honest → new.bytes ≡ old.bytes
  pub used : length new.bytes ≡ length old.bytes
  pub seq : new.seq ≡ old.seq
  pub version : new.version ≡ old.version
  pub rides : new.rides ≡ old.rides
  pub half : new.half ≡ old.half
  pub opens : new.opens ≡ old.opens
  pub identity : new.identity ≡ old.identity
  pub sectors : new.sectors ≡ old.sectors
  pub settled : new.settled ≡ old.settled
  pub next : new.next ≡ old.next
  pub blocks : new.blocks ≡ old.blocks

-- one of at most `calls` calls of the device failed
pub record Broke {D : Type 0} (disk new_disk : Disk) (calls : ℕ) (old new : JournalView D) : Type 0 where
  pub stays : Stays disk old new
  pub broken : new.broken ≡ true
  pub failed : Failed disk new_disk calls

-- a call that was refused: but for the device's failure, nothing has changed
abbrev pub Refused : {D : Type 0} → Disk → Disk → ℕ → JournalView D → JournalView D → ℕ → Type 0
Refused disk new_disk calls old new number = ((number ≡ DEVICE) × Broke disk new_disk calls old new) ⊎ ((number ≢ DEVICE) × (new ≡ old))

-- a call that succeeded: the journal is seen to carry this, bytes of this size, is settled, and in format 3 has used a number
pub record Became {D : Type 0} (disk new_disk : Disk) (old new : JournalView D) (c : Carried) (size calls : ℕ) : Type 0 where
  pub bytes : disk.honest → new.bytes ≡ c.bytes
  pub used : length new.bytes ≡ size
  pub version : new.version ≡ c.version
  pub rides : new.rides ≡ c.rides
  pub half : new.half ≡ c.half
  pub seq : new.seq ≡ c.seq
  pub opens : new.opens ≡ c.opens
  pub identity : new.identity ≡ c.identity
  pub sectors : new.sectors ≡ old.sectors
  pub works : new.broken ≡ false
  pub settled : new.settled ≡ true
  pub next : new.next ≡ (if c.rides then old.next + 1 else 0)
  pub made : Made disk new_disk calls

-- an append that succeeded: the bytes follow the old ones, and seq has risen
abbrev pub Appended : {D : Type 0} → Disk → Disk → JournalView D → JournalView D → List ℕ → ℕ → Type 0
Appended disk new_disk old new more adds =
    Became disk new_disk old new (appended (carried_of old) more adds) (length old.bytes + length more) (append_calls old.rides (length old.bytes) (length more))

-- an opening that was counted
pub record Counted {D : Type 0} (disk new_disk : Disk) (old new : JournalView D) : Type 0 where
  pub worked : old.broken ≡ false
  pub became : Became disk new_disk old new (counted (carried_of old)) (length old.bytes) (count_calls old.rides old.settled (length old.bytes) old.blocks)
  pub open became use *

-- a step of a copy: if the other half began with the target's first bytes, it begins with as many as were answered
pub record Stepped {D : Type 0} (disk new_disk : Disk) (old new : JournalView D) (target : List ℕ) (from max answer : ℕ) : Type 0 where
  pub worked : old.broken ≡ false
  pub stays : Stays disk old new
  pub works : new.broken ≡ false
  pub answer_is : answer ≡ min (length target) (512 * (from / 512 + step_count (length target) from max))
  pub size : length new.copied ≡ answer
  pub copied : disk.honest → BeginsWith (take from target) old.copied → new.copied ≡ take answer target
  pub made : Made disk new_disk (step_count (length target) from max)

-- the other half counts, and its bytes are the target
pub record Moved {D : Type 0} (disk new_disk : Disk) (old new : JournalView D) (c : Carried) (calls : ℕ) : Type 0 where
  pub worked : old.broken ≡ false
  pub became : Became disk new_disk old new c (length c.bytes) calls
  pub open became use *
  pub copied : new.copied ≡ []

-- by a switch, after a copy or not, in `calls` calls
abbrev pub Switched : {D : Type 0} → Disk → Disk → JournalView D → JournalView D → List ℕ → ℕ → Type 0
Switched disk new_disk old new target calls = Moved disk new_disk old new (switched (carried_of old) target) calls

-- by one that raises seq, too
abbrev pub Replaced : {D : Type 0} → Disk → Disk → JournalView D → JournalView D → List ℕ → ℕ → ℕ → Type 0
Replaced disk new_disk old new target adds calls = Moved disk new_disk old new (replaced (carried_of old) target adds) calls

-- by a migration: in format 2, and one opening more is counted
abbrev pub Migrated : {D : Type 0} → Disk → Disk → JournalView D → JournalView D → List ℕ → Type 0
Migrated disk new_disk old new target = Moved disk new_disk old new (migrated (carried_of old) target) (sectors_of (length target) + 3)
