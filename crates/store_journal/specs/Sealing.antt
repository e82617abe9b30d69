-- A seal: a commit of no bytes. It writes the pair of slots that doesn't count, so that both pairs hold what is committed.
use Rattle.std.specs.Prelude.{◌≡◌, ℕ, ◌+◌, Bool, true, false, length, if◌then◌else◌}
use Rattle.sector_device.specs.Disk.{Disk}
use Rattle.sector_device.specs.Charges.{Made}
use Rattle.store_journal.specs.JournalView.{JournalView}
use Rattle.store_journal.specs.Writes.{append_calls}

-- the calls of a seal; formats 1 and 2 have no slots, and nothing to seal
abbrev pub seal_calls : Bool → ℕ → ℕ
seal_calls false used = 0
seal_calls true used = append_calls true used 0

-- a seal that succeeded: the committed bytes and their numbers stay, and in format 3 a number of a commit was used
pub record Sealed {D : Type 0} (disk new_disk : Disk) (old new : JournalView D) : Type 0 where
  pub worked : old.broken ≡ false
  pub bytes : disk.honest → new.bytes ≡ old.bytes
  pub used : length new.bytes ≡ length old.bytes
  pub version : new.version ≡ old.version
  pub rides : new.rides ≡ old.rides
  pub half : new.half ≡ old.half
  pub seq : new.seq ≡ old.seq
  pub opens : new.opens ≡ old.opens
  pub identity : new.identity ≡ old.identity
  pub sectors : new.sectors ≡ old.sectors
  pub works : new.broken ≡ false
  pub settled : new.settled ≡ true
  pub next : new.next ≡ (if old.rides then old.next + 1 else old.next)
  pub made : Made disk new_disk (seal_calls old.rides (length old.bytes))
