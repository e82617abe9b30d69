-- The view of a journal.
use Rattle.std.specs.Prelude.{◌≡◌, ℕ, ◌≤◌, List, Bool, true, false, length}
use Rattle.sector_device.specs.Disk.{Disk, Image}
use Rattle.half_journal.specs.Layout.{IsFormat}
use Rattle.store_journal.specs.Layout.{capacity_of, IsSized}
use Rattle.store_journal.specs.Carries.{Carried, Carries}
use Rattle.store_journal.specs.Models.{model}

-- all that contracts say of a journal
pub record JournalView (D : Type 0) : Type 0 where
  pub device : D
  pub sectors : ℕ
  -- the format of the committed frames, 1 or 2
  pub version : ℕ
  -- the last bytes ride in the slot that counts: format 3
  pub rides : Bool
  -- the half that counts
  pub half : ℕ
  -- the committed bytes, as they are read
  pub bytes : List ℕ
  pub seq : ℕ
  pub opens : ℕ
  -- the identity of the store, in format 3; else 0
  pub identity : ℕ
  -- the device failed
  pub broken : Bool
  -- a commit may be made: in format 3 once the opening was counted
  pub settled : Bool
  -- in format 3 the number of the next commit, and how many blocks the slot names; else 0
  pub next : ℕ
  pub blocks : ℕ
  -- the bytes with which the other half is known to begin, as they are read
  pub copied : List ℕ

-- what each of its images carries, as it is seen
abbrev pub carried_of : {D : Type 0} → JournalView D → Carried
carried_of view = record { version = view.version; rides = view.rides; half = view.half; bytes = view.bytes; seq = view.seq; opens = view.opens; identity = view.identity }

-- what holds of every journal: its numbers fit the device, and of a working one on an honest device each image that its format withstands carries what it is seen as
pub record IsKept {D : Type 0} (disk : Disk) (view : JournalView D) : Type 0 where
  pub size : disk.sectors ≡ view.sectors
  pub sized : IsSized view.rides view.sectors
  pub version_fits : IsFormat view.version
  pub rides_fits : view.rides ≡ true → view.version ≡ 2
  pub rides_settled : view.rides ≡ false → view.settled ≡ true
  pub half_fits : view.half ≤ 1
  pub used_fits : length view.bytes ≤ capacity_of view.rides view.sectors
  pub copied_fits : length view.copied ≤ capacity_of view.rides view.sectors
  pub carried : disk.honest → view.broken ≡ false → (image : Image) → (model view.rides disk).left image → Carries (carried_of view) image
