-- The notice of an opening, and the strict one, which refuses a store whose last commit may be lost.
use Rattle.std.specs.Prelude.{◌≡◌, ◌≢◌, ◌⊎◌, ℕ}
use Rattle.sector_device.specs.Disk.{Disk, Image}
use Rattle.slot_commits.specs.declared.found.Notice.{Notice}
use Rattle.slot_commits.specs.declared.found.Notice.TheVariants.{CutOff}
use Rattle.store_journal.specs.Carries.{Carried, Carries}
use Rattle.store_journal.specs.Opening.{IsNoticeIn, OnlyRead}
use Rattle.doc_changes.specs.State.{State}
use Rattle.refusals.specs.declared.numbers.TheConstants.{CUT_OFF}
use Rattle.store_commits.specs.Images.{Stands}
use Rattle.doc_store.specs.Opening.{IsRefusedAs, NotOpened}
use Rattle.doc_store.specs.declared.opening.Strictness.{Strictness}
use Rattle.doc_store.specs.declared.opening.Strictness.TheVariants.{AnyState, RefusesCutOff}

-- what is said of an image, by the format of what it carries: in formats 1 and 2 that all is whole
abbrev pub IsSaidOf : Image → Notice → Type 0
IsSaidOf image notice = (c : Carried) → Carries c image → IsNoticeIn c.rides image notice

-- a store of which that is said is opened
abbrev pub IsTaken : Strictness → Notice → Type 0
IsTaken AnyState notice = Unit {0}
IsTaken RefusesCutOff notice = notice ≢ CutOff

-- the image holds a state, and its slots say that a commit was cut off
pub record IsCutOff (image : Image) : Type 0 where
  pub state : State
  pub stands : Stands state image
  pub said : IsSaidOf image CutOff

-- the device as it reads is so, and was only read
pub record FindsCutOff (old new : Disk) : Type 0 where
  pub read : OnlyRead old new
  pub cut_off : new.honest → IsCutOff old.seen

-- why a device is not opened
abbrev pub NotTaken : Strictness → Disk → Disk → ℕ → Type 0
NotTaken AnyState old new number = NotOpened old new number
NotTaken RefusesCutOff old new number = NotOpened old new number ⊎ ((number ≡ CUT_OFF) × FindsCutOff old new)

-- the same, if the device as it reads holds a state
abbrev pub IsRefusedBy : Strictness → Image → ℕ → Type 0
IsRefusedBy AnyState seen number = IsRefusedAs seen number
IsRefusedBy RefusesCutOff seen number = IsRefusedAs seen number ⊎ ((number ≡ CUT_OFF) × IsCutOff seen)
