-- The programs over a store in a file.
use Rattle.std.specs.Prelude.{◌≡◌, ◌≢◌, ◌⊎◌, ℕ, Bool, List, ◌++◌, Option, Result, Ok, Err, false, true, nat_eq, if◌then◌else◌}
use Rattle.std.specs.declared.snapshot.Snapshot.{Snapshot}
use Rattle.sector_device.specs.Disk.{Disk, Image}
use Rattle.sector_device.specs.declared.history.Held.{Held}
use Rattle.sector_device.specs.declared.history.History.{Opened}
use Rattle.file_device.specs.declared.file.FileDevice.{FileDevice}
use Rattle.sector_device.specs.History.{left_after, disk_after}
use Rattle.file_device.specs.File.{file_disk}
use Rattle.store_journal.specs.Carries.{Carries}
use Rattle.store_journal.specs.Models.{model}
use Rattle.store_journal.specs.Opening.{nothing_in}
use Rattle.store_journal.specs.Outdated.{IsNewest, IsNotNewest, IsOutdated}
use Rattle.store_journal.specs.declared.fault.OpenFault.{OpenFault}
use Rattle.store_commits.specs.Account.{StoreView, IsStanding}
use Rattle.doc_store.specs.Opening.{IsOfFormat, IsOpenedFrom, LacksRoom, OldOrStands}
use Rattle.doc_store.specs.Strict.{IsRefusedBy, IsSaidOf, IsTaken, NotTaken}
use Rattle.doc_store.specs.declared.opening.Strictness.{Strictness}
use Rattle.doc_store.specs.declared.opening.Strictness.TheVariants.{AnyState}
use Rattle.slot_commits.specs.declared.found.Notice.{Notice}
use Rattle.store_commits.specs.Run.{Event, Ran, dones_of, hits_of}
use Rattle.store_commits.specs.declared.event.Reply.{Reply}
use Rattle.store_commits.specs.Images.{Holds, Stands, version_of_frames}
use Rattle.store_commits.specs.Folds.{StandsAfter}
use Rattle.doc_changes.specs.State.{State}
use Rattle.doc_changes.specs.Refusals.{plain}
use Rattle.refusals.specs.declared.numbers.TheConstants.{DAMAGED, DEVICE, MEMORY, NO_ROOM}
use Rattle.half_journal.specs.Layout.{IsFormat}
use Rattle.file_programs.specs.Identity.{IsChosen}
use Rattle.file_programs.specs.declared.fault.Fault.{Fault}
use Rattle.file_programs.specs.declared.fault.Fault.TheVariants.{Memory, Refused}
use Rattle.file_programs.specs.declared.opening.Unopened.{Unopened}
use Rattle.file_programs.specs.declared.opening.Unopened.TheVariants.{NoFile, NoStore}

-- the fault of a number
abbrev pub fault_of : ℕ → Fault
fault_of number = if nat_eq number MEMORY then Memory else Refused (plain number)

-- the store went by one run of events
pub record RanSomeEvents {D : Type 0} (disk : D → Disk) (old new : StoreView D) : Type 0 where
  pub events : List Event
  pub replies : List Reply
  pub ran : Ran disk old new events replies

-- all that there was to read was served, though the device may have failed meanwhile
abbrev pub WentToTheEnd : Result (Unit {0}) Fault → Type 0
WentToTheEnd ended = (ended ≡ Ok tt) ⊎ (ended ≡ Err (fault_of DEVICE))

-- A store was opened in a file that held this. If all reads gave what the file held, it is the state of the file,
-- opened one time more, for which a half had room if it was in format 1, and no older one than the slots hold; and what a crash might have left at any moment
-- until now, in the disk model of the store's format, is an image from before or holds the same state.
pub record IsOpenedIn (held : Snapshot Held) (store : StoreView FileDevice) : Type 0 where
  pub works : store.account.broken ≡ false
  pub found : (file_disk store.device).honest → IsOpenedFrom held.value.seen.items store.account
  pub newest : (file_disk store.device).honest → IsOutdated held.value.seen.items → ⊥
  pub any_moment : (file_disk store.device).honest → (image : Image) → (model store.account.rides (file_disk store.device)).left_since 0 image → OldOrStands (disk_after 0 (Opened held) 0) image
  pub standing : IsStanding (file_disk store.device) store.account

-- Why a store is not opened on a device: its first sector is older than its slots, or that wasn't found out; or it isn't, by a device of which no more was read, and it is not taken.
abbrev pub IsNotTaken : Strictness → Disk → Disk → ℕ → Type 0
IsNotTaken strictness old new number = IsNotNewest old new number ⊎ ((looked : FileDevice) × IsNewest old (file_disk looked) × (new.honest → (file_disk looked).honest) × NotTaken strictness (file_disk looked) new number)

-- the same, if the device as it reads holds a state
abbrev pub IsRefusedNow : Strictness → Image → ℕ → Type 0
IsRefusedNow strictness seen number = IsRefusedBy strictness seen number ⊎ ((number ≡ DAMAGED) × IsOutdated seen)

-- The store in a file that held this was refused, for what its device then was, of this many sectors and failures, or did. If all that was read was there: if that holds a state,
-- the device failed or memory was refused, or it is in format 1 and a half has no room for it in format 2, which is said of nothing else, or a commit was cut
-- off in it, and it was asked to refuse that, or its first sector is older than its slots; the file has as many sectors; what a crash might have left at any moment until now, in the disk model of that state's format, is an image from before or holds that
-- state; and but for the device's failure it is, in either disk model, an image from before.
pub record IsRefusedIn (strictness : Strictness) (held : Snapshot Held) (sectors failures : ℕ) (fault : OpenFault FileDevice) : Type 0 where
  pub why : IsNotTaken strictness (disk_after sectors (Opened held) failures) (file_disk fault.device) fault.number
  pub exact : (state : State) → Stands state held.value.seen.items → (file_disk fault.device).honest → IsRefusedNow strictness held.value.seen.items fault.number
  pub no_room : (file_disk fault.device).honest → fault.number ≡ NO_ROOM → LacksRoom held.value.seen.items
  pub size : (file_disk fault.device).honest → (file_disk fault.device).sectors ≡ sectors
  pub any_moment : (file_disk fault.device).honest → (rides : Bool) → IsOfFormat rides held.value.seen.items → (image : Image) → (model rides (file_disk fault.device)).left_since 0 image → OldOrStands (disk_after 0 (Opened held) 0) image
  pub untouched : (file_disk fault.device).honest → fault.number ≢ DEVICE → (rides : Bool) → (image : Image) → (model rides (file_disk fault.device)).left_since 0 image → left_after (Opened held) image

-- No store was opened on a device of this many sectors and failures that held this.
abbrev pub IsUnopenedOn : Strictness → Snapshot Held → ℕ → ℕ → Unopened → Type 0
IsUnopenedOn strictness held sectors failures (NoFile fault) = Unit {0}
IsUnopenedOn strictness held sectors failures (NoStore fault) = IsRefusedIn strictness held sectors failures fault

-- No store was opened in a file that held this: the file wasn't opened, or the store in it was refused.
abbrev pub IsUnopenedBy : Strictness → Snapshot Held → Unopened → Type 0
IsUnopenedBy strictness held (NoFile fault) = Unit {0}
IsUnopenedBy strictness held (NoStore fault) = (sectors : ℕ) × IsRefusedIn strictness held sectors 0 fault

-- the same of a program that takes any state
abbrev pub IsUnopenedIn : Snapshot Held → Unopened → Type 0
IsUnopenedIn held unopened = IsUnopenedBy AnyState held unopened

-- The store was opened so strictly in a file that held this, and that is said of its slots, if all reads gave what the file held.
pub record IsNoticedIn (strictness : Strictness) (held : Snapshot Held) (store : StoreView FileDevice) (notice : Notice) : Type 0 where
  pub said : (file_disk store.device).honest → IsSaidOf held.value.seen.items notice
  pub taken : IsTaken strictness notice

-- A store that was opened in a file that held this went by one run of these events.
pub record RanIn (held : Snapshot Held) (opened closed : StoreView FileDevice) (events : List Event) (replies : List Reply) : Type 0 where
  pub is_opened : IsOpenedIn held opened
  pub ran : Ran file_disk opened closed events replies
  -- If all reads gave what the file held: what a crash might have left at any moment, in the disk model of the store's
  -- format, is an image from before, or holds the state that was opened, or that after some of the accepted changes, the first of them first.
  pub any_moment : (file_disk closed.device).honest → (image : Image) → (model opened.account.rides (file_disk closed.device)).left_since 0 image
      → OldOrStands (disk_after 0 (Opened held) 0) image ⊎ StandsAfter opened.account.state (dones_of events replies ++ hits_of events replies) image
  -- At the end it holds the state after all that were answered as done, with or without those that the device's failure
  -- hit.
  pub last : (file_disk closed.device).honest → (image : Image) → (model opened.account.rides (file_disk closed.device)).left image → StandsAfter closed.account.state (hits_of events replies) image
  pub standing : IsStanding (file_disk closed.device) closed.account

-- It was served until something failed, or to the end.
pub record IsClosedIn (held : Snapshot Held) (closed : StoreView FileDevice) : Type 0 where
  pub opened : StoreView FileDevice
  pub events : List Event
  pub replies : List Reply
  pub went : RanIn held opened closed events replies

-- A file was created with `sectors` sectors, and an empty store in it, in format 2 or 3: if all reads gave what the
-- file held, each image that a crash may leave, in that format's disk model, carries no bytes in that format, seq 0 and
-- opens 0, in format 3 with the identity that was asked for, or any.
pub record IsFormattedFile (sectors version : ℕ) (asked : Option ℕ) (device : FileDevice) : Type 0 where
  pub identity : ℕ
  pub chosen : IsChosen asked identity
  pub size : (file_disk device).sectors ≡ sectors
  pub empty : (file_disk device).honest → (image : Image) → (model (nat_eq version 3) (file_disk device)).left image → Carries (nothing_in (nat_eq version 3) identity) image

-- The store was opened in a file that held this by these bytes, which hold its documents and its marks, in its format or, before it was brought to format 2, in format 1: those of the file, if all reads gave what it held.
pub record WasReadIn (held : Snapshot Held) (opened : StoreView FileDevice) (bytes : List ℕ) : Type 0 where
  pub version : ℕ
  pub version_fits : IsFormat version
  pub rides_fits : opened.account.rides ≡ true → version ≡ 2
  pub holds : Holds opened.account.state.profile (version_of_frames opened.account.rides version) opened.account.state.seq bytes opened.account.state.documents opened.account.state.marks
  pub found : (file_disk opened.device).honest → (stands : Stands opened.account.state held.value.seen.items) × (stands.carried.bytes ≡ bytes)
