-- The lives of a store in a file: processes that open it one after another.
use Rattle.std.specs.Prelude.{◌≡◌, ◌⊎◌, Bool, List, ◌++◌}
use Rattle.std.specs.declared.snapshot.Snapshot.{Snapshot}
use Rattle.sector_device.specs.Disk.{Image}
use Rattle.sector_device.specs.declared.history.Held.{Held}
use Rattle.sector_device.specs.declared.history.History.{Opened}
use Rattle.file_device.specs.declared.file.FileDevice.{FileDevice}
use Rattle.sector_device.specs.History.{left_after}
use Rattle.file_device.specs.File.{file_disk}
use Rattle.store_journal.specs.Models.{model}
use Rattle.doc_machine.specs.Transaction.{Transaction}
use Rattle.doc_changes.specs.State.{State}
use Rattle.store_commits.specs.Account.{StoreView}
use Rattle.store_commits.specs.Folds.{after_each, StandsAfter}
use Rattle.store_commits.specs.Run.{Event, dones_of, hits_of}
use Rattle.store_commits.specs.declared.event.Reply.{Reply}
use Rattle.file_programs.specs.Files.{IsOpenedIn, RanIn}

-- A file, as it reads and whatever else a crash may leave of it, holds the state after some of these transactions, each
-- whole, the first of them first.
abbrev pub HeldStands : State → List Transaction → Snapshot Held → Type 0
HeldStands state transactions held = (image : Image) → left_after (Opened held) image → StandsAfter state transactions image

-- The next process finds the file as this one left it at its end; or as a crash left it at some moment of this one, or at its end: in the disk model of that format.
abbrev pub FoundAtEnd : Bool → FileDevice → Snapshot Held → Type 0
FoundAtEnd rides device later = (image : Image) → left_after (Opened later) image → (model rides (file_disk device)).left image

abbrev pub FoundAtSomeMoment : Bool → FileDevice → Snapshot Held → Type 0
FoundAtSomeMoment rides device later = (image : Image) → left_after (Opened later) image → (model rides (file_disk device)).left_since 0 image

-- this is the state after some of the transactions, the first of them first
pub record IsStateAfter (state : State) (transactions : List Transaction) (next : State) : Type 0 where
  pub kept : List Transaction
  pub rest : List Transaction
  pub parts : kept ++ rest ≡ transactions
  pub state_is : next ≡ after_each state kept

-- A process that opens such a file goes on from such a state.
abbrev pub OpensToAState : Type 0
OpensToAState = (state : State) (transactions : List Transaction) (held : Snapshot Held) (opened : StoreView FileDevice) → HeldStands state transactions held → IsOpenedIn held opened → (file_disk opened.device).honest
    → IsStateAfter state transactions opened.account.state

-- It leaves the next one a file that holds its last state, which has every transaction that it answered as done, or the
-- state after some of those that the device's failure hit, the first of them first.
abbrev pub LeavesItsState : Type 0
LeavesItsState = (held later : Snapshot Held) (opened closed : StoreView FileDevice) (events : List Event) (replies : List Reply) → RanIn held opened closed events replies → (file_disk closed.device).honest
    → FoundAtEnd opened.account.rides closed.device later → HeldStands closed.account.state (hits_of events replies) later

-- And if it is stopped at any moment, what it found, or the state that it opened and some of the transactions that it accepted, each whole, the first of them first.
abbrev pub LeavesAState : Type 0
LeavesAState = (state : State) (transactions : List Transaction) (held later : Snapshot Held) (opened closed : StoreView FileDevice) (events : List Event) (replies : List Reply) → HeldStands state transactions held
    → RanIn held opened closed events replies → (file_disk closed.device).honest → FoundAtSomeMoment opened.account.rides closed.device later
    → (image : Image) → left_after (Opened later) image → StandsAfter state transactions image ⊎ StandsAfter opened.account.state (dones_of events replies ++ hits_of events replies) image
