-- Lives: each is opened with what the one before left, is asked its events, and ends in a crash.
use Rattle.std.specs.Prelude.{◌≡◌, ◌≤◌, All, Bool, List, [], ◌∷◌, ◌++◌, length, map, true, false, Option, Some, None, ⊤, ◌⊎◌, ℕ}
use Rattle.sector_device.specs.Disk.{Disk, Image, IsDamage}
use Rattle.store_journal.specs.Models.{IsTold, model}
use Rattle.sector_device.specs.Memory.{mem_disk}
use Rattle.sector_device.specs.declared.memory.MemDisk.{MemDisk}
use Rattle.doc_changes.specs.State.{State}
use Rattle.doc_machine.specs.Transaction.{Transaction, transaction_of}
use Rattle.store_commits.specs.Account.{Account}
use Rattle.store_commits.specs.Folds.{after_each, all_changes}
use Rattle.store_commits.specs.Batch.{Commit}
use Rattle.store_commits.specs.Run.{Event, IsRun, dones_of, hits_of}
use Rattle.store_commits.specs.declared.event.Reply.{Reply}
use Rattle.store_commits.specs.Images.{Stands, rides_for}
use Rattle.store_commits.specs.Events.{event_of}
use Rattle.doc_store.specs.declared.life.Life.{Life}
use Rattle.doc_store.specs.declared.life.Part.{Part}
use Rattle.store_journal.specs.declared.fault.OpenFault.{OpenFault}
use Rattle.doc_changes.specs.Refusals.{plain}
use Rattle.doc_changes.specs.declared.refusal.Refusal.{Refusal}
use Rattle.refusals.specs.declared.numbers.TheConstants.{DEVICE, MEMORY, NO_ROOM}
use Rattle.doc_store.specs.Opening.{MayLackRoom, NotOpened}
use Rattle.doc_store.specs.declared.whole.LivesFault.{LivesFault}
use Rattle.doc_store.specs.declared.whole.LivesFault.TheVariants.{InALife, AtLast}

-- what the store is asked in a life
abbrev pub events_of : Life → List Event
events_of life = map event_of life.events.items

-- what it answered
abbrev pub replies_of : Part → List Reply
replies_of part = part.replies.items

-- the transactions that were accepted
abbrev pub accepted_of : Part → List Transaction
accepted_of part = map transaction_of part.accepted.items

-- A life that was opened, from its first account to its last: it began with a state, was asked these events, gave this
-- part, and left another state.
pub record IsOpened (first last : Account) (s : State) (events : List Event) (part : Part) (t : State) : Type 0 where
  -- it was opened with the state, and no copy ran
  pub opened : part.opened ≡ true
  pub begins : first.state ≡ s
  pub works : first.broken ≡ false
  pub no_copy : first.copy ≡ None
  -- its replies are those of a run of its events
  pub commits : List Commit
  pub run : IsRun first events (replies_of part) commits last
  -- accepted are those that were done and those that a fault of the device hit, acknowledged are those that were done
  pub accepted_are : accepted_of part ≡ dones_of events (replies_of part) ++ hits_of events (replies_of part)
  pub acknowledged_are : part.acknowledged ≡ length (dones_of events (replies_of part))
  -- the crash kept the first of the accepted ones, each whole, and all that were acknowledged; `kept` is the number of
  -- their changes
  pub kept_ones : List Transaction
  pub lost : List Transaction
  pub parts : kept_ones ++ lost ≡ accepted_of part
  pub at_least : part.acknowledged ≤ length kept_ones
  pub counted : part.kept ≡ length (all_changes kept_ones)
  pub leaves : t ≡ after_each s kept_ones

-- the part of a life that was not opened: it has nothing
pub record TellsNothing (part : Part) : Type 0 where
  pub opened : part.opened ≡ false
  pub replies : part.replies.items ≡ []
  pub accepted : part.accepted.items ≡ []
  pub acknowledged : part.acknowledged ≡ 0
  pub kept : part.kept ≡ 0

-- A life by its accounts first and last, or one that was not opened: it has none, and the state stays.
abbrev pub IsLife : Option (Account × Account) → State → List Event → Part → State → Type 0
IsLife (Some accounts) s events part t = IsOpened accounts.0 accounts.1 s events part t
IsLife None s events part t = TellsNothing part × (t ≡ s)

-- Lives one after another, with one part each: what a life leaves, a state at least, is what the next begins with. More may be said of each.
abbrev pub LivesSo : {L : Type 0} → (L → State) → (L → Life → Part → Option (Account × Account) → L → Type 0) → L → List Life → List Part → L → Type 0
LivesSo {L} state_of more s [] [] t = t ≡ s
LivesSo {L} state_of more s (life ∷ lives) (part ∷ parts) t =
    (mid : L) × (accounts : Option (Account × Account)) × IsLife accounts (state_of s) (events_of life) part (state_of mid) × more s life part accounts mid × LivesSo state_of more mid lives parts t
LivesSo {L} state_of more s lives parts t = ⊥

-- the parts that lives give
abbrev pub IsLives : State → List Life → List Part → State → Type 0
IsLives = LivesSo (λ s. s) (λ s life part accounts t. ⊤)

-- every image that a crash may leave, in the disk model of the state's format, holds the state
abbrev pub AllStand : Disk → State → Type 0
AllStand disk s = (image : Image) → (model (rides_for s.profile) disk).left image → Stands s image

-- the same of a disk in memory
abbrev pub DiskStands : MemDisk → State → Type 0
DiskStands disk s = AllStand (mem_disk disk) s

-- The crash of a life keeps to the disk model of that format: it tears no sector, or, in format 3, no torn one verifies, whatever the size of the disk.
abbrev pub CrashKeeps : Bool → Life → Type 0
CrashKeeps false life = life.damage.items ≡ []
CrashKeeps true life = (torn : List ℕ → Bool) × ((sectors : ℕ) → IsTold sectors torn) × All (λ d. IsDamage torn d.content) life.damage.items

-- so does that of each, on a disk that holds the state
abbrev pub CrashesKeep : State → List Life → Type 0
CrashesKeep s lives = All (CrashKeeps (rides_for s.profile)) lives

-- the failures that a disk counts after lives, by those that it counted before: a crash leaves none
abbrev pub failures_after : List Life → ℕ → ℕ
failures_after [] failures = failures
failures_after (life ∷ lives) failures = 0

-- The lives had these parts and left a state, which every image of the disk after them holds. The last opening of that disk, which counts as many
-- failures as the lives leave, was refused for what the disk then was, or did.
pub record IsRefusedAtLast (s : State) (lives : List Life) (disk : MemDisk) (fault : OpenFault MemDisk) : Type 0 where
  pub parts : List Part
  pub state : State
  pub lived : IsLives s lives parts state
  pub before : MemDisk
  pub counts : (mem_disk before).failures ≡ failures_after lives (mem_disk disk).failures
  pub stand : AllStand (mem_disk before) state
  pub why : NotOpened (mem_disk before) (mem_disk fault.device) fault.number
  pub number : (fault.number ≡ MEMORY) ⊎ (fault.number ≡ DEVICE) ⊎ ((fault.number ≡ NO_ROOM) × MayLackRoom (mem_disk disk))

-- memory was refused in a life, or an opening of one for lack of room; or the last opening was refused
abbrev pub AreRefused : State → List Life → MemDisk → LivesFault → Type 0
AreRefused s lives disk (InALife refusal) = (refusal ≡ plain MEMORY) ⊎ ((refusal ≡ plain NO_ROOM) × MayLackRoom (mem_disk disk))
AreRefused s lives disk (AtLast fault) = IsRefusedAtLast s lives disk fault
