-- Lives by the clock of their device: each call counts one, and the fuse stops it after `stop` calls.
use Rattle.std.specs.Prelude.{◌≡◌, ◌⊎◌, ℕ, ◌+◌, ◌≤◌, ◌<◌, List, [], ◌∷◌, length, Bool, true, false, Option, Some, None, ⊤}
use Rattle.sector_device.specs.Disk.{Disk, Image}
use Rattle.store_journal.specs.Carries.{EitherCarried, NamesBlocks}
use Rattle.store_journal.specs.Models.{model}
use Rattle.doc_changes.specs.State.{State}
use Rattle.store_commits.specs.Account.{Account, StandsAs, extent_of}
use Rattle.store_commits.specs.Batch.{Commit, failed, passed}
use Rattle.doc_store.specs.Lives.{LivesSo, events_of, replies_of}
use Rattle.doc_store.specs.Opening.{IsOpenedFrom, carried_after, opening_cost}
use Rattle.store_commits.specs.Run.{Event, IsRun}
use Rattle.store_commits.specs.declared.event.Reply.{Reply}
use Rattle.store_commits.specs.Images.{Stands}
use Rattle.doc_store.specs.declared.life.Life.{Life}
use Rattle.doc_store.specs.declared.life.Part.{Part}

-- Commits after `spent` calls. All calls of one that passed were within the stop. Those of one that failed, though the disk itself never failed, pass it, and no commit follows.
abbrev pub AreInTime : ℕ → ℕ → ℕ → List Commit → Type 0
AreInTime stop faults spent [] = ⊤
AreInTime stop faults spent (passed k ∷ commits) = (spent + k.calls ≤ stop) × AreInTime stop faults (spent + k.calls) commits
AreInTime stop faults spent (failed k kept ∷ commits) = (faults ≡ 0 → stop < spent + k.calls) × (commits ≡ [])

-- an image that is left after commits: as the last account, or, if a commit failed, as it kept or as it was to make
abbrev pub IsLeftBy : List Commit → Account → Image → Type 0
IsLeftBy [] last image = StandsAs (extent_of last) image
IsLeftBy (passed k ∷ commits) last image = IsLeftBy commits last image
IsLeftBy (failed k kept ∷ commits) last image = StandsAs (extent_of kept) image ⊎ StandsAs (extent_of k.made) image

-- what a crash leaves: a state, the image that holds it, and whether a crash may leave no other
pub record Left : Type 0 where
  pub state : State
  pub image : Image
  pub settled : Bool

abbrev pub left : State → Image → Bool → Left
left s image settled = record { state = s; image = image; settled = settled }

-- a crash leaves the device as it reads, in the disk model of that format
abbrev pub HasOneImage : Bool → Disk → Type 0
HasOneImage rides disk = (image : Image) → (model rides disk).left image → image ≡ disk.seen

-- An opened life: its first account is what the image carries, the calls of its opening were within the stop, each commit is in time, and the crash leaves what these leave.
pub record IsTimely (l : Left) (stop faults : ℕ) (events : List Event) (replies : List Reply) (first last : Account) (t : Left) : Type 0 where
  pub found : IsOpenedFrom l.image first
  pub sectors : first.sectors ≡ length l.image
  -- in format 3 how many blocks the slot names
  pub blocks : ℕ
  pub names : NamesBlocks found.stands.carried blocks l.image
  pub within : opening_cost found.stands.carried first.state blocks ≤ stop
  pub commits : List Commit
  pub run : IsRun first events replies commits last
  pub timely : AreInTime stop faults (opening_cost found.stands.carried first.state blocks) commits
  -- if the store works at the end, the disk itself had no fault
  pub none : last.broken ≡ false → faults ≡ 0
  pub leaves : IsLeftBy commits last t.image
  pub settles : t.settled ≡ true

-- One that was not opened: though the disk itself never failed, the calls that open the image pass the stop; and the crash leaves as many sectors, with what they carry as it is, or as the opening makes it.
pub record IsLate (l : Left) (stop faults : ℕ) (t : Left) : Type 0 where
  pub stands : Stands l.state l.image
  pub late : faults ≡ 0 → (blocks : ℕ) → NamesBlocks stands.carried blocks l.image → stop < opening_cost stands.carried l.state blocks
  pub sectors : length t.image ≡ length l.image
  pub leaves : l.settled ≡ true → EitherCarried stands.carried (carried_after stands.carried l.state) t.image
  pub settles : t.settled ≡ true

-- a life by the clock: in time if it was opened, and late if it was not
abbrev pub IsByClock : Left → Life → Part → Option (Account × Account) → Left → Type 0
IsByClock l life part (Some accounts) t = IsTimely l life.stop part.disk_faults (events_of life) (replies_of part) accounts.0 accounts.1 t
IsByClock l life part None t = IsLate l life.stop part.disk_faults t

-- lives by the clock
abbrev pub Timed : Left → List Life → List Part → Left → Type 0
Timed = LivesSo (λ l. l.state) IsByClock
