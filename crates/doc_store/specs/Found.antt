-- For the clauses within the crate: the bytes that were read of a device, their replay, and an opened journal whose opening is counted.
use Rattle.std.specs.Prelude.{◌≡◌, ℕ, ◌+◌, ◌*◌, List, length, Bool, false, true, ◌⊎◌, ◌<◌, ◌≤◌}
use Rattle.sector_device.specs.Disk.{Disk}
use Rattle.sector_device.specs.Sectors.{KeepsImages}
use Rattle.store_journal.specs.Carries.{Carried}
use Rattle.store_journal.specs.Opening.{Loaded}
use Rattle.store_journal.specs.JournalView.{JournalView, carried_of}
use Rattle.store_journal.specs.Models.{model}
use Rattle.doc_changes.specs.State.{Good, State}
use Rattle.store_commits.specs.Images.{Holds, profile_in, version_of_frames}
use Rattle.store_journal.specs.Layout.{capacity_of}
use Rattle.store_journal.specs.Calls.{Became, Broke}
use Rattle.refusals.specs.declared.numbers.TheConstants.{DEVICE, MEMORY, NO_ROOM}
use Rattle.doc_changes.specs.Refusals.{plain}
use Rattle.doc_changes.specs.declared.refusal.Refusal.{Refusal}
use Rattle.store_commits.specs.Snapshot.{snapshot_bytes}
use Rattle.doc_store.specs.Opening.{calls_to_settle, carried_after}

-- what the device carries, by a journal and its bytes as they were read
abbrev pub carried_in : {D : Type 0} → JournalView D → List ℕ → Carried
carried_in journal bytes = record (carried_of journal) { bytes = bytes }

-- the device was only read: it carries the bytes, and they hold the state
pub record WasFound {D : Type 0} (disk : D → Disk) (device : D) (journal : JournalView D) (bytes : List ℕ) (state : State) : Type 0 where
  pub loaded : Loaded (disk device) (disk journal.device) (carried_in journal bytes) journal.blocks
  pub read : (disk journal.device).honest → journal.bytes ≡ bytes
  pub used_is : length journal.bytes ≡ length bytes
  pub sectors_are : journal.sectors ≡ (disk device).sectors
  pub works : journal.broken ≡ false
  pub fresh : journal.rides ≡ true → journal.settled ≡ false
  -- in format 3 a slot names whole blocks of them, and has room for the others
  pub tail : journal.rides ≡ true → (4096 * journal.blocks ≤ length bytes) × (length bytes ≤ 4096 * journal.blocks + 15428)
  pub seq_is : state.seq ≡ journal.seq
  pub profile_is : profile_in journal.rides ≡ state.profile
  pub good : Good state
  pub holds : Holds state.profile (version_of_frames journal.rides journal.version) journal.seq bytes state.documents state.marks
  pub keeps : (disk journal.device).honest → (rides : Bool) → KeepsImages (model rides (disk device)) (model rides (disk journal.device))
  pub honest : (disk journal.device).honest → (disk device).honest

-- it is seen to carry what the opening makes of what was read
abbrev pub IsSettled : {D : Type 0} → Disk → Disk → Carried → JournalView D → JournalView D → State → Type 0
IsSettled disk new_disk was old new state = Became disk new_disk old new (carried_after was state) (length (carried_after was state).bytes) (calls_to_settle was state old.blocks)

-- Why it isn't counted: memory was refused, or no number is left, or bytes of format 1 are in a half that has no room for the snapshot of the
-- state, and then nothing was done; or the device failed, if a half has room.
abbrev pub IsNotSettled : {D : Type 0} → Disk → Disk → Carried → JournalView D → JournalView D → State → Refusal → Type 0
IsNotSettled disk new_disk was old new state r =
    ((r ≡ plain MEMORY) × (new ≡ old))
    ⊎ ((r ≡ plain NO_ROOM) × ((old.version ≡ 1) × (capacity_of old.rides old.sectors < length (snapshot_bytes false state.documents state.marks))) × (new ≡ old))
    ⊎ ((r ≡ plain DEVICE) × (old.version ≡ 1 → length (snapshot_bytes false state.documents state.marks) ≤ capacity_of old.rides old.sectors) × Broke disk new_disk (calls_to_settle was state old.blocks) old new)
