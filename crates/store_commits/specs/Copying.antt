-- A copy that runs: as the store keeps it and as the account counts it, the answer to a step of it, and the effect of that on a journal.
use Rattle.std.specs.Prelude.{Bool, ◌≡◌, ◌≤◌, ◌+◌, ℕ, List, ◌++◌, length, take, false, Option, None, Some, option_map, unwrap_or, ⊤, ◌⊎◌, ◌<◌, max, ◌-◌, ◌*◌, ◌/◌, min, Result, Ok, Err, if◌then◌else◌, nat_le, nat_eq}
use Rattle.std.specs.Vec.{vec_len, vec_capacity}
use Rattle.sector_device.specs.Disk.{Disk}
use Rattle.store_journal.specs.Calls.{BeginsWith}
use Rattle.store_journal.specs.JournalView.{JournalView}
use Rattle.doc_changes.specs.State.{State}
use Rattle.store_commits.specs.Account.{Copy, Account}
use Rattle.store_commits.specs.Images.{Holds, version_of_frames}
use Rattle.store_commits.specs.Snapshot.{snapshot_bytes, CanHold, IsCopyInDoubt, IsOverlong, StopsBefore, snapshot_size}
use Rattle.store_commits.specs.declared.copying.Copying.{Copying}
use Rattle.store_journal.specs.Calls as journal
use Rattle.store_commits.specs.declared.pump.Pump.{Pump}
use Rattle.store_commits.specs.declared.pump.CopyState.TheVariants.{Running, Switched, Dropped}
use Rattle.store_journal.specs.Layout.{capacity_of}
use Rattle.store_journal.specs.Writes.{step_count, switch_calls}
use Rattle.slot_commits.specs.Loads.{number_end}
use Rattle.doc_changes.specs.Refusals.{plain}
use Rattle.refusals.specs.declared.numbers.TheConstants.{DEVICE}
use Rattle.doc_changes.specs.declared.refusal.Refusal.{Refusal}

-- what is seen of it
pub record Target : Type 0 where
  pub bytes : List ℕ
  pub standing : ℕ

abbrev pub view_of : Copying → Target
view_of k = record { bytes = k.target.items; standing = k.standing }

abbrev pub target_of : Option Copying → Option Target
target_of k = option_map view_of k

-- as the account counts it
abbrev pub count_of : Target → Copy
count_of t = record { target = length t.bytes; standing = t.standing }

abbrev pub copy_of : Option Target → Option Copy
copy_of t = option_map count_of t

-- The target holds the state's documents and marks in the store's format, and the first `standing` bytes of it are what the other half is known to begin with.
pub record IsCopying {D : Type 0} (disk : Disk) (journal : JournalView D) (state : State) (t : Target) : Type 0 where
  pub holds : Holds state.profile (version_of_frames journal.rides 2) state.seq t.bytes state.documents state.marks
  pub within : t.standing ≤ length t.bytes
  pub copied : disk.honest → journal.broken ≡ false → BeginsWith (take t.standing t.bytes) journal.copied
  -- a number is left for the switch
  pub numbered : journal.next < number_end

-- this of a copy that runs
abbrev pub IsCopied : {D : Type 0} → Disk → JournalView D → State → Option Target → Type 0
IsCopied disk journal state None = ⊤
IsCopied disk journal state (Some t) = IsCopying disk journal state t

-- the copy that a step goes on with: the one that runs, else one of the snapshot of the state, of which no byte is written yet
abbrev pub IsBegun : Bool → State → Option Target → Target → Type 0
IsBegun rides state copy t = t ≡ unwrap_or copy (record { bytes = snapshot_bytes rides state.documents state.marks; standing = 0 })

-- the target with more bytes after it
abbrev pub target_with : List ℕ → Option Target → Option Target
target_with more t = option_map (λ (u : Target). record u { bytes = u.bytes ++ more }) t

-- the target of a copy that runs has room for `n` bytes more, without memory
abbrev pub HasSpare : Option Copying → ℕ → Type 0
HasSpare None n = ⊤
HasSpare (Some k) n = vec_len k.target + n ≤ vec_capacity k.target

-- the copy that a step goes on with: the one that runs, else one of the snapshot of the state, of which no byte is written yet
abbrev pub copy_at : Account → Copy
copy_at a = unwrap_or a.copy (record { target = snapshot_size a; standing = 0 })

-- the sectors of its target that a step writes: at most `most`, 0 as 1, from the one that holds the first byte that isn't written yet
abbrev pub written_of : Copy → ℕ → ℕ
written_of k most = step_count k.target k.standing (max most 1)

-- how many bytes of the target are written then
abbrev pub standing_after : Copy → ℕ → ℕ
standing_after k most = min k.target (512 * (k.standing / 512 + written_of k most))

-- the sectors were written, and more are left
pub record GoesOn (old : Account) (most : ℕ) (p : Pump) (new : Account) : Type 0 where
  pub can : CanHold old (copy_at old).target
  pub less : standing_after (copy_at old) most < (copy_at old).target
  pub pump_is : p ≡ record { written = written_of (copy_at old) most; copy = Running }
  pub new_is : new ≡ record old { copy = Some (record (copy_at old) { standing = standing_after (copy_at old) most }) }

-- they were the last: the other half counts, with the target
pub record IsTurned (old : Account) (most : ℕ) (p : Pump) (new : Account) : Type 0 where
  pub can : CanHold old (copy_at old).target
  pub whole : standing_after (copy_at old) most ≡ (copy_at old).target
  pub pump_is : p ≡ record { written = written_of (copy_at old) most; copy = Switched }
  pub new_is : new ≡ record old { used = (copy_at old).target; half = 1 - old.half; copy = None }

-- one of these, or the target is longer than a half: nothing was written, and the copy is dropped
abbrev pub IsPumped : Account → ℕ → Pump → Account → Type 0
IsPumped old most p new = ((p ≡ record { written = 0; copy = Dropped }) × IsOverlong old (copy_at old).target new) ⊎ GoesOn old most p new ⊎ IsTurned old most p new

-- the answer to a step; if it is refused before it does anything, nothing has changed
abbrev pub PumpAnswers : Account → ℕ → Result Pump Refusal → Account → Type 0
PumpAnswers old most (Ok p) new = IsPumped old most p new
PumpAnswers old most (Err r) new = ((r ≡ plain DEVICE) × IsCopyInDoubt old (copy_at old).target new) ⊎ (StopsBefore old r × (new ≡ old))

-- the calls that it makes of the device: one for each sector that it writes, and those of a switch if they are the last
abbrev pub calls_of_step : Bool → Copy → ℕ → ℕ
calls_of_step rides k most = written_of k most + (if nat_eq (standing_after k most) k.target then switch_calls rides k.target else 0)

-- the account after the step
abbrev pub account_stepped : Account → ℕ → Account
account_stepped a most =
    if nat_le (copy_at a).target (capacity_of a.rides a.sectors)
    then (if nat_eq (standing_after (copy_at a) most) (copy_at a).target
    then record a { used = (copy_at a).target; half = 1 - a.half; copy = None }
    else record a { copy = Some (record (copy_at a) { standing = standing_after (copy_at a) most }) })
    else record a { copy = None }

-- none if it drops the copy
abbrev pub calls_of_pump : Account → ℕ → ℕ
calls_of_pump a most = if nat_le (copy_at a).target (capacity_of a.rides a.sectors) then calls_of_step a.rides (copy_at a) most else 0

-- sectors were written, and more are left: the committed bytes stay, and more of the target is written
pub record WentOn {D : Type 0} (disk new_disk : Disk) (old new : JournalView D) (t : Target) (most : ℕ) (p : Pump) (left : Option Target) : Type 0 where
  pub less : standing_after (count_of t) most < length t.bytes
  pub pump_is : p ≡ record { written = written_of (count_of t) most; copy = Running }
  pub left_is : left ≡ Some (record t { standing = standing_after (count_of t) most })
  pub stepped : journal.Stepped disk new_disk old new t.bytes t.standing (max most 1) (standing_after (count_of t) most)

-- they were the last, and the other half was made to count
pub record WentOver {D : Type 0} (disk new_disk : Disk) (old new : JournalView D) (t : Target) (most : ℕ) (p : Pump) (left : Option Target) : Type 0 where
  pub whole : standing_after (count_of t) most ≡ length t.bytes
  pub pump_is : p ≡ record { written = written_of (count_of t) most; copy = Switched }
  pub left_is : left ≡ None
  pub counts : journal.Switched disk new_disk old new t.bytes (calls_of_step old.rides (count_of t) most)

-- one or the other
abbrev pub HasStepped : {D : Type 0} → Disk → Disk → JournalView D → JournalView D → Target → ℕ → Pump → Option Target → Type 0
HasStepped disk new_disk old new t most p left = WentOn disk new_disk old new t most p left ⊎ WentOver disk new_disk old new t most p left
