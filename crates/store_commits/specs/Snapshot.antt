-- Snapshots: marks and documents as entries that make them again, each document with its revision; the answer to a snapshot; and the room that it makes.
use Rattle.std.specs.Prelude.{◌≡◌, ℕ, Bool, List, [], ◌∷◌, ◌++◌, map, ◌⊎◌, ◌+◌, ◌-◌, ◌≤◌, ◌<◌, length, true, false, None, Result, Ok, Err}
use Rattle.record_text.specs.Change.{create}
use Rattle.record_text.specs.Frame.{Entry, entry, AreEntries, frame_of}
use Rattle.log_frames.specs.Kinds.{frame_as, logged}
use Rattle.log_frames.specs.declared.kind.Kind.TheVariants.{Kept, Noted}
use Rattle.doc_machine.specs.Entries.{AreTaken, with_all}
use Rattle.doc_changes.specs.Marks.{Mark}
use Rattle.doc_changes.specs.State.{Document, State, empty_in}
use Rattle.refusals.specs.declared.numbers.TheConstants.{MEMORY, FULL, DEVICE, BROKEN}
use Rattle.store_journal.specs.Layout.{capacity_of}
use Rattle.store_journal.specs.Writes.{switch_calls}
use Rattle.sector_device.specs.Sectors.{sectors_of}
use Rattle.doc_changes.specs.Refusals.{plain}
use Rattle.doc_changes.specs.declared.refusal.Refusal.{Refusal}
use Rattle.store_commits.specs.Account.{Account, account_broken}
use Rattle.store_commits.specs.Notes.{AreNoted, noted_entry, with_marks}

-- a document's creation, with its present schema and its revision
abbrev pub creation_of : Document → Entry
creation_of d = entry d.revision (create d.name d.schema d.doc)

-- one creation a document, in their order
abbrev pub snapshot_of : List Document → List Entry
snapshot_of [] = []
snapshot_of (d ∷ ds) = creation_of d ∷ snapshot_of ds

-- the frame of one; in format 3, the one in which the last bytes ride in slots, it says that it is a snapshot's
abbrev pub snapshot_frame : Bool → Document → List ℕ
snapshot_frame false d = frame_of (creation_of d)
snapshot_frame true d = frame_as (logged Kept (creation_of d))

-- these of all documents, back to back
abbrev pub document_bytes : Bool → List Document → List ℕ
document_bytes rides [] = []
document_bytes rides (d ∷ ds) = snapshot_frame rides d ++ document_bytes rides ds

-- the frames of marks, back to back: in format 3 alone
abbrev pub mark_bytes : Bool → List Mark → List ℕ
mark_bytes false ms = []
mark_bytes true [] = []
mark_bytes true (m ∷ ms) = frame_as (logged Noted (noted_entry m)) ++ mark_bytes true ms

-- the bytes of the snapshot: the marks, the one that was set first is the first, and then the documents
abbrev pub snapshot_bytes : Bool → List Document → List Mark → List ℕ
snapshot_bytes rides ds ms = mark_bytes rides ms ++ document_bytes rides ds

-- The snapshot of a state makes its documents from none: a journal can hold each creation, each is taken under the state's seq, and what they make are these documents in their order, with their revisions. And it makes the marks, in their order.
pub record RemakesAll (s : State) : Type 0 where
  pub framed : AreEntries 2 (snapshot_of s.documents)
  pub taken : AreTaken (empty_in s.profile s.seq) (snapshot_of s.documents)
  pub documents_are : (with_all (empty_in s.profile s.seq) (snapshot_of s.documents)).documents ≡ s.documents
  pub notes_framed : AreEntries 2 (map noted_entry s.marks)
  pub noted : AreNoted s.profile s.seq s.marks
  pub marks_are : with_marks [] s.marks ≡ s.marks

-- the bytes that the snapshot of the state has
abbrev pub snapshot_size : Account → ℕ
snapshot_size a = length (snapshot_bytes a.rides a.state.documents a.state.marks)

-- the store works, and a half has room for `size` bytes
pub record CanHold (a : Account) (size : ℕ) : Type 0 where
  pub works : a.broken ≡ false
  pub fits : size ≤ capacity_of a.rides a.sectors

-- the account once the snapshot is in the other half and this one counts: no copy runs
abbrev pub account_with_snapshot : Account → Account
account_with_snapshot a = record a { used = snapshot_size a; half = 1 - a.half; copy = None }

-- it was made, and answered with the new number of used bytes
pub record IsSnapshotDone (old : Account) (used : ℕ) (new : Account) : Type 0 where
  pub can : CanHold old (snapshot_size old)
  pub new_is : new ≡ account_with_snapshot old
  pub used_is : used ≡ new.used

-- a fault of the device hit the write of `size` bytes into the other half: the store is broken, no copy runs, and
-- nothing else has changed
pub record IsCopyInDoubt (old : Account) (size : ℕ) (new : Account) : Type 0 where
  pub can : CanHold old size
  pub new_is : new ≡ account_broken old

-- why a call is refused before it does anything: the store is broken; or, in place of any answer, no memory
abbrev pub StopsBefore : Account → Refusal → Type 0
StopsBefore a r = ((r ≡ plain BROKEN) × (a.broken ≡ true)) ⊎ (r ≡ plain MEMORY)

-- a half has no room for `size` bytes: a copy that runs is dropped, and nothing else has changed
pub record IsOverlong (old : Account) (size : ℕ) (new : Account) : Type 0 where
  pub works : old.broken ≡ false
  pub over : capacity_of old.rides old.sectors < size
  pub new_is : new ≡ record old { copy = None }

-- the other refusals, and what they leave: all as it was, or, if a half has no room, no copy
abbrev pub IsSnapshotRefused : Account → Refusal → Account → Type 0
IsSnapshotRefused old r new = (StopsBefore old r × (new ≡ old)) ⊎ ((r ≡ plain FULL) × IsOverlong old (snapshot_size old) new)

-- the answer to a snapshot
abbrev pub SnapshotAnswers : Account → Result ℕ Refusal → Account → Type 0
SnapshotAnswers old (Ok used) new = IsSnapshotDone old used new
SnapshotAnswers old (Err r) new = ((r ≡ plain DEVICE) × IsCopyInDoubt old (snapshot_size old) new) ⊎ IsSnapshotRefused old r new

-- the calls that it makes of the device: one for each sector of its bytes, and those of a switch
abbrev pub calls_of_snapshot : Account → ℕ
calls_of_snapshot a = sectors_of (snapshot_size a) + switch_calls a.rides (snapshot_size a)

-- `n` bytes fit after the used ones
abbrev pub Fits : Account → ℕ → Type 0
Fits a n = a.used + n ≤ capacity_of a.rides a.sectors

-- they don't
abbrev pub IsOver : Account → ℕ → Type 0
IsOver a n = capacity_of a.rides a.sectors < a.used + n

-- a snapshot makes room for them
abbrev pub NeedsSnapshot : Account → ℕ → Type 0
NeedsSnapshot a n = IsOver a n × Fits (account_with_snapshot a) n

-- they fit neither after the used bytes nor after a snapshot
abbrev pub FitNowhere : Account → ℕ → Type 0
FitNowhere a n = IsOver a n × IsOver (account_with_snapshot a) n
