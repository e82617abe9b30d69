-- A log: the frames of a snapshot, and after them transactions, each of one change or more, and some with a mark.
use Rattle.std.specs.Prelude.{ℕ, List, [], ◌∷◌, ◌++◌, map, Option, None, Some, if◌then◌else◌, ⊤}
use Rattle.record_text.specs.Frame.{Entry, AreEntries}
use Rattle.log_frames.specs.Kinds.{Logged, logged, frames_as, is_noted}
use Rattle.log_frames.specs.declared.kind.Kind.{Kind}
use Rattle.log_frames.specs.declared.kind.Kind.TheVariants.{Last, More, Kept, Noted}

-- ---- the entries of frames

-- of frames that hold changes and documents, in order
abbrev pub entries_in_frames : List Logged → List Entry
entries_in_frames [] = []
entries_in_frames (l ∷ ls) = if is_noted l.kind then entries_in_frames ls else l.entry ∷ entries_in_frames ls

-- of those that hold marks, in order
abbrev pub notes_in_frames : List Logged → List Entry
notes_in_frames [] = []
notes_in_frames (l ∷ ls) = if is_noted l.kind then l.entry ∷ notes_in_frames ls else notes_in_frames ls

-- ---- transactions

-- the entries of a transaction's changes, in order, and that of its mark, if it sets one
pub record Transacted : Type 0 where
  pub changes : List Entry
  pub mark : Option Entry

abbrev pub transacted : List Entry → Option Entry → Transacted
transacted changes mark = record { changes = changes; mark = mark }

-- all changes of these, in order
abbrev pub entries_in : List Transacted → List Entry
entries_in [] = []
entries_in (t ∷ ts) = t.changes ++ entries_in ts

-- the mark, if there is one
abbrev pub note_in : Option Entry → List Entry
note_in None = []
note_in (Some m) = m ∷ []

-- all marks of these, in order
abbrev pub notes_in : List Transacted → List Entry
notes_in [] = []
notes_in (t ∷ ts) = note_in t.mark ++ notes_in ts

-- changes without a mark: the last one says that it is the last, each other one that more follow
abbrev pub logged_together : List Entry → List Logged
logged_together [] = []
logged_together (e ∷ []) = logged Last e ∷ []
logged_together (e ∷ f ∷ es) = logged More e ∷ logged_together (f ∷ es)

-- changes and their mark, if there is one: it comes last, and each change says that more follows
abbrev pub logged_with : List Entry → Option Entry → List Logged
logged_with changes None = logged_together changes
logged_with changes (Some m) = map (logged More) changes ++ logged Noted m ∷ []

-- a transaction
abbrev pub logged_transacted : Transacted → List Logged
logged_transacted t = logged_with t.changes t.mark

-- transactions, one after another
abbrev pub logged_each : List Transacted → List Logged
logged_each [] = []
logged_each (t ∷ ts) = logged_transacted t ++ logged_each ts

-- it has a change
abbrev pub HasChange : List Entry → Type 0
HasChange [] = ⊥
HasChange (e ∷ es) = ⊤

-- none of them is without a change
abbrev pub HaveChanges : List Transacted → Type 0
HaveChanges [] = ⊤
HaveChanges (t ∷ ts) = HasChange t.changes × HaveChanges ts

-- ---- logs

-- the frames of its snapshot, and its transactions, in order
pub record Log : Type 0 where
  pub snapshot : List Logged
  pub transactions : List Transacted

-- a snapshot has frames of documents and of marks
abbrev pub IsOfSnapshot : Kind → Type 0
IsOfSnapshot Last = ⊥
IsOfSnapshot More = ⊥
IsOfSnapshot Kept = ⊤
IsOfSnapshot Noted = ⊤

abbrev pub AreOfSnapshot : List Logged → Type 0
AreOfSnapshot [] = ⊤
AreOfSnapshot (l ∷ ls) = IsOfSnapshot l.kind × AreOfSnapshot ls

-- all its entries but those of marks, in order
abbrev pub entries_of : Log → List Entry
entries_of log = entries_in_frames log.snapshot ++ entries_in log.transactions

-- those of marks, in order
abbrev pub notes_of : Log → List Entry
notes_of log = notes_in_frames log.snapshot ++ notes_in log.transactions

-- the entries of a log, with what their frames say of them
abbrev pub logged_of : Log → List Logged
logged_of log = log.snapshot ++ logged_each log.transactions

-- its bytes
abbrev pub log_bytes : Log → List ℕ
log_bytes log = frames_as (logged_of log)

-- a log of a snapshot alone: marks, and then documents
abbrev pub snapshot_log : List Entry → List Entry → Log
snapshot_log notes es = record { snapshot = map (logged Noted) notes ++ map (logged Kept) es; transactions = [] }

-- a log with these transactions after its own
abbrev pub with_transactions : Log → List Transacted → Log
with_transactions log ts = record { snapshot = log.snapshot; transactions = log.transactions ++ ts }

-- it has the parts of a log: no change is in its snapshot, and each transaction has a change
pub record IsInParts (log : Log) : Type 0 where
  pub of_snapshot : AreOfSnapshot log.snapshot
  pub changed : HaveChanges log.transactions

-- a log that can be read: it is in such parts, and each frame can be read
pub record IsLog (log : Log) : Type 0 where
  pub in_parts : IsInParts log
  pub framed : AreEntries 2 (entries_of log)
  pub noted : AreEntries 2 (notes_of log)
