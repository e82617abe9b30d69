-- Transactions one after another, what a journal keeps of their changes and their marks, and the state that an image holds while they are made.
use Rattle.std.specs.Prelude.{ℕ, ◌+◌, Bool, true, false, List, [], ◌∷◌, ◌++◌, ◌≡◌, length, Option, None, Some, ⊤}
use Rattle.record_text.specs.Change.{Change}
use Rattle.record_text.specs.Frame.{Entry, entry, frames_in}
use Rattle.log_frames.specs.Kinds.{frames_as}
use Rattle.log_frames.specs.Log.{logged_together, logged_with}
use Rattle.doc_changes.specs.Marks.{Mark}
use Rattle.doc_changes.specs.State.{State}
use Rattle.doc_machine.specs.Transaction.{AreFramed, IsNoted, Transaction, after_in, changes_of, mark_with}
use Rattle.sector_device.specs.Disk.{Image}
use Rattle.store_commits.specs.Images.{Stands}
use Rattle.store_commits.specs.Notes.{noted_entry}

-- all their changes
abbrev pub all_changes : List Transaction → List Change
all_changes [] = []
all_changes (t ∷ ts) = changes_of t ++ all_changes ts

-- the state after transactions, each of them accepted
abbrev pub after_each : State → List Transaction → State
after_each s [] = s
after_each s (t ∷ ts) = after_each (after_in s t) ts

-- what a journal keeps of changes that are accepted from this seq on: each with the seq after it
abbrev pub entries_from : ℕ → List Change → List Entry
entries_from seq [] = []
entries_from seq (c ∷ cs) = entry (seq + 1) c ∷ entries_from (seq + 1) cs

-- their frames, back to back, if they are made together; in format 3, the one in which the last bytes ride in slots, each says whether more of them follow
abbrev pub frames_together : Bool → ℕ → List Change → List ℕ
frames_together false seq cs = frames_in 2 (entries_from seq cs)
frames_together true seq cs = frames_as (logged_together (entries_from seq cs))

-- with a mark, which only format 3 has: its frame comes last, and that of each change says that more follow
abbrev pub frames_with : Bool → ℕ → List Change → Option Mark → List ℕ
frames_with rides seq cs None = frames_together rides seq cs
frames_with rides seq cs (Some m) = frames_as (logged_with (entries_from seq cs) (Some (noted_entry m)))

-- the mark of a transaction that is accepted after this seq, if it sets one: with the seq of its last change
abbrev pub mark_after : ℕ → Transaction → Option Mark
mark_after seq t = mark_with (seq + length (changes_of t)) t

-- the frames of that transaction
abbrev pub frames_of : Bool → ℕ → Transaction → List ℕ
frames_of rides seq t = frames_with rides seq (changes_of t) (mark_after seq t)

-- those of transactions that are accepted from this seq on
abbrev pub frames_for : Bool → ℕ → List Transaction → List ℕ
frames_for rides seq [] = []
frames_for rides seq (t ∷ ts) = frames_of rides seq t ++ frames_for rides (seq + length (changes_of t)) ts

-- the same, those of each transaction by themselves
abbrev pub frames_each : Bool → ℕ → List Transaction → List (List ℕ)
frames_each rides seq [] = []
frames_each rides seq (t ∷ ts) = frames_of rides seq t ∷ frames_each rides (seq + length (changes_of t)) ts

-- a journal can hold each change and each mark of transactions that are accepted from this seq on
abbrev pub AreFramedEach : ℕ → List Transaction → Type 0
AreFramedEach seq [] = ⊤
AreFramedEach seq (t ∷ ts) = AreFramed (changes_of t) × IsNoted (mark_after seq t) × AreFramedEach (seq + length (changes_of t)) ts

-- it holds the state after some of the transactions, whole, the first of them first
pub record StandsAfter (state : State) (transactions : List Transaction) (image : Image) : Type 0 where
  pub kept : List Transaction
  pub rest : List Transaction
  pub parts : kept ++ rest ≡ transactions
  pub stands : Stands (after_each state kept) image
