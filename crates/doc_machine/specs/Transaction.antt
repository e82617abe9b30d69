-- Transactions: changes that are made together, all of them or none, and the mark that is set with them.
use Rattle.std.specs.Prelude.{◌≡◌, ◌⊎◌, ℕ, ◌+◌, List, [], ◌∷◌, ◌++◌, length, map, Option, None, Some, nat_eq, nat_le, nat_lt, ◌&&◌, ◌||◌, Bool, true, if◌then◌else◌, ⊤}
use Rattle.std.specs.Option.{option_or}
use Rattle.doc_tree.specs.Text.{text_of}
use Rattle.record_text.specs.Change.{Change, change_of, create, delete, patch, set_schema}
use Rattle.record_text.specs.Frame.{IsFramed}
use Rattle.refusals.specs.declared.numbers.TheConstants.{COMMAND, MEMORY, SCHEMA_SIZE, SEQ_END, TRANSACTION_LARGE}
use Rattle.doc_changes.specs.Held.{held_at}
use Rattle.doc_changes.specs.Refusals.{at_change, plain, refused_if}
use Rattle.doc_changes.specs.declared.refusal.Refusal.{Refusal}
use Rattle.doc_changes.specs.Marks.{IsMark, Mark, with_mark}
use Rattle.doc_changes.specs.State.{Document, State, Good, find}
use Rattle.doc_changes.specs.Step.{MayBringLargePatterns, SaysLargePatterns, refusal_of, after}
use Rattle.doc_machine.specs.Marking.{Marking, mark_at_seq, marking_of, marking_refusal}
use Rattle.doc_machine.specs.Spelled.{change_in}
use Rattle.doc_machine.specs.Trial.{TrialView}
use Rattle.doc_machine.specs.declared.transaction.Transaction.{Transaction as Held}
use Rattle.doc_machine.specs.declared.transaction.Transaction.TheVariants.{Marked, Single, Several, Spelled}
use Rattle.doc_machine.specs.declared.transaction.Changes.{Changes as HeldChanges}
use Rattle.doc_machine.specs.declared.transaction.Changes.TheVariants.{Alone, Together}

-- ---- changes one after another

-- the state after changes, each of them accepted
abbrev pub after_all : State → List Change → State
after_all s [] = s
after_all s (c ∷ cs) = after_all (after s c) cs

-- the states before each of them
abbrev pub befores : State → List Change → List State
befores s [] = []
befores s (c ∷ cs) = s ∷ befores (after s c) cs

-- each of them is accepted after those before it
abbrev pub AreAccepted : State → List Change → Type 0
AreAccepted s [] = ⊤
AreAccepted s (c ∷ cs) = (refusal_of s c ≡ None) × AreAccepted (after s c) cs

-- the state is good, and so is the one after each of them
abbrev pub AreGood : State → List Change → Type 0
AreGood s [] = Good s
AreGood s (c ∷ cs) = Good s × AreGood (after s c) cs

-- a journal can hold each of them
abbrev pub AreFramed : List Change → Type 0
AreFramed [] = ⊤
AreFramed (c ∷ cs) = IsFramed c × AreFramed cs

-- ---- what changes take of memory

-- the bytes of the compact text of a document, if there is one
abbrev pub text_bytes : Option Document → ℕ
text_bytes None = 0
text_bytes (Some d) = length (text_of d.doc)

-- the bytes that a change keeps: what a patch takes beyond its document and its own values, and the document that is put under another schema, since it is judged anew
abbrev pub kept_by : State → Change → ℕ
kept_by s (create name schema doc) = 0
kept_by s (patch name ops if_rev) = held_at ops (find name s.documents)
kept_by s (set_schema name schema) = text_bytes (find name s.documents)
kept_by s (delete name) = 0

-- those of the document that is put under another schema alone
abbrev pub ruled_by : State → Change → ℕ
ruled_by s (create name schema doc) = 0
ruled_by s (patch name ops if_rev) = 0
ruled_by s (set_schema name schema) = text_bytes (find name s.documents)
ruled_by s (delete name) = 0

-- the bytes that changes keep together, one after another
abbrev pub kept_by_all : State → List Change → ℕ
kept_by_all s [] = 0
kept_by_all s (c ∷ cs) = kept_by s c + kept_by_all (after s c) cs

-- over 33,554,432 bytes are too many for a transaction; this concerns the whole, and names no place
abbrev pub large_refusal : ℕ → Option Refusal
large_refusal kept = refused_if (nat_lt 33_554_432 kept) TRANSACTION_LARGE

-- ---- transactions

-- the changes beside a mark: one by itself, or a list of changes, whose refusal says which of them is at fault
pub data Changes : Type 0 where
  alone : Change → Changes
  together : List Change → Changes

-- the same without a mark, or with one
pub data Transaction : Type 0 where
  single : Change → Transaction
  several : List Change → Transaction
  marked : Marking → Changes → Transaction

abbrev pub all_of : Changes → List Change
all_of (alone c) = c ∷ []
all_of (together cs) = cs

-- its changes, in their order
abbrev pub changes_of : Transaction → List Change
changes_of (single c) = c ∷ []
changes_of (several cs) = cs
changes_of (marked m cs) = all_of cs

-- the number of its last change, if it is made after that state
abbrev pub last_seq : State → Transaction → ℕ
last_seq s t = s.seq + length (changes_of t)

-- the mark that it sets, if it sets one, with that number
abbrev pub mark_with : ℕ → Transaction → Option Mark
mark_with seq (single c) = None
mark_with seq (several cs) = None
mark_with seq (marked m cs) = Some (mark_at_seq seq m)

-- changes beside a mark, without their place in memory
abbrev pub pure_changes : HeldChanges → Changes
pure_changes (Alone command) = alone (change_of command)
pure_changes (Together commands) = together (map change_of commands.items)

-- a transaction, without its place in memory
abbrev pub transaction_of : Held → Transaction
transaction_of (Single command) = single (change_of command)
transaction_of (Several commands) = several (map change_of commands.items)
transaction_of (Marked marking changes) = marked (marking_of marking) (pure_changes changes)
transaction_of (Spelled text) = single (change_in text)

-- a transaction of several changes has 1 to 1,024
abbrev pub is_countable : List Change → Bool
is_countable cs = nat_le 1 (length cs) && nat_le (length cs) 1_024

-- Why a transaction is refused for the change at that place: as the change is by itself, with its place. That no more changes can be counted, or that memory was refused, concerns the whole and names no place.
abbrev pub refused_at : ℕ → Refusal → Refusal
refused_at place r = if nat_eq r.number SEQ_END || nat_eq r.number MEMORY then r else at_change place r

-- this refusal, of the change at that place, or else a later one's
abbrev pub refused_or : ℕ → Option Refusal → Option Refusal → Option Refusal
refused_or place None later = later
refused_or place (Some r) later = Some (refused_at place r)

-- Why changes are refused: the first has the place `place`, and those before it keep `kept` bytes. Each is judged after those before it, first by itself, and then whether it and they keep too many. The first reason counts.
abbrev pub first_refused : ℕ → ℕ → State → List Change → Option Refusal
first_refused place kept s [] = None
first_refused place kept s (c ∷ cs) =
    refused_or place (refusal_of s c) (option_or (large_refusal (kept + kept_by s c)) (first_refused (place + 1) (kept + kept_by s c) (after s c) cs))

-- why a state refuses several changes, if it does
abbrev pub several_refusal : State → List Change → Option Refusal
several_refusal s cs = if is_countable cs then first_refused 0 0 s cs else Some (plain COMMAND)

-- why it refuses the changes beside a mark, if it does: as without it
abbrev pub changes_refusal : State → Changes → Option Refusal
changes_refusal s (alone c) = refusal_of s c
changes_refusal s (together cs) = several_refusal s cs

-- why a state refuses a transaction, if it does: what is said of marks is judged before anything else
abbrev pub refusal_in : State → Transaction → Option Refusal
refusal_in s (single c) = refusal_of s c
refusal_in s (several cs) = several_refusal s cs
refusal_in s (marked m cs) = option_or (marking_refusal s m) (changes_refusal s cs)

-- the marks after one was set, if one was
abbrev pub marks_after : Option Mark → List Mark → List Mark
marks_after None ms = ms
marks_after (Some m) ms = with_mark m ms

-- the state with the mark that was set, if one was
abbrev pub with_noted : Option Mark → State → State
with_noted o s = record s { marks = marks_after o s.marks }

-- the state after a transaction that isn't refused: its changes are made, and its mark is set, with the number of the last of them
abbrev pub after_in : State → Transaction → State
after_in s t = with_noted (mark_with (last_seq s t) t) (after_all s (changes_of t))

-- ---- transactions on trial

-- All of these changes were made on the trial, one after another; a journal can hold each of them.
pub record AreMade (old : TrialView) (cs : List Change) (new : TrialView) : Type 0 where
  pub state : new.state ≡ after_all old.state cs
  pub past : new.past ≡ old.past ++ befores old.state cs
  pub framed : AreFramed cs
  pub good : AreGood old.state cs

-- a mark that is set is one
abbrev pub IsNoted : Option Mark → Type 0
IsNoted None = ⊤
IsNoted (Some m) = IsMark m

-- The changes of the transaction were made on the trial, and its mark was set; a journal can hold each of them.
pub record IsMadeWhole (old : TrialView) (t : Transaction) (new : TrialView) : Type 0 where
  pub state : new.state ≡ after_in old.state t
  pub past : new.past ≡ old.past ++ befores old.state (changes_of t)
  pub framed : AreFramed (changes_of t)
  pub good : AreGood old.state (changes_of t)
  pub noted : IsNoted (mark_with (last_seq old.state t) t)

-- From old, a transaction was accepted and made, with this seq.
pub record IsTransacted (old : TrialView) (t : Transaction) (seq : ℕ) (new : TrialView) : Type 0 where
  pub accepted : refusal_in old.state t ≡ None
  pub made : IsMadeWhole old t new
  pub seq_is : seq ≡ new.state.seq

-- ---- patterns that are too large

-- Changes up to one are accepted, and the refusal says of the next, with its place, that the patterns of its schema are too
-- large.
pub record SaysOfOne (s : State) (cs : List Change) (r : Refusal) : Type 0 where
  pub made_first : List Change
  pub next : Change
  pub behind : List Change
  pub parts : made_first ++ next ∷ behind ≡ cs
  pub accepted : first_refused 0 0 s made_first ≡ None
  pub brings : MayBringLargePatterns s.profile (after_all s made_first).documents next
  pub r_is : r ≡ at_change (length made_first) (plain SCHEMA_SIZE)

-- the same of several changes that may be together
abbrev pub SaysOfSeveral : State → List Change → Refusal → Type 0
SaysOfSeveral s cs r = (is_countable cs ≡ true) × SaysOfOne s cs r

-- of the changes beside a mark
abbrev pub SaysOfChanges : State → Changes → Refusal → Type 0
SaysOfChanges s (alone c) r = SaysLargePatterns s c r
SaysOfChanges s (together cs) r = SaysOfSeveral s cs r

-- and of a transaction
abbrev pub SaysOfTransaction : State → Transaction → Refusal → Type 0
SaysOfTransaction s (single c) r = SaysLargePatterns s c r
SaysOfTransaction s (several cs) r = SaysOfSeveral s cs r
SaysOfTransaction s (marked m cs) r = (marking_refusal s m ≡ None) × SaysOfChanges s cs r

-- the refusal is the one that the state gives the transaction, or memory was refused, or patterns are too large
abbrev pub RefusesTransaction : State → Transaction → Refusal → Type 0
RefusesTransaction s t r = (r ≡ plain MEMORY) ⊎ (refusal_in s t ≡ Some r) ⊎ SaysOfTransaction s t r

-- From old, the first of these changes were made, and the transaction is refused: they keep too many bytes, or the next
-- one is refused; or memory was refused to that one, or its patterns are too large, and then those made don't keep too many.
pub record StopsAt (old : TrialView) (cs : List Change) (r : Refusal) (new : TrialView) : Type 0 where
  pub made_first : List Change
  pub behind : List Change
  pub parts : made_first ++ behind ≡ cs
  pub made : AreMade old made_first new
  pub why : ((r ≡ plain MEMORY) × (large_refusal (kept_by_all old.state made_first) ≡ None)) ⊎ (first_refused 0 0 old.state cs ≡ Some r) ⊎ SaysOfOne old.state cs r
