-- The marking of a transaction: the value that it sets under a key, and the one that it asks for before.
use Rattle.std.specs.Prelude.{ℕ, Bool, true, false, not, List, [], ◌∷◌, Option, None, Some, is_some, bytes_eq, string_bytes}
use Rattle.doc_changes.specs.Marks.{Mark, mark_of, mark_refusal}
use Rattle.doc_changes.specs.Refusals.{first, refused_if}
use Rattle.doc_changes.specs.State.{State}
use Rattle.refusals.specs.declared.numbers.TheConstants.{MARK}
use Rattle.doc_changes.specs.declared.refusal.Refusal.{Refusal}
use Rattle.doc_machine.specs.declared.marking.Asked.{Asked as HeldAsked}
use Rattle.doc_machine.specs.declared.marking.Asked.TheVariants.{Anything, Absence, Value}
use Rattle.doc_machine.specs.declared.marking.Marking.{Marking as Held}

-- what the mark of the key must be before: anything, or none, or one of this value
pub data Asked : Type 0 where
  anything : Asked
  absence : Asked
  value : List ℕ → Asked

pub record Marking : Type 0 where
  pub key : List ℕ
  pub value : List ℕ
  -- of that key
  pub asked : Asked

-- the mark that it sets with that number
abbrev pub mark_at_seq : ℕ → Marking → Mark
mark_at_seq seq m = record { key = m.key; value = m.value; seq = seq }

-- whether the present mark, if there is one, is as it is asked for
abbrev pub is_as_asked : Asked → Option Mark → Bool
is_as_asked anything present = true
is_as_asked absence present = not (is_some present)
is_as_asked (value v) None = false
is_as_asked (value v) (Some present) = bytes_eq v present.value

-- another mark is there than the one that is asked for
abbrev pub other_mark : List Mark → Marking → Option Refusal
other_mark ms m = refused_if (not (is_as_asked m.asked (mark_of m.key ms))) MARK

-- why a state refuses what is said of marks, if it does: it can't have the mark, or another is there than is asked for
abbrev pub marking_refusal : State → Marking → Option Refusal
marking_refusal s m = first (mark_refusal s.profile m.key m.value ∷ other_mark s.marks m ∷ [])

-- ---- without its place in memory

abbrev pub asked_of : HeldAsked → Asked
asked_of Anything = anything
asked_of Absence = absence
asked_of (Value v) = value (string_bytes v)

abbrev pub marking_of : Held → Marking
marking_of m = record { key = string_bytes m.key; value = string_bytes m.value; asked = asked_of m.asked }
