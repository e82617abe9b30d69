-- Entries of a journal, taken one after another by a state that has the journal's seq already, and marks.
use Rattle.std.specs.Prelude.{◌≡◌, ◌≤◌, ◌⊎◌, Some, List, [], ◌∷◌, None, Result, Ok, Err, ⊤}
use Rattle.record_text.specs.Frame.{Entry}
use Rattle.doc_changes.specs.Judged.{RefusesIn}
use Rattle.doc_changes.specs.Refusals.{first, plain}
use Rattle.refusals.specs.declared.numbers.TheConstants.{MEMORY}
use Rattle.doc_changes.specs.Marks.{Mark, mark_refusal}
use Rattle.doc_changes.specs.State.{State, noted}
use Rattle.doc_changes.specs.Step.{documents_after, refusals_in}
use Rattle.doc_changes.specs.declared.refusal.Refusal.{Refusal}

-- The state takes an entry: its seq isn't ahead of the state's, and the documents accept its change. seq doesn't rise, so its end is no reason to refuse.
pub record Takes (s : State) (e : Entry) : Type 0 where
  pub not_ahead : e.seq ≤ s.seq
  pub accepted : first (refusals_in s.profile s.documents e.change) ≡ None

-- the state with it: what the change changes gets the entry's seq as its revision
abbrev pub with_entry : State → Entry → State
with_entry s e = record s { documents = documents_after s.documents e.change e.seq }

-- with entries one after another
abbrev pub with_all : State → List Entry → State
with_all s [] = s
with_all s (e ∷ es) = with_all (with_entry s e) es

-- each of them is taken after those before it
abbrev pub AreTaken : State → List Entry → Type 0
AreTaken s [] = ⊤
AreTaken s (e ∷ es) = Takes s e × AreTaken (with_entry s e) es

-- From old, an entry was answered in this way and led to new: it was taken, or refused, or memory was, and after these
-- two nothing changed.
abbrev pub Taken : {A : Type 0} → State → Entry → Result A Refusal → State → Type 0
Taken old e (Ok a) new = Takes old e × (new ≡ with_entry old e)
Taken old e (Err r) new = RefusesIn old.profile old.documents e.change r × (new ≡ old)

-- From old, a mark was answered in this way and led to new: it was set, or refused, or memory was, and after these two
-- nothing changed.
abbrev pub Notes : {A : Type 0} → State → Mark → Result A Refusal → State → Type 0
Notes old m (Ok a) new = (mark_refusal old.profile m.key m.value ≡ None) × (new ≡ noted m old)
Notes old m (Err r) new = ((r ≡ plain MEMORY) ⊎ (mark_refusal old.profile m.key m.value ≡ Some r)) × (new ≡ old)
