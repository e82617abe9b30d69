-- The changes and marks that can be taken back, and the fields of a trial.
use Rattle.std.specs.Prelude.{◌-◌, ◌<◌, ◌≤◌, List, [], ◌∷◌, length, ⊤}
use Rattle.indexmap.specs.IndexMap.{spare}
use Rattle.doc_changes.specs.MarkView.{AreSet, all_before}
use Rattle.doc_changes.specs.State.{State, Good}
use Rattle.doc_changes.specs.Undo.{IsThere, documents_before}
use Rattle.doc_changes.specs.StateView.{kept_state}
use Rattle.doc_machine.specs.Trial.{TrialView, first_or}
use Rattle.doc_machine.specs.declared.machine.trial.Tried.{Tried}
use Rattle.doc_machine.specs.declared.machine.trial.Trial.TheInside.{Inside}

-- the state before the change, and before the marks that were set since
abbrev pub before : Tried → State → State
before u s = record s { documents = documents_before u.change s.documents; marks = all_before u.marks.items s.marks; seq = s.seq - 1 }

-- the change and the marks can be taken back: there is something to take, and the state before it was good
pub record CanGoBack (u : Tried) (s : State) : Type 0 where
  pub there : IsThere u.change s.documents
  pub set : AreSet u.marks.items s.marks
  pub counted : 0 < s.seq
  pub good : Good (before u s)

-- the states before each of these changes, the oldest first
abbrev pub past_of : List Tried → State → List State
past_of [] s = []
past_of (u ∷ us) s = before u (first_or s (past_of us s)) ∷ past_of us s

-- they can be taken back one after another, the newest first
abbrev pub CanGoBackAll : List Tried → State → Type 0
CanGoBackAll [] s = ⊤
CanGoBackAll (u ∷ us) s = CanGoBack u (first_or s (past_of us s)) × CanGoBackAll us s

-- ---- the fields of a trial

abbrev pub tried : Inside → State
tried t = kept_state t.documents.entries t.marks t.seq t.profile

abbrev pub trial_of : Inside → TrialView
trial_of t = record { state = tried t; past = past_of t.log.items (tried t) }

-- all that was tried can be taken back, and there is room for what was removed
pub record IsTrial (t : Inside) : Type 0 where
  pub good : Good (tried t)
  pub back : CanGoBackAll t.log.items (tried t)
  pub room : length t.log.items ≤ spare t.documents
