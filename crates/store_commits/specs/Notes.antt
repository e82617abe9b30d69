-- Marks in a log: what their frames spell, and what they make.
use Rattle.std.specs.Prelude.{◌≡◌, ℕ, ◌≤◌, List, [], ◌∷◌, None}
use Rattle.std.specs.List.{AllByRecursion}
use Rattle.record_text.specs.Frame.{Entry, entry}
use Rattle.log_frames.specs.Kinds.{note}
use Rattle.doc_changes.specs.Marks.{Mark, mark_refusal, with_mark}
use Rattle.schema_rules.specs.declared.profile.Profile.{Profile}

-- a mark as an entry: its key and its value, spelled as a change, with its seq
abbrev pub noted_entry : Mark → Entry
noted_entry m = entry m.seq (note m.key m.value)

-- A state in the profile and of that seq takes the mark: the mark's seq isn't ahead of it, and the profile holds such a mark.
pub record TakesNote (profile : Profile) (seq : ℕ) (m : Mark) : Type 0 where
  pub not_ahead : m.seq ≤ seq
  pub accepted : mark_refusal profile m.key m.value ≡ None

-- it takes each of them
abbrev pub AreNoted : Profile → ℕ → List Mark → Type 0
AreNoted profile seq notes = AllByRecursion (TakesNote profile seq) notes

-- the marks after these were set, one after another
abbrev pub with_marks : List Mark → List Mark → List Mark
with_marks ms [] = ms
with_marks ms (n ∷ notes) = with_marks (with_mark n ms) notes
