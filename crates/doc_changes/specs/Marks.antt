-- Marks: the last text that was set under each key, with the changes of a transaction.
use Rattle.std.specs.Prelude.{◌≡◌, ℕ, ◌-◌, ◌≤◌, ◌++◌, Bool, true, false, not, List, [], ◌∷◌, length, drop, Option, None, Some, nat_lt, if◌then◌else◌, ⊤, bytes_eq}
use Rattle.std.specs.List.{AllByRecursion}
use Rattle.std.specs.Str.{IsUtf8}
use Rattle.refusals.specs.declared.numbers.TheConstants.{COMMAND, NAME}
use Rattle.schema_rules.specs.declared.profile.Profile.{Profile}
use Rattle.schema_rules.specs.declared.profile.Profile.TheVariants.{Three, Two}
use Rattle.doc_changes.specs.Names.{is_name}
use Rattle.doc_changes.specs.Refusals.{first, refused_if}
use Rattle.doc_changes.specs.declared.refusal.Refusal.{Refusal}

-- a value under a key, both in UTF-8, and the number of the last change of the transaction that set it
pub record Mark : Type 0 where
  pub key : List ℕ
  pub value : List ℕ
  pub seq : ℕ

-- the mark of that key
abbrev pub mark_of : List ℕ → List Mark → Option Mark
mark_of key [] = None
mark_of key (m ∷ ms) = if bytes_eq key m.key then Some m else mark_of key ms

-- those of other keys, in their order
abbrev pub others : List ℕ → List Mark → List Mark
others key [] = []
others key (m ∷ ms) = if bytes_eq key m.key then ms else m ∷ others key ms

-- the last 1,024 of them
abbrev pub newest : List Mark → List Mark
newest ms = drop (length ms - 1_024) ms

-- The marks after one was set: those of other keys, in the order in which they were set, and then this one. Of 1,025 the one that was set first is gone.
abbrev pub with_mark : Mark → List Mark → List Mark
with_mark m ms = newest (others m.key ms ++ m ∷ [])

-- whether a state in the profile holds marks
abbrev pub holds_marks : Profile → Bool
holds_marks Two = false
holds_marks Three = true

-- the most marks that it holds
abbrev pub most_marks : Profile → ℕ
most_marks Two = 0
most_marks Three = 1_024

-- those that a state keeps in the profile: none in profile 2
abbrev pub marks_in : Profile → List Mark → List Mark
marks_in Two ms = []
marks_in Three ms = ms

-- the key is a name as documents have them, and the value a text of at most 128 bytes
pub record IsMark (m : Mark) : Type 0 where
  pub named : is_name m.key ≡ true
  pub text : IsUtf8 m.value
  pub short : length m.value ≤ 128

-- no two marks have one key
abbrev pub AreApart : List Mark → Type 0
AreApart [] = ⊤
AreApart (m ∷ ms) = (mark_of m.key ms ≡ None) × AreApart ms

-- the marks that a state in the profile may have
pub record AreMarks (profile : Profile) (ms : List Mark) : Type 0 where
  pub each : AllByRecursion IsMark ms
  pub apart : AreApart ms
  pub few : length ms ≤ most_marks profile

-- no mark has a number over that seq
abbrev pub AreNumbered : ℕ → List Mark → Type 0
AreNumbered seq ms = AllByRecursion (λ m. m.seq ≤ seq) ms

-- why a state in the profile refuses a value under a key, if it does: it holds no marks, the key is no name, or the value is too long
abbrev pub mark_refusal : Profile → List ℕ → List ℕ → Option Refusal
mark_refusal profile key value = first (refused_if (not (holds_marks profile)) COMMAND ∷ refused_if (not (is_name key)) NAME ∷ refused_if (nat_lt 128 (length value)) COMMAND ∷ [])
