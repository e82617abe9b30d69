-- For the clauses within the crate: the place of a mark, and what goes when one is set.
use Rattle.std.specs.Prelude.{◌≡◌, ℕ, ◌+◌, ◌<◌, List, [], ◌∷◌, ◌++◌, Option, None, Some, if◌then◌else◌, bytes_eq, length, remove}
use Rattle.doc_changes.specs.MarkView.{TakesMarkBack}
use Rattle.doc_changes.specs.Marks.{Mark, newest, others, with_mark}
use Rattle.doc_changes.specs.declared.marks.Unset.{Unset}

-- the place of the mark of that key, if the first of these has the place n
abbrev pub place_from : ℕ → List ℕ → List Mark → Option ℕ
place_from n key [] = None
place_from n key (m ∷ ms) = if bytes_eq key m.key then Some n else place_from (n + 1) key ms

-- if the key is set, there is one mark more
pub record IsMore (key : List ℕ) (ms : List Mark) : Type 0 where
  pub all : others key ms ≡ ms
  pub few : length ms < 1_024

-- if it is set, the mark at that place goes
pub record GoesAt (key : List ℕ) (ms : List Mark) (i : ℕ) : Type 0 where
  pub within : i < length ms
  pub rest : (m : Mark) → newest (others key ms ++ m ∷ []) ≡ remove ms i ++ m ∷ []

-- what is left of the marks and then this one are the marks after it was set, and this takes it back
pub record SetsBy (u : Unset) (m : Mark) (old rest : List Mark) : Type 0 where
  pub is : rest ++ m ∷ [] ≡ with_mark m old
  pub back : TakesMarkBack u old (rest ++ m ∷ [])
