-- The newest transactions of a store, and which of them come after a change.
use Rattle.std.specs.Prelude.{ℕ, ◌+◌, ◌-◌, ◌<◌, ◌≤◌, List, [], ◌∷◌, ◌++◌, length, Option, None, Some, nat_eq, nat_lt, nat_le, if◌then◌else◌}

-- a transaction: the number of its last change, and the frames of its changes
pub record Told : Type 0 where
  pub last : ℕ
  pub frames : List ℕ

-- the transactions after the change of number `floor`, in order, of which the oldest go once all have over `limit` bytes
pub record History : Type 0 where
  pub limit : ℕ
  pub floor : ℕ
  pub told : List Told

-- the same in memory, which has room for `capacity` transactions
pub record Ring : Type 0 where
  pub history : History
  pub capacity : ℕ

-- the bytes of their frames
abbrev pub bytes_of : List Told → ℕ
bytes_of [] = 0
bytes_of (t ∷ ts) = length t.frames + bytes_of ts

-- the number of the last change of those after the change of number `floor`
abbrev pub newest : ℕ → List Told → ℕ
newest floor [] = floor
newest floor (t ∷ ts) = newest t.last ts

-- their numbers rise, from over `floor` on
abbrev pub Rises : ℕ → List Told → Type 0
Rises floor [] = Unit {0}
Rises floor (t ∷ ts) = (floor < t.last) × Rises t.last ts

-- what is so of each history in memory
pub record IsKept (h : History) : Type 0 where
  pub rises : Rises h.floor h.told
  pub within : bytes_of h.told ≤ h.limit

-- without the oldest ones that are too many
abbrev pub trimmed : ℕ → ℕ → List Told → History
trimmed limit floor [] = record { limit = limit; floor = floor; told = [] }
trimmed limit floor (t ∷ ts) = if nat_lt limit (bytes_of (t ∷ ts)) then trimmed limit t.last ts else record { limit = limit; floor = floor; told = t ∷ ts }

-- with one transaction more
abbrev pub with_told : History → Told → History
with_told h t = trimmed h.limit h.floor (h.told ++ t ∷ [])

-- with those after one another
abbrev pub with_each : History → List Told → History
with_each h [] = h
with_each h (t ∷ ts) = with_each (with_told h t) ts

-- those after the change of that number; none if that is neither the floor nor the last change of one of them
abbrev pub since : ℕ → List Told → ℕ → Option (List Told)
since floor [] from = if nat_eq from floor then Some [] else None
since floor (t ∷ ts) from = if nat_eq from floor then Some (t ∷ ts) else since t.last ts from

-- the first ones, as many as have no more bytes together
abbrev pub within : ℕ → List Told → List Told
within most [] = []
within most (t ∷ ts) = if nat_le (length t.frames) most then t ∷ within (most - length t.frames) ts else []

-- the same, but the first one whatever it has
abbrev pub first_within : ℕ → List Told → List Told
first_within most [] = []
first_within most (t ∷ ts) = t ∷ within (most - length t.frames) ts
