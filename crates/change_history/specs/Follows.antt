-- In other words: which transactions are kept, which follow a change, and which of them are answered at once.
use Rattle.std.specs.Prelude.{◌≡◌, ℕ, ◌+◌, ◌<◌, ◌≤◌, max, List, [], ◌∷◌, ◌++◌, length}
use Rattle.change_history.specs.History.{History, Told, bytes_of, newest}

-- h has the newest of the transactions after the change `floor`: as many as have at most `limit` bytes together
pub record IsNewest (limit floor : ℕ) (told : List Told) (h : History) : Type 0 where
  pub gone : List Told
  pub whole : told ≡ gone ++ h.told
  pub after : h.floor ≡ newest floor gone
  pub fits : bytes_of h.told ≤ limit
  pub longest : (front : List Told) (t : Told) → gone ≡ front ++ t ∷ [] → limit < bytes_of (t ∷ h.told)

-- the transactions after the change `from` are `rest`, with none left out: those before end with that change
pub record Follows (floor : ℕ) (told : List Told) (from : ℕ) (rest : List Told) : Type 0 where
  pub before : List Told
  pub whole : told ≡ before ++ rest
  pub ends : newest floor before ≡ from

-- `first` are the first of them: as many as have at most `most` bytes together, and one at least
pub record IsFirst (most : ℕ) (told first : List Told) : Type 0 where
  pub rest : List Told
  pub whole : told ≡ first ++ rest
  pub one : first ≡ [] → told ≡ []
  pub fits : (t : Told) (ts : List Told) → first ≡ t ∷ ts → bytes_of first ≤ max most (length t.frames)
  pub longest : (t : Told) (ts : List Told) → rest ≡ t ∷ ts → most < bytes_of (first ++ t ∷ [])
