-- For the clauses within the crate: parts of bytes that are compared.
use Rattle.std.specs.Prelude.{◌≡◌, ◌<◌, ◌≤◌, ℕ, List, get_or}

-- the bytes from i up to j are the same in both
abbrev pub SameBetween : List ℕ → List ℕ → ℕ → ℕ → Type 0
SameBetween a b i j = (k : ℕ) → i ≤ k → k < j → get_or a k 0 ≡ get_or b k 0
