-- For the clauses within the crate: a text without some byte.
use Rattle.std.specs.Prelude.{◌≢◌, ℕ, ◌<◌, List, length, get_or}

-- the byte is nowhere in the text
abbrev pub Lacks : ℕ → List ℕ → Type 0
Lacks c xs = (i : ℕ) → i < length xs → get_or xs i 0 ≢ c
