-- The limit of nodes in a list.
use Rattle.std.specs.Prelude.{ℕ, nat_lt, Bool}

-- `n` nodes are too many for a list
abbrev pub is_over : ℕ → Bool
is_over n = nat_lt 100000 n
