-- The identity of a store that a program makes in format 3.
use Rattle.std.specs.Prelude.{◌≡◌, ◌<◌, ◌^◌, ℕ, Option, Some, None}

-- the one that the words ask for, or, if they ask for none, any
abbrev pub IsChosen : Option ℕ → ℕ → Type 0
IsChosen None identity = identity < 2 ^ 128
IsChosen (Some asked) identity = identity ≡ asked
