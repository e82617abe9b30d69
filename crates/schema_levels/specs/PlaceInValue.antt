-- The place of a child in its value.
use Rattle.std.specs.Prelude.{ℕ, List}

-- a member by its name, an element by its index, or the name of a member, which is itself judged as a text
pub data PlaceInValue : Type 0 where
  name : List ℕ → PlaceInValue
  index : ℕ → PlaceInValue
  member_name : PlaceInValue
