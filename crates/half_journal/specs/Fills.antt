-- A device that is made a store: what a crash may leave meanwhile.
use Rattle.std.specs.Prelude.{◌⊎◌, ℕ, List}
use Rattle.sector_device.specs.Disk.{Image}
use Rattle.half_journal.specs.Layout.{HasMagic}
use Rattle.half_journal.specs.States.{CarriesInHalf, HalfState}

-- what it carries then: the bytes in half 0, in format 2, with these numbers
abbrev pub filled : List ℕ → ℕ → ℕ → HalfState
filled bytes seq opens = record { version = 2; half = 0; bytes = bytes; seq = seq; opens = opens }

-- an image that looks like no store, or one that has all of it
abbrev pub NoneOrFilled : HalfState → Image → Type 0
NoneOrFilled c image = (HasMagic image → ⊥) ⊎ CarriesInHalf c image
