-- The sizes of files, as people write them.
use Rattle.std.specs.Prelude.{◌≡◌, ◌⊎◌, ◌+◌, ◌*◌, ◌/◌, ℕ, List, [], ◌++◌, codes}
use Rattle.std.specs.Str.Parse.{IsNumeral, digits_value, without_leading_plus}

-- the letter of a unit, with its bytes: 1,024, their square, their cube; and one byte without a letter
abbrev pub IsUnit : List ℕ → ℕ → Type 0
IsUnit letter bytes =
    ((letter ≡ []) × (bytes ≡ 1)) ⊎ ((letter ≡ codes "K") × (bytes ≡ 1024)) ⊎ ((letter ≡ codes "M") × (bytes ≡ 1048576)) ⊎ ((letter ≡ codes "G") × (bytes ≡ 1073741824))

-- the text spells the number of bytes by decimal digits, with or without a plus in front, and the letter of a unit, or none
pub record SpellsBytes (text : List ℕ) (bytes : ℕ) : Type 0 where
  pub digits : List ℕ
  pub letter : List ℕ
  pub unit : ℕ
  pub text_is : text ≡ digits ++ letter
  pub unit_is : IsUnit letter unit
  pub numeral : IsNumeral 10 (without_leading_plus digits)
  pub bytes_are : bytes ≡ digits_value 10 (without_leading_plus digits) * unit

-- the text spells a size that needs this number of sectors, of 512 bytes each
pub record SpellsSize (text : List ℕ) (sectors : ℕ) : Type 0 where
  pub bytes : ℕ
  pub spells : SpellsBytes text bytes
  pub sectors_are : sectors ≡ (bytes + 511) / 512
