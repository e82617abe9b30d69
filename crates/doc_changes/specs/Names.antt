-- The names that documents may have.
use Rattle.std.specs.Prelude.{ℕ, Bool, List, length, ◌&&◌, ◌||◌, nat_le, nat_eq}
use Rattle.std.specs.List.{list_all}

-- a letter from A to Z or a to z, a digit, `-`, `_` or `.`
abbrev pub is_name_byte : ℕ → Bool
is_name_byte b = (nat_le 97 b && nat_le b 122) || (nat_le 65 b && nat_le b 90) || (nat_le 48 b && nat_le b 57) || nat_eq b 45 || nat_eq b 95 || nat_eq b 46

-- 1 to 64 of these
abbrev pub is_name : List ℕ → Bool
is_name name = nat_le 1 (length name) && nat_le (length name) 64 && list_all is_name_byte name
