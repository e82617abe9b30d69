-- Characters, blanks and names of queries (RFC 9535, sections 2.1.1 and 2.5.1.1).
use Rattle.std.specs.Prelude.{◌≡◌, ℕ, ◌==◌, nat_le, Bool, true, ◌&&◌, ◌||◌, List, [], ◌∷◌, encode_utf8_all}

-- a text is the list of its code points, which are Unicode scalar values, so that no case speaks of surrogates
abbrev pub Text : Type 0
Text = List ℕ

-- `B`: space, tab, line feed, carriage return
abbrev pub is_blank : ℕ → Bool
is_blank c = (c == 32) || ((c == 9) || ((c == 10) || (c == 13)))

-- `DIGIT`: 0 to 9
abbrev pub is_digit : ℕ → Bool
is_digit c = nat_le 48 c && nat_le c 57

-- `DIGIT1`: 1 to 9
abbrev pub is_nonzero_digit : ℕ → Bool
is_nonzero_digit c = nat_le 49 c && nat_le c 57

-- `name-first`: A to Z, a to z, `_`, and all code points from U+0080
abbrev pub is_name_first : ℕ → Bool
is_name_first c = (nat_le 65 c && nat_le c 90) || ((nat_le 97 c && nat_le c 122) || ((c == 95) || nat_le 128 c))

-- `name-char`: also a digit
abbrev pub is_name_char : ℕ → Bool
is_name_char c = is_name_first c || is_digit c

-- Each relation, here and in the other files, is between a text and the rest of it: the front of the first text,
-- up to the second, is what the relation says.

-- `S`: any number of blanks
pub data Blanks : Text → Text → Type 0 where
  no_blank : {t : Text} → Blanks t t
  blank : {c : ℕ} {t r : Text} → is_blank c ≡ true → Blanks t r → Blanks (c ∷ t) r

-- any number of characters that pass a test
pub data Run : (ℕ → Bool) → List ℕ → Text → Text → Type 0 where
  run_end : {p : ℕ → Bool} {t : Text} → Run p [] t t
  run_on : {p : ℕ → Bool} {c : ℕ} {cs : List ℕ} {t r : Text} → p c ≡ true → Run p cs t r → Run p (c ∷ cs) (c ∷ t) r

-- `member-name-shorthand`: `name-first` and any number of `name-char`. The name is given by its UTF-8 bytes
pub data Shorthand : List ℕ → Text → Text → Type 0 where
  shorthand : {c : ℕ} {cs : List ℕ} {t r : Text} → is_name_first c ≡ true → Run is_name_char cs t r → Shorthand (encode_utf8_all (c ∷ cs)) (c ∷ t) r
