-- Numbers in queries (RFC 9535, sections 2.1, 2.3.3.1 and 2.3.5.1).
use Rattle.std.specs.Prelude.{codes, ◌≡◌, ℕ, ◌+◌, ◌*◌, ◌-◌, ◌^◌, ◌==◌, nat_lt, Bool, true, false, ◌||◌, List, [], ◌∷◌, ◌++◌, Option, Some, None, ℤ, pos, neg_ℤ, if◌then◌else◌}
use Rattle.doc_tree.specs.Doc.{int}
use Rattle.path_grammar.specs.Syntax.{Literal, json, decimal}
use Rattle.path_grammar.specs.Characters.{Text, is_digit, is_nonzero_digit, Run}

-- any number of digits after digits with the value n: the number of all of them
pub data Digits : ℕ → ℕ → Text → Text → Type 0 where
  no_digit : {n : ℕ} {t : Text} → Digits n n t t
  digit : {n m c : ℕ} {t r : Text} → is_digit c ≡ true → Digits (n * 10 + (c - 48)) m t r → Digits n m (c ∷ t) r

-- a digit 1 to 9 and any number of digits
pub data Positive : ℕ → Text → Text → Type 0 where
  positive : {m c : ℕ} {t r : Text} → is_nonzero_digit c ≡ true → Digits (c - 48) m t r → Positive m (c ∷ t) r

-- within the exact integers of I-JSON (section 2.1), with either sign
abbrev pub is_exact : ℕ → Bool
is_exact n = nat_lt n (2 ^ 53)

-- `int` as an index or a part of a slice: within the exact integers of I-JSON
pub data Int : ℤ → Text → Text → Type 0 where
  zero_int : {t : Text} → Int (pos 0) (codes "0" ++ t) t
  positive_int : {m : ℕ} {t r : Text} → is_exact m ≡ true → Positive m t r → Int (pos m) t r
  negative_int : {m : ℕ} {t r : Text} → is_exact m ≡ true → Positive m t r → Int (neg_ℤ (pos m)) (codes "-" ++ t) r

-- the digits of an `int` of any size
pub data Magnitude : ℕ → Text → Text → Type 0 where
  zero_magnitude : {r : Text} → Magnitude 0 (codes "0" ++ r) r
  positive_magnitude : {m : ℕ} {t r : Text} → Positive m t r → Magnitude m t r

-- `int` of any size, or `-0`: whether it begins with `-`, and its digits
pub data Signed : Bool → ℕ → Text → Text → Type 0 where
  unsigned : {m : ℕ} {t r : Text} → Magnitude m t r → Signed false m t r
  minus : {m : ℕ} {t r : Text} → Magnitude m t r → Signed true m (codes "-" ++ t) r

-- `frac` or nothing: its digits
pub data Fraction : List ℕ → Text → Text → Type 0 where
  no_fraction : {t : Text} → Fraction [] t t
  fraction : {c : ℕ} {cs : List ℕ} {t r : Text} → is_digit c ≡ true → Run is_digit cs t r → Fraction (c ∷ cs) (codes "." ++ c ∷ t) r

-- one or more digits
pub data Natural : ℕ → Text → Text → Type 0 where
  natural : {m c : ℕ} {t r : Text} → is_digit c ≡ true → Digits (c - 48) m t r → Natural m (c ∷ t) r

-- what an exponent begins with, of either case
abbrev pub is_e : ℕ → Bool
is_e c = (c == 101) || (c == 69)

-- `exp` or nothing
pub data Exponent : Option ℤ → Text → Text → Type 0 where
  no_exponent : {t : Text} → Exponent None t t
  bare_exponent : {m c : ℕ} {t r : Text} → is_e c ≡ true → Natural m t r → Exponent (Some (pos m)) (c ∷ t) r
  plus_exponent : {m c : ℕ} {t r : Text} → is_e c ≡ true → Natural m t r → Exponent (Some (pos m)) (c ∷ codes "+" ++ t) r
  minus_exponent : {m c : ℕ} {t r : Text} → is_e c ≡ true → Natural m t r → Exponent (Some (neg_ℤ (pos m))) (c ∷ codes "-" ++ t) r

-- the literal of a number's parts; with neither a fraction nor an exponent it is a whole number, and `-0` is 0
abbrev pub number_of : Bool → ℕ → List ℕ → Option ℤ → Literal
number_of sign m [] None = json (int (if sign then neg_ℤ (pos m) else pos m))
number_of sign m [] (Some e) = decimal sign m [] (Some e)
number_of sign m (c ∷ f) e = decimal sign m (c ∷ f) e

-- `number`
pub data Number : Literal → Text → Text → Type 0 where
  number : {sign : Bool} {m : ℕ} {f : List ℕ} {e : Option ℤ} {t u v r : Text} → Signed sign m t u → Fraction f u v → Exponent e v r → Number (number_of sign m f e) t r
