-- The one way to take a size apart, and the sectors that it needs.
use Rattle.std.proofs.Common.{◌≡◌, ◌≢◌, ◌∙◌, ◌+◌, ◌*◌, ◌/◌, ◌<◌, ◌≤◌, ◌^◌, ℕ, Bool, true, false, List, [], ◌∷◌, ◌++◌, Option, None, Some, length, get_or, drop, cond, eqb, refl, sym, ap, ap₂, subst, inl, inr, arith, unwrap_or}
use mathlib.Core.List.{append-nil}
use Rattle.std.specs.Char.{digit_value}
use Rattle.std.specs.Int.{div_ceil}
use Rattle.std.specs.Option.{SomeIff}
use Rattle.std.specs.Str.Parse.{AllDigits, IsNumeral, without_leading_plus}
use Rattle.std.proofs.lemmas.Bool.{ne_eqb}
use Rattle.std.proofs.lemmas.List.{length-append}
use Rattle.command_line.specs.Sizes.{IsUnit, SpellsBytes, SpellsSize}

-- a text with a last byte has one front before it
snoc_parts : (xs ys : List ℕ) (a b : ℕ) → xs ++ a ∷ [] ≡ ys ++ b ∷ [] → (xs ≡ ys) × (a ≡ b)
snoc_parts [] [] a b e = (refl, ap (λ l. get_or l 0 0) e)
snoc_parts [] (y ∷ ys) a b e = absurd (let long = ap length e in omega (arith, long, length-append ys (b ∷ [])))
snoc_parts (x ∷ xs) [] a b e = absurd (let long = ap length e in omega (arith, long, length-append xs (a ∷ [])))
snoc_parts (x ∷ xs) (y ∷ ys) a b e =
    let rest = snoc_parts xs ys a b (ap (drop 1) e) in
    (ap₂ (λ n l. n ∷ l) (ap (λ l. get_or l 0 0) e) rest.0, rest.1)

last_digit : (xs : List ℕ) (c : ℕ) → AllDigits 10 (xs ++ c ∷ []) → digit_value c < 10
last_digit [] c h = h.0
last_digit (x ∷ xs) c h = last_digit xs c h.1

behind : (b : Bool) (x : ℕ) (xs : List ℕ) → AllDigits 10 (drop (cond b 1 0) (x ∷ xs)) → AllDigits 10 xs
behind true x xs h = h
behind false x xs h = h.1

-- a number's last byte is a digit
ends_in_digit : (front : List ℕ) (c : ℕ) → c ≢ 43 → IsNumeral 10 (without_leading_plus (front ++ c ∷ [])) → digit_value c < 10
ends_in_digit [] c other h =
    let e : eqb c 43 ≡ false = ne_eqb c 43 other in
    let bare : without_leading_plus (c ∷ []) ≡ c ∷ [] = simp e in
    (subst (IsNumeral 10) bare h).1.0
ends_in_digit (x ∷ xs) c other h = last_digit xs c (behind (eqb x 43) x (xs ++ c ∷ []) h.1)

-- where a unit has a letter, it is the last byte
by_letter : (text front digits letter : List ℕ) (a mark : ℕ) → letter ≡ a ∷ [] → text ≡ front ++ mark ∷ [] → text ≡ digits ++ letter → (letter ≡ mark ∷ []) × (digits ≡ front)
by_letter text front digits letter a mark is one two =
    let both = snoc_parts digits front a mark (sym (two ∙ ap (λ l. digits ++ l) is) ∙ one) in
    (is ∙ ap (λ n. n ∷ []) both.1, both.0)

-- a last byte that is no digit is the unit's letter
letter_is : (text front digits letter : List ℕ) (unit mark : ℕ) → mark ≢ 43 → (digit_value mark < 10 → ⊥) → text ≡ front ++ mark ∷ [] → text ≡ digits ++ letter → IsUnit letter unit → IsNumeral 10 (without_leading_plus digits)
    → (letter ≡ mark ∷ []) × (digits ≡ front)
letter_is text front digits letter unit mark other none one two (inl h) numeral =
    let whole : digits ≡ front ++ mark ∷ [] = sym (append-nil digits) ∙ ap (λ l. digits ++ l) (sym h.0) ∙ sym two ∙ one in
    absurd (none (ends_in_digit front mark other (subst (λ ds. IsNumeral 10 (without_leading_plus ds)) whole numeral)))
letter_is text front digits letter unit mark other none one two (inr (inl h)) numeral = by_letter text front digits letter 75 mark h.0 one two
letter_is text front digits letter unit mark other none one two (inr (inr (inl h))) numeral = by_letter text front digits letter 77 mark h.0 one two
letter_is text front digits letter unit mark other none one two (inr (inr (inr h))) numeral = by_letter text front digits letter 71 mark h.0 one two

-- a unit by its letter
abbrev pub unit_of : ℕ → ℕ
unit_of letter = cond (eqb letter 75) 1024 (cond (eqb letter 77) 1048576 (cond (eqb letter 71) 1073741824 1))

unit_is : (letter : List ℕ) (unit : ℕ) → IsUnit letter unit → unit ≡ unit_of (get_or letter 0 0)
unit_is letter unit (inl h) = h.1 ∙ sym (ap (λ l. unit_of (get_or l 0 0)) h.0)
unit_is letter unit (inr (inl h)) = h.1 ∙ sym (ap (λ l. unit_of (get_or l 0 0)) h.0)
unit_is letter unit (inr (inr (inl h))) = h.1 ∙ sym (ap (λ l. unit_of (get_or l 0 0)) h.0)
unit_is letter unit (inr (inr (inr h))) = h.1 ∙ sym (ap (λ l. unit_of (get_or l 0 0)) h.0)

-- A text that ends in a byte that is no digit has one front and one unit.
pub one_way : (text front : List ℕ) (mark : ℕ) → mark ≢ 43 → (digit_value mark < 10 → ⊥) → text ≡ front ++ mark ∷ []
    → (digits letter : List ℕ) (unit : ℕ) → text ≡ digits ++ letter → IsUnit letter unit → IsNumeral 10 (without_leading_plus digits) → (digits ≡ front) × (unit ≡ unit_of mark)
one_way text front mark other none one digits letter unit two is numeral =
    let both = letter_is text front digits letter unit mark other none one two is numeral in
    (both.1, unit_is letter unit is ∙ ap (λ l. unit_of (get_or l 0 0)) both.0)

-- ---- numbers

-- no number is greater than the bytes that it and a unit make
pub value_fits : (letter : List ℕ) (value unit bytes : ℕ) → IsUnit letter unit → bytes ≡ value * unit → bytes < 2 ^ 64 → value < 2 ^ 64
value_fits letter value unit bytes (inl h) e small = let f : bytes ≡ value * 1 = e ∙ ap (λ u. value * u) h.1 in omega (arith, f)
value_fits letter value unit bytes (inr (inl h)) e small = let f : bytes ≡ value * 1024 = e ∙ ap (λ u. value * u) h.1 in omega (arith, f)
value_fits letter value unit bytes (inr (inr (inl h))) e small = let f : bytes ≡ value * 1048576 = e ∙ ap (λ u. value * u) h.1 in omega (arith, f)
value_fits letter value unit bytes (inr (inr (inr h))) e small = let f : bytes ≡ value * 1073741824 = e ∙ ap (λ u. value * u) h.1 in omega (arith, f)

pub some_product : (r : Option ℕ) (product bytes : ℕ) → SomeIff r (product < 2 ^ 64) product → product ≡ bytes → bytes < 2 ^ 64 → r ≡ Some bytes
some_product (Some x) product bytes h is small = ap Some (h.1 ∙ is)
some_product None product bytes h is small = absurd (h (omega (arith, is)))

pub rounded_up : (bytes : ℕ) → div_ceil bytes 512 ≡ (bytes + 511) / 512
rounded_up bytes = omega arith

-- the sectors of a size are those of its bytes
pub same_sectors : (text : List ℕ) (bytes sectors : ℕ) → ((b : ℕ) → b < 2 ^ 64 → SpellsBytes text b → Some bytes ≡ Some b) → sectors ≤ 4294967296 → SpellsSize text sectors → sectors ≡ (bytes + 511) / 512
same_sectors text bytes sectors held most spells =
    let rounded = spells.sectors_are in
    let same : bytes ≡ spells.bytes = ap (λ (o : Option ℕ). unwrap_or o 0) (held spells.bytes (omega (arith, rounded)) spells.spells) in
    rounded ∙ ap (λ b. (b + 511) / 512) (sym same)
