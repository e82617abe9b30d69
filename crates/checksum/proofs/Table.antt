-- The table is held against the definition, by computing.
use Rattle.std.proofs.Common.{◌≡◌, ℕ, zero, suc, ◌+◌, ◌<◌, List, [], ◌∷◌, length, get_or, Bool, true, false, ◌&&◌, nat_eq, refl, ap, ◌∙◌, arith}
use Rattle.std.proofs.lemmas.Bool.{eqb-true}
use Rattle.checksum.specs.Crc.{times_x}
use Rattle.checksum.specs.Rows.{past_byte, past_bytes}
use Rattle.checksum.specs.declared.rows.TheConstants.{ROWS}

-- each number is what the byte in its place leaves, with a byte of many more
goes_on : List ℕ → List ℕ → Bool
goes_on [] [] = true
goes_on (x ∷ xs) (y ∷ ys) = nat_eq y (past_byte x) && goes_on xs ys
goes_on [] (y ∷ ys) = false
goes_on (x ∷ xs) [] = false

follow : List ℕ → List (List ℕ) → Bool
follow before [] = true
follow before (row ∷ rows) = goes_on before row && follow row rows

-- so many numbers, one after another
numbers : ℕ → ℕ → List ℕ
numbers first zero = []
numbers first (suc count) = first ∷ numbers (suc first) count

number_at : (count first i : ℕ) → i < count → get_or (numbers first count) i 0 ≡ first + i
unfolding numbers
number_at zero first i lt = omega (arith, lt)
number_at (suc count) first zero lt = omega arith
number_at (suc count) first (suc i) lt = number_at count (suc first) i (omega (arith, lt)) ∙ omega arith

number_count : (count first : ℕ) → length (numbers first count) ≡ count
unfolding numbers
number_count zero first = refl
number_count (suc count) first = ap suc (number_count count (suc first))

both : (x y : Bool) → (x && y) ≡ true → (x ≡ true) × (y ≡ true)
both true true e = (refl, refl)
both true false e = absurd cc
both false y e = absurd cc

same_count : (xs ys : List ℕ) → goes_on xs ys ≡ true → length ys ≡ length xs
unfolding goes_on
same_count [] [] e = refl
same_count (x ∷ xs) (y ∷ ys) e = ap suc (same_count xs ys (both (nat_eq y (past_byte x)) (goes_on xs ys) e).1)
same_count [] (y ∷ ys) e = absurd cc
same_count (x ∷ xs) [] e = absurd cc

goes_on_at : (xs ys : List ℕ) (i : ℕ) → goes_on xs ys ≡ true → i < length xs → get_or ys i 0 ≡ past_byte (get_or xs i 0)
unfolding goes_on
goes_on_at [] ys i e lt = omega (arith, lt)
goes_on_at (x ∷ xs) [] i e lt = absurd cc
goes_on_at (x ∷ xs) (y ∷ ys) zero e lt = eqb-true y (past_byte x) (both (nat_eq y (past_byte x)) (goes_on xs ys) e).0
goes_on_at (x ∷ xs) (y ∷ ys) (suc i) e lt = goes_on_at xs ys i (both (nat_eq y (past_byte x)) (goes_on xs ys) e).1 (omega (arith, lt))

follow_at : (other : List ℕ) (rows : List (List ℕ)) (before : List ℕ) (many count j i : ℕ) → follow before rows ≡ true → length before ≡ count → ((k : ℕ) → k < count → get_or before k 0 ≡ past_bytes many k)
    → j < length rows → i < count → get_or (get_or rows j other) i 0 ≡ past_bytes (suc (j + many)) i
unfolding follow
follow_at other [] before many count j i e size is lj li = omega (arith, lj)
follow_at other (row ∷ rows) before many count zero i e size is lj li =
    let e' = both (goes_on before row) (follow row rows) e in
    goes_on_at before row i e'.0 (omega (arith, li, size)) ∙ ap past_byte (is i li)
    ∙ ap (λ (n : ℕ). past_bytes (suc n) i) (let same : many ≡ 0 + many = omega arith in same)
follow_at other (row ∷ rows) before many count (suc j) i e size is lj li =
    let e' = both (goes_on before row) (follow row rows) e in
    follow_at other rows row (suc many) count j i e'.1 (same_count before row e'.0 ∙ size)
    (λ k lk. goes_on_at before row k e'.0 (omega (arith, lk, size)) ∙ ap past_byte (is k lk)) (omega (arith, lj)) li
    ∙ ap (λ (n : ℕ). past_bytes (suc n) i) (let same : j + suc many ≡ suc j + many = omega arith in same)

holds : follow (numbers 0 256) ROWS ≡ true
unfolding follow goes_on numbers past_byte times_x
holds = refl

pub row_at : (other : List ℕ) (many i : ℕ) → many < 8 → i < 256 → get_or (get_or ROWS many other) i 0 ≡ past_bytes (many + 1) i
row_at other many i lj li =
    follow_at other ROWS (numbers 0 256) 0 256 many i holds (number_count 256 0) (λ k lt. number_at 256 0 k lt ∙ omega arith) lj li
    ∙ ap (λ (n : ℕ). past_bytes n i) (let same : suc (many + 0) ≡ many + 1 = omega arith in same)
