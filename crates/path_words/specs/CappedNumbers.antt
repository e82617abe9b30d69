-- Numbers as the code reads them: a fraction or an exponent is only passed over, and a size is known up to 2^64.
use Rattle.std.specs.Prelude.{◌≡◌, ◌⊎◌, ◌≤◌, ℕ, ◌*◌, ◌+◌, ◌-◌, ◌^◌, nat_lt, Bool, true, false, ◌||◌, [], ◌∷◌, Option, Some, None, ℤ, pos, neg_ℤ, if◌then◌else◌}
use Rattle.doc_tree.specs.Doc.{null, int}
use Rattle.path_grammar.specs.Syntax.{Literal, json}
use Rattle.path_grammar.specs.Profile.{is_64_bit}
use Rattle.path_grammar.specs.Characters.{Text, is_digit, is_nonzero_digit}
use Rattle.path_grammar.specs.Reading.{◌>>=◌, on, after, after_e, read_run}

-- the number itself, or both are too large
abbrev pub IsCapped : ℕ → ℕ → Type 0
IsCapped n m = (n ≡ m) ⊎ ((2 ^ 64 ≤ n) × (2 ^ 64 ≤ m))

-- digits after those with the value n: the number of all of them up to 2^64, and from there on some number that is at
-- least that
abbrev pub read_capped_digits : ℕ → Text → ℕ × Text
read_capped_digits n [] = (n, [])
read_capped_digits n (c ∷ t) = if is_digit c then read_capped_digits (if nat_lt n (2 ^ 64) then n * 10 + (c - 48) else n) t else (n, c ∷ t)

-- what follows one or more digits
abbrev pub after_digits : Text → Option Text
after_digits [] = None
after_digits (c ∷ t) = if is_digit c then Some (read_run is_digit t).1 else None

-- digits have to follow: that they do, and the rest
abbrev pub passed : Text → Option (Bool × Text)
passed t = after_digits t >>= λ u. Some (true, u)

-- whether there is a fraction, and the rest
unfoldable pub pass_fraction : Text → Option (Bool × Text)
pass_fraction t = on (after "." t) passed (Some (false, t))

-- whether there is an exponent, and the rest
unfoldable pub pass_exponent : Text → Option (Bool × Text)
pass_exponent t = on (after_e t) (λ r. on (after "+" r) passed (on (after "-" r) passed (passed r))) (Some (false, t))

-- a digit 1 to 9 and any digits
abbrev pub read_capped_positive : Text → Option (ℕ × Text)
read_capped_positive [] = None
read_capped_positive (c ∷ t) = if is_nonzero_digit c then Some (read_capped_digits (c - 48) t) else None

-- the digits of an `int` of any size
unfoldable pub read_capped_magnitude : Text → Option (ℕ × Text)
read_capped_magnitude t = on (after "0" t) (λ r. Some (0, r)) (read_capped_positive t)

-- `int` of any size, or `-0`
unfoldable pub read_capped_signed : Text → Option (Bool × ℕ × Text)
read_capped_signed t =
    on (after "-" t)
    (λ r. read_capped_magnitude r >>= λ x. Some (true, x.0, x.1))
    (read_capped_magnitude t >>= λ x. Some (false, x.0, x.1))

-- the number of a sign and a size
abbrev pub signed_of : Bool → ℕ → ℤ
signed_of negative m = if negative then neg_ℤ (pos m) else pos m

-- that number, if it has neither a fraction nor an exponent and at most 64 bits
abbrev pub number_within : Bool → Bool → ℕ → Option ℤ
number_within decimal negative m = if decimal then None else if is_64_bit (signed_of negative m) then Some (signed_of negative m) else None

-- what is kept of the number, and whether it is left out
abbrev pub kept_number : Option ℤ → Literal × Bool
kept_number (Some z) = (json (int z), false)
kept_number None = (json null, true)

-- `number`: what is kept of it, whether it is left out, and the rest
unfoldable pub read_capped_number : Text → Option (Literal × Bool × Text)
read_capped_number t =
    read_capped_signed t >>= λ a. pass_fraction a.2 >>= λ b. pass_exponent b.1 >>= λ c.
    Some ((kept_number (number_within (b.0 || c.0) a.0 a.1)).0, (kept_number (number_within (b.0 || c.0) a.0 a.1)).1, c.1)
