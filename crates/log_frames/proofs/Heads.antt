-- The first four bytes of a frame: a kind's code and a length.
use Rattle.std.proofs.Common.{◌≡◌, ℕ, ◌+◌, ◌*◌, ◌/◌, ◌%◌, ◌<◌, ◌≤◌, ◌^◌, [], ◌∷◌, set, ap, ◌∙◌, sym, refl, arith}
use Rattle.std.proofs.lemmas.Nat.{shr_high, mod_low, from_be_bytes-to_be_bytes_4}
use Rattle.std.specs.Int.{w32, to_be_bytes, from_be_bytes}
use Rattle.log_frames.specs.Kinds.{code_of}
use Rattle.log_frames.specs.declared.kind.Kind.{Kind}
use Rattle.log_frames.specs.declared.kind.Kind.TheVariants.{Last, More, Kept, Noted}

pub code_of-small : (k : Kind) → code_of k ≤ 3
code_of-small Last = omega arith
code_of-small More = omega arith
code_of-small Kept = omega arith
code_of-small Noted = omega arith

pub code_of-injective : (a b : Kind) → code_of a ≡ code_of b → a ≡ b
code_of-injective Last Last e = refl
code_of-injective Last More e = absurd (omega (arith, e))
code_of-injective Last Kept e = absurd (omega (arith, e))
code_of-injective Last Noted e = absurd (omega (arith, e))
code_of-injective More Last e = absurd (omega (arith, e))
code_of-injective More More e = refl
code_of-injective More Kept e = absurd (omega (arith, e))
code_of-injective More Noted e = absurd (omega (arith, e))
code_of-injective Kept Last e = absurd (omega (arith, e))
code_of-injective Kept More e = absurd (omega (arith, e))
code_of-injective Kept Kept e = refl
code_of-injective Kept Noted e = absurd (omega (arith, e))
code_of-injective Noted Last e = absurd (omega (arith, e))
code_of-injective Noted More e = absurd (omega (arith, e))
code_of-injective Noted Kept e = absurd (omega (arith, e))
code_of-injective Noted Noted e = refl

-- a code and a length in one number
abbrev pub both : ℕ → ℕ → ℕ
both code len = code * 2 ^ 24 + len

below_24 : (code len : ℕ) → code < 256 → both code len / 65536 ≡ code * 256 + len / 65536
below_24 code len c = omega arith

below_16 : (code len : ℕ) → code < 256 → both code len / 256 ≡ code * 65536 + len / 256
below_16 code len c = omega arith

low_byte : (code n : ℕ) → (code * 256 + n) % 256 ≡ n % 256
low_byte code n = omega arith

low_byte_16 : (code n : ℕ) → (code * 65536 + n) % 256 ≡ n % 256
low_byte_16 code n = omega arith

low_byte_24 : (code n : ℕ) → (code * 16777216 + n) % 256 ≡ n % 256
low_byte_24 code n = omega arith

-- the code takes the place of the first byte of a length below 2^24
pub head_bytes : (code len : ℕ) → code < 256 → len < 2 ^ 24 → set (to_be_bytes w32 len) 0 code ≡ to_be_bytes w32 (both code len)
head_bytes code len c l =
    let whole : code % 256 ≡ code = omega arith in
    let first : both code len / 16777216 % 256 ≡ code = ap (λ (n : ℕ). n % 256) (shr_high code 24 len l) ∙ whole in
    let second : both code len / 65536 % 256 ≡ len / 65536 % 256 = ap (λ (n : ℕ). n % 256) (below_24 code len c) ∙ low_byte code (len / 65536) in
    let third : both code len / 256 % 256 ≡ len / 256 % 256 = ap (λ (n : ℕ). n % 256) (below_16 code len c) ∙ low_byte_16 code (len / 256) in
    let fourth : both code len % 256 ≡ len % 256 = low_byte_24 code len in
    sym (λ i. first i ∷ second i ∷ third i ∷ fourth i ∷ [])

-- it is read again, and so is the length
fits : (code len : ℕ) → code < 256 → len < 2 ^ 24 → both code len < 2 ^ 32
fits code len c l = omega arith

pub code_read : (code len : ℕ) → code < 256 → len < 2 ^ 24 → from_be_bytes w32 (to_be_bytes w32 (both code len)) / 2 ^ 24 ≡ code
code_read code len c l = ap (λ (n : ℕ). n / 2 ^ 24) (from_be_bytes-to_be_bytes_4 (both code len) (fits code len c l)) ∙ shr_high code 24 len l

pub length_read : (code len : ℕ) → code < 256 → len < 2 ^ 24 → from_be_bytes w32 (to_be_bytes w32 (both code len)) % 2 ^ 24 ≡ len
length_read code len c l = ap (λ (n : ℕ). n % 2 ^ 24) (from_be_bytes-to_be_bytes_4 (both code len) (fits code len c l)) ∙ mod_low code 24 len l

-- and a number of 4 bytes is these two together
pub split : (n : ℕ) → both (n / 2 ^ 24) (n % 2 ^ 24) ≡ n
split n = omega arith
