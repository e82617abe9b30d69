-- Steps of the division keep sums apart, and lose nothing.
use Rattle.std.proofs.Common.{◌≡◌, ℕ, zero, suc, ◌+◌, ◌*◌, ◌/◌, ◌%◌, ◌≤◌, ◌<◌, ◌^◌, Bool, true, false, nat_eq, refl, ap, sym, subst, ◌∙◌, arith}
use Rattle.std.specs.Prelude.{bit_xor}
use lib.Bits.{xor_assoc, xor_self, xor_zero_r, xor_comm, xor_lt, xor_block, xor_shifted}
use native.Mathlib.Nat.{mul_assoc, pow-suc}
use Rattle.std.proofs.lemmas.Nat.{xor_shr, xor_mod, div-add-mod', mod_below}
use Rattle.checksum.specs.Crc.{divisor, less_if, times_x}
use Rattle.checksum.specs.Rows.{moved, past_byte}

-- what is added twice is as it was
pub twice : (a p : ℕ) → bit_xor (bit_xor a p) p ≡ a
twice a p = xor_assoc a p p ∙ ap (bit_xor a) (xor_self p) ∙ xor_zero_r a

pub cancels : (a b p : ℕ) → bit_xor a p ≡ bit_xor b p → a ≡ b
cancels a b p e = sym (twice a p) ∙ ap (λ (x : ℕ). bit_xor x p) e ∙ twice b p

pub cancels_left : (r a b : ℕ) → bit_xor r a ≡ bit_xor r b → a ≡ b
cancels_left r a b e = cancels a b r (xor_comm a r ∙ e ∙ xor_comm r b)

-- two of three may change places
pub swapped : (a b c : ℕ) → bit_xor (bit_xor a b) c ≡ bit_xor (bit_xor a c) b
swapped a b c = xor_assoc a b c ∙ ap (bit_xor a) (xor_comm b c) ∙ sym (xor_assoc a c b)

-- of a sum
sum_of : (m n h k : ℕ) → m < 2 → n < 2 → less_if (nat_eq (bit_xor m n) 1) (bit_xor h k) ≡ bit_xor (less_if (nat_eq m 1) h) (less_if (nat_eq n 1) k)
sum_of zero zero h k lm ln = refl
sum_of zero (suc zero) h k lm ln = xor_assoc h k divisor
sum_of (suc zero) zero h k lm ln = swapped h k divisor
sum_of (suc zero) (suc zero) h k lm ln =
    sym (sym (xor_assoc (bit_xor h divisor) k divisor) ∙ ap (λ (x : ℕ). bit_xor x divisor) (swapped h divisor k) ∙ twice (bit_xor h k) divisor)
sum_of (suc (suc m)) n h k lm ln = omega (arith, lm)
sum_of zero (suc (suc n)) h k lm ln = omega (arith, ln)
sum_of (suc zero) (suc (suc n)) h k lm ln = omega (arith, ln)

pub times_sum : (a b : ℕ) → times_x (bit_xor a b) ≡ bit_xor (times_x a) (times_x b)
unfolding times_x
times_sum a b =
    ap (λ (x : ℕ). less_if (nat_eq x 1) (bit_xor a b / 2)) (xor_mod a b 1)
    ∙ ap (less_if (nat_eq (bit_xor (a % 2) (b % 2)) 1)) (xor_shr a b 1)
    ∙ sum_of (a % 2) (b % 2) (a / 2) (b / 2) (mod_below a 2 (omega arith)) (mod_below b 2 (omega arith))

pub moved_sum : (count a b : ℕ) → moved count (bit_xor a b) ≡ bit_xor (moved count a) (moved count b)
moved_sum zero a b = refl
moved_sum (suc count) a b = ap (moved count) (times_sum a b) ∙ moved_sum count (times_x a) (times_x b)

-- what has no lowest coefficient only moves
pub times_even : (h : ℕ) → times_x (h * 2) ≡ h
unfolding times_x
times_even h =
    let even : h * 2 % 2 ≡ 0 = omega arith in
    let half : h * 2 / 2 ≡ h = omega arith in
    ap (λ (x : ℕ). less_if (nat_eq x 1) (h * 2 / 2)) even ∙ half

pub moved_shifted : (count h : ℕ) → moved count (h * 2 ^ count) ≡ h
moved_shifted zero h = omega arith
moved_shifted (suc count) h =
    let double : h * 2 ^ suc count ≡ h * 2 ^ count * 2 = ap (λ (x : ℕ). h * x) (pow-suc 2 count) ∙ sym (mul_assoc h (2 ^ count) 2) in
    ap (λ (x : ℕ). moved count (times_x x)) double ∙ ap (moved count) (times_even (h * 2 ^ count)) ∙ moved_shifted count h

pub past_sum : (a b : ℕ) → past_byte (bit_xor a b) ≡ bit_xor (past_byte a) (past_byte b)
unfolding past_byte
past_sum a b = moved_sum 8 a b

-- past a byte, by the lowest byte: what is above it only moves
pub by_lowest : (x : ℕ) → past_byte x ≡ bit_xor (x / 2 ^ 8) (past_byte (x % 2 ^ 8))
unfolding past_byte
by_lowest x =
    let parts : bit_xor (x / 2 ^ 8 * 2 ^ 8) (x % 2 ^ 8) ≡ x = xor_shifted (x / 2 ^ 8) 8 (x % 2 ^ 8) (mod_below x 256 (omega arith)) ∙ div-add-mod' x 256 in
    ap (moved 8) (sym parts) ∙ moved_sum 8 (x / 2 ^ 8 * 2 ^ 8) (x % 2 ^ 8) ∙ ap (λ (h : ℕ). bit_xor h (moved 8 (x % 2 ^ 8))) (moved_shifted 8 (x / 2 ^ 8))

-- the divisor has the coefficient of 1
top : (half : ℕ) → half < 2 ^ 31 → 2 ^ 31 ≤ bit_xor half divisor
top half lt =
    let split : bit_xor (0 * 2 ^ 31 + half) (1 * 2 ^ 31 + 49691512) ≡ bit_xor 0 1 * 2 ^ 31 + bit_xor half 49691512 = xor_block 31 0 1 half 49691512 lt (omega arith) in
    let plain : 0 * 2 ^ 31 + half ≡ half = omega arith in
    subst (λ (x : ℕ). 2 ^ 31 ≤ x) (sym split ∙ ap (λ (x : ℕ). bit_xor x divisor) plain) (omega arith)

same_half : (x y : Bool) (h k : ℕ) → h < 2 ^ 31 → k < 2 ^ 31 → less_if x h ≡ less_if y k → (x ≡ y) × (h ≡ k)
same_half true true h k lh lk e = (refl, cancels h k divisor e)
same_half false false h k lh lk e = (refl, e)
same_half true false h k lh lk e = absurd (omega (arith, top h lh, lk, e))
same_half false true h k lh lk e = absurd (omega (arith, top k lk, lh, e))

pub same_low : (m n : ℕ) → m < 2 → n < 2 → nat_eq m 1 ≡ nat_eq n 1 → m ≡ n
same_low zero zero lm ln e = refl
same_low (suc zero) (suc zero) lm ln e = refl
same_low zero (suc zero) lm ln e = absurd cc
same_low (suc zero) zero lm ln e = absurd cc
same_low (suc (suc m)) n lm ln e = omega (arith, lm)
same_low zero (suc (suc n)) lm ln e = omega (arith, ln)
same_low (suc zero) (suc (suc n)) lm ln e = omega (arith, ln)

-- so a step loses nothing
pub times_back : (a b : ℕ) → a < 2 ^ 32 → b < 2 ^ 32 → times_x a ≡ times_x b → a ≡ b
unfolding times_x
times_back a b la lb e =
    let same = same_half (nat_eq (a % 2) 1) (nat_eq (b % 2) 1) (a / 2) (b / 2) (omega (arith, la)) (omega (arith, lb)) e in
    let low : a % 2 ≡ b % 2 = same_low (a % 2) (b % 2) (omega arith) (omega arith) same.0 in
    omega (arith, low, same.1)

less_fits : (x : Bool) (h : ℕ) → h < 2 ^ 32 → less_if x h < 2 ^ 32
less_fits true h lt = xor_lt 32 h divisor lt (omega arith)
less_fits false h lt = lt

pub times_fits : (a : ℕ) → a < 2 ^ 32 → times_x a < 2 ^ 32
unfolding times_x
times_fits a lt = less_fits (nat_eq (a % 2) 1) (a / 2) (omega (arith, lt))

pub moved_back : (count a b : ℕ) → a < 2 ^ 32 → b < 2 ^ 32 → moved count a ≡ moved count b → a ≡ b
moved_back zero a b la lb e = e
moved_back (suc count) a b la lb e = times_back a b la lb (moved_back count (times_x a) (times_x b) (times_fits a la) (times_fits b lb) e)
