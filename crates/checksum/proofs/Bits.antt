-- Bits one behind another, as a number.
use Rattle.std.proofs.Common.{◌≡◌, ℕ, zero, suc, ◌+◌, ◌*◌, ◌/◌, ◌%◌, ◌<◌, ◌^◌, List, [], ◌∷◌, ◌++◌, length, Bool, true, false, nat_eq, refl, ap, sym, ◌∙◌, arith, append_assoc}
use Rattle.std.specs.Prelude.{bit_xor}
use lib.Bits.{xor_assoc, xor_zero_r, xor_comm, xor_shifted}
use native.Mathlib.Nat.{pow-suc}
use Rattle.std.proofs.lemmas.Nat.{mod_below}
use Rattle.checksum.specs.Crc.{times_x, with_bit, divided, bits_in, bits_of_byte, bits_of}
use Rattle.checksum.specs.Rows.{moved, past_byte}
use Rattle.checksum.proofs.Steps.{times_sum, times_even}

unfoldable pub bit : Bool → ℕ
bit true = 1
bit false = 0

unfoldable pub value : List Bool → ℕ
value [] = 0
value (x ∷ bits) = value bits * 2 + bit x

bit_small : (x : Bool) → bit x < 2
unfolding bit
bit_small true = omega arith
bit_small false = omega arith

with_value : (x : Bool) (left : ℕ) → with_bit x left ≡ times_x (bit_xor left (bit x))
unfolding bit
with_value true left = refl
with_value false left = ap times_x (sym (xor_zero_r left))

-- the bits are added first, and then all move
pub enters : (bits : List Bool) (left : ℕ) → divided left bits ≡ moved (length bits) (bit_xor left (value bits))
unfolding value
enters [] left = sym (xor_zero_r left)
enters (x ∷ bits) left =
    enters bits (with_bit x left)
    ∙ ap (λ (n : ℕ). moved (length bits) (bit_xor n (value bits))) (with_value x left)
    ∙ ap (λ (n : ℕ). moved (length bits) (bit_xor (times_x (bit_xor left (bit x))) n)) (sym (times_even (value bits)))
    ∙ ap (moved (length bits)) (sym (times_sum (bit_xor left (bit x)) (value bits * 2)))
    ∙ ap (λ (n : ℕ). moved (length bits) (times_x n)) (xor_assoc left (bit x) (value bits * 2) ∙ ap (bit_xor left) (xor_comm (bit x) (value bits * 2) ∙ whole))
  where
    whole : bit_xor (value bits * 2) (bit x) ≡ value bits * 2 + bit x
    whole = xor_shifted (value bits) 1 (bit x) (bit_small x)

pub value_fits : (bits : List Bool) → value bits < 2 ^ length bits
unfolding value
value_fits [] = omega arith
value_fits (x ∷ bits) = omega (arith, value_fits bits, bit_small x, pow-suc 2 (length bits))

same_bit : (x y : Bool) → bit x ≡ bit y → x ≡ y
unfolding bit
same_bit true true e = refl
same_bit false false e = refl
same_bit true false e = absurd cc
same_bit false true e = absurd cc

pub same_bits : (one other : List Bool) → length one ≡ length other → value one ≡ value other → one ≡ other
unfolding value
same_bits [] [] l e = refl
same_bits [] (y ∷ other) l e = absurd cc
same_bits (x ∷ one) [] l e = absurd cc
same_bits (x ∷ one) (y ∷ other) l e =
    let sx = bit_small x in
    let sy = bit_small y in
    let low : bit x ≡ bit y = omega (arith, e, sx, sy) in
    let high : value one ≡ value other = omega (arith, e, sx, sy) in
    let tails : one ≡ other = same_bits one other (omega (arith, l)) high in
    let heads : x ≡ y = same_bit x y low in
    cc

bit_in : (n : ℕ) → n < 2 → bit (nat_eq n 1) ≡ n
unfolding bit
bit_in zero lt = refl
bit_in (suc zero) lt = refl
bit_in (suc (suc n)) lt = omega (arith, lt)

value_in : (count byte : ℕ) → byte < 2 ^ count → value (bits_in count byte) ≡ byte
unfolding value
value_in zero byte lt = omega (arith, lt)
value_in (suc count) byte lt =
    let low : bit (nat_eq (byte % 2) 1) ≡ byte % 2 = bit_in (byte % 2) (mod_below byte 2 (omega arith)) in
    let high : value (bits_in count (byte / 2)) ≡ byte / 2 = value_in count (byte / 2) (omega (arith, lt)) in
    omega (arith, low, high)

pub value_of_byte : (byte : ℕ) → byte < 2 ^ 8 → value (bits_of_byte byte) ≡ byte
unfolding bits_of_byte
value_of_byte byte lt = value_in 8 byte lt

pub divided_joined : (front back : List Bool) (left : ℕ) → divided left (front ++ back) ≡ divided (divided left front) back
divided_joined [] back left = refl
divided_joined (x ∷ front) back left = divided_joined front back (with_bit x left)

-- past one byte
pub enters_byte : (byte left : ℕ) → divided left (bits_of_byte byte) ≡ past_byte (bit_xor left (value (bits_of_byte byte)))
unfolding bits_of_byte past_byte
enters_byte byte left = enters (bits_in 8 byte) left

pub bits_joined : (front back : List ℕ) → bits_of (front ++ back) ≡ bits_of front ++ bits_of back
bits_joined [] back = refl
bits_joined (b ∷ front) back = ap (λ (l : List Bool). bits_of_byte b ++ l) (bits_joined front back) ∙ sym (append_assoc (bits_of_byte b) (bits_of front) (bits_of back))
