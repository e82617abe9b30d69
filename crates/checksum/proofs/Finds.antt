-- The checksum finds a burst of at most 32 bits, wherever it is.
use Rattle.std.proofs.Common.{◌≡◌, ℕ, ◌-◌, ◌≤◌, ◌<◌, ◌^◌, List, [], ◌∷◌, ◌++◌, length, Bool, true, false, refl, ap, sym, ◌∙◌, arith, append_assoc}
use Rattle.std.specs.Prelude.{bit_xor}
use lib.Bits.{xor_lt}
use Rattle.std.proofs.Math.Pow.{pow_mono}
use Rattle.checksum.specs.Crc.{with_bit, divided, bits_of_byte, bits_of, crc_of, crc_of_bits}
use Rattle.checksum.specs.Rows.{moved}
use Rattle.checksum.proofs.Steps.{cancels, cancels_left, times_back, times_fits, moved_back}
use Rattle.checksum.proofs.Bits.{value, value_fits, value_of_byte, same_bits, enters, divided_joined, bits_joined}

bit_fits : (x : Bool) (left : ℕ) → left < 2 ^ 32 → with_bit x left < 2 ^ 32
bit_fits true left lt = times_fits (bit_xor left 1) (xor_lt 32 left 1 lt (omega arith))
bit_fits false left lt = times_fits left lt

bit_back : (x : Bool) (a b : ℕ) → a < 2 ^ 32 → b < 2 ^ 32 → with_bit x a ≡ with_bit x b → a ≡ b
bit_back true a b la lb e = cancels a b 1 (times_back (bit_xor a 1) (bit_xor b 1) (xor_lt 32 a 1 la (omega arith)) (xor_lt 32 b 1 lb (omega arith)) e)
bit_back false a b la lb e = times_back a b la lb e

divided_fits : (bits : List Bool) (left : ℕ) → left < 2 ^ 32 → divided left bits < 2 ^ 32
divided_fits [] left lt = lt
divided_fits (x ∷ bits) left lt = divided_fits bits (with_bit x left) (bit_fits x left lt)

divided_back : (bits : List Bool) (a b : ℕ) → a < 2 ^ 32 → b < 2 ^ 32 → divided a bits ≡ divided b bits → a ≡ b
divided_back [] a b la lb e = e
divided_back (x ∷ bits) a b la lb e = bit_back x a b la lb (divided_back bits (with_bit x a) (with_bit x b) (bit_fits x a la) (bit_fits x b lb) e)

small_value : (bits : List Bool) → length bits ≤ 32 → value bits < 2 ^ 32
small_value bits le = omega (arith, value_fits bits, pow_mono {i = length bits} {j = 32} le)

-- from one remainder on, at most 32 bits that leave one remainder are the same
same_from : (left : ℕ) (one other : List Bool) → left < 2 ^ 32 → length one ≡ length other → length one ≤ 32 → divided left one ≡ divided left other → one ≡ other
same_from left one other lt same le e =
    let vo : value one < 2 ^ 32 = small_value one le in
    let vt : value other < 2 ^ 32 = small_value other (omega (arith, le, same)) in
    let moves : moved (length one) (bit_xor left (value one)) ≡ moved (length one) (bit_xor left (value other)) =
    sym (enters one left) ∙ e ∙ enters other left ∙ ap (λ (n : ℕ). moved n (bit_xor left (value other))) (sym same) in
    same_bits one other same (cancels_left left (value one) (value other)
    (moved_back (length one) (bit_xor left (value one)) (bit_xor left (value other)) (xor_lt 32 left (value one) lt vo) (xor_lt 32 left (value other) lt vt) moves))

three : (front one back : List Bool) (left : ℕ) → divided left (front ++ one ++ back) ≡ divided (divided (divided left front) one) back
three front one back left = divided_joined (front ++ one) back left ∙ ap (λ (n : ℕ). divided n back) (divided_joined front one left)

ones : ℕ
ones = 2 ^ 32 - 1

pub burst : (front one other back : List Bool) → length one ≡ length other → length one ≤ 32 → crc_of_bits (front ++ one ++ back) ≡ crc_of_bits (front ++ other ++ back) → one ≡ other
unfolding ones
burst front one other back same le e =
    let whole : divided ones (front ++ one ++ back) ≡ divided ones (front ++ other ++ back) = cancels (divided ones (front ++ one ++ back)) (divided ones (front ++ other ++ back)) ones e in
    let left : ℕ = divided ones front in
    let fits : left < 2 ^ 32 = divided_fits front ones (omega arith) in
    let apart : divided (divided left one) back ≡ divided (divided left other) back = sym (three front one back ones) ∙ whole ∙ three front other back ones in
    same_from left one other fits same le (divided_back back (divided left one) (divided left other) (divided_fits one left fits) (divided_fits other left fits) apart)

around : (front back : List ℕ) (one : ℕ) → bits_of (front ++ one ∷ back) ≡ bits_of front ++ bits_of_byte one ++ bits_of back
around front back one = bits_joined front (one ∷ back) ∙ sym (append_assoc (bits_of front) (bits_of_byte one) (bits_of back))

size : (byte : ℕ) → length (bits_of_byte byte) ≡ 8
unfolding bits_of_byte
size byte = refl

pub one_byte : (front back : List ℕ) (one other : ℕ) → one < 256 → other < 256 → crc_of (front ++ one ∷ back) ≡ crc_of (front ++ other ∷ back) → one ≡ other
one_byte front back one other lo lt e =
    let same : bits_of_byte one ≡ bits_of_byte other = burst (bits_of front) (bits_of_byte one) (bits_of_byte other) (bits_of back) (size one ∙ sym (size other)) (omega (arith, size one))
    (ap crc_of_bits (sym (around front back one)) ∙ e ∙ ap crc_of_bits (around front back other)) in
    sym (value_of_byte one lo) ∙ ap value same ∙ value_of_byte other lt
