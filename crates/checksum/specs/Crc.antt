-- CRC-32C: what remains of the bytes, taken as a polynomial over two elements, divided by the polynomial of Castagnoli. The coefficients are the bits of the bytes, the lowest of each byte first.
use Rattle.std.specs.Prelude.{ℕ, zero, suc, ◌/◌, ◌%◌, ◌-◌, ◌^◌, List, [], ◌∷◌, ◌++◌, Bool, true, false, nat_eq, bit_xor}

-- x^32 + x^28 + x^27 + x^26 + x^25 + x^23 + x^22 + x^20 + x^19 + x^18 + x^14 + x^13 + x^11 + x^10 + x^9 + x^8 + x^6 + 1. A polynomial below x^32 is a number below 2^32 with the coefficient of x^31 in bit 0, that of 1 in bit 31; here x^32 is left out.
abbrev pub divisor : ℕ
divisor = 2197175160

-- less the divisor, if there is an x^32
abbrev pub less_if : Bool → ℕ → ℕ
less_if true left = bit_xor left divisor
less_if false left = left

-- x times it, less the divisor if that has an x^32
unfoldable pub times_x : ℕ → ℕ
times_x left = less_if (nat_eq (left % 2) 1) (left / 2)

-- with one coefficient more after the others: moved up by 32 places, it is that of x^32 now
abbrev pub with_bit : Bool → ℕ → ℕ
with_bit true left = times_x (bit_xor left 1)
with_bit false left = times_x left

-- what remains of these coefficients and 32 zeros, after others of which with 32 zeros `left` remained
abbrev pub divided : ℕ → List Bool → ℕ
divided left [] = left
divided left (bit ∷ bits) = divided (with_bit bit left) bits

-- the lowest `count` bits of a number, the lowest first
abbrev pub bits_in : ℕ → ℕ → List Bool
bits_in zero byte = []
bits_in (suc count) byte = nat_eq (byte % 2) 1 ∷ bits_in count (byte / 2)

-- the eight bits of a byte
unfoldable pub bits_of_byte : ℕ → List Bool
bits_of_byte byte = bits_in 8 byte

-- the bits of bytes
abbrev pub bits_of : List ℕ → List Bool
bits_of [] = []
bits_of (byte ∷ bytes) = bits_of_byte byte ++ bits_of bytes

-- all 32 coefficients turned
abbrev pub turned : ℕ → ℕ
turned left = bit_xor left (2 ^ 32 - 1)

-- the checksum of bits, and of bytes: the division begins with ones, and its remainder is turned
abbrev pub crc_of_bits : List Bool → ℕ
crc_of_bits bits = turned (divided (2 ^ 32 - 1) bits)

abbrev pub crc_of : List ℕ → ℕ
crc_of bytes = crc_of_bits (bits_of bytes)
