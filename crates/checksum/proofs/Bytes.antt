-- A byte's part in the remainder doesn't depend on the others.
use Rattle.std.proofs.Common.{◌≡◌, ℕ, zero, suc, ◌+◌, ◌/◌, ◌%◌, ◌<◌, ◌^◌, List, [], ◌∷◌, length, refl, ap, sym, ◌∙◌, arith, get_or, take, drop, take-append-drop, drop-cons}
use Rattle.std.specs.Prelude.{bit_xor}
use lib.Bits.{xor_assoc, xor_zero_l, xor_zero_r, xor_comm}
use Rattle.std.proofs.lemmas.Nat.{xor_shr, xor_mod, le_bytes_8}
use Rattle.std.specs.Int.{w64, from_le_bytes}
use Rattle.checksum.specs.Crc.{divided, bits_of, bits_of_byte}
use Rattle.checksum.specs.Rows.{past_byte, past_bytes}
use Rattle.checksum.proofs.Steps.{past_sum, by_lowest}
use Rattle.checksum.proofs.Bits.{value, value_of_byte, enters_byte, divided_joined, bits_joined}

commutes : (count left : ℕ) → past_bytes count (past_byte left) ≡ past_byte (past_bytes count left)
commutes zero left = refl
commutes (suc count) left = ap past_byte (commutes count left)

-- of a sum each part is divided alone, the one with zeros behind it
pub apart : (bytes : List ℕ) (x y : ℕ) → divided (bit_xor x y) (bits_of bytes) ≡ bit_xor (past_bytes (length bytes) x) (divided y (bits_of bytes))
apart [] x y = refl
apart (b ∷ bytes) x y =
    let v : ℕ = value (bits_of_byte b) in
    divided_joined (bits_of_byte b) (bits_of bytes) (bit_xor x y)
    ∙ ap (λ (n : ℕ). divided n (bits_of bytes)) (enters_byte b (bit_xor x y) ∙ ap past_byte (xor_assoc x y v) ∙ past_sum x (bit_xor y v))
    ∙ apart bytes (past_byte x) (past_byte (bit_xor y v))
    ∙ ap (λ (n : ℕ). bit_xor n (divided (past_byte (bit_xor y v)) (bits_of bytes))) (commutes (length bytes) x)
    ∙ ap (λ (n : ℕ). bit_xor (past_bytes (suc (length bytes)) x) n) (ap (λ (n : ℕ). divided n (bits_of bytes)) (sym (enters_byte b y)) ∙ sym (divided_joined (bits_of_byte b) (bits_of bytes) y))

-- past one byte: the lowest one is divided, and the others move
pub past_one : (byte left : ℕ) → byte < 256 → divided left (bits_of_byte byte) ≡ bit_xor (past_byte (bit_xor left byte % 2 ^ 8)) (left / 2 ^ 8)
past_one byte left lt =
    let high : bit_xor left byte / 2 ^ 8 ≡ left / 2 ^ 8 =
    xor_shr left byte 8 ∙ ap (bit_xor (left / 2 ^ 8)) (let none : byte / 2 ^ 8 ≡ 0 = omega (arith, lt) in none) ∙ xor_zero_r (left / 2 ^ 8) in
    enters_byte byte left ∙ ap (λ (n : ℕ). past_byte (bit_xor left n)) (value_of_byte byte lt)
    ∙ by_lowest (bit_xor left byte) ∙ xor_comm (bit_xor left byte / 2 ^ 8) (past_byte (bit_xor left byte % 2 ^ 8))
    ∙ ap (bit_xor (past_byte (bit_xor left byte % 2 ^ 8))) high

-- the first of some bytes
pub peeled : (byte : ℕ) (bytes : List ℕ) (left : ℕ) → byte < 256
    → divided left (bits_of (byte ∷ bytes)) ≡ bit_xor (past_bytes (suc (length bytes)) (bit_xor left byte % 2 ^ 8)) (divided (left / 2 ^ 8) (bits_of bytes))
peeled byte bytes left lt =
    divided_joined (bits_of_byte byte) (bits_of bytes) left
    ∙ ap (λ (n : ℕ). divided n (bits_of bytes)) (past_one byte left lt)
    ∙ apart bytes (past_byte (bit_xor left byte % 2 ^ 8)) (left / 2 ^ 8)
    ∙ ap (λ (n : ℕ). bit_xor n (divided (left / 2 ^ 8) (bits_of bytes))) (commutes (length bytes) (bit_xor left byte % 2 ^ 8))

-- one of eight, whose part of the remainder before it is this
one : (byte : ℕ) (bytes : List ℕ) (left part row rest : ℕ) → byte < 256 → part ≡ left → row ≡ past_bytes (suc (length bytes)) (bit_xor part byte % 2 ^ 8) → rest ≡ divided (left / 2 ^ 8) (bits_of bytes)
    → bit_xor row rest ≡ divided left (bits_of (byte ∷ bytes))
one byte bytes left part row rest lt is row_is rest_is =
    ap (λ (n : ℕ). bit_xor n rest) (row_is ∙ ap (λ (n : ℕ). past_bytes (suc (length bytes)) (bit_xor n byte % 2 ^ 8)) is)
    ∙ ap (bit_xor (past_bytes (suc (length bytes)) (bit_xor left byte % 2 ^ 8))) rest_is ∙ sym (peeled byte bytes left lt)

-- one behind the fourth: nothing of the remainder is left
late : (byte : ℕ) (bytes : List ℕ) (row rest : ℕ) → byte < 256 → row ≡ past_bytes (suc (length bytes)) (byte % 2 ^ 8) → rest ≡ divided 0 (bits_of bytes) → bit_xor row rest ≡ divided 0 (bits_of (byte ∷ bytes))
late byte bytes row rest lt row_is rest_is =
    one byte bytes 0 0 row rest lt refl (row_is ∙ ap (λ (n : ℕ). past_bytes (suc (length bytes)) (n % 2 ^ 8)) (sym (xor_zero_l byte))) rest_is

pub eight : (left a b c d e f g h ra rb rc rd re rf rg rh : ℕ) → left < 2 ^ 32 → a < 256 → b < 256 → c < 256 → d < 256 → e < 256 → f < 256 → g < 256 → h < 256
    → ra ≡ past_bytes 8 (bit_xor left a % 2 ^ 8) → rb ≡ past_bytes 7 (bit_xor (left / 2 ^ 8) b % 2 ^ 8) → rc ≡ past_bytes 6 (bit_xor (left / 2 ^ 16) c % 2 ^ 8)
    → rd ≡ past_bytes 5 (bit_xor (left / 2 ^ 24) d % 2 ^ 8) → re ≡ past_bytes 4 (e % 2 ^ 8) → rf ≡ past_bytes 3 (f % 2 ^ 8) → rg ≡ past_bytes 2 (g % 2 ^ 8) → rh ≡ past_bytes 1 (h % 2 ^ 8)
    → bit_xor ra (bit_xor rb (bit_xor rc (bit_xor rd (bit_xor re (bit_xor rf (bit_xor rg rh)))))) ≡ divided left (bits_of (a ∷ b ∷ c ∷ d ∷ e ∷ f ∷ g ∷ h ∷ []))
eight left a b c d e f g h ra rb rc rd re rf rg rh lt la lb lc ld le lf lg lh ea eb ec ed ee ef eg eh =
    let l1 : ℕ = left / 2 ^ 8 in
    let l2 : ℕ = l1 / 2 ^ 8 in
    let l3 : ℕ = l2 / 2 ^ 8 in
    let i2 : left / 2 ^ 16 ≡ left / 2 ^ 8 / 2 ^ 8 = omega arith in
    let i3 : left / 2 ^ 24 ≡ left / 2 ^ 8 / 2 ^ 8 / 2 ^ 8 = omega arith in
    let none : 0 ≡ left / 2 ^ 8 / 2 ^ 8 / 2 ^ 8 / 2 ^ 8 = omega (arith, lt) in
    let last : rh ≡ divided 0 (bits_of (h ∷ [])) = sym (xor_zero_r rh) ∙ late h [] rh 0 lh eh refl in
    let four : bit_xor re (bit_xor rf (bit_xor rg rh)) ≡ divided 0 (bits_of (e ∷ f ∷ g ∷ h ∷ [])) =
    late e (f ∷ g ∷ h ∷ []) re (bit_xor rf (bit_xor rg rh)) le ee (late f (g ∷ h ∷ []) rf (bit_xor rg rh) lf ef (late g (h ∷ []) rg rh lg eg last)) in
    let below : bit_xor re (bit_xor rf (bit_xor rg rh)) ≡ divided (l3 / 2 ^ 8) (bits_of (e ∷ f ∷ g ∷ h ∷ [])) = four ∙ ap (λ (n : ℕ). divided n (bits_of (e ∷ f ∷ g ∷ h ∷ []))) none in
    one a (b ∷ c ∷ d ∷ e ∷ f ∷ g ∷ h ∷ []) left left ra (bit_xor rb (bit_xor rc (bit_xor rd (bit_xor re (bit_xor rf (bit_xor rg rh)))))) la refl ea
    (one b (c ∷ d ∷ e ∷ f ∷ g ∷ h ∷ []) l1 l1 rb (bit_xor rc (bit_xor rd (bit_xor re (bit_xor rf (bit_xor rg rh))))) lb refl eb
    (one c (d ∷ e ∷ f ∷ g ∷ h ∷ []) l2 (left / 2 ^ 16) rc (bit_xor rd (bit_xor re (bit_xor rf (bit_xor rg rh)))) lc i2 ec
    (one d (e ∷ f ∷ g ∷ h ∷ []) l3 (left / 2 ^ 24) rd (bit_xor re (bit_xor rf (bit_xor rg rh))) ld i3 ed below)))

-- eight bytes, one by one
pub eight_of : (xs : List ℕ) → length xs ≡ 8 → xs ≡ get_or xs 0 0 ∷ get_or xs 1 0 ∷ get_or xs 2 0 ∷ get_or xs 3 0 ∷ get_or xs 4 0 ∷ get_or xs 5 0 ∷ get_or xs 6 0 ∷ get_or xs 7 0 ∷ []
eight_of (a ∷ b ∷ c ∷ d ∷ e ∷ f ∷ g ∷ h ∷ []) size = refl
eight_of (a ∷ b ∷ c ∷ d ∷ e ∷ f ∷ g ∷ h ∷ i ∷ more) size = absurd (omega (arith, size))
eight_of (a ∷ b ∷ c ∷ d ∷ e ∷ f ∷ g ∷ []) size = absurd (omega (arith, size))
eight_of (a ∷ b ∷ c ∷ d ∷ e ∷ f ∷ []) size = absurd (omega (arith, size))
eight_of (a ∷ b ∷ c ∷ d ∷ e ∷ []) size = absurd (omega (arith, size))
eight_of (a ∷ b ∷ c ∷ d ∷ []) size = absurd (omega (arith, size))
eight_of (a ∷ b ∷ c ∷ []) size = absurd (omega (arith, size))
eight_of (a ∷ b ∷ []) size = absurd (omega (arith, size))
eight_of (a ∷ []) size = absurd (omega (arith, size))
eight_of [] size = absurd (omega (arith, size))

-- eight bytes that are read as one number, each found in it again
pub eight_read : (xs : List ℕ) (x : ℕ) → length xs ≡ 8 → ((i : ℕ) → get_or xs i 0 < 256) → x ≡ from_le_bytes w64 xs
    → (x % 2 ^ 8 ≡ get_or xs 0 0) × (x / 2 ^ 8 % 2 ^ 8 ≡ get_or xs 1 0) × (x / 2 ^ 16 % 2 ^ 8 ≡ get_or xs 2 0) × (x / 2 ^ 24 % 2 ^ 8 ≡ get_or xs 3 0)
    × (x / 2 ^ 32 % 2 ^ 8 ≡ get_or xs 4 0) × (x / 2 ^ 40 % 2 ^ 8 ≡ get_or xs 5 0) × (x / 2 ^ 48 % 2 ^ 8 ≡ get_or xs 6 0) × (x / 2 ^ 56 % 2 ^ 8 ≡ get_or xs 7 0)
eight_read xs x size small is =
    let same = le_bytes_8 xs x size small is in (
      ap (λ (l : List ℕ). get_or l 0 0) same,
      ap (λ (l : List ℕ). get_or l 1 0) same,
      ap (λ (l : List ℕ). get_or l 2 0) same,
      ap (λ (l : List ℕ). get_or l 3 0) same,
      ap (λ (l : List ℕ). get_or l 4 0) same,
      ap (λ (l : List ℕ). get_or l 5 0) same,
      ap (λ (l : List ℕ). get_or l 6 0) same,
      ap (λ (l : List ℕ). get_or l 7 0) same,
    )

-- a byte of a sum
part_of_sum : (left x b shift : ℕ) → x / 2 ^ shift % 2 ^ 8 ≡ b → bit_xor left x / 2 ^ shift % 2 ^ 8 ≡ bit_xor (left / 2 ^ shift) b % 2 ^ 8
part_of_sum left x b shift is =
    let alone : b ≡ b % 2 ^ 8 = omega (arith, is) in
    ap (λ (n : ℕ). n % 2 ^ 8) (xor_shr left x shift) ∙ xor_mod (left / 2 ^ shift) (x / 2 ^ shift) 8 ∙ ap (bit_xor (left / 2 ^ shift % 2 ^ 8)) (is ∙ alone)
    ∙ sym (xor_mod (left / 2 ^ shift) b 8)

pub row_first : (left x a row : ℕ) → x % 2 ^ 8 ≡ a → row ≡ past_bytes 8 (bit_xor left x % 2 ^ 8) → row ≡ past_bytes 8 (bit_xor left a % 2 ^ 8)
row_first left x a row is row_is =
    let alone : a ≡ a % 2 ^ 8 = omega (arith, is) in
    row_is ∙ ap (past_bytes 8) (xor_mod left x 8 ∙ ap (bit_xor (left % 2 ^ 8)) (is ∙ alone) ∙ sym (xor_mod left a 8))

pub row_early : (count left x b shift row : ℕ) → x / 2 ^ shift % 2 ^ 8 ≡ b → row ≡ past_bytes count (bit_xor left x / 2 ^ shift % 2 ^ 8) → row ≡ past_bytes count (bit_xor (left / 2 ^ shift) b % 2 ^ 8)
row_early count left x b shift row is row_is = row_is ∙ ap (past_bytes count) (part_of_sum left x b shift is)

-- none of the remainder is left there
pub row_late : (count left x b shift row : ℕ) → left / 2 ^ shift ≡ 0 → x / 2 ^ shift % 2 ^ 8 ≡ b → row ≡ past_bytes count (bit_xor left x / 2 ^ shift % 2 ^ 8) → row ≡ past_bytes count (b % 2 ^ 8)
row_late count left x b shift row none is row_is =
    row_early count left x b shift row is row_is ∙ ap (λ (n : ℕ). past_bytes count (bit_xor n b % 2 ^ 8)) none ∙ ap (λ (n : ℕ). past_bytes count (n % 2 ^ 8)) (xor_zero_l b)

-- the next ones
pub next_ones : (left count : ℕ) (xs : List ℕ) → divided (divided left (bits_of (take count xs))) (bits_of (drop count xs)) ≡ divided left (bits_of xs)
next_ones left count xs =
    sym (divided_joined (bits_of (take count xs)) (bits_of (drop count xs)) left)
    ∙ ap (divided left) (sym (bits_joined (take count xs) (drop count xs)))
    ∙ ap (λ (l : List ℕ). divided left (bits_of l)) (take-append-drop count xs)

-- one byte more
pub one_more : (left i : ℕ) (xs : List ℕ) (row : ℕ) → get_or xs i 0 < 256 → i < length xs → row ≡ past_byte (bit_xor left (get_or xs i 0) % 2 ^ 8)
    → divided (bit_xor row (left / 2 ^ 8)) (bits_of (drop (i + 1) xs)) ≡ divided left (bits_of (drop i xs))
one_more left i xs row small lt is =
    let byte : ℕ = get_or xs i 0 in
    let cons : drop i xs ≡ byte ∷ drop (i + 1) xs = drop-cons xs i 0 lt ∙ ap (λ (n : ℕ). byte ∷ drop n xs) (let e : suc i ≡ i + 1 = omega arith in e) in
    ap (λ (n : ℕ). divided (bit_xor n (left / 2 ^ 8)) (bits_of (drop (i + 1) xs))) is
    ∙ ap (λ (n : ℕ). divided n (bits_of (drop (i + 1) xs))) (sym (past_one byte left small))
    ∙ sym (divided_joined (bits_of_byte byte) (bits_of (drop (i + 1) xs)) left)
    ∙ ap (λ (l : List ℕ). divided left (bits_of l)) (sym cons)
