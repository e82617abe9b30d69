-- A piece filled by two runs of bytes, with zeros behind them.
use Rattle.std.proofs.Common.{◌≡◌, ⊎_elim, ℕ, ◌+◌, ◌-◌, ◌*◌, ◌≤◌, ◌<◌, List, ◌++◌, length, min, take, drop, replicate, get_or, length-append, refl, sym, ◌∙◌, ap, arith}
use Rattle.std.proofs.lemmas.Bool.{cases_lt}
use Rattle.std.proofs.lemmas.List.{get_or-take, get_or-drop, get_or_append_left, get_or-append_right, get_or-replicate, length-drop, length-take, get_or_past, ext_get_or, length-replicate}
use Rattle.commit_slots.specs.Slots.{piece_of}
use Rattle.commit_slots.proofs.Built.{Built}

-- a byte of a sector that is built up to a place
pub built_byte : (at i : ℕ) (written sector : List ℕ) → Built at written sector → length written ≡ at → at ≤ 484 → i < 484 → get_or sector i 0 ≡ get_or written i 0
built_byte at i written sector built size fits lt = ⊎_elim low high (cases_lt i at)
  where
    low : i < at → get_or sector i 0 ≡ get_or written i 0
    low below = sym (get_or-take at sector i 0 below) ∙ ap (λ (l : List ℕ). get_or l i 0) built.front

    high : at ≤ i → get_or sector i 0 ≡ get_or written i 0
    high above = ap (λ (n : ℕ). get_or sector n 0) (omega (arith, above)) ∙ sym (get_or-drop at sector (i - at) 0) ∙ ap (λ (l : List ℕ). get_or l (i - at) 0) built.zeros
        ∙ get_or-replicate (484 - at) (i - at) 0 0 (omega (arith, lt, above)) ∙ sym (get_or_past written i 0 (omega (arith, size, above)))

-- a byte of what is left of the front and of the bytes behind it
pub both_byte : (front bytes : List ℕ) (start skipped from count i : ℕ) → skipped ≡ min start (length front) → from ≡ min (start - skipped) (length bytes)
    → count ≡ min (484 - (length front - skipped)) (length bytes - from) → i < 484
    → get_or (drop skipped front ++ take count (drop from bytes)) i 0 ≡ get_or (front ++ bytes) (start + i) 0
both_byte front bytes start skipped from count i skipped_is from_is count_is lt = ⊎_elim low high (cases_lt i (length front - skipped))
  where
    low : i < length front - skipped → get_or (drop skipped front ++ take count (drop from bytes)) i 0 ≡ get_or (front ++ bytes) (start + i) 0
    low below =
        get_or_append_left (drop skipped front) (take count (drop from bytes)) 0 i (omega (arith, below, length-drop skipped front)) ∙ get_or-drop skipped front i 0
        ∙ ap (λ (n : ℕ). get_or front n 0) (omega (arith, below, skipped_is)) ∙ sym (get_or_append_left front bytes 0 (start + i) (omega (arith, below, skipped_is)))

    behind : length front - skipped ≤ i → get_or (front ++ bytes) (start + i) 0 ≡ get_or bytes (start + i - length front) 0
    behind above = get_or-append_right front bytes (length front) (start + i) 0 refl (omega (arith, above, skipped_is))

    part : length front - skipped ≤ i → get_or (drop skipped front ++ take count (drop from bytes)) i 0 ≡ get_or (take count (drop from bytes)) (i - (length front - skipped)) 0
    part above = get_or-append_right (drop skipped front) (take count (drop from bytes)) (length front - skipped) i 0 (length-drop skipped front) above

    high : length front - skipped ≤ i → get_or (drop skipped front ++ take count (drop from bytes)) i 0 ≡ get_or (front ++ bytes) (start + i) 0
    high above = part above ∙ ⊎_elim within past (cases_lt (i - (length front - skipped)) count) ∙ sym (behind above)
      where
        within : i - (length front - skipped) < count → get_or (take count (drop from bytes)) (i - (length front - skipped)) 0 ≡ get_or bytes (start + i - length front) 0
        within below = get_or-take count (drop from bytes) (i - (length front - skipped)) 0 below ∙ get_or-drop from bytes (i - (length front - skipped)) 0
            ∙ ap (λ (n : ℕ). get_or bytes n 0) (omega (arith, above, below, skipped_is, from_is, count_is))

        past : count ≤ i - (length front - skipped) → get_or (take count (drop from bytes)) (i - (length front - skipped)) 0 ≡ get_or bytes (start + i - length front) 0
        past over = get_or_past (take count (drop from bytes)) (i - (length front - skipped)) 0 (omega (arith, over, length-take count (drop from bytes)))
            ∙ sym (get_or_past bytes (start + i - length front) 0 (omega (arith, above, over, lt, skipped_is, from_is, count_is)))

-- the piece k of some bytes
pub piece_long : (k : ℕ) (bytes : List ℕ) → length (piece_of k bytes) ≡ 484
piece_long k bytes =
    length-take 484 (drop (484 * k) bytes ++ replicate {A = ℕ} 484 0) ∙ omega (arith, length-append (drop (484 * k) bytes) (replicate {A = ℕ} 484 0), length-replicate {A = ℕ} 484 0)

pub piece_byte : (k : ℕ) (bytes : List ℕ) (i : ℕ) → i < 484 → get_or (piece_of k bytes) i 0 ≡ get_or bytes (484 * k + i) 0
piece_byte k bytes i lt = get_or-take 484 (rest ++ zeros) i 0 lt ∙ ⊎_elim low high (cases_lt i (length rest))
  where
    rest : List ℕ
    rest = drop (484 * k) bytes

    zeros : List ℕ
    zeros = replicate 484 0

    low : i < length rest → get_or (rest ++ zeros) i 0 ≡ get_or bytes (484 * k + i) 0
    low below = get_or_append_left rest zeros 0 i below ∙ get_or-drop (484 * k) bytes i 0

    high : length rest ≤ i → get_or (rest ++ zeros) i 0 ≡ get_or bytes (484 * k + i) 0
    high above =
        get_or-append_right rest zeros (length rest) i 0 refl above ∙ get_or-replicate 484 (i - length rest) 0 0 (omega (arith, lt))
        ∙ sym (get_or_past bytes (484 * k + i) 0 (omega (arith, above, length-drop (484 * k) bytes)))

-- it is known from what it holds
pub piece_from : (k : ℕ) (bytes piece : List ℕ) → length piece ≡ 484 → ((i : ℕ) → i < 484 → get_or piece i 0 ≡ get_or bytes (484 * k + i) 0) → piece ≡ piece_of k bytes
piece_from k bytes piece size each =
    ext_get_or 0 piece (piece_of k bytes) (size ∙ sym (piece_long k bytes)) (λ i lt. let inside : i < 484 = omega (arith, lt, size) in each i inside ∙ sym (piece_byte k bytes i inside))
