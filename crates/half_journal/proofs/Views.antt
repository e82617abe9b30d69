-- The bytes that a journal is seen to have.
use Rattle.std.proofs.Common.{◌≡◌, ◌⊎◌, inl, inr, ℕ, zero, suc, ◌+◌, ◌-◌, ◌/◌, ◌%◌, ◌<◌, ◌≤◌, List, [], ◌∷◌, ◌++◌, length, get_or, take, refl, sym, ◌∙◌, ap, subst, arith, length-append}
use Rattle.std.proofs.lemmas.Bool.{cases_lt}
use Rattle.std.proofs.lemmas.List.{get_or_append_left, get_or-append_right, get_or_default, same_lists, length-take, get_or-take}
use Rattle.sector_device.specs.Disk.{Disk, Image, IsCoherent}
use Rattle.sector_device.specs.Sectors.{byte_at, Begins, KeepsOthers}
use Rattle.half_journal.specs.Layout.{half_size, half_start, half_capacity}
use Rattle.half_journal.specs.States.{Holds}
use Rattle.half_journal.specs.Reads.{bytes_read}

pub length_read : (image : Image) (start n : ℕ) → length (bytes_read image start n) ≡ n
length_read image start zero = refl
length_read image start (suc n) = grind (arith, length-append {A = ℕ}, length_read image start n)

pub read_at : (image : Image) (start n i : ℕ) → i < n → get_or (bytes_read image start n) i 0 ≡ byte_at image start i
read_at image start zero i lt = absurd (omega (arith, lt))
read_at image start (suc n) i lt = elim (cases_lt i n) [
  | inl low ↦ get_or_append_left (bytes_read image start n) (byte_at image start n ∷ []) 0 i (omega (arith, low, length_read image start n)) ∙ read_at image start n i low
  | inr high ↦
      let here : i ≡ n = omega (arith, lt, high) in
      let first : i - n ≡ 0 = omega (arith, here) in
      get_or-append_right (bytes_read image start n) (byte_at image start n ∷ []) n i 0 (length_read image start n) high ∙ ap (λ (k : ℕ). get_or (byte_at image start n ∷ []) k 0) first ∙ ap (byte_at image start) (sym here)
]

-- what an image begins with is what is read
pub read_begins : (image : Image) (start n : ℕ) (bytes : List ℕ) → Begins image start bytes → n ≡ length bytes → bytes_read image start n ≡ bytes
read_begins image start n bytes begins is =
    same_lists (bytes_read image start n) bytes (length_read image start n ∙ is)
    (λ i d lt.
    let low : i < n = omega (arith, lt, length_read image start n) in
    let low_bytes : i < length bytes = omega (arith, low, is) in
    get_or_default (bytes_read image start n) i d 0 lt ∙ read_at image start n i low ∙ begins i low_bytes ∙ get_or_default bytes i 0 d low_bytes)

-- bytes read from an image begin as it does
pub begun_at : (image : Image) (start copied : ℕ) (front : List ℕ) → take (length front) (bytes_read image start copied) ≡ front → Begins image start front
begun_at image start copied front begins i lt =
    let read = bytes_read image start copied in
    let long : length front ≤ length read = omega (arith, ap length begins, length-take (length front) read) in
    sym (read_at image start copied i (omega (arith, lt, long, length_read image start copied))) ∙ sym (get_or-take (length front) read i 0 lt) ∙ ap (λ (l : List ℕ). get_or l i 0) begins

-- an image whose half begins with all bytes is read as them
pub held_bytes : (disk : Disk) → IsCoherent disk → (sectors : ℕ) → disk.sectors ≡ sectors → (half : ℕ) (bytes : List ℕ) (n : ℕ) → Holds disk.seen (half_start (length disk.seen) half) bytes (length bytes) → n ≡ length bytes → bytes_read disk.seen (half_start sectors half) n ≡ bytes
held_bytes disk coherent sectors size half bytes n holds is =
    read_begins disk.seen (half_start sectors half) n bytes (subst (λ (s : ℕ). Begins disk.seen (half_start s half) bytes) ((coherent.shape disk.seen coherent.seen).count ∙ size) holds) is

pub read_same : (old new : Image) (start n : ℕ) → ((i : ℕ) → i < n → byte_at new start i ≡ byte_at old start i) → bytes_read new start n ≡ bytes_read old start n
read_same old new start zero same = refl
read_same old new start (suc n) same =
    let last : n < suc n = omega arith in
    (λ i. read_same old new start n (λ j lt. same j (omega (arith, lt))) i ++ same n last i ∷ [])

-- the other half, where only sectors of this one and sector 0 were written
pub other_half : (old new : Image) (sectors half copied : ℕ) → half ≤ 1 → copied ≤ half_capacity sectors → KeepsOthers (half_start sectors half) (half_size sectors) old new → bytes_read new (half_start sectors (1 - half)) copied ≡ bytes_read old (half_start sectors (1 - half)) copied
other_half old new sectors half copied low fits others = read_same old new (half_start sectors (1 - half)) copied
    (λ i lt. ap (λ (s : List ℕ). get_or s (i % 512) 0) (others (half_start sectors (1 - half) + i / 512) (omega arith) (place i lt (cases_lt half 1))))
  where
    place : (i : ℕ) → i < copied → (half < 1) ⊎ (1 ≤ half) → (half_start sectors (1 - half) + i / 512 < half_start sectors half) ⊎ (half_start sectors half + half_size sectors ≤ half_start sectors (1 - half) + i / 512)
    place i lt (inl zero_half) =
        let is : half ≡ 0 = omega (arith, zero_half) in
        subst (λ (h : ℕ). (half_start sectors (1 - h) + i / 512 < half_start sectors h) ⊎ (half_start sectors h + half_size sectors ≤ half_start sectors (1 - h) + i / 512)) (sym is) (inr (omega arith))
    place i lt (inr one_half) =
        let is : half ≡ 1 = omega (arith, one_half, low) in
        subst (λ (h : ℕ). (half_start sectors (1 - h) + i / 512 < half_start sectors h) ⊎ (half_start sectors h + half_size sectors ≤ half_start sectors (1 - h) + i / 512)) (sym is) (inl (omega (arith, lt, fits)))
