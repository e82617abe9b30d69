-- What the first sector of a slot says is what was written, and so are the bytes of its tail.
use Rattle.std.proofs.Common.{◌≡◌, ℕ, ◌+◌, ◌*◌, ◌/◌, ◌%◌, ◌<◌, ◌^◌, List, [], ◌++◌, length, take, drop, get_or, sym, ◌∙◌, ap, refl, arith}
use Rattle.std.proofs.lemmas.List.{ext_get_or, get_or-drop, get_or-append-add, length-append}
use Rattle.std.specs.Int.{w32, w64, w128, from_be_bytes, to_be_bytes}
use Rattle.std.proofs.lemmas.Nat.{from_be_bytes-to_be_bytes_4, from_be_bytes-to_be_bytes_8}
use Rattle.checksum.specs.Crc.{crc_of}
use Rattle.commit_slots.specs.Sealed.{Verifies, beginning, number_of, rest_of}
use Rattle.commit_slots.specs.Slots.{IsHeld, IsSlotOf, content_of, numbers_in, piece_of, slot_sector, Image}
use Rattle.commit_slots.specs.declared.slot.Slot.{Slot}
use Rattle.commit_slots.proofs.Filled.{piece_byte, piece_long}
use Rattle.commit_slots.proofs.Wide.{from_be_bytes-to_be_bytes_16}

-- what a sector says, if it is the first of a slot
abbrev pub said_in : List ℕ → Slot
said_in s =
    record {
      number = from_be_bytes w64 (take 8 (drop 16 s));
      length = from_be_bytes w64 (take 8 (drop 28 s));
      seq = from_be_bytes w64 (take 8 (drop 36 s));
      opens = from_be_bytes w64 (take 8 (drop 44 s));
      sectors = from_be_bytes w64 (take 8 (drop 52 s));
      half = from_be_bytes w32 (take 4 (drop 60 s));
      blocks = from_be_bytes w32 (take 4 (drop 64 s));
      check = from_be_bytes w32 (take 4 (drop 68 s));
      identity = from_be_bytes w128 (take 16 (drop 72 s));
    }

pub said_is : (sectors : ℕ) (slot : Slot) (tail : List ℕ) → IsSlotOf sectors slot tail → said_in (slot_sector slot tail 0) ≡ slot
unfolding slot_sector
said_is sectors slot tail of = λ i. record {
  number = from_be_bytes-to_be_bytes_8 slot.number of.number_fits i;
  length = from_be_bytes-to_be_bytes_8 slot.length (omega (arith, of.length_fits, of.sectors_fit)) i;
  seq = from_be_bytes-to_be_bytes_8 slot.seq of.seq_fits i;
  opens = from_be_bytes-to_be_bytes_8 slot.opens of.opens_fits i;
  sectors = from_be_bytes-to_be_bytes_8 slot.sectors (omega (arith, of.sectors_is, of.sectors_fit)) i;
  half = from_be_bytes-to_be_bytes_4 slot.half (omega (arith, of.half_fits)) i;
  blocks = from_be_bytes-to_be_bytes_4 slot.blocks of.blocks_fit i;
  check = from_be_bytes-to_be_bytes_4 slot.check of.check_fits i;
  identity = from_be_bytes-to_be_bytes_16 slot.identity of.identity_fits i;
}

-- what stands before the piece
abbrev front_of : Slot → List ℕ → ℕ → List ℕ
front_of slot tail k = beginning ++ to_be_bytes w32 (crc_of (rest_of slot.number k (piece_of k (content_of slot tail)))) ++ to_be_bytes w64 slot.number ++ to_be_bytes w32 k

-- a byte of a piece, in its sector
pub sector_byte : (slot : Slot) (tail : List ℕ) (k r : ℕ) → r < 484 → get_or (slot_sector slot tail k) (28 + r) 0 ≡ get_or (content_of slot tail) (484 * k + r) 0
unfolding slot_sector
sector_byte slot tail k r lt = get_or-append-add (front_of slot tail k) (piece_of k (content_of slot tail)) r 0 ∙ piece_byte k (content_of slot tail) r lt

-- byte i of the tail is in the sector that its place names
pub tail_byte : (slot : Slot) (tail : List ℕ) (image : Image) (i : ℕ) → IsHeld slot tail 0 image → i < length tail → get_or (get_or image ((60 + i) / 484) []) (28 + (60 + i) % 484) 0 ≡ get_or tail i 0
tail_byte slot tail image i held lt =
    let k = (60 + i) / 484 in
    let r = (60 + i) % 484 in
    let first : k ≡ 0 + k = omega arith in
    let place : 484 * k + r ≡ 60 + i = omega arith in
    ap (λ (s : List ℕ). get_or s (28 + r) 0) (ap (λ (n : ℕ). get_or image n []) first ∙ held k (omega (arith, lt)))
    ∙ sector_byte slot tail k r (omega arith) ∙ ap (λ (n : ℕ). get_or (content_of slot tail) n 0) place ∙ get_or-append-add (numbers_in slot) tail i 0

-- so it is read
pub tail_read : (slot : Slot) (was tail : List ℕ) (image : Image) → length tail ≡ length was → ((i : ℕ) → i < length tail → get_or tail i 0 ≡ get_or (get_or image ((60 + i) / 484) []) (28 + (60 + i) % 484) 0) → IsHeld slot was 0 image → tail ≡ was
tail_read slot was tail image size each held = ext_get_or 0 tail was size (λ i lt. each i lt ∙ tail_byte slot was image i held (omega (arith, lt, size)))

-- the first sector tells the commit
pub one_slot : (sectors : ℕ) (a b : Slot) (s t : List ℕ) → IsSlotOf sectors a s → IsSlotOf sectors b t → slot_sector a s 0 ≡ slot_sector b t 0 → a ≡ b
one_slot sectors a b s t first second same = sym (said_is sectors a s first) ∙ ap said_in same ∙ said_is sectors b t second

pub one_length : (sectors : ℕ) (a b : Slot) (s t : List ℕ) → IsSlotOf sectors a s → IsSlotOf sectors b t → a ≡ b → length s ≡ length t
one_length sectors a b s t first second same = omega (arith, first.length_is, second.length_is, ap (λ (m : Slot). m.length) same, ap (λ (m : Slot). m.blocks) same)

-- each sector verifies under the number
pub sector_verifies : (slot : Slot) (tail : List ℕ) (k : ℕ) → Verifies (slot_sector slot tail k)
unfolding slot_sector
sector_verifies slot tail k = record { whole = length-append (front_of slot tail k) (piece_of k (content_of slot tail)) ∙ ap (λ (n : ℕ). 28 + n) (piece_long k (content_of slot tail)); begins = refl }

pub sector_number : (slot : Slot) (tail : List ℕ) (k : ℕ) → slot.number < 2 ^ 64 → number_of (slot_sector slot tail k) ≡ slot.number
unfolding slot_sector
sector_number slot tail k fits = from_be_bytes-to_be_bytes_8 slot.number fits

-- what two tails of one slot are read as
pub one_tail : (slot : Slot) (s t : List ℕ) (start : ℕ) (image : Image) → length s ≡ length t → IsHeld slot s start image → IsHeld slot t start image → s ≡ t
one_tail slot s t start image size first second =
    let there : (r : List ℕ) → IsHeld slot r start image → IsHeld slot r 0 (drop start image) = λ r held k lt. let at : start + (0 + k) ≡ start + k = omega arith in
    get_or-drop start image (0 + k) [] ∙ ap (λ (n : ℕ). get_or image n []) at ∙ held k lt in
    ext_get_or 0 s t size (λ i lt. sym (tail_byte slot s (drop start image) i (there s first) lt) ∙ tail_byte slot t (drop start image) i (there t second) (omega (arith, lt, size)))
