-- The tails of parts are those of the slots that were read.
use Rattle.std.proofs.Common.{◌≡◌, ◌⊎◌, inl, inr, ℕ, ◌+◌, ◌/◌, ◌%◌, ◌≤◌, ◌<◌, List, [], ◌∷◌, ◌++◌, length, get_or, ap, refl, sym, subst, ◌∙◌, arith, length-append}
use Rattle.std.proofs.lemmas.Bool.{cases_lt}
use Rattle.std.proofs.lemmas.List.{get_or_append_left, get_or-replicate, get_or_past, get_or_push}
use Rattle.sector_device.specs.Disk.{Image}
use Rattle.store_parts.specs.Parts.{AreSlotsOf, HasTail, HaveTails, IsSectorOrZeros, slot_byte}
use Rattle.store_parts.specs.declared.part.Part.{Part}

-- an empty tail is one of any slot
pub empty_tail : (image : Image) (part : Part) → part.tail.items ≡ [] → HasTail image part
empty_tail image part none = λ i lt. absurd (let long = ap length none in omega (arith, long, lt))

-- a byte of a slot as it was read is that of the device, or zero
byte_is : (image slots : Image) (k n byte : ℕ) → n < 512 → byte ≡ get_or (get_or slots k []) n 0 → IsSectorOrZeros image k (get_or slots k []) → (byte ≡ get_or (get_or image k []) n 0) ⊎ (byte ≡ 0)
byte_is image slots k n byte lt is (inl same) = inl (is ∙ ap (λ (l : List ℕ). get_or l n 0) same)
byte_is image slots k n byte lt is (inr zeros) = inr (is ∙ ap (λ (l : List ℕ). get_or l n 0) zeros ∙ get_or-replicate 512 n 0 0 lt)

byte_on : (image slots : Image) → AreSlotsOf image slots → (k n byte : ℕ) → n < 512 → byte ≡ get_or (get_or slots k []) n 0 → (k < length slots) ⊎ (length slots ≤ k) → (byte ≡ get_or (get_or image k []) n 0) ⊎ (byte ≡ 0)
byte_on image slots are k n byte lt is (inl within) = byte_is image slots k n byte lt is (are k within)
byte_on image slots are k n byte lt is (inr past) = inr (is ∙ ap (λ (l : List ℕ). get_or l n 0) (get_or_past slots k [] past))

tail_byte : (image slots : Image) → AreSlotsOf image slots → (slot i byte : ℕ) → (byte ≡ slot_byte slots slot i) ⊎ (byte ≡ 0) → (byte ≡ slot_byte image slot i) ⊎ (byte ≡ 0)
tail_byte image slots are slot i byte (inl is) = byte_on image slots are (slot + (60 + i) / 484) (28 + (60 + i) % 484) byte (omega arith) is (cases_lt (slot + (60 + i) / 484) (length slots))
tail_byte image slots are slot i byte (inr none) = inr none

-- so are the tails
pub tails_on : (image slots : Image) → AreSlotsOf image slots → (parts : List Part) → HaveTails slots parts → HaveTails image parts
tails_on image slots are [] tails = tt
tails_on image slots are (p ∷ ps) tails = (λ i lt. tail_byte image slots are p.slot i (get_or p.tail.items i 0) (tails.0 i lt), tails_on image slots are ps tails.1)

-- a byte more of a tail
pub byte_more : (slots : Image) (slot : ℕ) (tail more : List ℕ) (byte : ℕ) → more ≡ tail ++ byte ∷ [] → (byte ≡ slot_byte slots slot (length tail)) ⊎ (byte ≡ 0)
    → ((i : ℕ) → i < length tail → (get_or tail i 0 ≡ slot_byte slots slot i) ⊎ (get_or tail i 0 ≡ 0)) → (i : ℕ) → i < length more → (get_or more i 0 ≡ slot_byte slots slot i) ⊎ (get_or more i 0 ≡ 0)
byte_more slots slot tail more byte is new old i lt = subst (λ (l : List ℕ). (get_or l i 0 ≡ slot_byte slots slot i) ⊎ (get_or l i 0 ≡ 0)) (sym is) (one (cases_lt i (length tail)))
  where
    long : length more ≡ length tail + 1
    long = ap length is ∙ length-append tail (byte ∷ [])

    at_end : get_or (tail ++ byte ∷ []) (length tail) 0 ≡ byte
    at_end = get_or_push tail byte 0 (length tail) refl

    last : (byte ≡ slot_byte slots slot (length tail)) ⊎ (byte ≡ 0) → (get_or (tail ++ byte ∷ []) (length tail) 0 ≡ slot_byte slots slot (length tail)) ⊎ (get_or (tail ++ byte ∷ []) (length tail) 0 ≡ 0)
    last (inl same) = inl (at_end ∙ same)
    last (inr none) = inr (at_end ∙ none)

    one : (i < length tail) ⊎ (length tail ≤ i) → (get_or (tail ++ byte ∷ []) i 0 ≡ slot_byte slots slot i) ⊎ (get_or (tail ++ byte ∷ []) i 0 ≡ 0)
    one (inl low) = by (old i low)
      where
        by : (get_or tail i 0 ≡ slot_byte slots slot i) ⊎ (get_or tail i 0 ≡ 0) → (get_or (tail ++ byte ∷ []) i 0 ≡ slot_byte slots slot i) ⊎ (get_or (tail ++ byte ∷ []) i 0 ≡ 0)
        by (inl same) = inl (get_or_append_left tail (byte ∷ []) 0 i low ∙ same)
        by (inr none) = inr (get_or_append_left tail (byte ∷ []) 0 i low ∙ none)
    one (inr high) = subst (λ (n : ℕ). (get_or (tail ++ byte ∷ []) n 0 ≡ slot_byte slots slot n) ⊎ (get_or (tail ++ byte ∷ []) n 0 ≡ 0)) (omega (arith, lt, high, long)) (last new)

-- a sector more of the slots
pub sector_more : (image : Image) (slots more : List (List ℕ)) (sector : List ℕ) → more ≡ slots ++ sector ∷ [] → IsSectorOrZeros image (length slots) sector → AreSlotsOf image slots → AreSlotsOf image more
sector_more image slots more sector is new old k lt = subst (λ (l : List (List ℕ)). IsSectorOrZeros image k (get_or l k [])) (sym is) (one (cases_lt k (length slots)))
  where
    long : length more ≡ length slots + 1
    long = ap length is ∙ length-append slots (sector ∷ [])

    one : (k < length slots) ⊎ (length slots ≤ k) → IsSectorOrZeros image k (get_or (slots ++ sector ∷ []) k [])
    one (inl low) = subst (IsSectorOrZeros image k) (sym (get_or_append_left slots (sector ∷ []) [] k low)) (old k low)
    one (inr high) = subst (λ (n : ℕ). IsSectorOrZeros image n (get_or (slots ++ sector ∷ []) n [])) (omega (arith, lt, high, long)) (subst (IsSectorOrZeros image (length slots)) (sym (get_or_push slots sector [] (length slots) refl)) new)

-- a part more
pub tails_push : (image : Image) (parts more : List Part) (part : Part) → more ≡ parts ++ part ∷ [] → HaveTails image parts → HasTail image part → HaveTails image more
tails_push image parts more part is are has = subst (HaveTails image) (sym is) (pushed parts are)
  where
    pushed : (ps : List Part) → HaveTails image ps → HaveTails image (ps ++ part ∷ [])
    pushed [] all = (has, tt)
    pushed (p ∷ ps) all = (all.0, pushed ps all.1)
