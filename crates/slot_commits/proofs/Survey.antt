-- What 128 sectors tell of a device that begins with them.
use Rattle.std.proofs.Common.{◌≡◌, ◌⊎◌, inl, inr, ℕ, ◌+◌, ◌-◌, ◌<◌, ◌≤◌, ◌↔◌, List, [], ◌++◌, length, take, replicate, get_or, ap, subst, sym, ◌∙◌, arith, Bool, IsTrue, Option, Some, length-append}
use Rattle.std.proofs.lemmas.List.{get_or_append_left, length-replicate}
use Rattle.commit_slots.specs.Sealed.{Verifies, beginning, magic, number_of}
use Rattle.commit_slots.specs.Slots.{Image, IsHeld, IsSlotOf, slot_start}
use Rattle.commit_slots.specs.Finding.{BeginsAs, IsFoundIn, IsMarked}
use Rattle.commit_slots.specs.declared.slot.Slot.{Slot}
use Rattle.commit_slots.specs.declared.counted.Counted.{Counted}
use Rattle.slot_commits.specs.Finds.{HasBoth}

-- there is such a device
abbrev pub padded : List (List ℕ) → ℕ → Image
padded slots sectors = slots ++ replicate (sectors - 128) []

pub padded_size : (slots : List (List ℕ)) (sectors : ℕ) → length slots ≡ 128 → 128 ≤ sectors → length (padded slots sectors) ≡ sectors
padded_size slots sectors size room = length-append slots (replicate (sectors - 128) []) ∙ omega (arith, size, room, length-replicate {A = List ℕ} (sectors - 128) [])

pub padded_begins : (slots : List (List ℕ)) (sectors : ℕ) → BeginsAs slots (padded slots sectors)
padded_begins slots sectors k lt = get_or_append_left slots (replicate (sectors - 128) []) [] k lt

module _ (slots : List (List ℕ)) (image : Image) (size : length slots ≡ 128) (begins : BeginsAs slots image) where
  same : (k : ℕ) → k < 128 → get_or image k [] ≡ get_or slots k []
  same k lt = begins k (omega (arith, lt, size))

  held_there : (slot : Slot) (tail : List ℕ) (start : ℕ) → length tail ≤ 15428 → start ≤ 96 → IsHeld slot tail start slots → IsHeld slot tail start image
  held_there slot tail start fits low held k lt = same (start + k) (omega (arith, lt, fits, low)) ∙ held k lt

  held_back : (slot : Slot) (tail : List ℕ) (start : ℕ) → length tail ≤ 15428 → start ≤ 96 → IsHeld slot tail start image → IsHeld slot tail start slots
  held_back slot tail start fits low held k lt = sym (same (start + k) (omega (arith, lt, fits, low))) ∙ held k lt

  pub both_there : (slot : Slot) (tail : List ℕ) (both : Bool) → length tail ≤ 15428 → IsTrue both ↔ HasBoth slot tail slots → IsTrue both ↔ HasBoth slot tail image
  both_there slot tail both fits told = (
    λ yes. let has = told.0 yes in (held_there slot tail (slot_start slot.number 0) fits (omega arith) has.0, held_there slot tail (slot_start slot.number 1) fits (omega arith) has.1),
    λ has. told.1 (held_back slot tail (slot_start slot.number 0) fits (omega arith) has.0, held_back slot tail (slot_start slot.number 1) fits (omega arith) has.1),
  )

  pub marked_there : (marked : Bool) → IsTrue marked ↔ IsMarked slots → IsTrue marked ↔ IsMarked image
  marked_there marked told = (λ yes. there (told.0 yes), λ is. told.1 (back is))
    where
      there : IsMarked slots → IsMarked image
      there (inl zeroth) = inl (ap (take 8) (same 0 (omega arith)) ∙ zeroth)
      there (inr (inl first)) = inr (inl (ap (take 12) (same 32 (omega arith)) ∙ first))
      there (inr (inr (inl second))) = inr (inr (inl (ap (take 12) (same 64 (omega arith)) ∙ second)))
      there (inr (inr (inr third))) = inr (inr (inr (ap (take 12) (same 96 (omega arith)) ∙ third)))

      back : IsMarked image → IsMarked slots
      back (inl zeroth) = inl (ap (take 8) (sym (same 0 (omega arith))) ∙ zeroth)
      back (inr (inl first)) = inr (inl (ap (take 12) (sym (same 32 (omega arith))) ∙ first))
      back (inr (inr (inl second))) = inr (inr (inl (ap (take 12) (sym (same 64 (omega arith))) ∙ second)))
      back (inr (inr (inr third))) = inr (inr (inr (ap (take 12) (sym (same 96 (omega arith))) ∙ third)))

  pub reached_there : (highest : ℕ) → (highest ≡ 0) ⊎ ((k : ℕ) × (k < length slots) × Verifies (get_or slots k []) × (number_of (get_or slots k []) ≡ highest))
      → (highest ≡ 0) ⊎ ((k : ℕ) × (k < 128) × Verifies (get_or image k []) × (number_of (get_or image k []) ≡ highest))
  reached_there highest (inl none) = inl none
  reached_there highest (inr some) =
      let lt : some.0 < 128 = omega (arith, some.1, size) in
      inr (some.0, lt, subst Verifies (sym (same some.0 lt)) some.2, ap number_of (same some.0 lt) ∙ some.3)

-- what counts is a commit of the device
pub counted_of : (slots : List (List ℕ)) (sectors : ℕ) (found : Option Counted) (c : Counted) → found ≡ Some c → length slots ≡ 128 → 128 ≤ sectors → ((image : Image) → length image ≡ sectors → BeginsAs slots image → IsFoundIn image found)
    → IsSlotOf sectors c.slot c.tail.items × (c.copy ≤ 1)
counted_of slots sectors found c is size room told =
    let counts = subst (λ (o : Option Counted). IsFoundIn (padded slots sectors) o) is (told (padded slots sectors) (padded_size slots sectors size room) (padded_begins slots sectors)) in
    (subst (λ (n : ℕ). IsSlotOf n c.slot c.tail.items) (padded_size slots sectors size room) counts.valid.of, counts.valid.one_of_two)

-- the first sectors of the slots, read one by one
pub marked_by : (image : Image) (marked : Bool) (zeroth first second third : List ℕ) → zeroth ≡ get_or image 0 [] → first ≡ get_or image 32 [] → second ≡ get_or image 64 [] → third ≡ get_or image 96 []
    → IsTrue marked ↔ ((take 8 zeroth ≡ magic) ⊎ (take 12 first ≡ beginning) ⊎ (take 12 second ≡ beginning) ⊎ (take 12 third ≡ beginning)) → IsTrue marked ↔ IsMarked image
marked_by image marked zeroth first second third a b c d told =
    subst (λ (s : List ℕ). IsTrue marked ↔ ((take 8 (get_or image 0 []) ≡ magic) ⊎ (take 12 (get_or image 32 []) ≡ beginning) ⊎ (take 12 (get_or image 64 []) ≡ beginning) ⊎ (take 12 s ≡ beginning))) d
    (subst (λ (s : List ℕ). IsTrue marked ↔ ((take 8 (get_or image 0 []) ≡ magic) ⊎ (take 12 (get_or image 32 []) ≡ beginning) ⊎ (take 12 s ≡ beginning) ⊎ (take 12 third ≡ beginning))) c
    (subst (λ (s : List ℕ). IsTrue marked ↔ ((take 8 (get_or image 0 []) ≡ magic) ⊎ (take 12 s ≡ beginning) ⊎ (take 12 second ≡ beginning) ⊎ (take 12 third ≡ beginning))) b
    (subst (λ (s : List ℕ). IsTrue marked ↔ ((take 8 s ≡ magic) ⊎ (take 12 first ≡ beginning) ⊎ (take 12 second ≡ beginning) ⊎ (take 12 third ≡ beginning))) a told)))
