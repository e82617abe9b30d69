-- What is found in the four slots.
use Rattle.std.proofs.Common.{◌≡◌, ◌≢◌, ◌⊎◌, inl, inr, ℕ, ◌+◌, ◌-◌, ◌*◌, ◌/◌, ◌%◌, ◌<◌, ◌≤◌, List, [], length, take, drop, refl, ap, sym, subst, ◌∙◌, arith, get_or, Option, Some, None, MatchOption}
use Rattle.std.proofs.lemmas.Bool.{cases_lt}
use Rattle.std.proofs.lemmas.List.{get_or-take, get_or-drop}
use Rattle.commit_slots.specs.Slots.{Counts, Image, IsCopy, IsHeld, IsSlotOf, count_of, slot_sector, slot_start}
use Rattle.commit_slots.specs.Finding.{BeginsAs, HasPair, IsBestOf, IsFoundAt, IsFoundIn, slot_place}
use Rattle.commit_slots.specs.declared.slot.Slot.{Slot}
use Rattle.commit_slots.specs.declared.counted.Counted.{Counted}
use Rattle.commit_slots.proofs.Said.{one_slot}
use Rattle.commit_slots.proofs.Mixed.{some_sectors}

-- what a match tells of an option
pub none_is : {X : Type 0} (found : Option X) (A : Type 0) (B : X → Type 0) → MatchOption found A B → found ≡ None → A
none_is None A B told is = told
none_is (Some x) A B told is = cc

pub some_is : {X : Type 0} (found : Option X) (x : X) (A : Type 0) (B : X → Type 0) → MatchOption found A B → found ≡ Some x → B x
some_is {X} found x A B told is = subst (λ (o : Option X). MatchOption o A B) is told

-- the slot of a place
module _ (slots part image : Image) (sectors place : ℕ) (size : length slots ≡ 128) (few : place < 4) (part_is : part ≡ take 32 (drop (32 * place) slots)) (long : length image ≡ sectors) (begins : BeginsAs slots image) where
  same_sector : (k : ℕ) → k < 32 → get_or part (0 + k) [] ≡ get_or image (32 * place + k) []
  same_sector k lt =
      let at : 0 + k ≡ k = omega arith in
      ap (λ (n : ℕ). get_or part n []) at ∙ ap (λ (l : Image). get_or l k []) part_is ∙ get_or-take 32 (drop (32 * place) slots) k [] lt ∙ get_or-drop (32 * place) slots k [] ∙ sym (begins (32 * place + k) (omega (arith, lt, size, few)))

  place_start : (number copy : ℕ) → slot_place number copy ≡ place → slot_start number copy ≡ 32 * place
  place_start number copy is = omega (arith, is)

  -- a copy there is held in it
  pub there : (slot : Slot) (tail : List ℕ) (copy : ℕ) → IsCopy slot tail copy image → slot_place slot.number copy ≡ place → IsHeld slot tail 0 part
  there slot tail copy valid is k lt =
      let at : 32 * place + k ≡ slot_start slot.number copy + k = omega (arith, is) in
      same_sector k (omega (arith, lt, (some_sectors slot tail copy image valid).1)) ∙ ap (λ (n : ℕ). get_or image n []) at ∙ valid.held k lt

  pub of_part : (slot : Slot) (tail : List ℕ) (copy : ℕ) → IsCopy slot tail copy image → IsSlotOf sectors slot tail
  of_part slot tail copy valid = subst (λ (n : ℕ). IsSlotOf n slot tail) long valid.of

  -- and one that is held in it is a copy there
  pub copy_there : (slot : Slot) (tail : List ℕ) → IsSlotOf sectors slot tail → IsHeld slot tail 0 part → slot.number % 2 ≡ place / 2 → IsCopy slot tail (place % 2) image × (slot_place slot.number (place % 2) ≡ place)
  copy_there slot tail of held pair = (
    record {
      one_of_two = omega arith;
      of = subst (λ (n : ℕ). IsSlotOf n slot tail) (sym long) of;
      held = λ k lt.
          let at : slot_start slot.number (place % 2) + k ≡ 32 * place + k = omega (arith, pair) in
          ap (λ (n : ℕ). get_or image n []) at ∙ sym (same_sector k (omega (arith, lt, of.tail_fits))) ∙ held k lt;
    },
    omega (arith, pair),
  )

  -- a commit of the other pair that is held in it is no copy, and there is no other
  pub none_there : (one : Slot) (rest : List ℕ) → IsSlotOf sectors one rest → IsHeld one rest 0 part → one.number % 2 ≢ place / 2 → (slot : Slot) (tail : List ℕ) (copy : ℕ) → IsCopy slot tail copy image → slot_place slot.number copy ≢ place
  none_there one rest of held other slot tail copy valid is =
      let same : one ≡ slot = one_slot sectors one slot rest tail of (of_part slot tail copy valid) (sym (held 0 (omega arith)) ∙ there slot tail copy valid is 0 (omega arith)) in
      other (omega (arith, ap (λ (s : Slot). s.number) same, is, valid.one_of_two))

-- of two the higher one
module _ (image : Image) (places : ℕ) where
  pub best_none : (one : Option Counted) → IsBestOf places image one → IsFoundAt places image None → IsBestOf (places + 1) image one
  best_none None best none = λ slot tail copy valid.
      let low = best slot tail copy valid in
      let other = none slot tail copy valid in
      omega (arith, low, other)
  best_none (Some c) best none = (
    best.0,
    omega (arith, best.1),
    λ other rest copy valid lt. best.2 other rest copy valid (let different = none other rest copy valid in omega (arith, lt, different)),
  )

  -- another copy in the same slot has the same number
  same_there : (c : Counted) → IsFoundAt places image (Some c) → (other : Slot) (rest : List ℕ) (copy : ℕ) → IsCopy other rest copy image → slot_place other.number copy ≡ places → (other.number ≡ c.slot.number) × (c.copy ≤ copy)
  same_there c found other rest copy valid is =
      let start : slot_start other.number copy ≡ slot_start c.slot.number c.copy = omega (arith, is, found.1) in
      let one : other ≡ c.slot = one_slot (length image) other c.slot rest c.tail.items valid.of found.0.of
      (sym (valid.held 0 (some_sectors other rest copy image valid).0) ∙ ap (λ (n : ℕ). get_or image (n + 0) []) start ∙ found.0.held 0 (some_sectors c.slot c.tail.items c.copy image found.0).0) in
      let number = ap (λ (s : Slot). s.number) one in
      (number, omega (arith, number, is, found.1))

  pub best_first : (c : Counted) → IsBestOf places image None → IsFoundAt places image (Some c) → IsBestOf (places + 1) image (Some c)
  best_first c none found = (
    found.0,
    omega (arith, found.1),
    λ other rest copy valid lt. inr (same_there c found other rest copy valid (let low = none other rest copy valid in omega (arith, low, lt))),
  )

  pub best_other : (b c : Counted) → b.slot.number < c.slot.number → IsBestOf places image (Some b) → IsFoundAt places image (Some c) → IsBestOf (places + 1) image (Some c)
  best_other b c more best found = (found.0, omega (arith, found.1), λ other rest copy valid lt. one other rest copy valid (cases_lt (slot_place other.number copy) places) lt)
    where
      one : (other : Slot) (rest : List ℕ) (copy : ℕ) → IsCopy other rest copy image → (slot_place other.number copy < places) ⊎ (places ≤ slot_place other.number copy) → slot_place other.number copy < places + 1
          → (other.number < c.slot.number) ⊎ ((other.number ≡ c.slot.number) × (c.copy ≤ copy))
      one other rest copy valid (inl low) lt = elim (best.2 other rest copy valid low) [
        | inl less ↦ inl (omega (arith, less, more))
        | inr same ↦ inl (omega (arith, same.0, more))
      ]
      one other rest copy valid (inr high) lt = inr (same_there c found other rest copy valid (omega (arith, high, lt)))

  pub best_stays : (b c : Counted) → c.slot.number ≤ b.slot.number → IsBestOf places image (Some b) → IsFoundAt places image (Some c) → IsBestOf (places + 1) image (Some b)
  best_stays b c less best found = (best.0, omega (arith, best.1), λ other rest copy valid lt. one other rest copy valid (cases_lt (slot_place other.number copy) places) lt)
    where
      one : (other : Slot) (rest : List ℕ) (copy : ℕ) → IsCopy other rest copy image → (slot_place other.number copy < places) ⊎ (places ≤ slot_place other.number copy) → slot_place other.number copy < places + 1
          → (other.number < b.slot.number) ⊎ ((other.number ≡ b.slot.number) × (b.copy ≤ copy))
      one other rest copy valid (inl low) lt = best.2 other rest copy valid low
      one other rest copy valid (inr high) lt =
          let same = same_there c found other rest copy valid (omega (arith, high, lt)) in
          elim (cases_lt c.slot.number b.slot.number) [
            | inl lower ↦ inl (omega (arith, same.0, lower))
            | inr equal ↦ let number : other.number ≡ b.slot.number = omega (arith, same.0, equal, less) in inr (number, omega (arith, number, ap (λ (n : ℕ). n % 2) number, best.1, high))
          ]

-- all four
pub best_of_none : (image : Image) → IsBestOf 0 image None
best_of_none image slot tail copy valid = omega arith

pub best_of_one : (image : Image) (one : Option Counted) → IsFoundAt 0 image one → IsBestOf 1 image one
best_of_one image None none = λ slot tail copy valid. let other = none slot tail copy valid in omega (arith, other)
best_of_one image (Some c) found = best_first image 0 c (best_of_none image) found

pub best_of_four : (image : Image) (found : Option Counted) → IsBestOf 4 image found → IsFoundIn image found
best_of_four image None none = λ slot tail copy valid. let high = none slot tail copy valid in let low = valid.one_of_two in omega (arith, high, low)
best_of_four image (Some c) best = record { valid = best.0; highest = λ other rest copy valid. best.2 other rest copy valid (omega (arith, valid.one_of_two)) }

-- a pair of slots
pub pair_none : (image : Image) (pair : ℕ) → pair ≤ 1 → IsFoundAt (2 * pair) image None → IsFoundAt (2 * pair + 1) image None → HasPair pair image → ⊥
pair_none image pair low first mate has =
    let other = first has.0 has.1 has.2 has.3 in
    let another = mate has.0 has.1 has.2 has.3 in
    omega (arith, has.3.one_of_two, has.4, other, another)

pub pair_some : (image : Image) (pair place : ℕ) (c : Counted) → IsFoundAt place image (Some c) → place / 2 ≡ pair → HasPair pair image
pair_some image pair place c found is = (c.slot, c.tail.items, c.copy, found.0, omega (arith, found.0.one_of_two, found.1, is))
