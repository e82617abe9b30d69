-- Which copy counts where a commit is written under a fresh number.
use Rattle.std.proofs.Common.{◌≡◌, ◌⊎◌, inl, inr, ℕ, zero, suc, ◌+◌, ◌%◌, ◌<◌, ◌≤◌, List, [], length, refl, ap, sym, subst, ◌∙◌, arith, get_or, Bool, true, false, ◌&&◌, nat_eq, Decides}
use Rattle.std.specs.Cmp.Lexicographic.{pointwise, bytes_decides}
use Rattle.std.proofs.lemmas.Bool.Decides.{Decides-below_and}
use Rattle.std.proofs.lemmas.Bool.{cases_lt}
use Rattle.commit_slots.specs.Sealed.{Verifies, number_of}
use Rattle.commit_slots.specs.Slots.{Counts, Image, IsCopy, IsHeld, IsSlotOf, count_of, slot_sector, slot_start}
use Rattle.commit_slots.specs.Fresh.{IsCounted, IsFresh, IsPartOf, MayTear}
use Rattle.commit_slots.specs.declared.slot.Slot.{Slot}
use Rattle.commit_slots.proofs.Said.{one_length, one_slot, one_tail, sector_number, sector_verifies}

-- whether a slot is held can be told
abbrev held_below : Slot → List ℕ → ℕ → Image → ℕ → Bool
held_below slot tail start image zero = true
held_below slot tail start image (suc n) = pointwise nat_eq (get_or image (start + n) []) (slot_sector slot tail n) && held_below slot tail start image n

decided : (b : Bool) (P : Type 0) → Decides b P → P ⊎ (P → ⊥)
decided true P is = inl (is.0 refl)
decided false P is = inr (λ p. let contrary : false ≡ true = is.1 p in absurd (cc contrary))

pub is_held_or_not : (slot : Slot) (tail : List ℕ) (start : ℕ) (image : Image) → IsHeld slot tail start image ⊎ (IsHeld slot tail start image → ⊥)
is_held_or_not slot tail start image =
    decided (held_below slot tail start image (count_of (length tail))) (IsHeld slot tail start image)
    (Decides-below_and (λ k. pointwise nat_eq (get_or image (start + k) []) (slot_sector slot tail k)) (λ k. get_or image (start + k) [] ≡ slot_sector slot tail k) (held_below slot tail start image)
    (λ k. bytes_decides (get_or image (start + k) []) (slot_sector slot tail k)) refl (λ n. refl) (count_of (length tail)))

-- a copy that is valid, by its sectors
module _ (slot : Slot) (tail : List ℕ) (copy : ℕ) (image : Image) (valid : IsCopy slot tail copy image) where
  abbrev start : ℕ
  start = slot_start slot.number copy

  pub some_sectors : (0 < count_of (length tail)) × (count_of (length tail) ≤ 32)
  some_sectors = (omega arith, omega (arith, valid.of.tail_fits))

  pub in_slots : (k : ℕ) → k < 32 → start + k < 128
  in_slots k lt = omega (arith, lt, valid.one_of_two)

  pub its_sector : (k : ℕ) → k < count_of (length tail) → Verifies (get_or image (start + k) []) × (number_of (get_or image (start + k) []) ≡ slot.number)
  its_sector k lt =
      let is : get_or image (start + k) [] ≡ slot_sector slot tail k = valid.held k lt in
      (subst Verifies (sym is) (sector_verifies slot tail k), ap number_of is ∙ sector_number slot tail k valid.of.number_fits)

-- the new commit is written in its slots
module _ (new : Slot) (tail : List ℕ) (before image : Image) (size : length image ≡ length before) (of : IsSlotOf (length before) new tail) (fresh : IsFresh new.number before) (may : MayTear new tail before image) where
  -- a sector that verifies has a lower number, and is as it was, or is a new one
  pub told : (k : ℕ) → k < 128 → Verifies (get_or image k [])
      → ((get_or image k [] ≡ get_or before k []) × (number_of (get_or image k []) < new.number)) ⊎ (IsPartOf new tail k (get_or image k []) × (number_of (get_or image k []) ≡ new.number))
  told k lt verifies = elim (may k lt) [
    | inl same ↦ inl (same, subst (λ (s : List ℕ). number_of s < new.number) (sym same) (fresh k lt (subst Verifies same verifies)))
    | inr (inl torn) ↦ absurd (torn verifies)
    | inr (inr part) ↦ inr (part, ap number_of part.5 ∙ sector_number new tail part.1 of.number_fits)
  ]

  -- its number is none above the new one
  at_most : (other : Slot) (rest : List ℕ) (place : ℕ) → IsCopy other rest place image → (other.number < new.number) ⊎ (other.number ≡ new.number)
  at_most other rest place valid =
      let lt = (some_sectors other rest place image valid).0 in
      let first = its_sector other rest place image valid 0 lt in
      elim (told (slot_start other.number place + 0) (in_slots other rest place image valid 0 (omega arith)) first.0) [
        | inl older ↦ inl (omega (arith, older.1, first.1))
        | inr newer ↦ inr (omega (arith, newer.1, first.1))
      ]

  -- under the new number it is the new commit
  is_new : (other : Slot) (rest : List ℕ) (place : ℕ) → IsCopy other rest place image → other.number ≡ new.number → IsHeld new tail (slot_start new.number place) image
  is_new other rest place valid same k lt = ap (λ (n : ℕ). get_or image (slot_start n place + k) []) (sym same) ∙ part k (omega (arith, lt, long))
    where
      part : (k : ℕ) → k < count_of (length rest) → get_or image (slot_start other.number place + k) [] ≡ slot_sector new tail k
      part k lt =
          let few = (some_sectors other rest place image valid).1 in
          let its = its_sector other rest place image valid k lt in
          elim (told (slot_start other.number place + k) (in_slots other rest place image valid k (omega (arith, lt, few))) its.0) [
            | inl older ↦ absurd (omega (arith, older.1, its.1, same))
            | inr newer ↦ newer.0.5 ∙ ap (slot_sector new tail) (omega (arith, newer.0.4, newer.0.3, newer.0.2, of.tail_fits, valid.one_of_two, lt, few, ap (λ (n : ℕ). n % 2) same))
          ]

      of_other : IsSlotOf (length before) other rest
      of_other = subst (λ (n : ℕ). IsSlotOf n other rest) size valid.of

      one : new ≡ other
      one = let lt = (some_sectors other rest place image valid).0 in one_slot (length before) new other tail rest of of_other (sym (part 0 lt) ∙ valid.held 0 lt)

      long : length tail ≡ length rest
      long = one_length (length before) new other tail rest of of_other one

  -- under a lower one it was there before
  was_there : (other : Slot) (rest : List ℕ) (place : ℕ) → IsCopy other rest place image → other.number < new.number → IsCopy other rest place before
  was_there other rest place valid lower = record {
    one_of_two = valid.one_of_two;
    of = subst (λ (n : ℕ). IsSlotOf n other rest) size valid.of;
    held = λ k lt.
        let few = (some_sectors other rest place image valid).1 in
        let its = its_sector other rest place image valid k lt in
        elim (told (slot_start other.number place + k) (in_slots other rest place image valid k (omega (arith, lt, few))) its.0) [
          | inl older ↦ sym older.0 ∙ valid.held k lt
          | inr newer ↦ absurd (omega (arith, newer.1, its.1, lower))
        ];
  }

  copy_now : (copy : ℕ) → copy ≤ 1 → IsHeld new tail (slot_start new.number copy) image → IsCopy new tail copy image
  copy_now copy low held = record { one_of_two = low; of = subst (λ (n : ℕ). IsSlotOf n new tail) (sym size) of; held = held }

  -- where a copy of it is held it counts
  pub counts_new : (copy : ℕ) → copy ≤ 1 → IsHeld new tail (slot_start new.number copy) image → IsCounted new tail image
  counts_new copy low held = elim (is_held_or_not new tail (slot_start new.number 0) image) [
    | inl first ↦ (
      0,
      record {
        valid = copy_now 0 (omega arith) first;
        highest = λ other rest place valid. elim (at_most other rest place valid) [
          | inl lower ↦ inl lower
          | inr same ↦ inr (same, omega arith)
        ];
      },
    )
    | inr missing ↦ (
      copy,
      record {
        valid = copy_now copy low held;
        highest = λ other rest place valid. elim (at_most other rest place valid) [
          | inl lower ↦ inl lower
          | inr same ↦ inr (same, second place missing (is_new other rest place valid same))
        ];
      },
    )
  ]
    where
      second : (place : ℕ) → (IsHeld new tail (slot_start new.number 0) image → ⊥) → IsHeld new tail (slot_start new.number place) image → copy ≤ place
      second place missing there = elim (cases_lt place 1) [
        | inl first ↦ let is : place ≡ 0 = omega (arith, first) in absurd (missing (subst (λ (n : ℕ). IsHeld new tail (slot_start new.number n) image) is there))
        | inr behind ↦ omega (arith, behind, low)
      ]

  -- the copy that counted before counts, if it stays, or the new commit does
  pub counts_either : (old : Slot) (was : List ℕ) (p : ℕ) → Counts old was p before → IsHeld old was (slot_start old.number p) image → Counts old was p image ⊎ IsCounted new tail image
  counts_either old was p counted stays = elim (is_held_or_not new tail (slot_start new.number 0) image) [
    | inl first ↦ inr (counts_new 0 (omega arith) first)
    | inr missing ↦ elim (is_held_or_not new tail (slot_start new.number 1) image) [
      | inl second ↦ inr (counts_new 1 (omega arith) second)
      | inr none ↦ inl (
          record {
            valid = record { one_of_two = counted.valid.one_of_two; of = subst (λ (n : ℕ). IsSlotOf n old was) (sym size) counted.valid.of; held = stays };
            highest = λ other rest place valid. elim (at_most other rest place valid) [
              | inl lower ↦ counted.highest other rest place (was_there other rest place valid lower)
              | inr same ↦ absurd (neither missing none place valid.one_of_two (is_new other rest place valid same))
            ];
          }
          )
    ]
  ]
    where
      neither : (IsHeld new tail (slot_start new.number 0) image → ⊥) → (IsHeld new tail (slot_start new.number 1) image → ⊥) → (place : ℕ) → place ≤ 1 → IsHeld new tail (slot_start new.number place) image → ⊥
      neither first second place low there = elim (cases_lt place 1) [
        | inl zeroth ↦ let is : place ≡ 0 = omega (arith, zeroth) in first (subst (λ (n : ℕ). IsHeld new tail (slot_start new.number n) image) is there)
        | inr behind ↦ let is : place ≡ 1 = omega (arith, behind, low) in second (subst (λ (n : ℕ). IsHeld new tail (slot_start new.number n) image) is there)
      ]

  -- the next number is fresh
  pub still_fresh : IsFresh (new.number + 1) image
  still_fresh k lt verifies = elim (told k lt verifies) [
    | inl older ↦ omega (arith, older.1)
    | inr newer ↦ omega (arith, newer.1)
  ]

-- what counts is determined
pub one_counts : (image : Image) (a b : Slot) (s t : List ℕ) (p q : ℕ) → Counts a s p image → Counts b t q image → (a ≡ b) × (s ≡ t) × (p ≡ q)
one_counts image a b s t p q first second = (slots, tails, places)
  where
    numbers : a.number ≡ b.number
    numbers = elim (first.highest b t q second.valid) [
      | inl lower ↦ elim (second.highest a s p first.valid) [
        | inl higher ↦ absurd (omega (arith, lower, higher))
        | inr same ↦ same.0
      ]
      | inr same ↦ sym same.0
    ]

    places : p ≡ q
    places = elim (first.highest b t q second.valid) [
      | inl lower ↦ absurd (omega (arith, lower, numbers))
      | inr low ↦ elim (second.highest a s p first.valid) [
        | inl higher ↦ absurd (omega (arith, higher, numbers))
        | inr high ↦ omega (arith, low.1, high.1)
      ]
    ]

    starts : slot_start a.number p ≡ slot_start b.number q
    starts i = slot_start (numbers i) (places i)

    slots : a ≡ b
    slots = one_slot (length image) a b s t first.valid.of second.valid.of
        (sym (first.valid.held 0 (some_sectors a s p image first.valid).0) ∙ ap (λ (n : ℕ). get_or image (n + 0) []) starts ∙ second.valid.held 0 (some_sectors b t q image second.valid).0)

    tails : s ≡ t
    tails = one_tail a s t (slot_start a.number p) image (one_length (length image) a b s t first.valid.of second.valid.of slots) first.valid.held
        (subst (λ (n : ℕ). IsHeld a t n image) (sym starts) (subst (λ (m : Slot). IsHeld m t (slot_start b.number q) image) (sym slots) second.valid.held))
