-- Damage of an image that stands.
use Rattle.std.proofs.Common.{◌≡◌, ◌≢◌, ◌⊎◌, inl, inr, ℕ, ◌+◌, ◌-◌, ◌*◌, ◌/◌, ◌%◌, ◌<◌, ◌≤◌, List, [], ◌++◌, length, refl, ap, sym, subst, ◌∙◌, arith, get_or, length-take, take-append-drop}
use Rattle.std.proofs.lemmas.Bool.{cases_eq}
use Rattle.sector_device.specs.Disk.{Image}
use Rattle.sector_device.specs.Sectors.{Begins}
use Rattle.commit_slots.specs.Slots.{Counts, IsCopy, IsHeld, IsSlotOf, block_start, count_of, slot_start}
use Rattle.commit_slots.specs.Finding.{HasPair}
use Rattle.commit_slots.specs.declared.slot.Slot.{Slot}
use Rattle.commit_slots.proofs.Mixed.{in_slots, is_held_or_not, its_sector, one_counts, some_sectors}
use Rattle.commit_slots.proofs.Said.{one_length, one_slot, one_tail}
use Rattle.slot_commits.specs.Damages.{HoldsCopy, IsDamaged, IsOneBlock, IsTold}
use Rattle.slot_commits.specs.Finds.{IsNotice}
use Rattle.slot_commits.specs.Pairs.{KeepsOutside}
use Rattle.slot_commits.specs.States.{CarriesInSlots, Stands, State, blocks_of, slot_of, tail_of}
use Rattle.slot_commits.specs.declared.found.Notice.{Notice}
use Rattle.slot_commits.specs.declared.found.Notice.TheVariants.{Whole, Mended, CutOff}
use Rattle.slot_commits.proofs.Either.{stands_carries, stands_counted}
use Rattle.slot_commits.proofs.Runs.{blocks_outside, half_is}

-- two copies in one place are the same
same_place : (image : Image) (a b : Slot) (s t : List ℕ) (p q : ℕ) → IsCopy a s p image → IsCopy b t q image → slot_start a.number p ≡ slot_start b.number q → (a ≡ b) × (s ≡ t)
same_place image a b s t p q first second starts = (slots, tails)
  where
    slots : a ≡ b
    slots = one_slot (length image) a b s t first.of second.of
        (sym (first.held 0 (some_sectors a s p image first).0) ∙ ap (λ (n : ℕ). get_or image (n + 0) []) starts ∙ second.held 0 (some_sectors b t q image second).0)

    tails : s ≡ t
    tails = one_tail a s t (slot_start a.number p) image (one_length (length image) a b s t first.of second.of slots) first.held
        (subst (λ (n : ℕ). IsHeld a t n image) (sym starts) (subst (λ (m : Slot). IsHeld m t (slot_start b.number q) image) (sym slots) second.held))

module _ (number : ℕ) (c : State) (before image : Image) (stands : Stands number c before) (damaged : IsDamaged before image) where
  abbrev its : Slot
  its = slot_of c (length before) number

  abbrev Held : ℕ → Type 0
  Held copy = IsHeld (slot_of c (length before) number) (tail_of c) (slot_start number copy) image

  -- a copy that is valid was so before
  valid_before : (other : Slot) (rest : List ℕ) (place : ℕ) → IsCopy other rest place image → IsCopy other rest place before
  valid_before other rest place valid = record { one_of_two = valid.one_of_two; of = subst (λ (n : ℕ). IsSlotOf n other rest) damaged.size valid.of; held = λ k lt. sym (same k lt) ∙ valid.held k lt }
    where
      same : (k : ℕ) → k < count_of (length rest) → get_or image (slot_start other.number place + k) [] ≡ get_or before (slot_start other.number place + k) []
      same k lt =
          let few : k < 32 = omega (arith, lt, (some_sectors other rest place image valid).1) in
          elim (damaged.slots (slot_start other.number place + k) (in_slots other rest place image valid k few)) [
            | inl is ↦ is
            | inr never ↦ absurd (never (its_sector other rest place image valid k lt).0)
          ]

  its_copy : (copy : ℕ) → copy ≤ 1 → IsCopy its (tail_of c) copy before
  its_copy copy low = record { one_of_two = low; of = stands.of; held = held (half_is copy low) }
    where
      held : (copy ≡ 0) ⊎ (copy ≡ 1) → IsHeld its (tail_of c) (slot_start number copy) before
      held (inl zeroth) = subst (λ (n : ℕ). IsHeld its (tail_of c) (slot_start number n) before) (sym zeroth) stands.first
      held (inr one) = subst (λ (n : ℕ). IsHeld its (tail_of c) (slot_start number n) before) (sym one) stands.mate

  -- so one in its pair of slots is its own
  is_its : (other : Slot) (rest : List ℕ) (place : ℕ) → IsCopy other rest place image → other.number % 2 ≡ number % 2 → Held place
  is_its other rest place valid pair =
      let starts : slot_start number place ≡ slot_start other.number place = ap (λ (n : ℕ). 64 * n + 32 * place) (sym pair) in
      let same = same_place before its other (tail_of c) rest place place (its_copy place valid.one_of_two) (valid_before other rest place valid) starts in
      subst (λ (t : List ℕ). IsHeld its t (slot_start number place) image) (sym same.1) (subst (λ (s : Slot). IsHeld s rest (slot_start s.number place) image) (sym same.0) valid.held)

  low_number : (other : Slot) (rest : List ℕ) (place : ℕ) → IsCopy other rest place image → (other.number < number) ⊎ ((other.number ≡ number) × (0 ≤ place))
  low_number other rest place valid = (stands_counted number c before stands).highest other rest place (valid_before other rest place valid)

  copy_now : (copy : ℕ) → copy ≤ 1 → Held copy → IsCopy its (tail_of c) copy image
  copy_now copy low held = record { one_of_two = low; of = subst (λ (n : ℕ). IsSlotOf n its (tail_of c)) (sym damaged.size) stands.of; held = held }

  -- it counts, if one of its copies is held
  counted : (copy : ℕ) → copy ≤ 1 → Held copy → (place : ℕ) × Counts its (tail_of c) place image
  counted copy low held = elim (is_held_or_not its (tail_of c) (slot_start number 0) image) [
    | inl first ↦ (0, record { valid = copy_now 0 (omega arith) first; highest = low_number })
    | inr none ↦ elim (half_is copy low) [
      | inl zeroth ↦ absurd (none (subst (λ (n : ℕ). Held n) zeroth held))
      | inr one ↦ (1, record { valid = copy_now 1 (omega arith) (subst (λ (n : ℕ). Held n) one held); highest = mate none })
    ]
  ]
    where
      mate : (Held 0 → ⊥) → (other : Slot) (rest : List ℕ) (place : ℕ) → IsCopy other rest place image → (other.number < number) ⊎ ((other.number ≡ number) × (1 ≤ place))
      mate none other rest place valid = elim (low_number other rest place valid) [
        | inl lower ↦ inl lower
        | inr same ↦ elim (half_is place valid.one_of_two) [
          | inl zeroth ↦ absurd (none (subst (λ (n : ℕ). Held n) zeroth (is_its other rest place valid (ap (λ (n : ℕ). n % 2) same.0))))
          | inr one ↦ inr (same.0, omega (arith, one))
        ]
      ]

  counted_now : (copy : ℕ) → copy ≤ 1 → HoldsCopy number c copy image → (place : ℕ) × Counts (slot_of c (length image) number) (tail_of c) place image
  counted_now copy low held =
      let counts = counted copy low (subst (λ (n : ℕ). IsHeld (slot_of c n number) (tail_of c) (slot_start number copy) image) damaged.size held) in
      (counts.0, subst (λ (n : ℕ). Counts (slot_of c n number) (tail_of c) counts.0 image) (sym damaged.size) counts.1)

  -- and nothing else is carried, if the check tells damage of its blocks
  pub carried_same : (copy : ℕ) → copy ≤ 1 → HoldsCopy number c copy image → IsTold c image → (d : State) → CarriesInSlots d image → d ≡ c
  carried_same copy low held told d carries =
      let n = length image in
      let counts = counted_now copy low held in
      let same = one_counts image (slot_of d n carries.number) (slot_of c n number) (tail_of d) (tail_of c) carries.copy counts.0 carries.counted counts.1 in
      let half_same : d.half ≡ c.half = ap (λ (s : Slot). s.half) same.0 in
      let seq_same : d.seq ≡ c.seq = ap (λ (s : Slot). s.seq) same.0 in
      let opens_same : d.opens ≡ c.opens = ap (λ (s : Slot). s.opens) same.0 in
      let identity_same : d.identity ≡ c.identity = ap (λ (s : Slot). s.identity) same.0 in
      let blocks_same : d.blocks ≡ c.blocks = ap (λ (s : Slot). s.blocks) same.0 in
      let length_same : length d.bytes ≡ length c.bytes = ap (λ (s : Slot). s.length) same.0 in
      let fronts = told (blocks_of d.blocks d.bytes) (omega (arith, length-take (4096 * d.blocks) d.bytes, length-take (4096 * c.blocks) c.bytes, blocks_same, length_same))
      (subst (λ (h : ℕ). Begins image (block_start n h) (blocks_of d.blocks d.bytes)) half_same carries.begins) (ap (λ (s : Slot). s.check) same.0) in
      let bytes_same : d.bytes ≡ c.bytes = sym (take-append-drop (4096 * d.blocks) d.bytes) ∙ (λ i. fronts i ++ same.1 i) ∙ take-append-drop (4096 * c.blocks) c.bytes in
      λ i. record { half = half_same i; bytes = bytes_same i; seq = seq_same i; opens = opens_same i; blocks = blocks_same i; identity = identity_same i }

  -- one block is damaged: a copy is held
  apart : (block copy : ℕ) → IsOneBlock block before image → copy ≤ 1 → block / 4 ≢ slot_start number copy / 32 → HoldsCopy number c copy image
  apart block copy one low other = subst (λ (n : ℕ). IsHeld (slot_of c n number) (tail_of c) (slot_start number copy) image) (sym damaged.size)
      (λ k lt. let few : k < 32 = omega (arith, lt, stands.of.tail_fits) in one (slot_start number copy + k) (λ is. other (omega (arith, is, few))) ∙ (its_copy copy low).held k lt)

  pub one_held : (block : ℕ) → IsOneBlock block before image → (copy : ℕ) × (copy ≤ 1) × HoldsCopy number c copy image
  one_held block one = elim (cases_eq (block / 4) (slot_start number 0 / 32)) [
    | inl there ↦ (1, omega arith, apart block 1 one (omega arith) (λ is. omega (arith, is, there)))
    | inr other ↦ (0, omega arith, apart block 0 one (omega arith) other)
  ]

  -- and if it is one of the slots, the image carries the same
  pub slots_carry : (block : ℕ) → block < 16 → IsOneBlock block before image → CarriesInSlots c image
  slots_carry block low one =
      let held = one_held block one in
      let counts = counted_now held.0 held.1 held.2 in
      let outside : KeepsOutside 0 128 before image = record { size = damaged.size; same = λ k away. one k (λ is. behind k away is) } in
      record { number = number; copy = counts.0; counted = counts.1; begins = blocks_outside 0 128 c.blocks c before image outside (λ k above below. inr (omega (arith, above))) (stands_carries number c before stands).begins }
    where
      behind : (k : ℕ) → (k < 0) ⊎ (0 + 128 ≤ k) → k / 8 ≡ block → ⊥
      behind k (inl below) is = omega (arith, below)
      behind k (inr past) is = omega (arith, past, is, low)

  -- neither copy is held: the pair has no valid copy, and what counts is in the other
  pub told_cut_off : ((copy : ℕ) → copy ≤ 1 → HoldsCopy number c copy image → ⊥) → (slot : Slot) (tail : List ℕ) (copy : ℕ) (notice : Notice) → Counts slot tail copy image → IsNotice image slot tail notice → notice ≡ CutOff
  told_cut_off none slot tail copy notice counts is = one notice is
    where
      never : (other : Slot) (rest : List ℕ) (place : ℕ) → IsCopy other rest place image → other.number % 2 ≢ number % 2
      never other rest place valid pair = none place valid.one_of_two
          (subst (λ (n : ℕ). IsHeld (slot_of c n number) (tail_of c) (slot_start number place) image) (sym damaged.size) (is_its other rest place valid pair))

      no_other : HasPair (1 - slot.number % 2) image → ⊥
      no_other has = never has.0 has.1 has.2 has.3 (let mine = never slot tail copy counts.valid in omega (arith, has.4, mine))

      one : (n : Notice) → IsNotice image slot tail n → n ≡ CutOff
      one Whole both = absurd (no_other both.1)
      one Mended both = absurd (no_other both.1)
      one CutOff has = refl
