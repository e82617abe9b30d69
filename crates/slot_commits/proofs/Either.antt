-- What an image carries while a commit is written, and after it.
use Rattle.std.proofs.Common.{◌≡◌, ◌⊎◌, inl, inr, ℕ, ◌+◌, ◌*◌, ◌/◌, ◌%◌, ◌<◌, ◌≤◌, List, [], ◌++◌, length, refl, ap, sym, subst, ◌∙◌, arith, get_or, Bool, Option, None, Some, length-take, take-append-drop}
use Rattle.std.proofs.lemmas.Bool.{cases_lt}
use Rattle.std.proofs.lemmas.List.{ext_get_or, get_or-take}
use Rattle.sector_device.specs.Disk.{Image}
use Rattle.sector_device.specs.Sectors.{Begins, byte_at}
use Rattle.commit_slots.specs.Sealed.{Verifies}
use Rattle.commit_slots.specs.Slots.{Counts, IsCopy, IsHeld, IsSlotOf, block_start, slot_start}
use Rattle.commit_slots.specs.Fresh.{IsFresh, IsPartOf, MayTear}
use Rattle.commit_slots.specs.declared.slot.Slot.{Slot}
use Rattle.commit_slots.proofs.Mixed.{counts_either, in_slots, its_sector, one_counts, some_sectors, still_fresh}
use Rattle.slot_commits.specs.Pairs.{SlotOver}
use Rattle.slot_commits.specs.States.{CarriesInSlots, EitherInSlots, HoldsBlocks, Stands, State, blocks_of, slot_of, tail_of}
use Rattle.slot_commits.specs.Tears.{IsToldBy, IsTornBy}

-- fewer of the blocks
pub fewer_blocks : (image : Image) (start m n : ℕ) (bytes : List ℕ) → m ≤ n → Begins image start (blocks_of n bytes) → Begins image start (blocks_of m bytes)
fewer_blocks image start m n bytes few begins i lt =
    let low : i < 4096 * m = omega (arith, lt, length-take (4096 * m) bytes) in
    let high : i < 4096 * n = omega (arith, low, few) in
    begins i (omega (arith, lt, high, length-take (4096 * m) bytes, length-take (4096 * n) bytes)) ∙ get_or-take (4096 * n) bytes i 0 high ∙ sym (get_or-take (4096 * m) bytes i 0 low)

-- a slot names no more blocks than there are
pub named_blocks : (sectors number : ℕ) (c : State) → IsSlotOf sectors (slot_of c sectors number) (tail_of c) → c.blocks ≤ length c.bytes / 4096
named_blocks sectors number c of = omega (arith, of.length_is)

-- what stands counts
pub stands_counted : (number : ℕ) (c : State) (image : Image) → Stands number c image → Counts (slot_of c (length image) number) (tail_of c) 0 image
stands_counted number c image stands = record { valid = record { one_of_two = omega arith; of = stands.of; held = stands.first }; highest = highest }
  where
    highest : (other : Slot) (rest : List ℕ) (place : ℕ) → IsCopy other rest place image → (other.number < number) ⊎ ((other.number ≡ number) × (0 ≤ place))
    highest other rest place valid =
        let lt = (some_sectors other rest place image valid).0 in
        let first = its_sector other rest place image valid 0 lt in
        let low : other.number < number + 1 = omega (arith, first.1, stands.fresh (slot_start other.number place + 0) (in_slots other rest place image valid 0 (omega arith)) first.0) in
        elim (cases_lt other.number number) [
          | inl lower ↦ inl lower
          | inr same ↦ inr (omega (arith, same, low), omega arith)
        ]

-- and is carried
pub stands_carries : (number : ℕ) (c : State) (image : Image) → Stands number c image → CarriesInSlots c image
stands_carries number c image stands = record {
  number = number;
  copy = 0;
  counted = stands_counted number c image stands;
  begins = fewer_blocks image (block_start (length image) c.half) c.blocks (length c.bytes / 4096) c.bytes (named_blocks (length image) number c stands.of) stands.begins;
}

-- its numbers are low
pub stands_below : (number : ℕ) (c : State) (image : Image) → Stands number c image → IsFresh (number + 2) image
stands_below number c image stands k lt verifies = let low = stands.fresh k lt verifies in omega (arith, low)

-- what an image carries is determined
pub carries_one : (image : Image) (c d : State) → CarriesInSlots c image → CarriesInSlots d image → c ≡ d
carries_one image c d first second =
    let n = length image in
    let same = one_counts image (slot_of c n first.number) (slot_of d n second.number) (tail_of c) (tail_of d) first.copy second.copy first.counted second.counted in
    let half_is : c.half ≡ d.half = ap (λ (s : Slot). s.half) same.0 in
    let seq_is : c.seq ≡ d.seq = ap (λ (s : Slot). s.seq) same.0 in
    let opens_is : c.opens ≡ d.opens = ap (λ (s : Slot). s.opens) same.0 in
    let identity_is : c.identity ≡ d.identity = ap (λ (s : Slot). s.identity) same.0 in
    let blocks_is : c.blocks ≡ d.blocks = ap (λ (s : Slot). s.blocks) same.0 in
    let length_is : length c.bytes ≡ length d.bytes = ap (λ (s : Slot). s.length) same.0 in
    let long_c = length-take (4096 * c.blocks) c.bytes in
    let long_d = length-take (4096 * d.blocks) d.bytes in
    let fronts : blocks_of c.blocks c.bytes ≡ blocks_of d.blocks d.bytes
    = ext_get_or 0 (blocks_of c.blocks c.bytes) (blocks_of d.blocks d.bytes) (omega (arith, long_c, long_d, blocks_is, length_is))
    (λ i lt. sym (first.begins i lt) ∙ ap (λ (h : ℕ). byte_at image (block_start n h) i) half_is ∙ second.begins i (omega (arith, lt, long_c, long_d, blocks_is, length_is))) in
    let bytes_is : c.bytes ≡ d.bytes = sym (take-append-drop (4096 * c.blocks) c.bytes) ∙ (λ i. fronts i ++ same.1 i) ∙ take-append-drop (4096 * d.blocks) d.bytes in
    λ i. record { half = half_is i; bytes = bytes_is i; seq = seq_is i; opens = opens_is i; blocks = blocks_is i; identity = identity_is i }

-- a copy that is written leaves all behind the slots
module _ (torn : Option (List ℕ → Bool)) (slot : Slot) (tail : List ℕ) (copy : ℕ) (mid image : Image) (low : copy ≤ 1) (fits : length tail ≤ 15428) (over : SlotOver torn slot tail copy mid image) where
  pub behind_slots : (k : ℕ) → 128 ≤ k → get_or image k [] ≡ get_or mid k []
  behind_slots k past = elim (over.each k) [
    | inl same ↦ same
    | inr (inl of) ↦ absurd (omega (arith, of.1, of.2, past, low, fits))
    | inr (inr damage) ↦ absurd (omega (arith, damage.0, past, low))
  ]

  pub blocks_over : (count : ℕ) (c : State) → HoldsBlocks count c mid → HoldsBlocks count c image
  blocks_over count c holds i lt =
      let place : 128 ≤ block_start (length mid) c.half + i / 512 = omega arith in
      ap (λ (n : ℕ). byte_at image (block_start n c.half) i) over.size ∙ ap (λ (s : List ℕ). get_or s (i % 512) 0) (behind_slots (block_start (length mid) c.half + i / 512) place) ∙ holds i lt

-- a torn sector doesn't verify
pub noticed : (torn : Option (List ℕ → Bool)) (sector : List ℕ) → IsToldBy torn → IsTornBy torn sector → Verifies sector → ⊥
noticed None sector told damage verifies = absurd damage
noticed (Some torn) sector told damage verifies = told sector damage.1 verifies

-- ---- a commit is under way

pub record Between (number : ℕ) (c new : State) (image : Image) : Type 0 where
  pub before : Image
  pub size : length image ≡ length before
  pub stands : Stands number c before
  pub of : IsSlotOf (length before) (slot_of new (length before) (number + 1)) (tail_of new)
  pub may : MayTear (slot_of new (length before) (number + 1)) (tail_of new) before image
  pub stays : (k : ℕ) → k < 128 → k / 64 ≡ number % 2 → get_or image k [] ≡ get_or before k []
  pub old_blocks : HoldsBlocks c.blocks c image
  pub new_blocks : HoldsBlocks new.blocks new image

module _ (number : ℕ) (c new : State) where
  pub between_start : (image : Image) → Stands number c image → IsSlotOf (length image) (slot_of new (length image) (number + 1)) (tail_of new) → HoldsBlocks new.blocks new image → Between number c new image
  between_start image stands of holds =
      record { before = image; size = refl; stands = stands; of = of; may = λ k lt. inl refl; stays = λ k lt pair. refl; old_blocks = (stands_carries number c image stands).begins; new_blocks = holds }

  -- a copy is written
  pub between_more : (torn : Option (List ℕ → Bool)) (copy : ℕ) (mid image : Image) → IsToldBy torn → copy ≤ 1 → (between : Between number c new mid)
      → SlotOver torn (slot_of new (length between.before) (number + 1)) (tail_of new) copy mid image → Between number c new image
  between_more torn copy mid image told low between over = record {
    before = between.before;
    size = over.size ∙ between.size;
    stands = between.stands;
    of = between.of;
    may = λ k lt. elim (over.each k) [
      | inl same ↦ subst (λ (s : List ℕ). (s ≡ get_or between.before k []) ⊎ (Verifies s → ⊥) ⊎ IsPartOf (slot_of new (length between.before) (number + 1)) (tail_of new) k s) (sym same) (between.may k lt)
      | inr (inl part) ↦ inr (inr (copy, part.0, low, part.1, part.2, part.3))
      | inr (inr damage) ↦ inr (inl (noticed torn (get_or image k []) told damage.1))
    ];
    stays = λ k lt pair. elim (over.each k) [
      | inl same ↦ same ∙ between.stays k lt pair
      | inr (inl part) ↦ absurd (omega (arith, part.1, part.2, pair, low, between.of.tail_fits))
      | inr (inr damage) ↦ absurd (omega (arith, damage.0, pair, low))
    ];
    old_blocks = blocks_over torn (slot_of new (length between.before) (number + 1)) (tail_of new) copy mid image low between.of.tail_fits over c.blocks c between.old_blocks;
    new_blocks = blocks_over torn (slot_of new (length between.before) (number + 1)) (tail_of new) copy mid image low between.of.tail_fits over new.blocks new between.new_blocks;
  }

  module _ (image : Image) (between : Between number c new image) where
    abbrev slot : Slot
    slot = slot_of new (length between.before) (number + 1)

    abbrev was : Slot
    was = slot_of c (length between.before) number

    old_held : IsHeld was (tail_of c) (slot_start number 0) image
    old_held k lt =
        let few : k < 32 = omega (arith, lt, between.stands.of.tail_fits) in
        between.stays (slot_start number 0 + k) (omega (arith, few)) (omega (arith, few)) ∙ between.stands.first k lt

    -- it carries what was there before, or what is new
    pub between_either : EitherInSlots c new image
    between_either =
        elim (counts_either slot (tail_of new) between.before image between.size between.of between.stands.fresh between.may was (tail_of c) 0 (stands_counted number c between.before between.stands) old_held) [
          | inl old ↦ inl (record { number = number; copy = 0; counted = subst (λ (n : ℕ). Counts (slot_of c n number) (tail_of c) 0 image) (sym between.size) old; begins = between.old_blocks })
          | inr counted ↦ inr (
              record { number = number + 1; copy = counted.0; counted = subst (λ (n : ℕ). Counts (slot_of new n (number + 1)) (tail_of new) counted.0 image) (sym between.size) counted.1; begins = between.new_blocks }
              )
        ]

    -- its numbers are low
    pub between_fresh : IsFresh (number + 2) image
    between_fresh k lt verifies = let low = still_fresh slot (tail_of new) between.before image between.size between.of between.stands.fresh between.may k lt verifies in omega (arith, low)

    -- and both copies of it are held
    pub between_stands : IsHeld slot (tail_of new) (slot_start (number + 1) 0) image → IsHeld slot (tail_of new) (slot_start (number + 1) 1) image → HoldsBlocks (length new.bytes / 4096) new image → Stands (number + 1) new image
    between_stands first mate holds = record {
      of = subst (λ (n : ℕ). IsSlotOf n (slot_of new n (number + 1)) (tail_of new)) (sym between.size) between.of;
      first = subst (λ (n : ℕ). IsHeld (slot_of new n (number + 1)) (tail_of new) (slot_start (number + 1) 0) image) (sym between.size) first;
      mate = subst (λ (n : ℕ). IsHeld (slot_of new n (number + 1)) (tail_of new) (slot_start (number + 1) 1) image) (sym between.size) mate;
      fresh = still_fresh slot (tail_of new) between.before image between.size between.of between.stands.fresh between.may;
      begins = holds;
    }
