-- What a device is found to carry.
use Rattle.std.proofs.Common.{◌≡◌, ◌≢◌, ◌⊎◌, inl, inr, ℕ, ◌+◌, ◌-◌, ◌*◌, ◌/◌, ◌%◌, ◌<◌, ◌≤◌, ◌^◌, List, [], length, take, drop, get_or, refl, ap, sym, subst, ◌∙◌, arith, Bool, true, false, Option, None, Some, length-take}
use Rattle.sector_device.specs.Disk.{Image}
use Rattle.sector_device.specs.Sectors.{Begins}
use Rattle.checksum.specs.Crc.{crc_of}
use Rattle.commit_slots.specs.Sealed.{Verifies, magic, number_of}
use Rattle.commit_slots.specs.Slots.{Counts, IsCopy, IsSlotOf, block_start, slot_sector, slot_start, slots_capacity}
use Rattle.commit_slots.specs.Finding.{IsFoundIn, IsMarked}
use Rattle.commit_slots.specs.Fresh.{IsFresh}
use Rattle.commit_slots.specs.declared.slot.Slot.{Slot}
use Rattle.commit_slots.specs.declared.counted.Counted.{Counted}
use Rattle.commit_slots.proofs.Mixed.{one_counts}
use Rattle.slot_commits.specs.Loads.{Awaits, HasNumbers, load_calls, number_end, state_in}
use Rattle.slot_commits.specs.States.{CarriesInSlots, State, blocks_of, slot_of, tail_of}
use Rattle.slot_commits.proofs.Firsts.{slot_begins}

-- a copy looks like a store
pub sector_magic : (slot : Slot) (tail : List ℕ) → take 8 (slot_sector slot tail 0) ≡ magic
unfolding slot_sector
sector_magic slot tail = refl

pub copy_marks : (image : Image) (slot : Slot) (tail : List ℕ) (copy : ℕ) → IsCopy slot tail copy image → IsMarked image
copy_marks image slot tail copy valid = one (place_of_four slot.number copy valid.one_of_two)
  where
    first : get_or image (slot_start slot.number copy + 0) [] ≡ slot_sector slot tail 0
    first = valid.held 0 (omega arith)

    at : (n : ℕ) → slot_start slot.number copy ≡ n → get_or image n [] ≡ slot_sector slot tail 0
    at n is = let there : n ≡ slot_start slot.number copy + 0 = omega (arith, is) in ap (λ (k : ℕ). get_or image k []) there ∙ first

    place_of_four : (number copy : ℕ) → copy ≤ 1 → (slot_start number copy ≡ 0) ⊎ (slot_start number copy ≡ 32) ⊎ (slot_start number copy ≡ 64) ⊎ (slot_start number copy ≡ 96)
    place_of_four number copy low = grind (arith, low)

    one : (slot_start slot.number copy ≡ 0) ⊎ (slot_start slot.number copy ≡ 32) ⊎ (slot_start slot.number copy ≡ 64) ⊎ (slot_start slot.number copy ≡ 96) → IsMarked image
    one (inl is) = inl (ap (take 8) (at 0 is) ∙ sector_magic slot tail)
    one (inr (inl is)) = inr (inl (ap (take 12) (at 32 is) ∙ slot_begins slot tail 0))
    one (inr (inr (inl is))) = inr (inr (inl (ap (take 12) (at 64 is) ∙ slot_begins slot tail 0)))
    one (inr (inr (inr is))) = inr (inr (inr (ap (take 12) (at 96 is) ∙ slot_begins slot tail 0)))

-- the copy that is found, and where an opening writes
pub starts_apart : (number next copy first : ℕ) (both : Bool) → copy ≤ 1 → (both ≡ true → next % 2 ≡ 1 - number % 2) → (both ≡ false → next % 2 ≡ number % 2) → (both ≡ true → first ≡ 0) → (both ≡ false → first ≡ 1 - copy)
    → slot_start number copy ≢ slot_start next first
starts_apart number next copy first true low other own zeroth mate same =
    let pair = other refl in
    let place = zeroth refl in
    omega (arith, low, same, pair, place)
starts_apart number next copy first false low other own zeroth mate same =
    let pair = own refl in
    let place = mate refl in
    omega (arith, low, same, pair, place)

-- all that a slot names was read
module _ (image : Image) (slot : Slot) (tail bytes : List ℕ) (copy : ℕ) (counts : Counts slot tail copy image) (size : length bytes ≡ slot.length) (last : drop (4096 * slot.blocks) bytes ≡ tail) (check : crc_of (take (4096 * slot.blocks) bytes) ≡ slot.check)
    (begins : Begins image (block_start (length image) slot.half) (take (4096 * slot.blocks) bytes)) where
  slot_is : slot ≡ slot_of (state_in slot bytes) (length image) slot.number
  slot_is i = record { number = slot.number; length = sym size i; seq = slot.seq; opens = slot.opens; sectors = counts.valid.of.sectors_is i; half = slot.half; blocks = slot.blocks; check = sym check i; identity = slot.identity }

  pub recovered_carries : CarriesInSlots (state_in slot bytes) image
  recovered_carries = record {
    number = slot.number;
    copy = copy;
    counted = subst (λ (t : List ℕ). Counts (slot_of (state_in slot bytes) (length image) slot.number) t copy image) (sym last) (subst (λ (s : Slot). Counts s tail copy image) slot_is counts);
    begins = begins;
  }

  pub recovered_awaits : (number first highest : ℕ) → highest < number → number < 2 ^ 64 → IsFresh (highest + 1) image → first ≤ 1 → slot_start slot.number copy ≢ slot_start number first → Awaits number first (state_in slot bytes) image
  unfolding recovered_carries
  recovered_awaits number first highest above fits fresh low apart = record {
    carries = recovered_carries;
    one_of_two = low;
    apart = apart;
    fits = fits;
    fresh = λ k lt verifies. let below = fresh k lt verifies in omega (arith, below, above);
  }

pub numbers_left : (image : Image) (highest : ℕ) → IsFresh (highest + 1) image → highest < number_end → HasNumbers image
numbers_left image highest fresh low k lt verifies = let below = fresh k lt verifies in omega (arith, below, low)

-- no number is left
pub no_numbers : (image : Image) (highest : ℕ) → (highest ≡ 0) ⊎ ((k : ℕ) × (k < 128) × Verifies (get_or image k []) × (number_of (get_or image k []) ≡ highest)) → number_end ≤ highest → HasNumbers image → ⊥
no_numbers image highest (inl none) high numbers = omega (arith, none, high)
no_numbers image highest (inr some) high numbers = let below = numbers some.0 some.1 some.2 in omega (arith, below, some.3, high)

-- no copy is valid
pub none_carried : (image : Image) (found : Option Counted) → found ≡ None → IsFoundIn image found → (c : State) → CarriesInSlots c image → ⊥
none_carried image None is none c carries = none (slot_of c (length image) carries.number) (tail_of c) carries.copy carries.counted.valid
none_carried image (Some x) is counts c carries = cc

-- what is carried is what counts
pub carried_slot : (image : Image) (slot : Slot) (tail : List ℕ) (copy : ℕ) → Counts slot tail copy image → (c : State) (carries : CarriesInSlots c image) → slot ≡ slot_of c (length image) carries.number
carried_slot image slot tail copy counts c carries = (one_counts image slot (slot_of c (length image) carries.number) tail (tail_of c) copy carries.copy counts carries.counted).0

pub carried_blocks : (image : Image) (slot : Slot) (tail : List ℕ) (copy : ℕ) → Counts slot tail copy image → (c : State) → CarriesInSlots c image → slot.blocks ≡ c.blocks
carried_blocks image slot tail copy counts c carries = ap (λ (s : Slot). s.blocks) (carried_slot image slot tail copy counts c carries)

-- blocks with another check are not carried
pub check_differs : (image : Image) (slot : Slot) (tail : List ℕ) (copy : ℕ) → Counts slot tail copy image
    → ((bytes : List ℕ) → length bytes ≡ 4096 * slot.blocks → Begins image (block_start (length image) slot.half) bytes → crc_of bytes ≢ slot.check) → (c : State) → CarriesInSlots c image → ⊥
check_differs image slot tail copy counts differs c carries =
    let same = carried_slot image slot tail copy counts c carries in
    let blocks = ap (λ (s : Slot). s.blocks) same in
    let half = ap (λ (s : Slot). s.half) same in
    let long : length (blocks_of c.blocks c.bytes) ≡ 4096 * slot.blocks = omega (arith, length-take (4096 * c.blocks) c.bytes, carries.counted.valid.of.length_is, blocks) in
    differs (blocks_of c.blocks c.bytes) long (subst (λ (h : ℕ). Begins image (block_start (length image) h) (blocks_of c.blocks c.bytes)) (sym half) carries.begins) (sym (ap (λ (s : Slot). s.check) same))

-- the calls
pub blocks_few : (sectors : ℕ) (slot : Slot) (tail : List ℕ) → IsSlotOf sectors slot tail → load_calls slot.blocks ≤ load_calls (slots_capacity sectors / 4096)
blocks_few sectors slot tail of = omega (arith, of.length_is, of.length_fits)
