-- An opening's commit: both copies, one settled before the other is begun.
use Rattle.std.proofs.Common.{◌≡◌, ◌≢◌, ◌⊎◌, inl, inr, ℕ, ◌+◌, ◌-◌, ◌*◌, ◌/◌, ◌%◌, ◌≤◌, ◌<◌, List, [], length, get_or, take, ap, subst, sym, ◌∙◌, arith, Result, Ok, Err, OnOk, IsErr, Bool, Option, None, length-take}
use Rattle.std.proofs.lemmas.Bool.{cases_lt}
use Rattle.std.proofs.lemmas.List.{get_or-drop, get_or-take}
use Rattle.sector_device.specs.Disk.{Image, Disk, LeavesOnly, IsCoherent}
use Rattle.sector_device.specs.Sectors.{SectorsHold, byte_at}
use Rattle.sector_device.proofs.Moments.{joined, leaves_weaker, left_now, started}
use Rattle.commit_slots.specs.Sealed.{Verifies}
use Rattle.commit_slots.specs.Slots.{Counts, IsHeld, IsSlotOf, block_start, slot_start}
use Rattle.commit_slots.specs.Fresh.{IsFresh, IsPartOf, MayTear}
use Rattle.commit_slots.specs.declared.slot.Slot.{Slot}
use Rattle.commit_slots.proofs.Mixed.{counts_either, counts_new, still_fresh}
use Rattle.slot_commits.specs.Loads.{Awaits}
use Rattle.slot_commits.specs.Pairs.{KeepsOutside, OutsideSome, SlotOver, SlotSome}
use Rattle.slot_commits.specs.Puts.{EitherBelow}
use Rattle.slot_commits.specs.Renewals.{CanRenew, Renewed}
use Rattle.slot_commits.specs.States.{CarriesInSlots, HoldsBlocks, Stands, State, slot_of, tail_of}
use Rattle.slot_commits.specs.Tears.{IsToldBy, tearing_by}
use Rattle.slot_commits.proofs.Copies.{no_ok}
use Rattle.slot_commits.proofs.Either.{blocks_over, noticed}
use Rattle.slot_commits.proofs.Puts.{seen_by, wide_by}
use Rattle.slot_commits.proofs.Runs.{blocks_outside, half_is, start_0, start_1}

on_ok_both : {T E : Type 0} {A B C : Type 0} (result : Result T E) → (A → B → C) → OnOk result A → OnOk result B → OnOk result C
on_ok_both (Ok value) both a b = both a b
on_ok_both (Err fault) both a b = tt

-- where the run of blocks begins
pub start_aligned : (slot : Slot) (sectors start : ℕ) (tail : List ℕ) → IsSlotOf sectors slot tail → start ≡ block_start sectors slot.half + 8 * slot.blocks → (128 ≤ start) × (start % 8 ≡ 0)
start_aligned slot sectors start tail of is = elim (half_is slot.half of.half_fits) [
  | inl zeroth ↦ let at = start_0 sectors slot.half zeroth in (omega (arith, is, at), omega (arith, is, at))
  | inr one ↦ let at = start_1 sectors slot.half one in (omega (arith, is, at), omega (arith, is, at))
]

-- what a write of a copy may leave of the slots
pub may_more : (torn : Option (List ℕ → Bool)) (slot : Slot) (tail : List ℕ) (copy : ℕ) (base mid image : Image) → IsToldBy torn → copy ≤ 1 → MayTear slot tail base mid → SlotOver torn slot tail copy mid image → MayTear slot tail base image
may_more torn slot tail copy base mid image told low may over k lt = elim (over.each k) [
  | inl same ↦ subst (λ (s : List ℕ). (s ≡ get_or base k []) ⊎ (Verifies s → ⊥) ⊎ IsPartOf slot tail k s) (sym same) (may k lt)
  | inr (inl part) ↦ inr (inr (copy, part.0, low, part.1, part.2, part.3))
  | inr (inr damage) ↦ inr (inl (noticed torn (get_or image k []) told damage.1))
]

-- the same blocks of the same bytes
pub same_blocks : (c d : State) → d.half ≡ c.half → d.bytes ≡ c.bytes → d.blocks ≡ c.blocks → (image : Image) → HoldsBlocks c.blocks c image → HoldsBlocks d.blocks d image
same_blocks c d half bytes blocks image holds i lt =
    let size : i < length (take (4096 * c.blocks) c.bytes) = omega (arith, lt, ap (λ (l : List ℕ). length (take (4096 * d.blocks) l)) bytes, ap (λ (n : ℕ). length (take (4096 * n) c.bytes)) blocks) in
    ap (λ (h : ℕ). byte_at image (block_start (length image) h) i) half ∙ holds i size ∙ sym (λ j. get_or (take (4096 * blocks j) (bytes j)) i 0)

-- the whole blocks of a tail that is written behind those that the slot names
pub whole_tail : (new : State) (image : Image) (first count : ℕ) (tail : List ℕ) → tail ≡ tail_of new → length new.bytes ≡ 4096 * new.blocks + length tail → first ≡ block_start (length image) new.half + 8 * new.blocks → count ≡ 8 * (length tail / 4096)
    → HoldsBlocks new.blocks new image → SectorsHold image first count tail → HoldsBlocks (length new.bytes / 4096) new image
whole_tail new image first count tail tail_is size first_is count_is holds written i lt = one (cases_lt i (4096 * new.blocks))
  where
    inside : i < 4096 * (length new.bytes / 4096)
    inside = omega (arith, lt, length-take (4096 * (length new.bytes / 4096)) new.bytes)

    one : (i < 4096 * new.blocks) ⊎ (4096 * new.blocks ≤ i) → byte_at image (block_start (length image) new.half) i ≡ get_or (take (4096 * (length new.bytes / 4096)) new.bytes) i 0
    one (inl low) =
        holds i (omega (arith, low, size, length-take (4096 * new.blocks) new.bytes)) ∙ get_or-take (4096 * new.blocks) new.bytes i 0 low ∙ sym (get_or-take (4096 * (length new.bytes / 4096)) new.bytes i 0 inside)
    one (inr high) =
        let j = (i - 4096 * new.blocks) / 512 in
        let sector : block_start (length image) new.half + i / 512 ≡ first + j = omega (arith, high, first_is) in
        let place : 4096 * new.blocks + (512 * j + i % 512) ≡ i = omega (arith, high) in
        ap (λ (n : ℕ). get_or (get_or image n []) (i % 512) 0) sector ∙ (written j (omega (arith, high, inside, count_is, size))).same (i % 512) (omega arith) ∙ ap (λ (l : List ℕ). get_or l (512 * j + i % 512) 0) tail_is
        ∙ get_or-drop (4096 * new.blocks) new.bytes (512 * j + i % 512) 0 ∙ ap (λ (n : ℕ). get_or new.bytes n 0) place ∙ sym (get_or-take (4096 * (length new.bytes / 4096)) new.bytes i 0 inside)

-- one copy and its mate are both copies
pub both_copies : (slot : Slot) (tail : List ℕ) (first : ℕ) (image : Image) → first ≤ 1 → IsHeld slot tail (slot_start slot.number first) image → IsHeld slot tail (slot_start slot.number (1 - first)) image
    → IsHeld slot tail (slot_start slot.number 0) image × IsHeld slot tail (slot_start slot.number 1) image
both_copies slot tail first image low held mate = elim (half_is first low) [
  | inl zeroth ↦ let other : 1 - first ≡ 1 = omega (arith, zeroth) in (
    subst (λ (n : ℕ). IsHeld slot tail (slot_start slot.number n) image) zeroth held,
    subst (λ (n : ℕ). IsHeld slot tail (slot_start slot.number n) image) other mate,
  )
  | inr one ↦ let other : 1 - first ≡ 0 = omega (arith, one) in (
    subst (λ (n : ℕ). IsHeld slot tail (slot_start slot.number n) image) other mate,
    subst (λ (n : ℕ). IsHeld slot tail (slot_start slot.number n) image) one held,
  )
]

module _ (torn : Option (List ℕ → Bool)) (told : IsToldBy torn) (slot : Slot) (tail : List ℕ) (first : ℕ) (found new : State) (base : Image) (awaits : Awaits slot.number first found base) (of : IsSlotOf (length base) slot tail)
    (names : slot ≡ slot_of new (length base) slot.number) (tail_is : tail ≡ tail_of new) (half_same : new.half ≡ found.half) (bytes_same : new.bytes ≡ found.bytes) (blocks_same : new.blocks ≡ found.blocks) where
  -- the first copy is being written
  pub record FirstOver (image : Image) : Type 0 where
    pub size : length image ≡ length base
    pub may : MayTear slot tail base image
    pub stays : (k : ℕ) → k < 128 → k / 32 ≢ slot_start slot.number first / 32 → get_or image k [] ≡ get_or base k []
    pub holds : HoldsBlocks new.blocks new image

  -- it is settled, and its mate is being written
  pub record MateOver (image : Image) : Type 0 where
    pub size : length image ≡ length base
    pub may : MayTear slot tail base image
    pub held : IsHeld slot tail (slot_start slot.number first) image
    pub holds : HoldsBlocks new.blocks new image

  base_holds : HoldsBlocks new.blocks new base
  base_holds = same_blocks found new half_same bytes_same blocks_same base awaits.carries.begins

  pub first_begins : (start count : ℕ) (image : Image) → 128 ≤ start → start ≡ block_start (length base) new.half + 8 * new.blocks → KeepsOutside start count base image → FirstOver image
  first_begins start count image past start_is outside = record {
    size = outside.size;
    may = λ k lt. inl (outside.same k (inl (omega (arith, lt, past))));
    stays = λ k lt other. outside.same k (inl (omega (arith, lt, past)));
    holds = blocks_outside start count new.blocks new base image outside (λ k above below. inl (omega (arith, below, start_is))) base_holds;
  }

  pub first_goes : (mid image : Image) → FirstOver mid → SlotOver torn slot tail first mid image → FirstOver image
  first_goes mid image so_far over = record {
    size = over.size ∙ so_far.size;
    may = may_more torn slot tail first base mid image told awaits.one_of_two so_far.may over;
    stays = λ k lt other. elim (over.each k) [
      | inl same ↦ same ∙ so_far.stays k lt other
      | inr (inl part) ↦ absurd (other (omega (arith, part.1, part.2, of.tail_fits, awaits.one_of_two)))
      | inr (inr damage) ↦ absurd (other damage.0)
    ];
    holds = blocks_over torn slot tail first mid image awaits.one_of_two of.tail_fits over new.blocks new so_far.holds;
  }

  pub mate_begins : (image : Image) → FirstOver image → IsHeld slot tail (slot_start slot.number first) image → MateOver image
  mate_begins image so_far held = record { size = so_far.size; may = so_far.may; held = held; holds = so_far.holds }

  pub mate_goes : (mid image : Image) → MateOver mid → SlotOver torn slot tail (1 - first) mid image → MateOver image
  mate_goes mid image so_far over = record {
    size = over.size ∙ so_far.size;
    may = may_more torn slot tail (1 - first) base mid image told (omega arith) so_far.may over;
    held = λ k lt. elim (over.each (slot_start slot.number first + k)) [
      | inl same ↦ same ∙ so_far.held k lt
      | inr (inl part) ↦ absurd (omega (arith, part.1, part.2, lt, of.tail_fits, awaits.one_of_two))
      | inr (inr damage) ↦ absurd (omega (arith, damage.0, lt, of.tail_fits, awaits.one_of_two))
    ];
    holds = blocks_over torn slot tail (1 - first) mid image (omega arith) of.tail_fits over new.blocks new so_far.holds;
  }

  fresh_then : (image : Image) → length image ≡ length base → MayTear slot tail base image → IsFresh (slot.number + 1) image
  fresh_then image size may = still_fresh slot tail base image size of awaits.fresh may

  counts_then : (image : Image) (copy : ℕ) → length image ≡ length base → HoldsBlocks new.blocks new image → Counts slot tail copy image → CarriesInSlots new image
  counts_then image copy size holds counts = record {
    number = slot.number;
    copy = copy;
    counted = subst (λ (n : ℕ). Counts (slot_of new n slot.number) (tail_of new) copy image) (sym size) (subst (λ (t : List ℕ). Counts (slot_of new (length base) slot.number) t copy image) tail_is (subst (λ (s : Slot). Counts s tail copy image) names counts));
    begins = holds;
  }

  -- what an image carries meanwhile
  pub first_either : (image : Image) → FirstOver image → EitherBelow (slot.number + 1) found new image
  first_either image so_far = (carried, fresh_then image so_far.size so_far.may)
    where
      stays : IsHeld (slot_of found (length base) awaits.carries.number) (tail_of found) (slot_start awaits.carries.number awaits.carries.copy) image
      stays k lt =
          let valid = awaits.carries.counted.valid in
          let few : k < 32 = omega (arith, lt, valid.of.tail_fits) in
          let other : (slot_start awaits.carries.number awaits.carries.copy + k) / 32 ≢ slot_start slot.number first / 32 = λ same. awaits.apart (omega (arith, same, few, valid.one_of_two, awaits.one_of_two)) in
          so_far.stays (slot_start awaits.carries.number awaits.carries.copy + k) (omega (arith, few, valid.one_of_two)) other ∙ valid.held k lt

      carried : CarriesInSlots found image ⊎ CarriesInSlots new image
      carried =
          elim (counts_either slot tail base image so_far.size of awaits.fresh so_far.may (slot_of found (length base) awaits.carries.number) (tail_of found) awaits.carries.copy awaits.carries.counted stays) [
            | inl old ↦ inl (
                record {
                  number = awaits.carries.number;
                  copy = awaits.carries.copy;
                  counted = subst (λ (n : ℕ). Counts (slot_of found n awaits.carries.number) (tail_of found) awaits.carries.copy image) (sym so_far.size) old;
                  begins = same_blocks new found (sym half_same) (sym bytes_same) (sym blocks_same) image so_far.holds;
                }
                )
            | inr counted ↦ inr (counts_then image counted.0 so_far.size so_far.holds counted.1)
          ]

  pub mate_either : (image : Image) → MateOver image → EitherBelow (slot.number + 1) found new image
  mate_either image so_far =
      let counted = counts_new slot tail base image so_far.size of awaits.fresh so_far.may first awaits.one_of_two so_far.held in
      (inr (counts_then image counted.0 so_far.size so_far.holds counted.1), fresh_then image so_far.size so_far.may)

  -- and at the end
  pub mate_stands : (image : Image) → MateOver image → IsHeld slot tail (slot_start slot.number (1 - first)) image → HoldsBlocks (length new.bytes / 4096) new image → Stands slot.number new image
  mate_stands image so_far mate whole =
      let both = both_copies slot tail first image awaits.one_of_two so_far.held mate in
      record { of = named (λ s t. IsSlotOf (length image) s t) (subst (λ (n : ℕ). IsSlotOf n slot tail) (sym so_far.size) of); first = named_held 0 both.0; mate = named_held 1 both.1; fresh = fresh_then image so_far.size so_far.may; begins = whole }
    where
      named : (P : Slot → List ℕ → Type 0) → P slot tail → P (slot_of new (length image) slot.number) (tail_of new)
      named P p = subst (λ (n : ℕ). P (slot_of new n slot.number) (tail_of new)) (sym so_far.size) (subst (λ (t : List ℕ). P (slot_of new (length base) slot.number) t) tail_is (subst (λ (s : Slot). P s tail) names p))

      named_held : (copy : ℕ) → IsHeld slot tail (slot_start slot.number copy) image → IsHeld (slot_of new (length image) slot.number) (tail_of new) (slot_start slot.number copy) image
      named_held copy held = named (λ s t. IsHeld s t (slot_start slot.number copy) image) held

-- the calls of an opening's commit
module _ {torn : Option (List ℕ → Bool)} {old : Disk} {slot : Slot} {tail : List ℕ} {first : ℕ} {found new : State} (can : CanRenew torn old slot tail first found new) (coherent : IsCoherent (tearing_by torn old)) (of : IsSlotOf old.sectors slot tail) where
  abbrev O : Disk
  O = tearing_by torn old

  wide : length old.seen ≡ old.sectors
  wide = wide_by torn old coherent old.seen (subst (λ (i : Image). O.left i) (seen_by torn old) coherent.seen)

  pub of_base : IsSlotOf (length old.seen) slot tail
  of_base = subst (λ (n : ℕ). IsSlotOf n slot tail) (sym wide) of

  pub names : slot ≡ slot_of new (length old.seen) slot.number
  names = can.names ∙ ap (λ (n : ℕ). slot_of new n slot.number) (sym wide)

  abbrev First : Image → Type 0
  First = FirstOver torn can.told slot tail first found new old.seen can.awaits of_base names can.tail_is can.half_is can.bytes_are can.blocks_are

  abbrev Mate : Image → Type 0
  Mate = MateOver torn can.told slot tail first found new old.seen can.awaits of_base names can.tail_is can.half_is can.bytes_are can.blocks_are

  abbrev Meanwhile : Image → Type 0
  Meanwhile = EitherBelow (slot.number + 1) found new

  pub new_half : slot.half ≡ new.half
  new_half = ap (λ (s : Slot). s.half) can.names

  pub new_blocks : slot.blocks ≡ new.blocks
  new_blocks = ap (λ (s : Slot). s.blocks) can.names

  pub new_length : length new.bytes ≡ 4096 * new.blocks + length tail
  new_length = omega (arith, of.length_is, new_blocks, ap (λ (s : Slot). s.length) can.names)

  pub start_here : (start : ℕ) → start ≡ block_start old.sectors slot.half + 8 * slot.blocks → start ≡ block_start (length old.seen) new.half + 8 * new.blocks
  start_here start is = is ∙ (λ i. block_start (sym wide i) (new_half i) + 8 * new_blocks i)

  -- the run of blocks, and the first copy
  pub first_run : (mid : Disk) (start count : ℕ) → start ≡ block_start old.sectors slot.half + 8 * slot.blocks → LeavesOnly O (tearing_by torn mid) (OutsideSome O.left start count) → LeavesOnly O (tearing_by torn mid) First
  first_run mid start count is run =
      leaves_weaker O (tearing_by torn mid) (OutsideSome O.left start count) First
      (λ image some.
      first_begins torn can.told slot tail first found new old.seen can.awaits of_base names can.tail_is can.half_is can.bytes_are can.blocks_are start count image (start_aligned slot old.sectors start tail of is).0 (start_here start is)
      (subst (λ (i : Image). KeepsOutside start count i image) (can.alone some.0 some.1) some.2)) run

  pub first_slot : (mid next : Disk) → IsCoherent (tearing_by torn mid) → LeavesOnly O (tearing_by torn mid) First → LeavesOnly (tearing_by torn mid) (tearing_by torn next) (SlotSome torn slot tail first (tearing_by torn mid).left)
      → LeavesOnly O (tearing_by torn next) First
  first_slot mid next coherent_mid so_far written =
      joined O (tearing_by torn mid) (tearing_by torn next) First so_far
      (leaves_weaker (tearing_by torn mid) (tearing_by torn next) (SlotSome torn slot tail first (tearing_by torn mid).left) First
      (λ image some.
      first_goes torn can.told slot tail first found new old.seen can.awaits of_base names can.tail_is can.half_is can.bytes_are can.blocks_are some.0 image (left_now O (tearing_by torn mid) First coherent_mid so_far some.0 some.1) some.2)
      written)

  pub first_meanwhile : (next : Disk) → LeavesOnly O (tearing_by torn next) First → LeavesOnly O (tearing_by torn next) Meanwhile
  first_meanwhile next so_far =
      leaves_weaker O (tearing_by torn next) First Meanwhile (first_either torn can.told slot tail first found new old.seen can.awaits of_base names can.tail_is can.half_is can.bytes_are can.blocks_are) so_far

  -- its mate, on a device that holds the first copy and nothing else
  pub mate_start : (mid : Disk) → IsCoherent (tearing_by torn mid) → LeavesOnly O (tearing_by torn mid) First → ((image : Image) → (tearing_by torn mid).left image → image ≡ mid.seen) → IsHeld slot tail (slot_start slot.number first) mid.seen
      → LeavesOnly (tearing_by torn mid) (tearing_by torn mid) Mate
  mate_start mid coherent_mid so_far alone held =
      started (tearing_by torn mid) Mate coherent_mid
      (λ image left.
      mate_begins torn can.told slot tail first found new old.seen can.awaits of_base names can.tail_is can.half_is can.bytes_are can.blocks_are image (left_now O (tearing_by torn mid) First coherent_mid so_far image left)
      (subst (IsHeld slot tail (slot_start slot.number first)) (sym (alone image left)) held))

  pub mate_slot : (mid next : Disk) → IsCoherent (tearing_by torn mid) → LeavesOnly (tearing_by torn mid) (tearing_by torn mid) Mate → LeavesOnly (tearing_by torn mid) (tearing_by torn next) (SlotSome torn slot tail (1 - first) (tearing_by torn mid).left)
      → LeavesOnly (tearing_by torn mid) (tearing_by torn next) Mate
  mate_slot mid next coherent_mid so_far written =
      leaves_weaker (tearing_by torn mid) (tearing_by torn next) (SlotSome torn slot tail (1 - first) (tearing_by torn mid).left) Mate
      (λ image some.
      mate_goes torn can.told slot tail first found new old.seen can.awaits of_base names can.tail_is can.half_is can.bytes_are can.blocks_are some.0 image
      (left_now (tearing_by torn mid) (tearing_by torn mid) Mate coherent_mid so_far some.0 some.1) some.2)
      written

  pub all_meanwhile : (mid next : Disk) → LeavesOnly O (tearing_by torn mid) First → LeavesOnly (tearing_by torn mid) (tearing_by torn next) Mate → LeavesOnly O (tearing_by torn next) Meanwhile
  all_meanwhile mid next so_far more =
      joined O (tearing_by torn mid) (tearing_by torn next) Meanwhile (first_meanwhile mid so_far)
      (leaves_weaker (tearing_by torn mid) (tearing_by torn next) Mate Meanwhile (mate_either torn can.told slot tail first found new old.seen can.awaits of_base names can.tail_is can.half_is can.bytes_are can.blocks_are) more)

  pub not_renewed : {T E : Type 0} (next : Disk) (result : Result T E) → IsErr result → LeavesOnly O (tearing_by torn next) Meanwhile → Renewed torn old next slot.number found new result
  not_renewed next result err so_far = record { any_moment = so_far; done = no_ok ((image : Image) → (tearing_by torn next).left image → Stands slot.number new image) result err }

  -- what reads give has all whole blocks
  pub whole_run : (mid : Disk) (start count : ℕ) → IsCoherent (tearing_by torn mid) → LeavesOnly O (tearing_by torn mid) First → start ≡ block_start old.sectors slot.half + 8 * slot.blocks → count ≡ 8 * (length tail / 4096) → SectorsHold mid.seen start count tail
      → HoldsBlocks (length new.bytes / 4096) new mid.seen
  whole_run mid start count coherent_mid so_far is count_is written =
      let now = left_now O (tearing_by torn mid) First coherent_mid so_far mid.seen (subst (λ (i : Image). (tearing_by torn mid).left i) (seen_by torn mid) coherent_mid.seen) in
      whole_tail new mid.seen start count tail can.tail_is new_length (start_here start is ∙ ap (λ (n : ℕ). block_start n new.half + 8 * new.blocks) (sym now.size)) count_is now.holds written

  pub whole_over : (copy : ℕ) (mid image : Image) → copy ≤ 1 → SlotOver None slot tail copy mid image → HoldsBlocks (length new.bytes / 4096) new mid → HoldsBlocks (length new.bytes / 4096) new image
  whole_over copy mid image low over whole = blocks_over None slot tail copy mid image low of.tail_fits over (length new.bytes / 4096) new whole

  pub renewed_done : {T E : Type 0} (mid next : Disk) (result : Result T E) → IsCoherent (tearing_by torn next) → LeavesOnly O (tearing_by torn mid) First → LeavesOnly (tearing_by torn mid) (tearing_by torn next) Mate
      → OnOk result (IsHeld slot tail (slot_start slot.number (1 - first)) next.seen) → OnOk result ((image : Image) → (tearing_by torn next).left image → image ≡ next.seen) → HoldsBlocks (length new.bytes / 4096) new next.seen
      → Renewed torn old next slot.number found new result
  renewed_done mid next result coherent_next so_far more held alone whole = record {
    any_moment = all_meanwhile mid next so_far more;
    done = on_ok_both result
        (λ mate only image left.
        let now = left_now (tearing_by torn mid) (tearing_by torn next) Mate coherent_next more next.seen (subst (λ (i : Image). (tearing_by torn next).left i) (seen_by torn next) coherent_next.seen) in
        subst (Stands slot.number new) (sym (only image left))
        (mate_stands torn can.told slot tail first found new old.seen can.awaits of_base names can.tail_is can.half_is can.bytes_are can.blocks_are next.seen now mate whole))
        held alone;
  }
