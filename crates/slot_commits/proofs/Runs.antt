-- The blocks of a commit, written before its slots.
use Rattle.std.proofs.Common.{◌≡◌, ◌≢◌, ◌⊎◌, inl, inr, ⊎_elim, ℕ, ◌+◌, ◌-◌, ◌*◌, ◌/◌, ◌%◌, ◌≤◌, ◌<◌, List, [], length, get_or, take, drop, refl, ap, subst, sym, ◌∙◌, arith, Result, IsErr, Bool, true, false, Option, None, Some, length-take}
use Rattle.std.proofs.lemmas.Bool.{cases_eq, cases_lt}
use Rattle.std.proofs.lemmas.List.{get_or-drop, get_or-take, length-drop}
use Rattle.sector_device.specs.Disk.{Image, Disk, LeavesOnly, IsCoherent, tearing}
use Rattle.sector_device.specs.Sectors.{IsNear, KeepsImages, Over, OverSome, SectorsHold, TornOver, TornSome, byte_at}
use Rattle.sector_device.proofs.Moments.{joined, leaves_weaker, left_now, started}
use Rattle.commit_slots.specs.Sealed.{Verifies, number_of}
use Rattle.commit_slots.specs.Slots.{IsHeld, IsSlotOf, block_start, half_blocks, slot_sector, slot_start}
use Rattle.commit_slots.specs.declared.slot.Slot.{Slot}
use Rattle.slot_commits.specs.Commits.{CanCommit}
use Rattle.slot_commits.specs.Pairs.{KeepsOutside, OutsideSome}
use Rattle.slot_commits.specs.Puts.{CanPut, EitherBelow, Put}
use Rattle.slot_commits.specs.States.{HoldsBlocks, Stands, State, blocks_of, slot_of, tail_of}
use Rattle.slot_commits.specs.Tears.{tearing_by}
use Rattle.slot_commits.proofs.Copies.{no_ok}
use Rattle.slot_commits.proofs.Either.{fewer_blocks, named_blocks, stands_below, stands_carries}
use Rattle.slot_commits.proofs.Puts.{seen_by, wide_by}

-- a run of whole blocks leaves all but its sectors, also if they tear
pub over_outside : (first count : ℕ) (bytes : List ℕ) (before image : Image) → Over first count bytes before image → KeepsOutside first count before image
over_outside first count bytes before image over = record {
  size = over.length_is;
  same = λ k apart. elim (over.each k) [
    | inl same ↦ same
    | inr h ↦ absurd (⊎_elim (λ low. omega (arith, low, h.2)) (λ high. omega (arith, high, h.1, h.2)) apart)
  ];
}

torn_outside : (t : List ℕ → Bool) (first count : ℕ) (bytes : List ℕ) (before image : Image) → first % 8 ≡ 0 → count % 8 ≡ 0 → TornOver t first count bytes before image → KeepsOutside first count before image
torn_outside t first count bytes before image aligned whole over = record {
  size = over.size;
  same = λ k apart. elim (over.each k) [
    | inl same ↦ same
    | inr (inl h) ↦ absurd (⊎_elim (λ low. omega (arith, low, h.2)) (λ high. omega (arith, high, h.1, h.2)) apart)
    | inr (inr h) ↦ absurd (near k apart h.0)
  ];
}
  where
    near : (k : ℕ) → (k < first) ⊎ (first + count ≤ k) → IsNear first count k → ⊥
    near k (inl low) h = omega (arith, low, h.1, h.2, aligned, whole)
    near k (inr high) h = omega (arith, high, h.1, h.2, aligned, whole)

pub run_by : (torn : Option (List ℕ → Bool)) (old new : Disk) (first count : ℕ) (bytes : List ℕ) → first % 8 ≡ 0 → count % 8 ≡ 0 → LeavesOnly old new (OverSome first count bytes old.left)
    → ((t : List ℕ → Bool) → LeavesOnly (tearing t old) (tearing t new) (TornSome t first count bytes (old.torn_left t))) → LeavesOnly (tearing_by torn old) (tearing_by torn new) (OutsideSome (tearing_by torn old).left first count)
run_by None old new first count bytes aligned whole plain tears =
    leaves_weaker old new (OverSome first count bytes old.left) (OutsideSome old.left first count) (λ image over. (over.0, over.1, over_outside first count bytes over.0 image over.2)) plain
run_by (Some t) old new first count bytes aligned whole plain tears =
    leaves_weaker (tearing t old) (tearing t new) (TornSome t first count bytes (old.torn_left t)) (OutsideSome (old.torn_left t) first count)
    (λ image over. (over.0, over.1, torn_outside t first count bytes over.0 image aligned whole over.2)) (tears t)

-- blocks that a run doesn't meet stay
pub blocks_outside : (first count n : ℕ) (s : State) (before image : Image) → KeepsOutside first count before image
    → ((k : ℕ) → block_start (length before) s.half ≤ k → k < block_start (length before) s.half + 8 * n → (k < first) ⊎ (first + count ≤ k)) → HoldsBlocks n s before → HoldsBlocks n s image
blocks_outside first count n s before image outside apart holds i lt =
    let sector = block_start (length before) s.half + i / 512 in
    let within : i < 4096 * n = omega (arith, lt, length-take (4096 * n) s.bytes) in
    ap (λ (m : ℕ). byte_at image (block_start m s.half) i) outside.size ∙ ap (λ (l : List ℕ). get_or l (i % 512) 0) (outside.same sector (apart sector (omega arith) (omega (arith, within)))) ∙ holds i lt

-- so do the slots, and what stands
pub stands_outside : (first count number : ℕ) (c : State) (before image : Image) → 128 ≤ first → KeepsOutside first count before image
    → ((k : ℕ) → block_start (length before) c.half ≤ k → k < block_start (length before) c.half + 8 * (length c.bytes / 4096) → (k < first) ⊎ (first + count ≤ k)) → Stands number c before → Stands number c image
stands_outside first count number c before image past outside apart stands = record {
  of = subst (λ (n : ℕ). IsSlotOf n (slot_of c n number) (tail_of c)) (sym outside.size) stands.of;
  first = held 0 (omega arith) stands.first;
  mate = held 1 (omega arith) stands.mate;
  fresh = λ k lt verifies. let same = outside.same k (inl (omega (arith, lt, past))) in subst (λ (s : List ℕ). number_of s < number + 1) (sym same) (stands.fresh k lt (subst Verifies same verifies));
  begins = blocks_outside first count (length c.bytes / 4096) c before image outside apart stands.begins;
}
  where
    held : (copy : ℕ) → copy ≤ 1 → IsHeld (slot_of c (length before) number) (tail_of c) (slot_start number copy) before → IsHeld (slot_of c (length image) number) (tail_of c) (slot_start number copy) image
    held copy low there k lt =
        outside.same (slot_start number copy + k) (inl (omega (arith, lt, low, past, stands.of.tail_fits))) ∙ there k lt ∙ ap (λ (n : ℕ). slot_sector (slot_of c n number) (tail_of c) k) (sym outside.size)

pub half_is : (half : ℕ) → half ≤ 1 → (half ≡ 0) ⊎ (half ≡ 1)
half_is half low = ⊎_elim (λ lt. inl (omega (arith, lt))) (λ ge. inr (omega (arith, ge, low))) (cases_lt half 1)

pub start_0 : (sectors half : ℕ) → half ≡ 0 → block_start sectors half ≡ 128
start_0 sectors half is = ap (block_start sectors) is ∙ omega arith

pub start_1 : (sectors half : ℕ) → half ≡ 1 → block_start sectors half ≡ 128 + 8 * half_blocks sectors
start_1 sectors half is = ap (block_start sectors) is ∙ omega arith

-- where the new blocks are written, the old ones aren't
pub run_apart : (sectors c_half c_blocks half from whole : ℕ) → c_half ≤ 1 → half ≤ 1 → c_blocks ≤ half_blocks sectors → whole ≤ half_blocks sectors → (half ≡ c_half → c_blocks ≤ from)
    → (k : ℕ) → block_start sectors c_half ≤ k → k < block_start sectors c_half + 8 * c_blocks → (k < block_start sectors half + 8 * from) ⊎ (block_start sectors half + 8 * from + 8 * (whole - from) ≤ k)
run_apart sectors c_half c_blocks half from whole c_low low c_fits fits apart k above below = elim (cases_eq half c_half) [
  | inl same ↦ inl (omega (arith, apart same, below, ap (block_start sectors) same))
  | inr other ↦ elim (cases_lt k (block_start sectors half + 8 * from)) [
    | inl before ↦ inl before
    | inr after ↦ elim (half_is c_half c_low) [
      | inl zeroth ↦ let one : half ≡ 1 = one_is other zeroth in absurd (omega (arith, after, below, c_fits, start_0 sectors c_half zeroth, start_1 sectors half one))
      | inr first ↦ let none : half ≡ 0 = none_is other first in inr (omega (arith, after, above, fits, start_1 sectors c_half first, start_0 sectors half none))
    ]
  ]
]
  where
    one_is : half ≢ c_half → c_half ≡ 0 → half ≡ 1
    one_is other zeroth = ⊎_elim (λ is. absurd (other (is ∙ sym zeroth))) (λ is. is) (half_is half low)

    none_is : half ≢ c_half → c_half ≡ 1 → half ≡ 0
    none_is other first = ⊎_elim (λ is. is) (λ is. absurd (other (is ∙ sym first))) (half_is half low)

-- the whole blocks of a commit fit its half
pub whole_fits : (sectors number : ℕ) (c : State) → IsSlotOf sectors (slot_of c sectors number) (tail_of c) → length c.bytes / 4096 ≤ half_blocks sectors
whole_fits sectors number c of = omega (arith, of.length_fits)

-- a half that begins with some blocks, and has those after them written
pub whole_holds : (from : ℕ) (new : State) (image : Image) (first count : ℕ) (blocks : List ℕ) → first ≡ block_start (length image) new.half + 8 * from → blocks ≡ drop (4096 * from) (blocks_of (length new.bytes / 4096) new.bytes)
    → count ≡ 8 * (length new.bytes / 4096 - from) → HoldsBlocks from new image → SectorsHold image first count blocks → HoldsBlocks (length new.bytes / 4096) new image
whole_holds from new image first count blocks first_is blocks_are count_is holds written i lt = one (cases_lt i (4096 * from))
  where
    whole : ℕ
    whole = length new.bytes / 4096

    all : List ℕ
    all = take (4096 * (length new.bytes / 4096)) new.bytes

    start : ℕ
    start = block_start (length image) new.half

    inside : i < 4096 * (length new.bytes / 4096)
    inside = omega (arith, lt, length-take (4096 * (length new.bytes / 4096)) new.bytes)

    one : (i < 4096 * from) ⊎ (4096 * from ≤ i) → byte_at image (block_start (length image) new.half) i ≡ get_or (blocks_of (length new.bytes / 4096) new.bytes) i 0
    one (inl low) =
        holds i (omega (arith, low, inside, length-take (4096 * from) new.bytes)) ∙ get_or-take (4096 * from) new.bytes i 0 low ∙ sym (get_or-take (4096 * (length new.bytes / 4096)) new.bytes i 0 inside)
    one (inr high) =
        let j = (i - 4096 * from) / 512 in
        let sector : block_start (length image) new.half + i / 512 ≡ first + j = omega (arith, high, first_is) in
        let place : 4096 * from + (512 * j + i % 512) ≡ i = omega (arith, high) in
        ap (λ (n : ℕ). get_or (get_or image n []) (i % 512) 0) sector ∙ (written j (omega (arith, high, inside, count_is))).same (i % 512) (omega arith) ∙ ap (λ (l : List ℕ). get_or l (512 * j + i % 512) 0) blocks_are
        ∙ get_or-drop (4096 * from) (blocks_of (length new.bytes / 4096) new.bytes) (512 * j + i % 512) 0 ∙ ap (λ (n : ℕ). get_or (blocks_of (length new.bytes / 4096) new.bytes) n 0) place

-- ---- a commit that can be made

module _ {torn : Option (List ℕ → Bool)} {old : Disk} {first : ℕ} {blocks : List ℕ} {settles : Bool} {slot : Slot} {tail : List ℕ} {number : ℕ} {c new : State} {from : ℕ} (can : CanCommit torn old first blocks settles slot tail number c new from) (coherent : IsCoherent (tearing_by torn old)) where
  -- what holds until the slots are written
  abbrev P : Image → Type 0
  P image = Stands number c image × (settles ≡ false → HoldsBlocks new.blocks new image)

  of_new : IsSlotOf old.sectors (slot_of new old.sectors (number + 1)) (tail_of new)
  of_new = subst (λ (l : List ℕ). IsSlotOf old.sectors (slot_of new old.sectors (number + 1)) l) can.tail_is (subst (λ (s : Slot). IsSlotOf old.sectors s tail) can.names can.of)

  was : Stands number c old.seen
  was = can.stands old.seen (subst (λ (i : Image). (tearing_by torn old).left i) (seen_by torn old) coherent.seen)

  seen_wide : length old.seen ≡ old.sectors
  seen_wide = wide_by torn old coherent old.seen (subst (λ (i : Image). (tearing_by torn old).left i) (seen_by torn old) coherent.seen)

  of_old : IsSlotOf old.sectors (slot_of c old.sectors number) (tail_of c)
  of_old = subst (λ (n : ℕ). IsSlotOf n (slot_of c n number) (tail_of c)) seen_wide was.of

  pub start : LeavesOnly (tearing_by torn old) (tearing_by torn old) P
  start = started (tearing_by torn old) P coherent (λ image left. (can.stands image left, λ is. can.held is image left))

  pub count_is : length blocks / 512 ≡ 8 * (length new.bytes / 4096 - from)
  count_is = omega (arith, ap length can.blocks_are, length-drop (4096 * from) (blocks_of (length new.bytes / 4096) new.bytes), length-take (4096 * (length new.bytes / 4096)) new.bytes)

  half_low : new.half ≤ 1
  half_low = of_new.half_fits

  past : 128 ≤ first
  past = omega (arith, can.first_is)

  pub aligned : first % 8 ≡ 0
  aligned = elim (half_is new.half half_low) [
    | inl none ↦ omega (arith, can.first_is, start_0 old.sectors new.half none)
    | inr one ↦ omega (arith, can.first_is, start_1 old.sectors new.half one)
  ]

  pub eights : (length blocks / 512) % 8 ≡ 0
  eights = omega (arith, count_is)

  apart_old : (k : ℕ) → block_start old.sectors c.half ≤ k → k < block_start old.sectors c.half + 8 * (length c.bytes / 4096) → (k < first) ⊎ (first + length blocks / 512 ≤ k)
  apart_old k above below = elim (run_apart old.sectors c.half (length c.bytes / 4096) new.half from (length new.bytes / 4096) of_old.half_fits half_low (whole_fits old.sectors number c of_old) (whole_fits old.sectors (number + 1) new of_new) can.apart k above below) [
    | inl low ↦ inl (omega (arith, low, can.first_is))
    | inr high ↦ inr (omega (arith, high, can.first_is, count_is))
  ]

  -- the run of blocks
  kept : (before image : Image) → length before ≡ old.sectors → P before → KeepsOutside first (length blocks / 512) before image → P image
  kept before image wide p outside = (
    stands_outside first (length blocks / 512) number c before image past outside (λ k above below. apart_old k (subst (λ (n : ℕ). block_start n c.half ≤ k) wide above) (subst (λ (n : ℕ). k < block_start n c.half + 8 * (length c.bytes / 4096)) wide below)) p.0,
    λ is. blocks_outside first (length blocks / 512) new.blocks new before image outside
        (λ k above below. let here : k < block_start old.sectors new.half + 8 * new.blocks = subst (λ (n : ℕ). k < block_start n new.half + 8 * new.blocks) wide below in inl (omega (arith, here, can.first_is, can.settled is))) (p.1 is),
  )

  pub after_run : (mid : Disk) → LeavesOnly (tearing_by torn old) (tearing_by torn mid) (OutsideSome (tearing_by torn old).left first (length blocks / 512)) → LeavesOnly (tearing_by torn old) (tearing_by torn mid) P
  after_run mid run =
      leaves_weaker (tearing_by torn old) (tearing_by torn mid) (OutsideSome (tearing_by torn old).left first (length blocks / 512)) P
      (λ image some. kept some.0 image (wide_by torn old coherent some.0 some.1) (can.stands some.0 some.1, λ is. can.held is some.0 some.1) some.2) run

  -- what is kept by a sync, or by none
  pub after_settle : (mid next : Disk) → LeavesOnly (tearing_by torn old) (tearing_by torn mid) P → IsCoherent (tearing_by torn mid) → KeepsImages (tearing_by torn mid) (tearing_by torn next) → LeavesOnly (tearing_by torn old) (tearing_by torn next) P
  after_settle mid next so_far coherent_mid keeps =
      joined (tearing_by torn old) (tearing_by torn mid) (tearing_by torn next) P so_far
      (leaves_weaker (tearing_by torn mid) (tearing_by torn next) (tearing_by torn mid).left P (λ image left. left_now (tearing_by torn old) (tearing_by torn mid) P coherent_mid so_far image left) keeps.any_moment)

  seen_has : (mid : Disk) → LeavesOnly (tearing_by torn old) (tearing_by torn mid) P → IsCoherent (tearing_by torn mid) → P mid.seen
  seen_has mid so_far coherent_mid = left_now (tearing_by torn old) (tearing_by torn mid) P coherent_mid so_far mid.seen (subst (λ (i : Image). (tearing_by torn mid).left i) (seen_by torn mid) coherent_mid.seen)

  -- a call failed before the slots were written
  pub not_put : {T E : Type 0} (mid : Disk) (result : Result T E) → IsErr result → LeavesOnly (tearing_by torn old) (tearing_by torn mid) P → IsCoherent (tearing_by torn mid) → Put torn old mid number c new result
  not_put mid result err so_far coherent_mid = record {
    any_moment = leaves_weaker (tearing_by torn old) (tearing_by torn mid) P (EitherBelow (number + 2) c new) (λ image p. (inl (stands_carries number c image p.0), stands_below number c image p.0)) so_far;
    done = no_ok ((image : Image) → (tearing_by torn mid).left image → Stands (number + 1) new image) result err;
    stays = (seen_has mid so_far coherent_mid).0.begins;
  }

  -- the slots may be written
  pub whole_now : (mid : Disk) → Over first (length blocks / 512) blocks old.seen mid.seen → SectorsHold mid.seen first (length blocks / 512) blocks → HoldsBlocks (length new.bytes / 4096) new mid.seen
  whole_now mid over written =
      let wide : length mid.seen ≡ old.sectors = over.length_is ∙ seen_wide in
      let read = blocks_outside first (length blocks / 512) from new old.seen mid.seen (over_outside first (length blocks / 512) blocks old.seen mid.seen over)
      (λ k above below. inl (subst (λ (n : ℕ). k < n) (sym can.first_is) (subst (λ (n : ℕ). k < block_start n new.half + 8 * from) seen_wide below))) can.read in
      whole_holds from new mid.seen first (length blocks / 512) blocks (can.first_is ∙ ap (λ (n : ℕ). block_start n new.half + 8 * from) (sym wide)) can.blocks_are count_is read written

  pub can_put : (mid next : Disk) → LeavesOnly (tearing_by torn old) (tearing_by torn next) P → IsCoherent (tearing_by torn next) → next.honest → next.sectors ≡ old.sectors → next.seen ≡ mid.seen → HoldsBlocks (length new.bytes / 4096) new mid.seen
      → (settles ≡ true → (image : Image) → (tearing_by torn next).left image → image ≡ mid.seen) → CanPut torn next slot tail number c new
  can_put mid next so_far coherent_next honest size seen whole alone = record {
    told = can.told;
    honest = honest;
    names = can.names ∙ ap (λ (n : ℕ). slot_of new n (number + 1)) (sym size);
    tail_is = can.tail_is;
    of = subst (λ (n : ℕ). IsSlotOf n slot tail) (sym size) can.of;
    stands = λ image left. (has image left).0;
    holds = λ image left. named settles refl image left;
    whole = subst (HoldsBlocks (length new.bytes / 4096) new) (sym seen) whole;
  }
    where
      has : (image : Image) → (tearing_by torn next).left image → P image
      has image left = left_now (tearing_by torn old) (tearing_by torn next) P coherent_next so_far image left

      few : new.blocks ≤ length new.bytes / 4096
      few = named_blocks old.sectors (number + 1) new of_new

      named : (b : Bool) → settles ≡ b → (image : Image) → (tearing_by torn next).left image → HoldsBlocks new.blocks new image
      named true is image left = subst (HoldsBlocks new.blocks new) (sym (alone is image left)) (fewer_blocks mid.seen (block_start (length mid.seen) new.half) new.blocks (length new.bytes / 4096) new.bytes few whole)
      named false is image left = (has image left).1 is

  pub all_put : {T E : Type 0} (next last : Disk) (result : Result T E) → LeavesOnly (tearing_by torn old) (tearing_by torn next) P → Put torn next last number c new result → Put torn old last number c new result
  all_put next last result so_far put = record {
    any_moment = joined (tearing_by torn old) (tearing_by torn next) (tearing_by torn last) (EitherBelow (number + 2) c new)
        (leaves_weaker (tearing_by torn old) (tearing_by torn next) P (EitherBelow (number + 2) c new) (λ image p. (inl (stands_carries number c image p.0), stands_below number c image p.0)) so_far) put.any_moment;
    done = put.done;
    stays = put.stays;
  }
