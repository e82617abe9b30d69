-- An append whose bytes don't fit the slot: the first of them fill a block, which is written first.
use Rattle.std.proofs.Common.{◌≡◌, ◌≢◌, ◌⊎◌, inl, inr, ⊎_elim, ℕ, ◌+◌, ◌-◌, ◌*◌, ◌/◌, ◌%◌, ◌≤◌, ◌<◌, ◌^◌, List, [], ◌++◌, length, take, drop, refl, ap, subst, sym, ◌∙◌, arith, append_assoc, length-append, take_all, take_at, take-take, drop_at, Bool, true, false, Option, Result, IsErr, if◌then◌else◌}
use Rattle.std.proofs.Math.Seq.{take-append-add, drop-append-add}
use Rattle.std.proofs.lemmas.Bool.{cases_lt, lt-leb}
use Rattle.std.proofs.lemmas.List.{length-drop, length-take, take-append-drop, drop-take}
use Rattle.sector_device.specs.Disk.{Image, Disk, IsCoherent, LeavesOnly}
use Rattle.sector_device.specs.Sectors.{Over, SectorsHold, byte_at}
use Rattle.sector_device.proofs.Moments.{joined, leaves_weaker, left_now}
use Rattle.std.specs.Prelude.{slice_index}
use Rattle.checksum.specs.Crc.{crc_of}
use Rattle.commit_slots.specs.Slots.{IsSlotOf, block_start, count_of, half_blocks, slots_capacity}
use Rattle.commit_slots.specs.declared.slot.Slot.{Slot}
use Rattle.slot_commits.specs.Asides.{IsAside, IsNeeded}
use Rattle.slot_commits.specs.Commits.{CanCommit}
use Rattle.slot_commits.specs.Puts.{EitherBelow, Put}
use Rattle.slot_commits.specs.States.{HoldsBlocks, Stands, State, blocks_of, slot_of, tail_of}
use Rattle.slot_commits.specs.Tears.{IsToldBy, tearing_by}
use Rattle.slot_commits.proofs.Either.{stands_below, stands_carries}
use Rattle.slot_commits.proofs.Copies.{no_ok}
use Rattle.slot_commits.proofs.Puts.{seen_by}
use Rattle.slot_commits.proofs.Runs.{whole_holds}
use Rattle.slot_journal.specs.Journaled.{append_calls, appended, named_after}
use Rattle.slot_journal.specs.Known.{IsFormed, IsOtherHalf, Knows}
use Rattle.slot_journal.specs.declared.known.Known.{Known}
use Rattle.slot_journal.proofs.Bytes.{blocks_same, filled_is}
use Rattle.slot_journal.proofs.Smalls.{half_is, length_is, named_large, seq_is}

-- a half begins with a block, behind the slots
pub starts_even : (sectors half : ℕ) → half ≤ 1 → (block_start sectors half % 8 ≡ 0) × (128 ≤ block_start sectors half)
starts_even sectors half low = elim (cases_lt half 1) [
  | inl lt ↦ (ap (λ (h : ℕ). block_start sectors h % 8) (zeroth lt) ∙ even_0, omega arith)
  | inr ge ↦ (ap (λ (h : ℕ). block_start sectors h % 8) (first ge) ∙ even_1, omega arith)
]
  where
    zeroth : half < 1 → half ≡ 0
    zeroth lt = omega (arith, lt)

    first : 1 ≤ half → half ≡ 1
    first ge = omega (arith, ge, low)

    even_0 : block_start sectors 0 % 8 ≡ 0
    even_0 = omega arith

    even_1 : block_start sectors 1 % 8 ≡ 0
    even_1 = omega arith

pub start_0 : (sectors half : ℕ) → half ≡ 0 → block_start sectors half ≡ 128
start_0 sectors half is = ap (block_start sectors) is ∙ omega arith

pub start_1 : (sectors half : ℕ) → half ≡ 1 → block_start sectors half ≡ 128 + 8 * half_blocks sectors
start_1 sectors half is = ap (block_start sectors) is ∙ omega arith

-- it lies on the device
pub half_inside : (sectors half : ℕ) → half ≤ 1 → 160 ≤ sectors → block_start sectors half + 8 * half_blocks sectors ≤ sectors
half_inside sectors half low most = elim (cases_lt half 1) [
  | inl lt ↦ omega (arith, most, start_0 sectors half (omega (arith, lt)))
  | inr ge ↦ omega (arith, most, start_1 sectors half (omega (arith, ge, low)))
]

-- and apart from the other one
pub other_outside : (known : Known) (k : ℕ) → IsOtherHalf known k → known.slot.half ≤ 1 → (first count : ℕ) → block_start known.slot.sectors known.slot.half ≤ first
    → first + count ≤ block_start known.slot.sectors known.slot.half + 8 * half_blocks known.slot.sectors → (128 ≤ k) × ((k < first) ⊎ (first + count ≤ k))
other_outside known k other low first count from below = elim (cases_lt known.slot.half 1) [
  | inl lt ↦ zeroth (omega (arith, lt))
  | inr ge ↦ one (omega (arith, ge, low))
]
  where
    sectors : ℕ
    sectors = known.slot.sectors

    zeroth : known.slot.half ≡ 0 → (128 ≤ k) × ((k < first) ⊎ (first + count ≤ k))
    zeroth is =
        let there = start_0 known.slot.sectors known.slot.half is in
        let beyond = start_1 known.slot.sectors (1 - known.slot.half) (omega (arith, is)) in (omega (arith, other.from, beyond), inr (omega (arith, other.from, below, there, beyond)))

    one : known.slot.half ≡ 1 → (128 ≤ k) × ((k < first) ⊎ (first + count ≤ k))
    one is =
        let there = start_1 known.slot.sectors known.slot.half is in
        let beyond = start_0 known.slot.sectors (1 - known.slot.half) (omega (arith, is)) in (omega (arith, other.from, beyond), inl (omega (arith, other.below, from, there, beyond)))

-- the calls
pub calls_large : (used : ℕ) (front back : List ℕ) → used % 4096 + length front ≡ 4096 → 15428 < 4096 + length back
    → 8 + (length (take (length back / 4096 * 4096) back) / 512 + (1 + (2 * count_of (length (drop (length back / 4096 * 4096) back)) + 1))) ≡ append_calls used (length (front ++ back))
calls_large used front back fills large =
    let m = length (front ++ back) in
    let more : length (front ++ back) ≡ length front + length back = length-append front back in
    let rest : length (drop (length back / 4096 * 4096) back) ≡ used + length (front ++ back) - 4096 * ((used + length (front ++ back)) / 4096) = omega (arith, length-drop (length back / 4096 * 4096) back, fills, more) in
    let blocks : 8 + length (take (length back / 4096 * 4096) back) / 512 ≡ 8 * ((used + length (front ++ back)) / 4096 - used / 4096) = omega (arith, length-take (length back / 4096 * 4096) back, fills, more) in
    sums (length (take (length back / 4096 * 4096) back) / 512) (8 * ((used + length (front ++ back)) / 4096 - used / 4096)) (length (drop (length back / 4096 * 4096) back)) (used + length (front ++ back) - 4096 * ((used + length (front ++ back)) / 4096)) blocks rest
    ∙ ap calls_by (sym (lt-leb (used % 4096 + m) 15428 (omega (arith, fills, large, more))))
  where
    calls_by : Bool → ℕ
    calls_by b =
        8 * ((used + length (front ++ back)) / 4096 - used / 4096) + ((if b then 0 else 1) + (2 * count_of (used + length (front ++ back) - 4096 * (if b then used / 4096 else (used + length (front ++ back)) / 4096)) + 1))

    sums : (a b r s : ℕ) → 8 + a ≡ b → r ≡ s → 8 + (a + (1 + (2 * count_of r + 1))) ≡ b + (1 + (2 * count_of s + 1))
    sums a b r s first rest = omega (arith, first) ∙ ap (λ (n : ℕ). b + (1 + (2 * count_of n + 1))) rest

-- the block behind the whole ones is aside
pub next_aside : (sectors : ℕ) (c : State) → c.half ≤ 1 → IsAside sectors c (block_start sectors c.half + 8 * (length c.bytes / 4096)) 8
next_aside sectors c low k j needed lt =
    let even = starts_even sectors c.half low in
    elim needed [
      | inl slots ↦ λ same. omega (arith, slots, lt, even.0, even.1, same)
      | inr blocks ↦ λ same. omega (arith, blocks.0, blocks.1, lt, even.0, even.1, same)
    ]

pub aside_here : (known : Known) (c : State) → Knows known c → (sectors : ℕ) → IsFormed sectors known → (first : ℕ) → first ≡ block_start known.slot.sectors known.slot.half + 8 * (known.slot.length / 4096) → IsAside sectors c first 8
aside_here known c knows sectors formed first first_as =
    let place : first ≡ block_start sectors c.half + 8 * (length c.bytes / 4096) = first_as ∙ (λ i. block_start (formed.size i) (half_is known c knows i) + 8 * (length_is known c knows i / 4096)) in
    subst (λ (n : ℕ). IsAside sectors c n 8) (sym place) (next_aside sectors c (subst (λ (n : ℕ). n ≤ 1) (half_is known c knows) formed.half_fits))

-- on the device as it is then
pub formed_then : (known : Known) (sectors then_sectors : ℕ) → IsFormed sectors known → sectors ≡ then_sectors → IsFormed then_sectors known
formed_then known sectors then_sectors formed is = subst (λ (n : ℕ). IsFormed n known) is formed

-- before the slots are written, and then
pub put_behind : {T E : Type 0} (torn : Option (List ℕ → Bool)) (old mid next : Disk) (number : ℕ) (c new : State) (result : Result T E) → LeavesOnly (tearing_by torn old) (tearing_by torn mid) (Stands number c)
    → Put torn mid next number c new result → Put torn old next number c new result
put_behind torn old mid next number c new result so_far put = record {
  any_moment = joined (tearing_by torn old) (tearing_by torn mid) (tearing_by torn next) (EitherBelow (number + 2) c new)
      (leaves_weaker (tearing_by torn old) (tearing_by torn mid) (Stands number c) (EitherBelow (number + 2) c new) (λ image stands. (inl (stands_carries number c image stands), stands_below number c image stands)) so_far) put.any_moment;
  done = put.done;
  stays = put.stays;
}

-- a call failed before that
pub put_none : {T E : Type 0} (torn : Option (List ℕ → Bool)) (old mid : Disk) (number : ℕ) (c new : State) (result : Result T E) → IsErr result → LeavesOnly (tearing_by torn old) (tearing_by torn mid) (Stands number c)
    → IsCoherent (tearing_by torn mid) → Put torn old mid number c new result
put_none torn old mid number c new result err so_far coherent = record {
  any_moment = leaves_weaker (tearing_by torn old) (tearing_by torn mid) (Stands number c) (EitherBelow (number + 2) c new) (λ image stands. (inl (stands_carries number c image stands), stands_below number c image stands)) so_far;
  done = no_ok ((image : Image) → (tearing_by torn mid).left image → Stands (number + 1) new image) result err;
  stays = (left_now (tearing_by torn old) (tearing_by torn mid) (Stands number c) coherent so_far mid.seen (subst (λ (i : Image). (tearing_by torn mid).left i) (seen_by torn mid) coherent.seen)).begins;
}

module _ (known : Known) (c : State) (knows : Knows known c) (front back : List ℕ) (fills : known.slot.length % 4096 + length front ≡ 4096) where
  abbrev mid : List ℕ
  mid = c.bytes ++ front

  abbrev all : List ℕ
  all = c.bytes ++ (front ++ back)

  abbrev whole : ℕ
  whole = length back / 4096 * 4096

  fills_there : length c.bytes % 4096 + length front ≡ 4096
  fills_there = ap (λ (n : ℕ). n % 4096 + length front) (sym (length_is known c knows)) ∙ fills

  mid_long : length (c.bytes ++ front) ≡ 4096 * (length c.bytes / 4096 + 1)
  mid_long = omega (arith, length-append c.bytes front, fills_there)

  joined_all : (c.bytes ++ front) ++ back ≡ c.bytes ++ (front ++ back)
  joined_all = append_assoc c.bytes front back

  all_long : length (c.bytes ++ (front ++ back)) ≡ length (c.bytes ++ front) + length back
  all_long = ap length (sym joined_all) ∙ length-append (c.bytes ++ front) back

  cut : 4096 * (length (c.bytes ++ (front ++ back)) / 4096) ≡ length (c.bytes ++ front) + length back / 4096 * 4096
  cut = omega (arith, all_long, mid_long)

  -- the blocks up to a place behind the first of the new bytes
  blocks_all : blocks_of (length (c.bytes ++ (front ++ back)) / 4096) (c.bytes ++ (front ++ back)) ≡ (c.bytes ++ front) ++ take (length back / 4096 * 4096) back
  blocks_all = ap (λ (n : ℕ). take n (c.bytes ++ (front ++ back))) cut ∙ ap (take (length (c.bytes ++ front) + length back / 4096 * 4096)) (sym joined_all) ∙ take-append-add (c.bytes ++ front) back (length back / 4096 * 4096)

  blocks_mid : blocks_of (length c.bytes / 4096 + 1) (c.bytes ++ (front ++ back)) ≡ c.bytes ++ front
  blocks_mid = ap (λ (l : List ℕ). take (4096 * (length c.bytes / 4096 + 1)) l) (sym joined_all) ∙ take_at (c.bytes ++ front) back (4096 * (length c.bytes / 4096 + 1)) mid_long

  rest_all : drop (4096 * (length (c.bytes ++ (front ++ back)) / 4096)) (c.bytes ++ (front ++ back)) ≡ drop (length back / 4096 * 4096) back
  rest_all = ap (λ (n : ℕ). drop n (c.bytes ++ (front ++ back))) cut ∙ ap (drop (length (c.bytes ++ front) + length back / 4096 * 4096)) (sym joined_all) ∙ drop-append-add (c.bytes ++ front) back (length back / 4096 * 4096)

  -- the buffer, once it has the first of the new bytes too
  module _ (filled : List ℕ) (put : take (known.slot.length % 4096 + length front) filled ≡ take (known.slot.length % 4096) known.tail.items ++ front) where
    pub block_is : take 4096 filled ≡ drop (4096 * (length c.bytes / 4096)) (c.bytes ++ front)
    block_is = ap (λ (n : ℕ). take n filled) (sym fills_there) ∙ filled_is c.bytes front known.tail.items filled knows.tail_is (subst (λ (n : ℕ). take (n % 4096 + length front) filled ≡ take (n % 4096) known.tail.items ++ front) (length_is known c knows) put)

    mid_is : blocks_of (length c.bytes / 4096) c.bytes ++ take 4096 filled ≡ c.bytes ++ front
    mid_is = ap (λ (l : List ℕ). blocks_of (length c.bytes / 4096) c.bytes ++ l) block_is
        ∙ ap (λ (l : List ℕ). l ++ drop (4096 * (length c.bytes / 4096)) (c.bytes ++ front)) (sym (blocks_same c.bytes front (length c.bytes / 4096) (omega arith)))
        ∙ take-append-drop (4096 * (length c.bytes / 4096)) (c.bytes ++ front)

    -- its checksum
    pub check_mid : (check : ℕ) → check ≡ crc_of (blocks_of (length c.bytes / 4096) c.bytes ++ take 4096 filled) → check ≡ crc_of (c.bytes ++ front)
    check_mid check is = is ∙ ap crc_of mid_is

    -- and that of all whole blocks
    pub check_all : (one two : ℕ) → one ≡ crc_of (blocks_of (length c.bytes / 4096) c.bytes ++ take (known.slot.length % 4096 + length front) filled) → ((bytes : List ℕ) → one ≡ crc_of bytes → two ≡ crc_of (bytes ++ take (length back / 4096 * 4096) back))
        → two ≡ crc_of ((c.bytes ++ front) ++ take (length back / 4096 * 4096) back)
    check_all one two is more = more (c.bytes ++ front) (check_mid one (is ∙ ap (λ (n : ℕ). crc_of (blocks_of (length c.bytes / 4096) c.bytes ++ take n filled)) fills))

    -- the block is read once it is written
    pub block_holds : (image : Image) (first : ℕ) (blocks : List ℕ) (adds opens : ℕ) → first ≡ block_start (length image) c.half + 8 * (length c.bytes / 4096) → blocks ≡ take (known.slot.length % 4096 + length front) filled → HoldsBlocks (length c.bytes / 4096) c image → SectorsHold image first 8 blocks
        → HoldsBlocks (length c.bytes / 4096 + 1) (appended c (front ++ back) adds opens) image
    block_holds image first blocks adds opens first_is blocks_as holds written =
        let w = length c.bytes / 4096 in
        let one : State = record c { bytes = c.bytes ++ front } in
        let count : 8 ≡ 8 * (length (c.bytes ++ front) / 4096 - w) = omega (arith, mid_long) in
        let whole_mid : blocks_of (length (c.bytes ++ front) / 4096) (c.bytes ++ front) ≡ c.bytes ++ front = take_all (4096 * (length (c.bytes ++ front) / 4096)) (c.bytes ++ front) (omega (arith, mid_long)) in
        let before : HoldsBlocks w one image = subst (λ (l : List ℕ). (i : ℕ) → i < length l → byte_at image (block_start (length image) c.half) i ≡ slice_index l i) (sym (blocks_same c.bytes front w (omega arith))) holds in
        subst (λ (l : List ℕ). (i : ℕ) → i < length l → byte_at image (block_start (length image) c.half) i ≡ slice_index l i) (whole_mid ∙ sym blocks_mid)
        (whole_holds w one image first 8 blocks first_is (blocks_as ∙ ap (λ (n : ℕ). take n filled) fills ∙ block_is ∙ ap (drop (4096 * w)) (sym whole_mid)) count before written)

  -- the slot
  module _ (adds opens check : ℕ) (large : 15428 < 4096 + length back) (check_as : check ≡ crc_of ((c.bytes ++ front) ++ take (length back / 4096 * 4096) back)) where
    both : length front + length back ≡ length (front ++ back)
    both = sym (length-append front back)

    named_is : (known.slot.length + (length front + length back)) / 4096 ≡ named_after (length c.bytes) (length (front ++ back))
    named_is = ap (λ (n : ℕ). (known.slot.length + n) / 4096) both ∙ ap (λ (n : ℕ). (n + length (front ++ back)) / 4096) (length_is known c knows) ∙ sym (named_large (length c.bytes) (length (front ++ back)) (omega (arith, large, fills_there, length-append front back)))

    named_all : named_after (length c.bytes) (length (front ++ back)) ≡ length (c.bytes ++ (front ++ back)) / 4096
    named_all = named_large (length c.bytes) (length (front ++ back)) (omega (arith, large, fills_there, length-append front back)) ∙ ap (λ (n : ℕ). n / 4096) (sym (length-append c.bytes (front ++ back)))

    pub says_large : (sectors : ℕ) → known.slot.sectors ≡ sectors
        → ◌≡◌ {A = Slot} (record { number = known.slot.number + 1; length = known.slot.length + (length front + length back); seq = known.slot.seq + adds; opens = opens; sectors = known.slot.sectors; half = known.slot.half; blocks = (known.slot.length + (length front + length back)) / 4096; check = check; identity = known.slot.identity })
        (slot_of (appended c (front ++ back) adds opens) sectors (known.slot.number + 1))
    says_large sectors size = λ i. record {
      number = known.slot.number + 1;
      length = (ap (λ (n : ℕ). known.slot.length + n) both ∙ ap (λ (n : ℕ). n + length (front ++ back)) (length_is known c knows) ∙ sym (length-append c.bytes (front ++ back))) i;
      seq = ap (λ (n : ℕ). n + adds) (seq_is known c knows) i;
      opens = opens;
      sectors = size i;
      half = half_is known c knows i;
      blocks = named_is i;
      check = (check_as ∙ ap crc_of (sym blocks_all ∙ ap (λ (n : ℕ). blocks_of n (c.bytes ++ (front ++ back))) (sym named_all))) i;
      identity = ap (λ (s : Slot). s.identity) knows.slot_is i;
    }

    pub tail_large : drop (length back / 4096 * 4096) back ≡ tail_of (appended c (front ++ back) adds opens)
    tail_large = sym rest_all ∙ ap (λ (n : ℕ). drop (4096 * n) (c.bytes ++ (front ++ back))) (sym named_all)

    -- what is known after it
    pub knows_large : (moved : List ℕ) (next : Known) → take (length (drop (length back / 4096 * 4096) back)) moved ≡ drop (length back / 4096 * 4096) back
        → next.slot ≡ record { number = known.slot.number + 1; length = known.slot.length + (length front + length back); seq = known.slot.seq + adds; opens = opens; sectors = known.slot.sectors; half = known.slot.half; blocks = (known.slot.length + (length front + length back)) / 4096; check = check; identity = known.slot.identity }
        → next.check ≡ check → next.tail.items ≡ moved → Knows next (appended c (front ++ back) adds opens)
    knows_large moved next moved_as slot_as next_check next_tail = record {
      slot_is = slot_as ∙ says_large known.slot.sectors refl ∙ ap (λ (s : Slot). slot_of (appended c (front ++ back) adds opens) s.sectors s.number) (sym slot_as);
      check_is = next_check ∙ check_as ∙ ap crc_of (sym blocks_all);
      tail_is = ap (take (length (c.bytes ++ (front ++ back)) % 4096)) next_tail
          ∙ ap (λ (n : ℕ). take n moved) rest_long ∙ moved_as ∙ sym rest_all;
    }
      where
        rest_long : length (c.bytes ++ (front ++ back)) % 4096 ≡ length (drop (length back / 4096 * 4096) back)
        rest_long = omega (arith, all_long, mid_long, length-drop (length back / 4096 * 4096) back)

    module _ (torn : Option (List ℕ → Bool)) (disk : Disk) (told : IsToldBy torn) (honest : disk.honest) (formed : IsFormed disk.sectors known) (fits : known.slot.length + length (front ++ back) ≤ slots_capacity known.slot.sectors)
        (seq_fits : known.slot.seq + adds < 2 ^ 64) (number_fits : known.slot.number + 1 < 2 ^ 64) (opens_fit : opens < 2 ^ 64) (check_fits : check < 2 ^ 32)
        (stands : (image : Image) → (tearing_by torn disk).left image → Stands known.slot.number c image) (read : HoldsBlocks (length c.bytes / 4096 + 1) (appended c (front ++ back) adds opens) disk.seen) where
      room : known.slot.length + length (front ++ back) ≤ slots_capacity disk.sectors
      room = subst (λ (n : ℕ). known.slot.length + length (front ++ back) ≤ slots_capacity n) formed.size fits

      slot_fits : IsSlotOf disk.sectors (record { number = known.slot.number + 1; length = known.slot.length + (length front + length back); seq = known.slot.seq + adds; opens = opens; sectors = known.slot.sectors; half = known.slot.half; blocks = (known.slot.length + (length front + length back)) / 4096; check = check; identity = known.slot.identity }) (drop (length back / 4096 * 4096) back)
      slot_fits = record {
        sectors_is = formed.size;
        sectors_fit = formed.at_most;
        half_fits = formed.half_fits;
        length_is = omega (arith, length-drop (length back / 4096 * 4096) back, length-append front back, fills);
        length_fits = omega (arith, room, length-append front back);
        tail_fits = omega (arith, length-drop (length back / 4096 * 4096) back);
        number_fits = number_fits;
        seq_fits = seq_fits;
        opens_fits = opens_fit;
        blocks_fit = omega (arith, room, formed.at_most, length-append front back);
        check_fits = check_fits;
        identity_fits = formed.identity_fits;
      }

      pub can_large : (first : ℕ) (blocks tail : List ℕ) → first ≡ block_start known.slot.sectors known.slot.half + 8 * (known.slot.length / 4096) + 8 → blocks ≡ take (length back / 4096 * 4096) back
          → tail ≡ drop (length back / 4096 * 4096) back → CanCommit torn disk first blocks true
          (record { number = known.slot.number + 1; length = known.slot.length + (length front + length back); seq = known.slot.seq + adds; opens = opens; sectors = known.slot.sectors; half = known.slot.half; blocks = (known.slot.length + (length front + length back)) / 4096; check = check; identity = known.slot.identity })
          tail known.slot.number c (appended c (front ++ back) adds opens) (length c.bytes / 4096 + 1)
      can_large first blocks tail first_as blocks_as tail_as = record {
        told = told;
        honest = honest;
        names = says_large disk.sectors formed.size;
        tail_is = tail_as ∙ tail_large;
        of = subst (IsSlotOf disk.sectors (record { number = known.slot.number + 1; length = known.slot.length + (length front + length back); seq = known.slot.seq + adds; opens = opens; sectors = known.slot.sectors; half = known.slot.half; blocks = (known.slot.length + (length front + length back)) / 4096; check = check; identity = known.slot.identity })) (sym tail_as) slot_fits;
        stands = stands;
        read = read;
        held = λ settles. absurd (cc settles);
        first_is = first_as ∙ (λ i. block_start (formed.size i) (half_is known c knows i) + 8 * (length_is known c knows i / 4096) + 8) ∙ next_block (block_start disk.sectors c.half) (length c.bytes / 4096);
        blocks_are = blocks_as ∙ sym (ap (λ (l : List ℕ). drop (4096 * (length c.bytes / 4096 + 1)) l) blocks_all ∙ drop_at (c.bytes ++ front) (take (length back / 4096 * 4096) back) (4096 * (length c.bytes / 4096 + 1)) mid_long);
        apart = λ _. omega arith;
        settled = λ settles. absurd (cc settles);
      }
        where
          next_block : (start blocks : ℕ) → start + 8 * blocks + 8 ≡ start + 8 * (blocks + 1)
          next_block start blocks = omega arith
