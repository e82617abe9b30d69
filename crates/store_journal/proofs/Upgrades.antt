-- A store in format 2 that becomes one in format 3, in place.
use Rattle.std.proofs.Common.{◌≡◌, inl, inr, ⊎_elim, ℕ, ◌+◌, ◌-◌, ◌*◌, ◌/◌, ◌%◌, ◌<◌, ◌≤◌, ◌^◌, List, [], length, take, drop, get_or, Bool, true, None, refl, ap, subst, sym, ◌∙◌, arith}
use Rattle.sector_device.specs.Disk.{Disk, Image, IsCoherent, LeavesOnly}
use Rattle.sector_device.specs.Sectors.{Begins, KeepsImages, byte_at}
use Rattle.sector_device.proofs.Moments.{leaves_weaker, left_now}
use Rattle.checksum.specs.Crc.{crc_of}
use Rattle.commit_slots.specs.Fresh.{IsFresh}
use Rattle.commit_slots.specs.Slots.{slot_sector, slots_capacity}
use Rattle.commit_slots.specs.declared.slot.Slot.{Slot}
use Rattle.slot_commits.specs.Converts.{Converting}
use Rattle.slot_commits.specs.Finds.{IsFound}
use Rattle.slot_commits.specs.Firsts.{KeepsFirst, LeavesFirst}
use Rattle.slot_commits.specs.Formats.{formatted}
use Rattle.slot_commits.specs.Loads.{number_end}
use Rattle.slot_commits.specs.Pairs.{KeepsOutside}
use Rattle.slot_commits.specs.States.{CarriesInSlots, Stands, State, blocks_of, slot_of, tail_of}
use Rattle.slot_commits.specs.declared.found.Found.{Found}
use Rattle.slot_commits.proofs.Firsts.{slot_begins}
use Rattle.slot_journal.specs.Known.{Knows as SlotKnows}
use Rattle.slot_journal.specs.declared.known.Known.{Known}
use Rattle.half_journal.specs.Layout.{HasNoSector, IsHalfSized, half_capacity, half_start as start_in_half, sector_of}
use Rattle.half_journal.specs.States.{CarriesInHalf, HalfState, commit_of}
use Rattle.half_journal.specs.declared.commit_sector.Commit.{Commit}
use Rattle.half_journal.specs.declared.known.HalfKnown.{HalfKnown}
use Rattle.store_journal.specs.Carries.{Carried, EitherCarried, half_of, state_of, turned}
use Rattle.store_journal.specs.Held.{IsInHalf, IsInSlots, IsRidingFormed, bytes_in}
use Rattle.store_journal.specs.Layout.{FitsBetween}
use Rattle.store_journal.specs.Models.{IsTold}
use Rattle.store_journal.specs.Turning.{LeavesNumbers}
use Rattle.store_journal.specs.declared.held.Held.TheVariants.{InHalf}
use Rattle.store_journal.proofs.Seen.{carries_half, half_bytes}
use Rattle.store_journal.proofs.Slots.{riding_at, slot_is_none}
use Rattle.store_journal.proofs.Weak.{leaves_both}

-- ---- the numbers of older slots

-- one of them is too high
pub spent : (image : Image) (found : Found) → number_end - 3 ≤ found.highest → IsFound image found → LeavesNumbers image → ⊥
spent image found high is leaves =
    ⊎_elim (λ zero. absurd (omega (arith, high, zero))) (λ some. let low = leaves some.0 some.1 some.2 in absurd (omega (arith, high, low, some.3))) is.reached

-- none is
pub unspent : (image : Image) (found : Found) → found.highest < number_end - 3 → IsFound image found → LeavesNumbers image
unspent image found low is k lt verifies = let next = is.fresh k lt verifies in omega (arith, low, next)

-- the first odd number above them is fresh
pub odd_fresh : (image : Image) (found : Found) → IsFound image found → IsFresh (found.highest + 1 + found.highest % 2) image
odd_fresh image found is k lt verifies = let next = is.fresh k lt verifies in omega (arith, next)

-- ---- format 2 stays

-- sector 0 and half 1 are as they were
pub half_kept : (c : HalfState) (before image : Image) (from : ℕ) → c.half ≡ 1 → from ≤ start_in_half (length before) 1 → length image ≡ length before → get_or image 0 [] ≡ get_or before 0 [] → ((k : ℕ) → from ≤ k → get_or image k [] ≡ get_or before k [])
    → CarriesInHalf c before → CarriesInHalf c image
half_kept c before image from half apart size zero same was =
    let start : start_in_half (length before) c.half ≡ start_in_half (length before) 1 = ap (start_in_half (length before)) half in
    record {
      sized = subst IsHalfSized (sym size) was.sized;
      version_fits = was.version_fits;
      half_fits = was.half_fits;
      fits = subst (λ (n : ℕ). length c.bytes ≤ half_capacity n) (sym size) was.fits;
      seq_fits = was.seq_fits;
      opens_fits = was.opens_fits;
      commit = zero ∙ was.commit ∙ ap (λ (n : ℕ). sector_of (commit_of c n)) (sym size);
      begins = λ i lt. ap (λ (n : ℕ). byte_at image (start_in_half n c.half) i) size ∙ ap (λ (l : List ℕ). get_or l (i % 512) 0) (same (start_in_half (length before) c.half + i / 512) (omega (arith, apart, start))) ∙ was.begins i lt;
    }

-- so its bytes are read as before
pub half_reads : (known : HalfKnown) (c : Carried) (before image : Image) (from : ℕ) → known.commit ≡ commit_of (half_of c) known.commit.sectors → c.half ≡ 1 → length before ≡ known.commit.sectors → from ≤ start_in_half (length before) 1
    → ((k : ℕ) → from ≤ k → get_or image k [] ≡ get_or before k []) → CarriesInHalf (half_of c) before → bytes_in image (InHalf known) ≡ c.bytes
half_reads known c before image from names half wide apart same was =
    let start : start_in_half (length before) c.half ≡ start_in_half (length before) 1 = ap (start_in_half (length before)) half in
    half_bytes image known c names
    (subst (λ (n : ℕ). Begins image (start_in_half n c.half) c.bytes) wide
    (λ i lt. ap (λ (l : List ℕ). get_or l (i % 512) 0) (same (start_in_half (length before) c.half + i / 512) (omega (arith, apart, start))) ∙ was.begins i lt))

-- ---- the state in slots

module _ (known : HalfKnown) (c : Carried) (identity : ℕ) (target : List ℕ) (names : known.commit ≡ commit_of (half_of c) known.commit.sectors) (half : known.commit.half ≡ 1) where
  pub half_one : c.half ≡ 1
  half_one = ap (λ (m : Commit). m.half) (sym names) ∙ half

  other : 0 ≡ 1 - c.half
  other = omega (arith, half_one)

  pub state_turned : formatted target known.commit.seq known.commit.opens identity ≡ state_of (turned true identity c target) (length target / 4096)
  state_turned = λ i. record { half = other i; bytes = target; seq = (names i).seq; opens = (names i).opens; blocks = length target / 4096; identity = identity }

-- what is known of it
pub knows_whole : (slots : Known) (s : State) (sectors number : ℕ) → slots.slot ≡ slot_of s sectors number → slots.check ≡ crc_of (blocks_of s.blocks s.bytes) → s.blocks ≡ length s.bytes / 4096
    → take (length s.bytes - 4096 * s.blocks) slots.tail.items ≡ drop (4096 * s.blocks) s.bytes → SlotKnows slots s
knows_whole slots s sectors number slot_is check_is whole tail_is =
    let size : sectors ≡ slots.slot.sectors = sym (ap (λ (m : Slot). m.sectors) slot_is) in
    let named : number ≡ slots.slot.number = sym (ap (λ (m : Slot). m.number) slot_is) in
    let rest : length s.bytes % 4096 ≡ length s.bytes - 4096 * s.blocks = omega (arith, whole) in
    record {
      slot_is = slot_is ∙ (λ i. slot_of s (size i) (named i));
      check_is = check_is ∙ ap (λ (n : ℕ). crc_of (blocks_of n s.bytes)) whole;
      tail_is = ap (λ (n : ℕ). take n slots.tail.items) rest ∙ tail_is ∙ ap (λ (n : ℕ). drop (4096 * n) s.bytes) whole;
    }

-- and it fits the device
pub formed_whole : (sectors number size : ℕ) (slots : Known) (s : State) → slots.slot ≡ slot_of s sectors number → s.half ≤ 1 → s.blocks ≡ length s.bytes / 4096 → sectors ≡ size → FitsBetween sectors (length s.bytes) → number + 1 < number_end → slots.check < 2 ^ 32
    → s.identity < 2 ^ 128 → length slots.tail.items ≡ 15428 → IsRidingFormed size slots None
formed_whole sectors number size slots s slot_is low whole same between end check identity room = record {
  formed = record {
    size = ap (λ (m : Slot). m.sectors) slot_is ∙ same;
    at_least = omega (arith, same, between.sized.at_least);
    at_most = omega (arith, same, between.sized.at_most);
    half_fits = subst (λ (m : Slot). m.half ≤ 1) (sym slot_is) low;
    used_fits = subst (λ (n : ℕ). slots.slot.length ≤ slots_capacity n) same (subst (λ (m : Slot). m.length ≤ slots_capacity sectors) (sym slot_is) between.fits);
    blocks_fit = subst (λ (m : Slot). 4096 * m.blocks ≤ m.length) (sym slot_is) (omega (arith, whole));
    check_fits = check;
    identity_fits = subst (λ (m : Slot). m.identity < 2 ^ 128) (sym slot_is) identity;
    room = room;
  };
  number_fits = λ is. subst (λ (m : Slot). m.number < number_end) (sym slot_is) (omega (arith, end));
  waiting = λ awaiting is. absurd (cc is);
}

-- a commit under an even number has sector 0
pub none_standing : (number : ℕ) (s : State) (image : Image) → number % 2 ≡ 0 → Stands number s image → HasNoSector image
none_standing number s image even stands commit of fits is =
    let here : get_or image 0 [] ≡ slot_sector (slot_of s (length image) number) (tail_of s) 0 = ap (λ (k : ℕ). get_or image k []) (omega (arith, even)) ∙ stands.first 0 (omega arith) in
    slot_is_none commit fits of.format_fits.at_most (ap (take 12) (sym is ∙ here) ∙ slot_begins (slot_of s (length image) number) (tail_of s) 0)

-- ---- the conversion

module _ (mid new : Disk) (known : HalfKnown) (c : Carried) (identity : ℕ) (target : List ℕ) (number : ℕ) (coherent : IsCoherent mid) (coherent_new : IsCoherent new) (size : known.commit.sectors ≡ mid.sectors) (half : known.commit.half ≡ 1) (between : FitsBetween known.commit.sectors (length target))
    (end : number + 2 ≤ number_end) (is : IsInHalf mid known c) (alone : (image : Image) → mid.left image → image ≡ mid.seen)
    (converting : LeavesOnly mid new (Converting number (formatted target known.commit.seq known.commit.opens identity) mid.seen)) where
  abbrev From : ℕ
  From = 128 + 8 * (length target / 4096)

  wide : length mid.seen ≡ known.commit.sectors
  wide = (coherent.shape mid.seen coherent.seen).count ∙ sym size

  apart : From ≤ start_in_half (length mid.seen) 1
  apart = subst (λ (n : ℕ). From ≤ start_in_half n 1) (sym wide) (omega (arith, between.apart))

  one : c.half ≡ 1
  one = half_one known c identity target is.knows.commit_is half

  still : (image : Image) → length image ≡ length mid.seen → get_or image 0 [] ≡ get_or mid.seen 0 [] → ((k : ℕ) → From ≤ k → get_or image k [] ≡ get_or mid.seen k []) → EitherCarried c (turned true identity c target) image
  still image long zero same = inl (carries_half c image is.plain is.identity_is (half_kept (half_of c) mid.seen image From one apart long zero same (is.carried mid.seen coherent.seen)))

  behind : (image : Image) (first count : ℕ) → first + count ≡ From → KeepsOutside first count mid.seen image → (k : ℕ) → From ≤ k → get_or image k [] ≡ get_or mid.seen k []
  behind image first count all outside k high = outside.same k (inr (omega (arith, all, high)))

  either : (image : Image) → Converting number (formatted target known.commit.seq known.commit.opens identity) mid.seen image × KeepsFirst None mid.left image → EitherCarried c (turned true identity c target) image
  either image (inl outside, first) = still image outside.size (outside.same 0 (inl (omega arith))) (behind image 64 (64 + 8 * (length target / 4096)) (omega arith) outside)
  either image (inr now, first) =
      let outside = now.0 in
      ⊎_elim (λ zero. still image outside.size (zero ∙ ap (λ (i : Image). get_or i 0 []) (alone first.0 first.1)) (behind image 0 From (omega arith) outside))
      (⊎_elim (λ begins.
      inr (riding_at (turned true identity c target) refl refl known.commit.sectors between.sized.at_least between.sized.at_most (length target / 4096) (number + 2) image end (outside.size ∙ wide)
      (λ commit of fits same. slot_is_none commit fits of.format_fits.at_most (ap (take 12) (sym same) ∙ begins)) now.2 (subst (λ (s : State). CarriesInSlots s image) (state_turned known c identity target is.knows.commit_is half) now.1)))
      (λ torn. absurd torn)) first.2

  pub upgrade_moment : LeavesFirst None mid new → LeavesOnly mid new (EitherCarried c (turned true identity c target))
  upgrade_moment first =
      leaves_weaker mid new (λ image. Converting number (formatted target known.commit.seq known.commit.opens identity) mid.seen image × KeepsFirst None mid.left image) (EitherCarried c (turned true identity c target)) either
      (leaves_both mid new (Converting number (formatted target known.commit.seq known.commit.opens identity) mid.seen) (KeepsFirst None mid.left) converting first)

  pub upgrade_stays : bytes_in new.seen (InHalf known) ≡ c.bytes
  upgrade_stays =
      let now = left_now mid new (Converting number (formatted target known.commit.seq known.commit.opens identity) mid.seen) coherent_new converting new.seen coherent_new.seen in
      half_reads known c mid.seen new.seen From is.knows.commit_is one wide apart
      (⊎_elim (λ outside. behind new.seen 64 (64 + 8 * (length target / 4096)) (omega arith) outside) (λ all. behind new.seen 0 From (omega arith) all.0) now) (is.carried mid.seen coherent.seen)

-- it is done
pub upgrade_done : (new : Disk) (known : HalfKnown) (slots : Known) (c : Carried) (identity : ℕ) (target : List ℕ) (number : ℕ) → known.commit ≡ commit_of (half_of c) known.commit.sectors → known.commit.half ≡ 1 → number % 2 ≡ 1
    → slots.slot ≡ slot_of (formatted target known.commit.seq known.commit.opens identity) known.commit.sectors (number + 1) → SlotKnows slots (formatted target known.commit.seq known.commit.opens identity)
    → ((torn : List ℕ → Bool) → IsTold new.sectors torn → (image : Image) → new.torn_left torn image → Stands (number + 1) (formatted target known.commit.seq known.commit.opens identity) image) → IsInSlots new slots (turned true identity c target)
upgrade_done new known slots c identity target number names half odd slot_is knows stands =
    let blocks : length target / 4096 ≡ slots.slot.blocks = sym (ap (λ (m : Slot). m.blocks) slot_is) in
    let state : formatted target known.commit.seq known.commit.opens identity ≡ state_of (turned true identity c target) slots.slot.blocks = state_turned known c identity target names half ∙ ap (state_of (turned true identity c target)) blocks in
    let numbered : number + 1 ≡ slots.slot.number = sym (ap (λ (m : Slot). m.number) slot_is) in
    record {
      rides_is = refl;
      version_is = refl;
      knows = subst (SlotKnows slots) state knows;
      stands = λ image left. subst (λ (n : ℕ). Stands n (state_of (turned true identity c target) slots.slot.blocks) image) numbered (subst (λ (s : State). Stands (number + 1) s image) state (stands left.0 left.1 image left.2));
      none = λ image left. none_standing (number + 1) (formatted target known.commit.seq known.commit.opens identity) image (omega (arith, odd)) (stands left.0 left.1 image left.2);
    }

-- before it nothing was written
pub in_half_kept : (old mid : Disk) (known : HalfKnown) (c : Carried) → KeepsImages old mid → IsInHalf old known c → IsInHalf mid known c
in_half_kept old mid known c kept is = record { plain = is.plain; identity_is = is.identity_is; knows = is.knows; carried = λ image left. is.carried image (kept.left image left) }

pub looked_moment : (old mid : Disk) (known : HalfKnown) (c next : Carried) → KeepsImages old mid → IsInHalf old known c → LeavesOnly old mid (EitherCarried c next)
looked_moment old mid known c next kept is = leaves_weaker old mid old.left (EitherCarried c next) (λ image left. inl (carries_half c image is.plain is.identity_is (is.carried image left))) kept.any_moment

pub looked_stays : (old mid : Disk) (known : HalfKnown) (c : Carried) → IsCoherent old → known.commit.sectors ≡ old.sectors → KeepsImages old mid → IsInHalf old known c → bytes_in mid.seen (InHalf known) ≡ c.bytes
looked_stays old mid known c coherent size kept is =
    ap (λ (i : Image). bytes_in i (InHalf known)) kept.seen
    ∙ half_bytes old.seen known c is.knows.commit_is (subst (λ (n : ℕ). Begins old.seen (start_in_half n c.half) c.bytes) ((coherent.shape old.seen coherent.seen).count ∙ sym size) (is.carried old.seen coherent.seen).begins)
