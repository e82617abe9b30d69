-- A store that becomes one in slots, in place.
use Rattle.std.proofs.Common.{◌≡◌, inl, inr, ⊎_elim, ℕ, ◌+◌, ◌*◌, ◌/◌, ◌<◌, ◌^◌, List, length, subst, sym, ◌∙◌, arith, Result, IsErr, Bool, Option}
use Rattle.sector_device.specs.Disk.{Image, Disk, LeavesOnly, IsCoherent}
use Rattle.sector_device.specs.Sectors.{Over}
use Rattle.sector_device.proofs.Moments.{joined, leaves_weaker, left_now}
use Rattle.commit_slots.specs.Sealed.{Verifies, number_of}
use Rattle.commit_slots.specs.Slots.{IsSlotOf}
use Rattle.commit_slots.specs.Fresh.{IsFresh}
use Rattle.commit_slots.specs.declared.slot.Slot.{Slot}
use Rattle.slot_commits.specs.Converts.{CanConvert, Converted, Converting}
use Rattle.slot_commits.specs.Pairs.{KeepsOutside, OutsideSome}
use Rattle.slot_commits.specs.Puts.{EitherBelow}
use Rattle.slot_commits.specs.States.{CarriesInSlots, Stands, State}
use Rattle.slot_commits.specs.Tears.{tearing_by}
use Rattle.slot_commits.proofs.Copies.{no_ok}

both_leave : (old new : Disk) (P Q : Image → Type 0) → LeavesOnly old new P → LeavesOnly old new Q → LeavesOnly old new (λ image. P image × Q image)
both_leave old new P Q p q = record {
  later = p.later;
  each = λ image left. (p.each image left, q.each image left);
  before = λ m image le left. elim (p.before m image le left) [
    | inl was ↦ inl was
    | inr one ↦ elim (q.before m image le left) [
      | inl was ↦ inl was
      | inr two ↦ inr (one, two)
    ]
  ];
}

-- the run leaves the slots
pub run_fresh : (number count : ℕ) (bytes : List ℕ) (before image : Image) → Over 128 count bytes before image → IsFresh number before → IsFresh number image
run_fresh number count bytes before image over fresh k lt verifies = elim (over.each k) [
  | inl same ↦ subst (λ (s : List ℕ). number_of s < number) (sym same) (fresh k lt (subst Verifies same verifies))
  | inr h ↦ absurd (omega (arith, h.2, lt))
]

run_outside : (count : ℕ) (before image : Image) → KeepsOutside 128 count before image → KeepsOutside 64 (64 + count) before image
run_outside count before image run = record { size = run.size; same = λ k apart. run.same k (⊎_elim (λ low. inl (omega (arith, low))) (λ high. inr (omega (arith, high))) apart) }

pair_outside : (first count : ℕ) (before mid image : Image) → first ≡ 64 → KeepsOutside 64 (64 + count) before mid → KeepsOutside first 64 mid image → KeepsOutside 64 (64 + count) before image
pair_outside first count before mid image is one two = record {
  size = two.size ∙ one.size;
  same = λ k apart. two.same k (⊎_elim (λ low. inl (omega (arith, low, is))) (λ high. inr (omega (arith, high, is))) apart) ∙ one.same k apart;
}

zeroth_outside : (first count : ℕ) (before mid image : Image) → first ≡ 0 → KeepsOutside 64 (64 + count) before mid → KeepsOutside first 64 mid image → KeepsOutside 0 (128 + count) before image
zeroth_outside first count before mid image is one two = record {
  size = two.size ∙ one.size;
  same = λ k apart. two.same k (⊎_elim (λ low. absurd (omega (arith, low))) (λ high. inr (omega (arith, high, is))) apart) ∙ one.same k (⊎_elim (λ low. absurd (omega (arith, low))) (λ high. inr (omega (arith, high))) apart);
}

-- the calls
module _ (torn : Option (List ℕ → Bool)) (old : Disk) (number : ℕ) (can : CanConvert torn old number) (c : State) where
  abbrev O : Disk
  O = tearing_by torn old

  abbrev A : Image → Type 0
  A = KeepsOutside 64 (64 + 8 * (length c.bytes / 4096)) old.seen

  abbrev B : Image → Type 0
  B image = KeepsOutside 0 (128 + 8 * (length c.bytes / 4096)) old.seen image × CarriesInSlots c image × IsFresh (number + 2) image

  abbrev Meanwhile : Image → Type 0
  Meanwhile = Converting number c old.seen

  pub blocks_run : (mid : Disk) (count : ℕ) → count ≡ 8 * (length c.bytes / 4096) → LeavesOnly O (tearing_by torn mid) (OutsideSome O.left 128 count) → LeavesOnly O (tearing_by torn mid) A
  blocks_run mid count is run = leaves_weaker O (tearing_by torn mid) (OutsideSome O.left 128 count) A
      (λ image some. subst (λ (n : ℕ). KeepsOutside 64 (64 + n) old.seen image) is (run_outside count old.seen image (subst (λ (i : Image). KeepsOutside 128 count i image) (can.alone some.0 some.1) some.2))) run

  pub pair_run : (mid next : Disk) (first : ℕ) → first ≡ 64 → IsCoherent (tearing_by torn mid) → LeavesOnly O (tearing_by torn mid) A → LeavesOnly (tearing_by torn mid) (tearing_by torn next) (OutsideSome (tearing_by torn mid).left first 64) → LeavesOnly O (tearing_by torn next) A
  pair_run mid next first is coherent so_far run =
      joined O (tearing_by torn mid) (tearing_by torn next) A so_far
      (leaves_weaker (tearing_by torn mid) (tearing_by torn next) (OutsideSome (tearing_by torn mid).left first 64) A
      (λ image some. pair_outside first (8 * (length c.bytes / 4096)) old.seen some.0 image is (left_now O (tearing_by torn mid) A coherent so_far some.0 some.1) some.2) run)

  pub meanwhile : (next : Disk) → LeavesOnly O (tearing_by torn next) A → LeavesOnly O (tearing_by torn next) Meanwhile
  meanwhile next so_far = leaves_weaker O (tearing_by torn next) A Meanwhile (λ image a. inl a) so_far

  either_one : (image : Image) → EitherBelow (number + 2) c c image → CarriesInSlots c image × IsFresh (number + 2) image
  either_one image either = (⊎_elim (λ one. one) (λ one. one) either.0, either.1)

  pub zeroth_run : (mid next : Disk) (first : ℕ) → first ≡ 0 → IsCoherent (tearing_by torn mid) → LeavesOnly O (tearing_by torn mid) A → LeavesOnly (tearing_by torn mid) (tearing_by torn next) (OutsideSome (tearing_by torn mid).left first 64)
      → LeavesOnly (tearing_by torn mid) (tearing_by torn next) (EitherBelow (number + 2) c c) → LeavesOnly O (tearing_by torn next) Meanwhile
  zeroth_run mid next first is coherent so_far run put =
      let M = tearing_by torn mid in
      let N = tearing_by torn next in
      let Some' = OutsideSome M.left first 64 in
      joined O M N Meanwhile (meanwhile mid so_far)
      (leaves_weaker M N (λ image. Some' image × EitherBelow (number + 2) c c image) Meanwhile
      (λ image both.
      let one = both.0 in
      let carries = either_one image both.1 in
      inr (zeroth_outside first (8 * (length c.bytes / 4096)) old.seen one.0 image is (left_now O M A coherent so_far one.0 one.1) one.2, carries.0, carries.1))
      (both_leave M N Some' (EitherBelow (number + 2) c c) run put))

  pub not_converted : {T E : Type 0} (next : Disk) (result : Result T E) → IsErr result → LeavesOnly O (tearing_by torn next) A → Converted torn old next number c result
  not_converted next result err so_far = record { any_moment = meanwhile next so_far; done = no_ok ((image : Image) → (tearing_by torn next).left image → Stands (number + 1) c image) result err }

-- the slot under the next number
pub next_of : (sectors : ℕ) (slot : Slot) (tail : List ℕ) → IsSlotOf sectors slot tail → slot.number + 1 < 2 ^ 64 → IsSlotOf sectors (record slot { number = slot.number + 1 }) tail
next_of sectors slot tail of fits = record {
  sectors_is = of.sectors_is;
  sectors_fit = of.sectors_fit;
  half_fits = of.half_fits;
  length_is = of.length_is;
  length_fits = of.length_fits;
  tail_fits = of.tail_fits;
  number_fits = fits;
  seq_fits = of.seq_fits;
  opens_fits = of.opens_fits;
  identity_fits = of.identity_fits;
  blocks_fit = of.blocks_fit;
  check_fits = of.check_fits;
}
