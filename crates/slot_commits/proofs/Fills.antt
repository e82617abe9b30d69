-- The calls of a formatting.
use Rattle.std.proofs.Common.{◌≡◌, ◌⊎◌, inl, inr, ℕ, ◌+◌, ◌*◌, ◌/◌, ◌%◌, ◌<◌, List, [], length, get_or, ap, sym, subst, ◌∙◌, arith, Result, IsErr, Bool, Option, None, length-take}
use Rattle.std.proofs.lemmas.Result.{on_ok_weaker}
use Rattle.std.proofs.lemmas.List.{get_or-take}
use Rattle.sector_device.specs.Disk.{Image, Disk, LeavesOnly, IsCoherent, Syncs}
use Rattle.sector_device.specs.Sectors.{Over, SectorsHold}
use Rattle.sector_device.proofs.Moments.{goes_on, joined, leaves_weaker, left_now}
use Rattle.commit_slots.specs.Slots.{IsSlotOf, block_start, slot_sector}
use Rattle.commit_slots.specs.Finding.{IsMarked}
use Rattle.commit_slots.specs.declared.slot.Slot.{Slot}
use Rattle.slot_commits.specs.Formats.{Formatted, IsAllMade, IsFirst, IsMade, IsRest, IsUnmade, PlanOver, PlanSome, numbered}
use Rattle.slot_commits.specs.Pairs.{OutsideSome}
use Rattle.slot_commits.specs.States.{HoldsBlocks, State, slot_of, tail_of}
use Rattle.slot_commits.specs.Tears.{IsToldBy, tearing_by}
use Rattle.slot_commits.proofs.Copies.{no_ok}
use Rattle.slot_commits.proofs.Made.{Unbegun, all_made, made_or_not, unbegun_outside, unbegun_rest, unbegun_unmade}
use Rattle.slot_commits.proofs.Puts.{seen_by}
use Rattle.slot_commits.proofs.Runs.{start_0}

-- the blocks of half 0
pub blocks_held : (c : State) (image : Image) (bytes : List ℕ) → c.half ≡ 0 → bytes ≡ c.bytes → SectorsHold image 128 (8 * c.blocks) bytes → HoldsBlocks c.blocks c image
blocks_held c image bytes half bytes_are written i lt =
    let inside : i < 4096 * c.blocks = omega (arith, lt, length-take (4096 * c.blocks) c.bytes) in
    let sector : block_start (length image) c.half + i / 512 ≡ 128 + i / 512 = omega (arith, start_0 (length image) c.half half) in
    let place : 512 * (i / 512) + i % 512 ≡ i = omega arith in
    ap (λ (n : ℕ). get_or (get_or image n []) (i % 512) 0) sector ∙ (written (i / 512) (omega (arith, inside))).same (i % 512) (omega arith) ∙ ap (λ (n : ℕ). get_or bytes n 0) place ∙ ap (λ (l : List ℕ). get_or l i 0) bytes_are
    ∙ sym (get_or-take (4096 * c.blocks) c.bytes i 0 inside)

-- the slots stay where blocks are written
pub rests_stay : (slot : Slot) (tail : List ℕ) (count : ℕ) (bytes : List ℕ) (mid next : Image) → Over 128 count bytes mid next → ((k : ℕ) → k < 128 → IsRest slot tail k (get_or mid k [])) → (k : ℕ) → k < 128 → IsRest slot tail k (get_or next k [])
rests_stay slot tail count bytes mid next over rests k lt = elim (over.each k) [
  | inl same ↦ subst (IsRest slot tail k) (sym same) (rests k lt)
  | inr h ↦ absurd (omega (arith, h.2, lt))
]

module _ (torn : Option (List ℕ → Bool)) (old : Disk) (told : IsToldBy torn) (slot : Slot) (tail : List ℕ) (c : State) (coherent : IsCoherent (tearing_by torn old)) (unmarked : (image : Image) → (tearing_by torn old).left image → IsMarked image → ⊥) where
  abbrev O : Disk
  O = tearing_by torn old

  abbrev Whole : Image → Type 0
  Whole image = IsUnmade torn image ⊎ IsMade torn c image

  pub fill_rests : (mid : Disk) → LeavesOnly O (tearing_by torn mid) (PlanSome torn (IsRest slot tail) O.left) → LeavesOnly O (tearing_by torn mid) (Unbegun torn)
  fill_rests mid written = leaves_weaker O (tearing_by torn mid) (PlanSome torn (IsRest slot tail) O.left) (Unbegun torn) (λ image some. unbegun_rest torn slot tail some.0 image (unmarked some.0 some.1) some.2) written

  pub fill_run : (mid next : Disk) (count : ℕ) → IsCoherent (tearing_by torn mid) → LeavesOnly O (tearing_by torn mid) (Unbegun torn) → LeavesOnly (tearing_by torn mid) (tearing_by torn next) (OutsideSome (tearing_by torn mid).left 128 count)
      → LeavesOnly O (tearing_by torn next) (Unbegun torn)
  fill_run mid next count coherent_mid so_far run =
      joined O (tearing_by torn mid) (tearing_by torn next) (Unbegun torn) so_far
      (leaves_weaker (tearing_by torn mid) (tearing_by torn next) (OutsideSome (tearing_by torn mid).left 128 count) (Unbegun torn)
      (λ image some. unbegun_outside torn count some.0 image some.2 (left_now O (tearing_by torn mid) (Unbegun torn) coherent_mid so_far some.0 some.1)) run)

  pub fill_sync : {T E : Type 0} (mid next : Disk) (result : Result T E) → IsCoherent (tearing_by torn mid) → LeavesOnly O (tearing_by torn mid) (Unbegun torn) → Syncs (tearing_by torn mid) (tearing_by torn next) result → LeavesOnly O (tearing_by torn next) (Unbegun torn)
  fill_sync mid next result coherent_mid so_far syncs =
      goes_on O (tearing_by torn mid) (tearing_by torn next) (Unbegun torn) so_far syncs.time (λ image left. left_now O (tearing_by torn mid) (Unbegun torn) coherent_mid so_far image (syncs.adds_none image left))

  pub fill_whole : (mid : Disk) → LeavesOnly O (tearing_by torn mid) (Unbegun torn) → LeavesOnly O (tearing_by torn mid) Whole
  fill_whole mid so_far = leaves_weaker O (tearing_by torn mid) (Unbegun torn) Whole (λ image unbegun. inl (unbegun_unmade torn image told unbegun)) so_far

  pub not_filled : {T E : Type 0} (next : Disk) (result : Result T E) → IsErr result → LeavesOnly O (tearing_by torn next) Whole → Formatted torn old next c result
  not_filled next result err so_far = record { any_moment = so_far; done = no_ok ((image : Image) → (tearing_by torn next).left image → IsAllMade c image) result err }

  -- the first sectors, on a device that is settled
  module _ (mid : Disk) (so_far : LeavesOnly O (tearing_by torn mid) (Unbegun torn)) (alone : (image : Image) → (tearing_by torn mid).left image → image ≡ mid.seen) (of : IsSlotOf (length mid.seen) slot tail) (rests : (k : ℕ) → k < 128 → IsRest slot tail k (get_or mid.seen k []))
      (names : slot ≡ slot_of c (length mid.seen) 0) (tail_is : tail ≡ tail_of c) (holds : HoldsBlocks c.blocks c mid.seen) where
    pub fill_firsts : (next : Disk) → LeavesOnly (tearing_by torn mid) (tearing_by torn next) (PlanSome torn (IsFirst slot tail) (tearing_by torn mid).left) → LeavesOnly O (tearing_by torn next) Whole
    fill_firsts next written =
        joined O (tearing_by torn mid) (tearing_by torn next) Whole (fill_whole mid so_far)
        (leaves_weaker (tearing_by torn mid) (tearing_by torn next) (PlanSome torn (IsFirst slot tail) (tearing_by torn mid).left) Whole
        (λ image some. made_or_not torn told slot tail mid.seen image of rests (subst (λ (i : Image). PlanOver torn (IsFirst slot tail) i image) (alone some.0 some.1) some.2) c names tail_is holds) written)

    pub fill_done : {T E : Type 0} (next last : Disk) (result : Result T E) → IsCoherent (tearing_by torn next) → LeavesOnly O (tearing_by torn next) Whole → Syncs (tearing_by torn next) (tearing_by torn last) result → PlanOver None (IsFirst slot tail) mid.seen next.seen
        → ((place : ℕ) → place < 4 → get_or next.seen (32 * place) [] ≡ slot_sector (numbered slot (place / 2)) tail 0) → c.blocks ≡ length c.bytes / 4096 → Formatted torn old last c result
    fill_done next last result coherent_next whole syncs over written blocks_are = record {
      any_moment = goes_on O (tearing_by torn next) (tearing_by torn last) Whole whole syncs.time (λ image left. left_now O (tearing_by torn next) Whole coherent_next whole image (syncs.adds_none image left));
      done = on_ok_weaker result (λ only image left. subst (IsAllMade c) (sym (only image left ∙ seen_by torn next)) (all_made slot tail mid.seen next.seen of rests over c names tail_is holds blocks_are written)) syncs.settled;
    }
