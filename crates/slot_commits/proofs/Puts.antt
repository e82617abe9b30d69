-- Both copies of a commit, one after another.
use Rattle.std.proofs.Common.{◌≡◌, inl, inr, ℕ, ◌+◌, ◌/◌, ◌≤◌, List, length, refl, subst, sym, ◌∙◌, arith, Result, IsErr, Bool, Option, None, Some}
use Rattle.std.proofs.lemmas.Result.{on_ok_weaker}
use Rattle.sector_device.specs.Disk.{Image, Disk, LeavesOnly, IsCoherent, Syncs, tearing}
use Rattle.sector_device.specs.Sectors.{KeepsImages}
use Rattle.sector_device.proofs.Moments.{goes_on, joined, leaves_weaker, left_now, started}
use Rattle.commit_slots.specs.Slots.{IsHeld, IsSlotOf, slot_start}
use Rattle.commit_slots.specs.declared.slot.Slot.{Slot}
use Rattle.slot_commits.specs.Pairs.{SlotOver, SlotSome}
use Rattle.slot_commits.specs.Puts.{CanPut, EitherBelow, Put}
use Rattle.slot_commits.specs.States.{HoldsBlocks, Stands, State, slot_of, tail_of}
use Rattle.slot_commits.specs.Tears.{tearing_by}
use Rattle.slot_commits.proofs.Copies.{no_ok}
use Rattle.slot_commits.proofs.Either.{Between, between_either, between_fresh, between_more, between_stands, between_start, blocks_over}

pub seen_by : (torn : Option (List ℕ → Bool)) (disk : Disk) → (tearing_by torn disk).seen ≡ disk.seen
seen_by None disk = refl
seen_by (Some t) disk = refl

pub sectors_by : (torn : Option (List ℕ → Bool)) (disk : Disk) → (tearing_by torn disk).sectors ≡ disk.sectors
sectors_by None disk = refl
sectors_by (Some t) disk = refl

pub syncs_by : {T E : Type 0} {result : Result T E} (torn : Option (List ℕ → Bool)) (old new : Disk) → Syncs old new result → ((t : List ℕ → Bool) → Syncs (tearing t old) (tearing t new) result) → Syncs (tearing_by torn old) (tearing_by torn new) result
syncs_by None old new plain tears = plain
syncs_by (Some t) old new plain tears = tears t

-- a sync adds no image, and neither does no call
pub keeps_synced : {T E : Type 0} (torn : Option (List ℕ → Bool)) (old new : Disk) (result : Result T E) → IsCoherent (tearing_by torn old) → Syncs (tearing_by torn old) (tearing_by torn new) result → KeepsImages (tearing_by torn old) (tearing_by torn new)
keeps_synced torn old new result coherent syncs =
    let O = tearing_by torn old in
    record { seen = syncs.seen; left = syncs.adds_none; any_moment = goes_on O O (tearing_by torn new) O.left (started O O.left coherent (λ image left. left)) syncs.time syncs.adds_none }

pub keeps_none : (torn : Option (List ℕ → Bool)) (disk : Disk) → IsCoherent (tearing_by torn disk) → KeepsImages (tearing_by torn disk) (tearing_by torn disk)
keeps_none torn disk coherent = let D = tearing_by torn disk in record { seen = refl; left = λ image left. left; any_moment = started D D.left coherent (λ image left. left) }

-- the images of a coherent device have its size
pub wide_by : (torn : Option (List ℕ → Bool)) (disk : Disk) → IsCoherent (tearing_by torn disk) → (image : Image) → (tearing_by torn disk).left image → length image ≡ disk.sectors
wide_by torn disk coherent image left = (coherent.shape image left).count ∙ sectors_by torn disk

module _ {torn : Option (List ℕ → Bool)} {old : Disk} {slot : Slot} {tail : List ℕ} {number : ℕ} {c new : State} (can : CanPut torn old slot tail number c new) where
  abbrev B : Image → Type 0
  B = Between number c new

  pub put_start : IsCoherent (tearing_by torn old) → LeavesOnly (tearing_by torn old) (tearing_by torn old) B
  put_start coherent = started (tearing_by torn old) B coherent (λ image left. between_start number c new image (can.stands image left) (named image left) (can.holds image left))
    where
      named : (image : Image) → (tearing_by torn old).left image → IsSlotOf (length image) (slot_of new (length image) (number + 1)) (tail_of new)
      named image left = subst (λ (n : ℕ). IsSlotOf n (slot_of new n (number + 1)) (tail_of new)) (sym (wide_by torn old coherent image left))
          (subst (λ (l : List ℕ). IsSlotOf old.sectors (slot_of new old.sectors (number + 1)) l) can.tail_is (subst (λ (s : Slot). IsSlotOf old.sectors s tail) can.names can.of))

  -- a copy, said of the state
  named_over : (by : Option (List ℕ → Bool)) (copy sectors : ℕ) (mid image : Image) → sectors ≡ old.sectors → SlotOver by slot tail copy mid image → SlotOver by (slot_of new sectors (number + 1)) (tail_of new) copy mid image
  named_over by copy sectors mid image size over =
      subst (λ (n : ℕ). SlotOver by (slot_of new n (number + 1)) (tail_of new) copy mid image) (sym size)
      (subst (λ (l : List ℕ). SlotOver by (slot_of new old.sectors (number + 1)) l copy mid image) can.tail_is (subst (λ (s : Slot). SlotOver by s tail copy mid image) can.names over))

  pub put_copy : (mid next : Disk) (copy : ℕ) → copy ≤ 1 → mid.sectors ≡ old.sectors → IsCoherent (tearing_by torn mid) → LeavesOnly (tearing_by torn old) (tearing_by torn mid) B
      → LeavesOnly (tearing_by torn mid) (tearing_by torn next) (SlotSome torn slot tail copy (tearing_by torn mid).left) → LeavesOnly (tearing_by torn old) (tearing_by torn next) B
  put_copy mid next copy low size coherent so_far written =
      joined (tearing_by torn old) (tearing_by torn mid) (tearing_by torn next) B so_far
      (leaves_weaker (tearing_by torn mid) (tearing_by torn next) (SlotSome torn slot tail copy (tearing_by torn mid).left) B
      (λ image some.
      let between : B some.0 = left_now (tearing_by torn old) (tearing_by torn mid) B coherent so_far some.0 some.1 in
      between_more number c new torn copy some.0 image can.told low between (named_over torn copy (length between.before) some.0 image (sym between.size ∙ wide_by torn mid coherent some.0 some.1 ∙ size) some.2))
      written)

  pub put_sync : {T E : Type 0} (result : Result T E) (mid next : Disk) → IsCoherent (tearing_by torn mid) → LeavesOnly (tearing_by torn old) (tearing_by torn mid) B → Syncs (tearing_by torn mid) (tearing_by torn next) result
      → LeavesOnly (tearing_by torn old) (tearing_by torn next) B
  put_sync result mid next coherent so_far syncs =
      goes_on (tearing_by torn old) (tearing_by torn mid) (tearing_by torn next) B so_far syncs.time (λ image left. left_now (tearing_by torn old) (tearing_by torn mid) B coherent so_far image (syncs.adds_none image left))

  pub put_either : (next : Disk) → LeavesOnly (tearing_by torn old) (tearing_by torn next) B → LeavesOnly (tearing_by torn old) (tearing_by torn next) (EitherBelow (number + 2) c new)
  put_either next so_far = leaves_weaker (tearing_by torn old) (tearing_by torn next) B (EitherBelow (number + 2) c new) (λ image between. (between_either number c new image between, between_fresh number c new image between)) so_far

  -- what reads give keeps its blocks
  pub seen_blocks : (copy : ℕ) (mid image : Image) (count : ℕ) (s : State) → copy ≤ 1 → SlotOver None slot tail copy mid image → HoldsBlocks count s mid → HoldsBlocks count s image
  seen_blocks copy mid image count s low over = blocks_over None slot tail copy mid image low can.of.tail_fits over count s

  -- the mate leaves the first copy
  pub first_stays : (mid image : Image) → SlotOver None slot tail 1 mid image → IsHeld slot tail (slot_start slot.number 0) mid → IsHeld slot tail (slot_start slot.number 0) image
  first_stays mid image over held k lt = elim (over.each (slot_start slot.number 0 + k)) [
    | inl same ↦ same ∙ held k lt
    | inr (inl of) ↦ absurd (omega (arith, of.1, of.2, lt, can.of.tail_fits))
    | inr (inr damage) ↦ absurd damage.1
  ]

  -- both are held, and settled
  pub put_stands : (mid : Disk) → IsCoherent (tearing_by torn mid) → LeavesOnly (tearing_by torn old) (tearing_by torn mid) B → mid.sectors ≡ old.sectors
      → IsHeld slot tail (slot_start slot.number 0) mid.seen → IsHeld slot tail (slot_start slot.number 1) mid.seen → HoldsBlocks (length new.bytes / 4096) new mid.seen → Stands (number + 1) new mid.seen
  put_stands mid coherent so_far size first mate whole = between_stands number c new mid.seen between (named 0 first) (named 1 mate) whole
    where
      left : (tearing_by torn mid).left mid.seen
      left = subst (λ (i : Image). (tearing_by torn mid).left i) (seen_by torn mid) coherent.seen

      between : B mid.seen
      between = left_now (tearing_by torn old) (tearing_by torn mid) B coherent so_far mid.seen left

      at : length between.before ≡ old.sectors
      at = sym between.size ∙ wide_by torn mid coherent mid.seen left ∙ size

      named : (copy : ℕ) → IsHeld slot tail (slot_start slot.number copy) mid.seen → IsHeld (slot_of new (length between.before) (number + 1)) (tail_of new) (slot_start (number + 1) copy) mid.seen
      named copy held = subst (λ (n : ℕ). IsHeld (slot_of new n (number + 1)) (tail_of new) (slot_start (number + 1) copy) mid.seen) (sym at)
          (subst (λ (l : List ℕ). IsHeld (slot_of new old.sectors (number + 1)) l (slot_start (number + 1) copy) mid.seen) can.tail_is (subst (λ (s : Slot). IsHeld s tail (slot_start s.number copy) mid.seen) can.names held))

  pub failed : {T E : Type 0} (next : Disk) (result : Result T E) → IsErr result → LeavesOnly (tearing_by torn old) (tearing_by torn next) B → HoldsBlocks (length c.bytes / 4096) c next.seen → Put torn old next number c new result
  failed next result err so_far stays = record { any_moment = put_either next so_far; done = no_ok ((image : Image) → (tearing_by torn next).left image → Stands (number + 1) new image) result err; stays = stays }

  pub was_whole : IsCoherent (tearing_by torn old) → HoldsBlocks (length c.bytes / 4096) c old.seen
  was_whole coherent = (can.stands old.seen (subst (λ (i : Image). (tearing_by torn old).left i) (seen_by torn old) coherent.seen)).begins

  pub done_is : {T E : Type 0} (last next : Disk) (result : Result T E) → LeavesOnly (tearing_by torn old) (tearing_by torn next) B → Syncs (tearing_by torn last) (tearing_by torn next) result → next.seen ≡ last.seen
      → Stands (number + 1) new last.seen → HoldsBlocks (length c.bytes / 4096) c last.seen → Put torn old next number c new result
  done_is last next result so_far syncs seen stands stays = record {
    any_moment = put_either next so_far;
    done = on_ok_weaker result (λ alone image left. subst (Stands (number + 1) new) (sym (alone image left ∙ seen_by torn last)) stands) syncs.settled;
    stays = subst (HoldsBlocks (length c.bytes / 4096) c) (sym seen) stays;
  }
