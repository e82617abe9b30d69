-- What the copies of a commit leave outside their pair of slots, and what they lay.
use Rattle.std.proofs.Common.{◌≡◌, ◌⊎◌, inl, inr, ℕ, ◌+◌, ◌*◌, ◌/◌, ◌%◌, ◌≤◌, ◌<◌, List, length, refl, ap, subst, sym, ◌∙◌, arith, Result, OnOk, Bool, Option, None}
use Rattle.std.proofs.lemmas.Result.{on_ok_weaker}
use Rattle.sector_device.specs.Disk.{Image, Disk, LeavesOnly, IsCoherent, Syncs}
use Rattle.sector_device.proofs.Moments.{goes_on, joined, leaves_weaker, left_now, started}
use Rattle.commit_slots.specs.Slots.{IsHeld, IsSlotOf, count_of, slot_start}
use Rattle.commit_slots.specs.Fresh.{MayTear}
use Rattle.commit_slots.specs.declared.slot.Slot.{Slot}
use Rattle.commit_slots.proofs.Mixed.{still_fresh}
use Rattle.slot_commits.specs.Pairs.{CanLay, KeepsOutside, OutsideSome, SlotOver, SlotSome}
use Rattle.slot_commits.specs.States.{Stands, State, slot_of, tail_of}
use Rattle.slot_commits.specs.Tears.{tearing_by}
use Rattle.slot_commits.proofs.Either.{blocks_over}
use Rattle.slot_commits.proofs.Puts.{seen_by}
use Rattle.slot_commits.proofs.Renewed.{may_more}

pub outside_more : (first count : ℕ) (before mid image : Image) → KeepsOutside first count before mid → KeepsOutside first count mid image → KeepsOutside first count before image
outside_more first count before mid image one two = record { size = two.size ∙ one.size; same = λ k apart. two.same k apart ∙ one.same k apart }

pub slot_outside : (torn : Option (List ℕ → Bool)) (slot : Slot) (tail : List ℕ) (copy : ℕ) (mid image : Image) → copy ≤ 1 → length tail ≤ 15428 → SlotOver torn slot tail copy mid image → KeepsOutside (64 * (slot.number % 2)) 64 mid image
slot_outside torn slot tail copy mid image low fits over = record {
  size = over.size;
  same = λ k apart. elim (over.each k) [
    | inl same ↦ same
    | inr (inl of) ↦ absurd (part k apart of.0 of.1 of.2)
    | inr (inr damage) ↦ absurd (near k apart damage.0)
  ];
}
  where
    part : (k : ℕ) → (k < 64 * (slot.number % 2)) ⊎ (64 * (slot.number % 2) + 64 ≤ k) → (j : ℕ) → j < count_of (length tail) → k ≡ slot_start slot.number copy + j → ⊥
    part k (inl below) j lt is = omega (arith, below, lt, is, low, fits)
    part k (inr above) j lt is = omega (arith, above, lt, is, low, fits)

    near : (k : ℕ) → (k < 64 * (slot.number % 2)) ⊎ (64 * (slot.number % 2) + 64 ≤ k) → k / 32 ≡ slot_start slot.number copy / 32 → ⊥
    near k (inl below) is = omega (arith, below, is, low)
    near k (inr above) is = omega (arith, above, is, low)

-- the calls of a pair
module _ (torn : Option (List ℕ → Bool)) (old : Disk) (slot : Slot) (tail : List ℕ) (fits : length tail ≤ 15428) where
  abbrev O : Disk
  O = tearing_by torn old

  abbrev F : Image → Type 0
  F = OutsideSome O.left (64 * (slot.number % 2)) 64

  pub outs_start : IsCoherent (tearing_by torn old) → LeavesOnly (tearing_by torn old) (tearing_by torn old) (OutsideSome (tearing_by torn old).left (64 * (slot.number % 2)) 64)
  outs_start coherent = started O F coherent (λ image left. (image, left, record { size = refl; same = λ k apart. refl }))

  module _ (mid : Disk) (coherent : IsCoherent (tearing_by torn mid)) (so_far : LeavesOnly (tearing_by torn old) (tearing_by torn mid) (OutsideSome (tearing_by torn old).left (64 * (slot.number % 2)) 64)) where
    abbrev M : Disk
    M = tearing_by torn mid

    now : (image : Image) → M.left image → F image
    now image left = left_now O M F coherent so_far image left

    pub outs_slot : (next : Disk) (copy : ℕ) → copy ≤ 1 → LeavesOnly (tearing_by torn mid) (tearing_by torn next) (SlotSome torn slot tail copy (tearing_by torn mid).left)
        → LeavesOnly (tearing_by torn old) (tearing_by torn next) (OutsideSome (tearing_by torn old).left (64 * (slot.number % 2)) 64)
    outs_slot next copy low written =
        joined O M (tearing_by torn next) F so_far
        (leaves_weaker M (tearing_by torn next) (SlotSome torn slot tail copy M.left) F
        (λ image some.
        let was = now some.0 some.1 in
        (was.0, was.1, outside_more (64 * (slot.number % 2)) 64 was.0 some.0 image was.2 (slot_outside torn slot tail copy some.0 image low fits some.2)))
        written)

    pub outs_sync : {T E : Type 0} (next : Disk) (result : Result T E) → Syncs (tearing_by torn mid) (tearing_by torn next) result → LeavesOnly (tearing_by torn old) (tearing_by torn next) (OutsideSome (tearing_by torn old).left (64 * (slot.number % 2)) 64)
    outs_sync next result syncs = goes_on O M (tearing_by torn next) F so_far syncs.time (λ image left. now image (syncs.adds_none image left))

-- both copies, over slots of lower numbers
module _ (slot : Slot) (tail : List ℕ) (new : State) (old : Disk) (mid last : Image) (can : CanLay old slot tail new) (wide : length old.seen ≡ old.sectors) (one : SlotOver None slot tail 0 old.seen mid) (two : SlotOver None slot tail 1 mid last) where
  of_base : IsSlotOf (length old.seen) slot tail
  of_base = subst (λ (n : ℕ). IsSlotOf n slot tail) (sym wide) can.of

  size : length last ≡ length old.seen
  size = two.size ∙ one.size

  may : MayTear slot tail old.seen last
  may = may_more None slot tail 1 old.seen mid last tt (omega arith) (may_more None slot tail 0 old.seen old.seen mid tt (omega arith) (λ k lt. inl refl) one) two

  first_stays : IsHeld slot tail (slot_start slot.number 0) mid → IsHeld slot tail (slot_start slot.number 0) last
  first_stays held k lt = elim (two.each (slot_start slot.number 0 + k)) [
    | inl same ↦ same ∙ held k lt
    | inr (inl of) ↦ absurd (omega (arith, of.1, of.2, lt, can.of.tail_fits))
    | inr (inr damage) ↦ absurd damage.1
  ]

  named : (P : Slot → List ℕ → Type 0) → P slot tail → P (slot_of new (length last) slot.number) (tail_of new)
  named P p = subst (λ (t : List ℕ). P (slot_of new (length last) slot.number) t) can.tail_is
      (subst (λ (s : Slot). P s tail) (can.names ∙ ap (λ (n : ℕ). slot_of new n slot.number) (sym (size ∙ wide))) p)

  pub laid_stands : IsHeld slot tail (slot_start slot.number 0) mid → IsHeld slot tail (slot_start slot.number 1) last → Stands slot.number new last
  laid_stands first mate = record {
    of = named (λ s t. IsSlotOf (length last) s t) (subst (λ (n : ℕ). IsSlotOf n slot tail) (sym size) of_base);
    first = named (λ s t. IsHeld s t (slot_start slot.number 0) last) (first_stays first);
    mate = named (λ s t. IsHeld s t (slot_start slot.number 1) last) mate;
    fresh = still_fresh slot tail old.seen last size of_base can.fresh may;
    begins = blocks_over None slot tail 1 mid last (omega arith) can.of.tail_fits two (length new.bytes / 4096) new
        (blocks_over None slot tail 0 old.seen mid (omega arith) can.of.tail_fits one (length new.bytes / 4096) new can.whole);
  }

pub laid_done : {T E : Type 0} (torn : Option (List ℕ → Bool)) (last next : Disk) (number : ℕ) (new : State) (result : Result T E) → Syncs (tearing_by torn last) (tearing_by torn next) result → Stands number new last.seen
    → OnOk result ((image : Image) → (tearing_by torn next).left image → Stands number new image)
laid_done torn last next number new result syncs stands = on_ok_weaker result (λ alone image left. subst (Stands number new) (sym (alone image left ∙ seen_by torn last)) stands) syncs.settled
