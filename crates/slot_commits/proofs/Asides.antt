-- Sectors that are written aside.
use Rattle.std.proofs.Common.{inl, inr, ℕ, ◌+◌, ◌*◌, ◌/◌, ◌%◌, ◌≤◌, ◌<◌, List, length, get_or, ap, subst, sym, ◌∙◌, arith, Bool, Option, None, Some, length-take}
use Rattle.sector_device.specs.Disk.{Image, Disk, LeavesOnly, IsCoherent, tearing}
use Rattle.sector_device.specs.Sectors.{Over, OverSome, TornOver, TornSome, byte_at}
use Rattle.sector_device.proofs.Moments.{leaves_weaker}
use Rattle.commit_slots.specs.Sealed.{Verifies, number_of}
use Rattle.commit_slots.specs.Slots.{IsHeld, IsSlotOf, block_start, slot_sector, slot_start}
use Rattle.slot_commits.specs.Asides.{IsAside, KeepsNeeded}
use Rattle.slot_commits.specs.States.{HoldsBlocks, Stands, State, slot_of, tail_of}
use Rattle.slot_commits.specs.Tears.{tearing_by}
use Rattle.slot_commits.proofs.Puts.{wide_by}

over_keeps : (c : State) (first count : ℕ) (bytes : List ℕ) (before image : Image) → IsAside (length before) c first count → Over first count bytes before image → KeepsNeeded c before image
over_keeps c first count bytes before image aside over = record {
  size = over.length_is;
  same = λ k needed. elim (over.each k) [
    | inl same ↦ same
    | inr h ↦ absurd (aside k h.0 needed h.1 (ap (λ (n : ℕ). n / 8) h.2))
  ];
}

torn_keeps : (t : List ℕ → Bool) (c : State) (first count : ℕ) (bytes : List ℕ) (before image : Image) → IsAside (length before) c first count → TornOver t first count bytes before image → KeepsNeeded c before image
torn_keeps t c first count bytes before image aside over = record {
  size = over.size;
  same = λ k needed. elim (over.each k) [
    | inl same ↦ same
    | inr (inl h) ↦ absurd (aside k h.0 needed h.1 (ap (λ (n : ℕ). n / 8) h.2))
    | inr (inr h) ↦ absurd (aside k h.0.0 needed h.0.1 h.0.2)
  ];
}

-- what is needed is enough
pub stands_needed : (number : ℕ) (c : State) (before image : Image) → KeepsNeeded c before image → Stands number c before → Stands number c image
stands_needed number c before image keeps stands = record {
  of = subst (λ (n : ℕ). IsSlotOf n (slot_of c n number) (tail_of c)) (sym keeps.size) stands.of;
  first = held 0 (omega arith) stands.first;
  mate = held 1 (omega arith) stands.mate;
  fresh = λ k lt verifies. let same = keeps.same k (inl lt) in subst (λ (s : List ℕ). number_of s < number + 1) (sym same) (stands.fresh k lt (subst Verifies same verifies));
  begins = begins;
}
  where
    held : (copy : ℕ) → copy ≤ 1 → IsHeld (slot_of c (length before) number) (tail_of c) (slot_start number copy) before → IsHeld (slot_of c (length image) number) (tail_of c) (slot_start number copy) image
    held copy low there k lt =
        keeps.same (slot_start number copy + k) (inl (omega (arith, lt, low, stands.of.tail_fits))) ∙ there k lt ∙ ap (λ (n : ℕ). slot_sector (slot_of c n number) (tail_of c) k) (sym keeps.size)

    begins : HoldsBlocks (length c.bytes / 4096) c image
    begins i lt =
        let sector = block_start (length before) c.half + i / 512 in
        let within : i < 4096 * (length c.bytes / 4096) = omega (arith, lt, length-take (4096 * (length c.bytes / 4096)) c.bytes) in
        ap (λ (m : ℕ). byte_at image (block_start m c.half) i) keeps.size ∙ ap (λ (l : List ℕ). get_or l (i % 512) 0) (keeps.same sector (inr (omega arith, omega (arith, within)))) ∙ stands.begins i lt

-- so at any moment of the run, also if its sectors tear
pub aside_by : (torn : Option (List ℕ → Bool)) (old new : Disk) (number : ℕ) (c : State) (first count : ℕ) (bytes : List ℕ) → IsCoherent (tearing_by torn old) → IsAside old.sectors c first count
    → ((image : Image) → (tearing_by torn old).left image → Stands number c image) → LeavesOnly old new (OverSome first count bytes old.left)
    → ((t : List ℕ → Bool) → LeavesOnly (tearing t old) (tearing t new) (TornSome t first count bytes (old.torn_left t))) → LeavesOnly (tearing_by torn old) (tearing_by torn new) (Stands number c)
aside_by None old new number c first count bytes coherent aside stands plain tears =
    leaves_weaker old new (OverSome first count bytes old.left) (Stands number c)
    (λ image over. stands_needed number c over.0 image
    (over_keeps c first count bytes over.0 image (subst (λ (n : ℕ). IsAside n c first count) (sym (wide_by None old coherent over.0 over.1)) aside) over.2) (stands over.0 over.1)) plain
aside_by (Some t) old new number c first count bytes coherent aside stands plain tears =
    leaves_weaker (tearing t old) (tearing t new) (TornSome t first count bytes (old.torn_left t)) (Stands number c)
    (λ image over. stands_needed number c over.0 image
    (torn_keeps t c first count bytes over.0 image (subst (λ (n : ℕ). IsAside n c first count) (sym (wide_by (Some t) old coherent over.0 over.1)) aside) over.2) (stands over.0 over.1)) (tears t)
