-- What an image carries after damage at rest.
use Rattle.std.proofs.Common.{◌≡◌, ◌⊎◌, inl, inr, ⊎_elim, ℕ, ◌≤◌, length, Bool, true, false, refl, sym, ◌∙◌, subst, arith}
use Rattle.sector_device.specs.Disk.{Image}
use Rattle.commit_slots.specs.Slots.{IsHeld, slot_start}
use Rattle.commit_slots.proofs.Mixed.{is_held_or_not}
use Rattle.slot_commits.specs.Damages.{HoldsCopy}
use Rattle.slot_commits.specs.States.{slot_of, tail_of}
use Rattle.slot_commits.specs.declared.found.Notice.{Notice}
use Rattle.slot_commits.specs.declared.found.Notice.TheVariants.{CutOff}
use Rattle.slot_commits.proofs.Damaged.{carried_same, told_cut_off}
use Rattle.slot_commits.proofs.Runs.{half_is}
use Rattle.store_journal.specs.Carries.{Carried, Carries, CarriesIn, state_of}
use Rattle.store_journal.specs.Damages.{IsNoticedDamage, LostBothCopies, StandsRiding}
use Rattle.store_journal.specs.Opening.{IsNoticeIn}
use Rattle.store_journal.proofs.Loading.{not_in_half}

-- the same is carried, or neither copy is left, and the notice says that a commit was cut off
pub damaged : (number blocks : ℕ) (c d : Carried) (notice : Notice) (before image : Image) → StandsRiding number blocks c before → IsNoticedDamage blocks c before image → Carries d image → IsNoticeIn d.rides image notice
    → (d ≡ c) ⊎ ((notice ≡ CutOff) × LostBothCopies number blocks c image)
damaged number blocks c d notice before image was is carries said = by d.rides (sym was.rides_is) carries said refl
  where
    by : (rides : Bool) → true ≡ c.rides → CarriesIn rides d image → IsNoticeIn rides image notice → rides ≡ d.rides → (d ≡ c) ⊎ ((notice ≡ CutOff) × LostBothCopies number blocks c image)
    by false mine there noticed same = absurd (not_in_half image d is.none there)
    by true mine there noticed same = at (held 0) (held 1)
      where
        held : (copy : ℕ) → HoldsCopy number (state_of c blocks) copy image ⊎ (HoldsCopy number (state_of c blocks) copy image → ⊥)
        held copy = is_held_or_not (slot_of (state_of c blocks) (length image) number) (tail_of (state_of c blocks)) (slot_start number copy) image

        kept : (copy : ℕ) → copy ≤ 1 → HoldsCopy number (state_of c blocks) copy image → d ≡ c
        kept copy low holds =
            let one : state_of d there.0 ≡ state_of c blocks = carried_same number (state_of c blocks) before image was.stands is.slots copy low holds is.told (state_of d there.0) there.1.in_slots in
            let version = there.1.version_is ∙ sym was.version_is in
            let rides = sym same ∙ mine in
            λ i. record { version = version i; rides = rides i; half = (one i).half; bytes = (one i).bytes; seq = (one i).seq; opens = (one i).opens; identity = (one i).identity }

        at : HoldsCopy number (state_of c blocks) 0 image ⊎ (HoldsCopy number (state_of c blocks) 0 image → ⊥) → HoldsCopy number (state_of c blocks) 1 image ⊎ (HoldsCopy number (state_of c blocks) 1 image → ⊥)
            → (d ≡ c) ⊎ ((notice ≡ CutOff) × LostBothCopies number blocks c image)
        at (inl zeroth) second = inl (kept 0 (omega arith) zeroth)
        at (inr none) (inl first) = inl (kept 1 (omega arith) first)
        at (inr none) (inr none_too) =
            let lost : LostBothCopies number blocks c image = λ copy low. ⊎_elim (λ (zero : copy ≡ 0). subst (λ (n : ℕ). HoldsCopy number (state_of c blocks) n image → ⊥) (sym zero) none) (λ (one : copy ≡ 1). subst (λ (n : ℕ). HoldsCopy number (state_of c blocks) n image → ⊥) (sym one) none_too) (half_is copy low) in
            let counts = there.1.in_slots.counted in
            inr (
              told_cut_off number (state_of c blocks) before image was.stands is.slots lost
                  (slot_of (state_of d there.0) (length image) there.1.in_slots.number) (tail_of (state_of d there.0)) there.1.in_slots.copy notice counts
                  (noticed (slot_of (state_of d there.0) (length image) there.1.in_slots.number) (tail_of (state_of d there.0)) there.1.in_slots.copy counts),
              lost,
            )
