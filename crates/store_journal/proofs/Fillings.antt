-- What formatting with bytes makes of the images.
use Rattle.std.proofs.Common.{rules, ◌⊎◌, inl, inr, ⊎_elim, ℕ, ◌/◌, ◌≡◌, ◌≤◌, ◌^◌, List, [], length, take, get_or, refl, ap, sym, subst, ◌∙◌, arith, Bool, true, false, Some, Result}
use Rattle.sector_device.specs.Charges.{Failed}
use Rattle.sector_device.specs.Disk.{Disk, Image, IsCoherent, IsTearing, LeavesOnly, tearing}
use Rattle.sector_device.specs.Sectors.{KeepsImages}
use Rattle.sector_device.proofs.Moments.{joined, leaves_weaker, started}
use Rattle.commit_slots.specs.Finding.{IsMarked}
use Rattle.half_journal.specs.Fills.{NoneOrFilled}
use Rattle.half_journal.specs.Layout.{HasMagic, HasNoSector, IsOf as IsCommitOf}
use Rattle.half_journal.specs.States.{commit_of}
use Rattle.half_journal.proofs.Unique.{carried_fits, carried_is_of}
use Rattle.refusals.specs.declared.numbers.TheConstants.{DEVICE}
use Rattle.slot_commits.specs.Formats.{Formatted, IsAllMade, IsMade, IsOfSlots, IsUnmade, formatted}
use Rattle.slot_commits.proofs.Either.{stands_carries}
use Rattle.store_journal.specs.Carries.{Carried, Carries, CarriesIn, half_of}
use Rattle.store_journal.specs.Filling.{FillRefusal, IsNone, NoneOrAll, calls_to_fill, filled}
use Rattle.store_journal.specs.Layout.{IsSized, capacity_of}
use Rattle.store_journal.specs.Models.{IsTold, weak}
use Rattle.store_journal.proofs.Seen.{carries_half}
use Rattle.store_journal.proofs.Slots.{riding_at, slot_is_none}
use Rattle.store_journal.proofs.Weak.{weak_coherent, weak_leaves}

-- sector 0 was read, and then all that was written
pub at_any_moment : (old mid new : Disk) (c : Carried) → c.rides ≡ false → c.identity ≡ 0 → KeepsImages old mid → ((image : Image) → mid.left image → image ≡ old.seen) → (HasMagic old.seen → ⊥)
    → (((image : Image) → mid.left image → HasMagic image → ⊥) → LeavesOnly mid new (NoneOrFilled (half_of c))) → LeavesOnly old new (NoneOrAll false old (Carries c))
at_any_moment old mid new c plain nameless kept settled fresh leaves =
    joined old mid new (NoneOrAll false old (Carries c))
    (leaves_weaker old mid old.left (NoneOrAll false old (Carries c)) (λ image. inl) kept.any_moment)
    (leaves_weaker mid new (NoneOrFilled (half_of c)) (NoneOrAll false old (Carries c)) (λ image. ⊎_elim (λ none. inr (fresh, inl none)) (λ carries. inr (fresh, inr (carries_half c image plain nameless carries))))
    (leaves (λ image left magic. fresh (subst HasMagic (settled image left) magic))))

-- a device that failed is not formatted
pub fill_failed : (old new : Disk) (c : Carried) → IsSized c.rides old.sectors → length c.bytes ≤ capacity_of c.rides old.sectors → Failed old new (calls_to_fill c.rides c.bytes) → FillRefusal old new c DEVICE
fill_failed old new c sized fits failed = search (rules, sized, fits, failed)

-- ---- in slots, whose sectors tear

-- sector 0 of a store that was just made is none of another format
first_none : (sectors : ℕ) (torn : List ℕ → Bool) (image : Image) → IsTold sectors torn → length image ≡ sectors → IsOfSlots (Some torn) image → HasNoSector image
first_none sectors torn image told wide (inl never) commit of fits is = never (ap (take 8) is)
first_none sectors torn image told wide (inr (inl begins)) commit of fits is = slot_is_none commit fits of.format_fits.at_most (ap (take 12) (sym is) ∙ begins)
first_none sectors torn image told wide (inr (inr damage)) commit of fits is = told.other (get_or image 0 []) damage.1 commit (subst (λ (n : ℕ). IsCommitOf n commit) wide of) fits is

-- one that is no store yet carries nothing
unmade_none : (sectors : ℕ) (torn : List ℕ → Bool) (image : Image) → IsTold sectors torn → length image ≡ sectors → IsUnmade (Some torn) image → IsNone true image
unmade_none sectors torn image told wide unmade c = by c.rides
  where
    by : (rides : Bool) → CarriesIn rides c image → ⊥
    by false carries =
        first_none sectors torn image told wide unmade.1 (commit_of (half_of c) (length image)) (carried_is_of image (half_of c) carries.0) (carried_fits image (half_of c) carries.0) carries.0.commit
    by true carries = unmade.0 _ _ _ carries.1.in_slots.counted.valid

module _ (bytes : List ℕ) (seq opens identity : ℕ) where
  abbrev F : Carried
  F = filled true bytes seq opens identity

  made_carries : (sectors : ℕ) (torn : List ℕ → Bool) (image : Image) → 160 ≤ sectors → sectors ≤ 2 ^ 32 → IsTold sectors torn → length image ≡ sectors → IsMade (Some torn) (formatted bytes seq opens identity) image → Carries F image
  made_carries sectors torn image least most told wide made =
      riding_at F refl refl sectors least most (length bytes / 4096) 2 image (omega arith) wide (first_none sectors torn image told wide made.first) made.fresh made.carries

  -- all slots are written
  pub all_carry : (disk : Disk) → ((torn : List ℕ → Bool) → IsTearing torn disk) → 160 ≤ disk.sectors → disk.sectors ≤ 2 ^ 32
      → ((torn : List ℕ → Bool) → IsTold disk.sectors torn → (image : Image) → (tearing torn disk).left image → IsAllMade (formatted bytes seq opens identity) image) → (image : Image) → (weak disk).left image → Carries F image
  all_carry disk tears least most made image left =
      let all = made left.0 left.1 image left.2 in
      riding_at F refl refl disk.sectors least most (length bytes / 4096) 2 image (omega arith) ((tears left.0).coherent.shape image left.2).count
      (λ commit of fits is. slot_is_none commit fits of.format_fits.at_most (ap (take 12) (sym is) ∙ all.first)) all.stands.fresh (stands_carries 1 (formatted bytes seq opens identity) image all.stands)

  -- the slots were looked at, and then all that was written
  pub riding_moment : {T E : Type 0} (old mid new : Disk) (result : Result T E) → 160 ≤ mid.sectors → mid.sectors ≤ 2 ^ 32 → new.sectors ≡ mid.sectors → KeepsImages (weak old) (weak mid) → (IsMarked old.seen → ⊥)
      → ((torn : List ℕ → Bool) → IsTold mid.sectors torn → Formatted (Some torn) mid new (formatted bytes seq opens identity) result) → LeavesOnly (weak old) (weak new) (NoneOrAll true old (Carries F))
  riding_moment old mid new result least most size kept fresh written =
      joined (weak old) (weak mid) (weak new) (NoneOrAll true old (Carries F))
      (leaves_weaker (weak old) (weak mid) (weak old).left (NoneOrAll true old (Carries F)) (λ image. inl) kept.any_moment)
      (weak_leaves mid new (λ torn image. IsUnmade (Some torn) image ⊎ IsMade (Some torn) (formatted bytes seq opens identity) image) (NoneOrAll true old (Carries F)) size (λ torn told. (written torn told).any_moment)
      (λ torn image told wide. ⊎_elim (λ unmade. inr (fresh, inl (unmade_none mid.sectors torn image told wide unmade))) (λ made. inr (fresh, inr (made_carries mid.sectors torn image least most told wide made)))))

  -- nothing was written
  pub still_moment : (disk : Disk) → IsCoherent disk → ((torn : List ℕ → Bool) → IsTearing torn disk) → LeavesOnly (weak disk) (weak disk) (NoneOrAll true disk (Carries F))
  still_moment disk coherent tears = started (weak disk) (NoneOrAll true disk (Carries F)) (weak_coherent disk coherent tears) (λ image. inl)

  pub looked_moment : (old mid : Disk) → KeepsImages (weak old) (weak mid) → LeavesOnly (weak old) (weak mid) (NoneOrAll true old (Carries F))
  looked_moment old mid kept = leaves_weaker (weak old) (weak mid) (weak old).left (NoneOrAll true old (Carries F)) (λ image. inl) kept.any_moment
