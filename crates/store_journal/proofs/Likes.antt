-- An image that carries something looks like a store.
use Rattle.std.proofs.Common.{◌≡◌, ◌⊎◌, inl, inr, ℕ, ◌+◌, ◌*◌, ◌%◌, ◌≤◌, List, [], length, take, get_or, refl, ap, sym, ◌∙◌, arith, Bool, true, false}
use Rattle.sector_device.specs.Disk.{Image}
use Rattle.commit_slots.specs.Sealed.{magic}
use Rattle.commit_slots.specs.Slots.{IsCopy, slot_sector, slot_start}
use Rattle.commit_slots.specs.Finding.{IsMarked}
use Rattle.commit_slots.specs.declared.slot.Slot.{Slot}
use Rattle.slot_commits.proofs.Firsts.{slot_begins}
use Rattle.store_journal.specs.Carries.{Carried, Carries, CarriesIn}
use Rattle.store_journal.specs.Layout.{IsSized}
use Rattle.store_journal.specs.Opening.{IsLikeStore}

sector_magic : (slot : Slot) (tail : List ℕ) → take 8 (slot_sector slot tail 0) ≡ magic
unfolding slot_sector
sector_magic slot tail = refl

copy_marks : (image : Image) (slot : Slot) (tail : List ℕ) (copy : ℕ) → IsCopy slot tail copy image → IsMarked image
copy_marks image slot tail copy valid = one (place_of_four slot.number copy valid.one_of_two)
  where
    first : get_or image (slot_start slot.number copy + 0) [] ≡ slot_sector slot tail 0
    first = valid.held 0 (omega arith)

    at : (n : ℕ) → slot_start slot.number copy ≡ n → get_or image n [] ≡ slot_sector slot tail 0
    at n is = let there : n ≡ slot_start slot.number copy + 0 = omega (arith, is) in ap (λ (k : ℕ). get_or image k []) there ∙ first

    place_of_four : (number copy : ℕ) → copy ≤ 1 → (slot_start number copy ≡ 0) ⊎ (slot_start number copy ≡ 32) ⊎ (slot_start number copy ≡ 64) ⊎ (slot_start number copy ≡ 96)
    place_of_four number copy low = grind (arith, low)

    one : (slot_start slot.number copy ≡ 0) ⊎ (slot_start slot.number copy ≡ 32) ⊎ (slot_start slot.number copy ≡ 64) ⊎ (slot_start slot.number copy ≡ 96) → IsMarked image
    one (inl is) = inl (ap (take 8) (at 0 is) ∙ sector_magic slot tail)
    one (inr (inl is)) = inr (inl (ap (take 12) (at 32 is) ∙ slot_begins slot tail 0))
    one (inr (inr (inl is))) = inr (inr (inl (ap (take 12) (at 64 is) ∙ slot_begins slot tail 0)))
    one (inr (inr (inr is))) = inr (inr (inr (ap (take 12) (at 96 is) ∙ slot_begins slot tail 0)))

pub is_like : (rides : Bool) (c : Carried) (image : Image) → CarriesIn rides c image → IsLikeStore image
is_like false c image carries = inl (ap (take 8) carries.0.commit)
is_like true c image carries = inr (carries.1.sized, copy_marks image _ _ _ carries.1.in_slots.counted.valid)

-- and has a size of one
pub sized_so : (rides : Bool) (sectors : ℕ) → IsSized rides sectors → IsSized false sectors
sized_so false sectors sized = sized
sized_so true sectors sized = let least = sized.at_least in record { at_least = omega (arith, least); at_most = sized.at_most }

pub carries_sized : (rides : Bool) (c : Carried) (image : Image) → CarriesIn rides c image → IsSized false (length image)
carries_sized false c image carries = carries.0.sized
carries_sized true c image carries = sized_so true (length image) carries.1.sized
