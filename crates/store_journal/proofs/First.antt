-- Sector 0 and the slots, of which one may be older.
use Rattle.std.proofs.Common.{◌≡◌, ◌≢◌, ◌⊎◌, ◌↔◌, inl, inr, ⊎_elim, ℕ, ◌+◌, ◌<◌, ◌≤◌, List, [], length, get_or, Bool, true, false, IsTrue, Option, Some, None, Result, sym, subst, ◌∙◌, arith}
use Rattle.sector_device.specs.Disk.{Disk, Image, IsCoherent, Reads, tearing}
use Rattle.sector_device.specs.Charges.{Failed, Made}
use Rattle.sector_device.specs.Sectors.{KeepsImages}
use Rattle.sector_device.proofs.Charges.{failed_joined, made_joined}
use Rattle.sector_device.proofs.Moments.{goes_on, started}
use Rattle.commit_slots.specs.Slots.{Counts}
use Rattle.commit_slots.specs.Finding.{IsFoundIn}
use Rattle.commit_slots.specs.declared.counted.Counted.{Counted}
use Rattle.commit_slots.specs.declared.slot.Slot.{Slot}
use Rattle.commit_slots.proofs.Mixed.{one_counts}
use Rattle.half_journal.specs.Layout.{Fits, IsOf, sector_of}
use Rattle.half_journal.specs.declared.commit_sector.Commit.{Commit}
use Rattle.half_journal.proofs.Fields.{one_commit}
use Rattle.slot_commits.specs.States.{CarriesInSlots, State, slot_of, tail_of}
use Rattle.slot_commits.specs.Tears.{tearing_by}
use Rattle.refusals.specs.declared.numbers.TheConstants.{DEVICE, MEMORY}
use Rattle.store_journal.specs.Layout.{IsSized}
use Rattle.store_journal.specs.Models.{model}
use Rattle.store_journal.specs.Outdated.{IsOutdated, IsPast, OnlyLooked}
use Rattle.store_journal.proofs.Weak.{both_kept, weak_keeps}

-- what is past is what counts, and past the sector that is there
pub past_of : (image : Image) (commit : Commit) (slot : Slot) (tail : List ℕ) (copy : ℕ) → Fits commit → get_or image 0 [] ≡ sector_of commit → Counts slot tail copy image → IsOutdated image → IsPast commit slot
past_of image commit slot tail copy fits names counts out =
    let same : out.commit ≡ commit = one_commit out.commit commit out.fits fits (sym out.names ∙ names) in
    let one = one_counts image out.slot slot out.tail tail out.copy copy out.counts counts in
    subst (λ (m : Commit). IsPast m slot) same (subst (λ (s : Slot). IsPast out.commit s) one.0 out.past)

pub stopped : (c : State) (commit : Commit) (image : Image) → CarriesInSlots c image → get_or image 0 [] ≡ sector_of commit → Fits commit → commit.seq ≡ c.seq → commit.opens ≡ c.opens → IsOutdated image → ⊥
stopped c commit image carries names fits seq opens out =
    ⊎_elim (λ more. omega (arith, more, seq)) (λ more. omega (arith, more, opens)) (past_of image commit (slot_of c (length image) carries.number) (tail_of c) carries.copy fits names carries.counted out)

-- of what was found in the slots
pub none_is_past : (image : Image) → IsFoundIn image None → IsOutdated image → ⊥
none_is_past image none out = none out.slot out.tail out.copy out.counts.valid

pub found_past : (image : Image) (commit : Commit) (counted : Counted) → IsSized true (length image) → IsOf (length image) commit → Fits commit → get_or image 0 [] ≡ sector_of commit → IsFoundIn image (Some counted)
    → IsPast commit counted.slot → IsOutdated image
found_past image commit counted sized of fits names counts past = record {
  sized = sized;
  commit = commit;
  of = of;
  fits = fits;
  names = names;
  slot = counted.slot;
  tail = counted.tail.items;
  copy = counted.copy;
  counts = counts;
  past = past;
}

pub is_past_if : (image : Image) (commit : Commit) (counted : Counted) (past : Bool) → IsSized true (length image) → IsOf (length image) commit → Fits commit → get_or image 0 [] ≡ sector_of commit → IsFoundIn image (Some counted)
    → (IsTrue past ↔ IsPast commit counted.slot) → (IsTrue past ↔ IsOutdated image)
is_past_if image commit counted past sized of fits names counts told = (
  (λ is. found_past image commit counted sized of fits names counts (told.0 is)),
  (λ out. told.1 (past_of image commit counted.slot counted.tail.items counted.copy fits names counts out)),
)

-- without a commit sector none is
pub no_sector : (image : Image) → ((commit : Commit) → IsOf (length image) commit → Fits commit → get_or image 0 [] ≢ sector_of commit) → IsOutdated image → ⊥
no_sector image none out = none out.commit out.of out.fits out.names

-- ---- the calls

-- a read adds no image
pub keeps_read : {T E : Type 0} {result : Result T E} (torn : Option (List ℕ → Bool)) (old new : Disk) (at : ℕ) (content : List ℕ) → IsCoherent (tearing_by torn old)
    → Reads old new at content result → ((t : List ℕ → Bool) → Reads (tearing t old) (tearing t new) at content result) → KeepsImages (tearing_by torn old) (tearing_by torn new)
keeps_read None old new at content coherent plain tears = record {
  seen = plain.seen;
  left = λ image left. (plain.left image).0 left;
  any_moment = goes_on old old new old.left (started old old.left coherent (λ image left. left)) plain.time (λ image left. (plain.left image).0 left);
}
keeps_read (Some t) old new at content coherent plain tears = record {
  seen = (tears t).seen;
  left = λ image left. ((tears t).left image).0 left;
  any_moment = goes_on (tearing t old) (tearing t old) (tearing t new) (old.torn_left t) (started (tearing t old) (old.torn_left t) coherent (λ image left. left)) (tears t).time (λ image left. ((tears t).left image).0 left);
}

-- in each disk model
pub keeps_models : (old new : Disk) → new.sectors ≡ old.sectors → ((torn : Option (List ℕ → Bool)) → new.honest → KeepsImages (tearing_by torn old) (tearing_by torn new))
    → new.honest → (rides : Bool) → KeepsImages (model rides old) (model rides new)
keeps_models old new size keeps honest rides = both_kept old new rides (keeps None honest) (weak_keeps old new size (keeps None honest).seen (λ t told. keeps (Some t) honest))

-- one read before others
pub looked_more : (old mid new : Disk) → Made old mid 1 → (n : ℕ) × (n ≤ 128) × Made mid new n → OnlyLooked old new
looked_more old mid new first more = record { calls = 1 + more.0; few = omega (arith, more.1); made = made_joined old mid new 1 more.0 first more.2 }

pub failed_more_looks : (old mid new : Disk) (number : ℕ) → Made old mid 1 → ((number ≡ DEVICE) × Failed mid new 128) ⊎ ((number ≡ MEMORY) × ((n : ℕ) × (n ≤ 128) × Made mid new n))
    → ((number ≡ DEVICE) × Failed old new 129) ⊎ ((number ≡ MEMORY) × OnlyLooked old new)
failed_more_looks old mid new number first (inl device) = inl (device.0, failed_joined old mid new 1 128 129 (omega arith) first device.1)
failed_more_looks old mid new number first (inr memory) = inr (memory.0, looked_more old mid new first memory.1)
