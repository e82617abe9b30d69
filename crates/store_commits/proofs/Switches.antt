-- A copy of all sectors, and then a switch.
use Rattle.std.proofs.Common.{Bool, true, ◌<◌, ◌≡◌, inl, inr, ℕ, ◌+◌, ◌-◌, ◌*◌, ◌/◌, ◌≤◌, ◌^◌, min, List, length, take, refl, sym, ◌∙◌, ap, subst, arith, false, ◌↔◌, take_all, if◌then◌else◌}
use Rattle.sector_device.specs.Disk.{Disk, LeavesOnly}
use Rattle.sector_device.proofs.Moments.{joined, leaves_weaker}
use Rattle.sector_device.specs.Charges.{Made, Failed}
use Rattle.store_journal.specs.Layout.{IsSized, capacity_of}
use Rattle.sector_device.specs.Sectors.{sectors_of}
use Rattle.sector_device.proofs.Charges.{made_joined, failed_joined}
use Rattle.slot_commits.specs.Loads.{number_end}
use Rattle.store_journal.specs.Calls.{BeginsWith, Broke, CallFault, CommitFault, Refused, Replaced, Stays, Stepped, Switched}
use Rattle.store_journal.specs.Carries.{Carried, Carries, EitherCarried, switched}
use Rattle.store_journal.specs.JournalView.{JournalView, IsKept, carried_of}
use Rattle.store_journal.specs.Models.{model}
use Rattle.store_journal.specs.Writes.{step_count, switch_calls}

-- a call of a working journal is refused only where the device failed
pub broke_then : {D : Type 0} (disk new_disk : Disk) (calls number : ℕ) (old new : JournalView D) → old.broken ≡ false → CallFault old number → Refused disk new_disk calls old new number → Broke disk new_disk calls old new
broke_then disk new_disk calls number old new works (inl broken) refused = let contrary = sym works ∙ broken.1 in absurd (cc contrary)
broke_then disk new_disk calls number old new works (inr device) (inl broke) = broke.1
broke_then disk new_disk calls number old new works (inr device) (inr other) = absurd (other.0 device.0)

-- so is a commit for which a number is left
pub commit_broke : {D : Type 0} (disk new_disk : Disk) (calls number : ℕ) (old new : JournalView D) → old.broken ≡ false → old.next < number_end → CommitFault old number → Refused disk new_disk calls old new number → Broke disk new_disk calls old new
commit_broke disk new_disk calls number old new works left (inl broken) refused = let contrary = sym works ∙ broken.1 in absurd (cc contrary)
commit_broke disk new_disk calls number old new works left (inr (inl end)) refused = let none = end.2 in absurd (omega (arith, left, none))
commit_broke disk new_disk calls number old new works left (inr (inr device)) (inl broke) = broke.1
commit_broke disk new_disk calls number old new works left (inr (inr device)) (inr other) = absurd (other.0 device.0)

-- a number stays left
pub number_left : {D : Type 0} {disk : Disk} {old new : JournalView D} → Stays disk old new → old.next < number_end → new.next < number_end
number_left stays left = subst (λ (n : ℕ). n < number_end) (sym stays.next) left

-- so many sectors hold the bytes, and a step may write that many
pub all_sectors : (bytes max : ℕ) → sectors_of bytes ≤ max → step_count bytes 0 max ≡ sectors_of bytes
all_sectors bytes max le = omega (arith, le)

-- a half has less than the device
few_bytes : (rides : Bool) (sectors : ℕ) → capacity_of rides sectors ≤ 512 * sectors
few_bytes false sectors = omega arith
few_bytes true sectors = omega arith

most_sectors : (rides : Bool) (sectors : ℕ) → IsSized rides sectors → sectors ≤ 2 ^ 32
most_sectors rides sectors sized = sized.at_most

-- a step may write as many as a half has
pub enough : {D : Type 0} {disk : Disk} (bytes : ℕ) (before mid : JournalView D) → bytes ≤ capacity_of before.rides before.sectors → mid.sectors ≡ before.sectors → IsKept disk mid → sectors_of bytes ≤ 2 ^ 64 - 1
enough bytes before mid fits same kept =
    let most = most_sectors mid.rides mid.sectors kept.sized in
    let few = few_bytes before.rides before.sectors in
    omega (arith, fits, same, most, few)

whole : (bytes max : ℕ) → sectors_of bytes ≤ max → min bytes (512 * (0 / 512 + step_count bytes 0 max)) ≡ bytes
whole bytes max le = omega (arith, le, all_sectors bytes max le)

-- a journal whose bytes stayed, and then gave way to others that are made of them: at each moment the old bytes, or the new ones
pub either_of : {D : Type 0} (disk : D → Disk) (before mid now : JournalView D) (next : Carried → Carried) → Stays (disk before.device) before mid → (disk before.device).honest
    → LeavesOnly (model before.rides (disk before.device)) (model before.rides (disk mid.device)) (Carries (carried_of before))
    → LeavesOnly (model mid.rides (disk mid.device)) (model mid.rides (disk now.device)) (EitherCarried (carried_of mid) (next (carried_of mid)))
    → LeavesOnly (model before.rides (disk before.device)) (model before.rides (disk now.device)) (EitherCarried (carried_of before) (next (carried_of before)))
either_of disk before mid now next stays honest first second =
    let same : carried_of mid ≡ carried_of before = λ i. record { version = stays.version i; rides = stays.rides i; half = stays.half i; bytes = stays.bytes honest i; seq = stays.seq i; opens = stays.opens i; identity = stays.identity i } in
    joined (model before.rides (disk before.device)) (model before.rides (disk mid.device)) (model before.rides (disk now.device)) (EitherCarried (carried_of before) (next (carried_of before)))
    (leaves_weaker (model before.rides (disk before.device)) (model before.rides (disk mid.device)) (Carries (carried_of before)) (EitherCarried (carried_of before) (next (carried_of before))) (λ image carries. inl carries) first)
    (subst (λ (c : Carried). LeavesOnly (model c.rides (disk mid.device)) (model c.rides (disk now.device)) (EitherCarried c (next c))) same second)

-- the old bytes in their half, or the target in the other
pub either : {D : Type 0} (disk : D → Disk) (before mid now : JournalView D) (target : List ℕ) → Stays (disk before.device) before mid → (disk before.device).honest
    → LeavesOnly (model before.rides (disk before.device)) (model before.rides (disk mid.device)) (Carries (carried_of before))
    → LeavesOnly (model mid.rides (disk mid.device)) (model mid.rides (disk now.device)) (EitherCarried (carried_of mid) (switched (carried_of mid) target))
    → LeavesOnly (model before.rides (disk before.device)) (model before.rides (disk now.device)) (EitherCarried (carried_of before) (switched (carried_of before) target))
either disk before mid now target = either_of disk before mid now (λ c. switched c target)

-- a journal whose bytes stayed, and that the device broke then
pub broke_behind : {D : Type 0} (old mid new : Disk) (before middle now : JournalView D) (last calls : ℕ) → Stays old before middle → (old.honest ↔ mid.honest) → Broke mid new last middle now → Failed old new calls
    → Broke old new calls before now
broke_behind old mid new before middle now last calls stays same is failed = record {
  stays = record {
    bytes = λ honest. is.stays.bytes (same.0 honest) ∙ stays.bytes honest;
    used = is.stays.used ∙ stays.used;
    seq = is.stays.seq ∙ stays.seq;
    version = is.stays.version ∙ stays.version;
    rides = is.stays.rides ∙ stays.rides;
    half = is.stays.half ∙ stays.half;
    opens = is.stays.opens ∙ stays.opens;
    identity = is.stays.identity ∙ stays.identity;
    sectors = is.stays.sectors ∙ stays.sectors;
    settled = is.stays.settled ∙ stays.settled;
    next = is.stays.next ∙ stays.next;
    blocks = is.stays.blocks ∙ stays.blocks;
  };
  broken = is.broken;
  failed = failed;
}

-- ---- after the copy

module _ {D : Type 0} (disk : D → Disk) (before mid now : JournalView D) (target : List ℕ) (answer max : ℕ) (enough : sectors_of (length target) ≤ max)
    (step : Stepped (disk before.device) (disk mid.device) before mid target 0 max answer) (same : (disk before.device).honest ↔ (disk mid.device).honest) where
  pub made : Made (disk before.device) (disk mid.device) (sectors_of (length target))
  made = subst (Made (disk before.device) (disk mid.device)) (all_sectors (length target) max enough) step.made

  pub copied : (disk mid.device).honest → BeginsWith target mid.copied
  copied honest =
      let all : mid.copied ≡ target = step.copied (same.1 honest) refl ∙ ap (λ (n : ℕ). take n target) (step.answer_is ∙ whole (length target) max enough) ∙ take_all (length target) target (omega arith) in
      subst (BeginsWith target) (sym all) (take_all (length target) target (omega arith))

  -- the calls of a switch, by the format that stayed
  abbrev last : ℕ
  last = switch_calls before.rides (length target)

  pub last_is : switch_calls mid.rides (length target) ≡ last
  last_is = ap (λ (r : Bool). switch_calls r (length target)) step.stays.rides

  next_is : (if mid.rides then mid.next + 1 else 0) ≡ (if before.rides then before.next + 1 else 0)
  next_is = λ i. if step.stays.rides i then step.stays.next i + 1 else 0

  pub switch_counts : Switched (disk mid.device) (disk now.device) mid now target (switch_calls mid.rides (length target)) → Switched (disk before.device) (disk now.device) before now target (sectors_of (length target) + last)
  switch_counts is = record {
    worked = step.worked;
    became = record {
      bytes = λ honest. is.bytes (same.0 honest);
      used = is.used;
      half = is.half ∙ ap (λ (h : ℕ). 1 - h) step.stays.half;
      seq = is.seq ∙ step.stays.seq;
      version = is.version ∙ step.stays.version;
      rides = is.rides ∙ step.stays.rides;
      opens = is.opens ∙ step.stays.opens;
      identity = is.identity ∙ step.stays.identity;
      sectors = is.sectors ∙ step.stays.sectors;
      works = is.works;
      settled = is.settled;
      next = is.next ∙ next_is;
      made = made_joined (disk before.device) (disk mid.device) (disk now.device) (sectors_of (length target)) last made (subst (Made (disk mid.device) (disk now.device)) last_is is.made);
    };
    copied = is.copied;
  }

  pub replace_counts : (adds : ℕ) → Replaced (disk mid.device) (disk now.device) mid now target adds (switch_calls mid.rides (length target)) → Replaced (disk before.device) (disk now.device) before now target adds (sectors_of (length target) + last)
  replace_counts adds is = record {
    worked = step.worked;
    became = record {
      bytes = λ honest. is.bytes (same.0 honest);
      used = is.used;
      half = is.half ∙ ap (λ (h : ℕ). 1 - h) step.stays.half;
      seq = is.seq ∙ ap (λ (n : ℕ). n + adds) step.stays.seq;
      version = is.version ∙ step.stays.version;
      rides = is.rides ∙ step.stays.rides;
      opens = is.opens ∙ step.stays.opens;
      identity = is.identity ∙ step.stays.identity;
      sectors = is.sectors ∙ step.stays.sectors;
      works = is.works;
      settled = is.settled;
      next = is.next ∙ next_is;
      made = made_joined (disk before.device) (disk mid.device) (disk now.device) (sectors_of (length target)) last made (subst (Made (disk mid.device) (disk now.device)) last_is is.made);
    };
    copied = is.copied;
  }

  pub broke : Broke (disk mid.device) (disk now.device) (switch_calls mid.rides (length target)) mid now → Broke (disk before.device) (disk now.device) (sectors_of (length target) + last) before now
  broke is = broke_behind (disk before.device) (disk mid.device) (disk now.device) before mid now (switch_calls mid.rides (length target)) (sectors_of (length target) + last) step.stays same is
      (failed_joined (disk before.device) (disk mid.device) (disk now.device) (sectors_of (length target)) last (sectors_of (length target) + last) (omega arith) made (subst (Failed (disk mid.device) (disk now.device)) last_is is.failed))
