-- A step of a copy and the switch behind it.
use Rattle.std.proofs.Common.{◌≡◌, ℕ, ◌+◌, ◌≤◌, max, length, ap, subst, arith, Bool, if◌then◌else◌, ◌↔◌}
use Rattle.std.proofs.lemmas.Bool.{eq-eqb}
use Rattle.sector_device.specs.Disk.{Disk}
use Rattle.sector_device.proofs.Charges.{failed_joined}
use Rattle.store_journal.specs.Calls.{Broke, Stepped}
use Rattle.store_journal.specs.JournalView.{JournalView}
use Rattle.store_journal.specs.Writes.{switch_calls}
use Rattle.sector_device.specs.Charges.{Failed}
use Rattle.store_commits.specs.Copying.{Target, count_of, calls_of_step, standing_after, written_of}
use Rattle.store_commits.proofs.Switches.{broke_behind}

module _ {D : Type 0} (disk : D → Disk) (before mid now : JournalView D) (t : Target) (most answer : ℕ)
    (step : Stepped (disk before.device) (disk mid.device) before mid t.bytes t.standing (max most 1) answer) (whole : length t.bytes ≤ answer) (same : (disk before.device).honest ↔ (disk mid.device).honest) where
  -- the calls of a switch, by the format that stayed
  abbrev last : ℕ
  last = switch_calls before.rides (length t.bytes)

  last_is : switch_calls mid.rides (length t.bytes) ≡ last
  last_is = ap (λ (r : Bool). switch_calls r (length t.bytes)) step.stays.rides

  pub last_calls : calls_of_step before.rides (count_of t) most ≡ written_of (count_of t) most + last
  last_calls = let is = step.answer_is in let all : standing_after (count_of t) most ≡ length t.bytes = omega (arith, is, whole) in
      ap (λ (b : Bool). written_of (count_of t) most + (if b then last else 0)) (eq-eqb (standing_after (count_of t) most) (length t.bytes) all)

  pub step_broke_last : Broke (disk mid.device) (disk now.device) (switch_calls mid.rides (length t.bytes)) mid now → Broke (disk before.device) (disk now.device) (calls_of_step before.rides (count_of t) most) before now
  step_broke_last is = broke_behind (disk before.device) (disk mid.device) (disk now.device) before mid now (switch_calls mid.rides (length t.bytes)) (calls_of_step before.rides (count_of t) most) step.stays same is
      (failed_joined (disk before.device) (disk mid.device) (disk now.device) (written_of (count_of t) most) last (calls_of_step before.rides (count_of t) most) (let e = last_calls in omega (arith, e)) step.made
      (subst (Failed (disk mid.device) (disk now.device)) last_is is.failed))
