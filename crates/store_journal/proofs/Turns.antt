-- A journal that was brought to another format, or not, said of what it is seen as.
use Rattle.std.proofs.Common.{◌≡◌, inl, inr, ⊎_elim, ℕ, ◌<◌, List, length, true, false, nat_eq, ap, sym, ◌∙◌, arith}
use Rattle.sector_device.specs.Charges.{Failed, Made}
use Rattle.sector_device.specs.Disk.{Disk}
use Rattle.sector_device.specs.Sectors.{KeepsImages}
use Rattle.sector_device.specs.declared.device.SectorDevice.{Ghosts}
use Rattle.slot_commits.specs.Loads.{number_end}
use Rattle.refusals.specs.declared.numbers.TheConstants.{DEVICE}
use Rattle.store_journal.specs.Carries.{Carried}
use Rattle.store_journal.specs.Fields.{view_of}
use Rattle.store_journal.specs.Held.{IsOf, Numbers, bytes_in, numbers_of, other_bytes}
use Rattle.store_journal.specs.Turning.{Downgraded, Halted, LeavesNumbers, Looked, TurnRefusal, Unwritten, Upgraded, UpgradeRefusal, numbers_turned}
use Rattle.store_journal.specs.Writes.{downgrade_calls, upgrade_calls}
use Rattle.store_journal.specs.declared.held.Held.{Held}
use Rattle.store_journal.specs.declared.held.Held.TheVariants.{InHalf, InSlots}
use Rattle.store_journal.specs.declared.journal.Journal.TheInside.{Inside}
use Rattle.store_journal.proofs.Lifts.{copied_is, used_is}
use Rattle.store_journal.proofs.Steps.{stays_if}
use Rattle.store_journal.proofs.Upgrades.{in_half_kept}

-- what is known of a device in formats 1 and 2 is known of it after reads
pub of_kept : (old new : Disk) (held : Held) (c : Carried) → (numbers_of held).rides ≡ false → KeepsImages old new → IsOf old held c → IsOf new held c
of_kept old new (InHalf known) c plain kept is = in_half_kept old new known c kept is
of_kept old new (InSlots known awaits) c plain kept is = absurd (cc plain)

-- an upgrade that was refused for another reason than the device has only read
pub looked_of : (old new : Disk) (calls number : ℕ) → (number ≡ DEVICE → ⊥) → TurnRefusal old new calls number → Looked old new
looked_of old new calls number other refusal = ⊎_elim (λ memory. memory.1) (⊎_elim (λ end. end.2) (λ failed. absurd (other failed.0))) refusal

failed_of : (old new : Disk) (calls number : ℕ) → number ≡ DEVICE → TurnRefusal old new calls number → Failed old new calls
failed_of old new calls number is refusal = ⊎_elim (λ memory. absurd (omega (arith, is, memory.0))) (⊎_elim (λ end. absurd (omega (arith, is, end.0))) (λ failed. failed.1)) refusal

module _ {D : Type 0} {G : Ghosts D} where
  pub upgraded_to : (j new : Inside D G) (identity : ℕ) (target : List ℕ) (next blocks : ℕ) → numbers_of new.held ≡ numbers_turned (numbers_of j.held) true identity (length target) next blocks → (numbers_of new.held).next < number_end → j.broken ≡ false → new.broken ≡ false → new.copied ≡ 0
      → ((G.disk new.device).honest → LeavesNumbers (G.disk j.device).seen) → ((G.disk new.device).honest → bytes_in (G.disk new.device).seen new.held ≡ target) → Made (G.disk j.device) (G.disk new.device) (upgrade_calls (length target))
      → Upgraded (G.disk j.device) (G.disk new.device) (view_of j) (view_of new) identity target
  upgraded_to j new identity target next blocks numbers fits worked works copied leaves bytes made = record {
    worked = worked;
    numbers = leaves;
    bytes = bytes;
    used = used_is new ∙ ap (λ (n : Numbers). n.used) numbers;
    version = ap (λ (n : Numbers). n.version) numbers;
    rides = ap (λ (n : Numbers). n.rides) numbers;
    half = ap (λ (n : Numbers). n.half) numbers;
    seq = ap (λ (n : Numbers). n.seq) numbers;
    opens = ap (λ (n : Numbers). n.opens) numbers;
    identity_is = ap (λ (n : Numbers). n.identity) numbers;
    sectors = ap (λ (n : Numbers). n.sectors) numbers;
    works = works;
    settled = ap (λ (n : Numbers). n.settled) numbers;
    next = fits;
    copied = ap (other_bytes (G.disk new.device).seen new.held) copied;
    made = made;
  }

  unwritten : (j new : Inside D G) → new.held ≡ j.held → new.copied ≡ j.copied → j.broken ≡ false → new.broken ≡ false → Looked (G.disk j.device) (G.disk new.device) → Unwritten (G.disk j.device) (G.disk new.device) (view_of j) (view_of new)
  unwritten j new held copied worked works looked = record {
    worked = worked;
    stays = stays_if (G.disk new.device) j new (ap numbers_of held) (λ honest i. bytes_in ((looked.kept honest).seen i) (held i));
    works = works;
    copied = λ honest i. other_bytes ((looked.kept honest).seen i) (held i) (copied i);
    size = copied_is new ∙ copied ∙ sym (copied_is j);
    looked = looked;
  }

  -- the device failed
  pub upgrade_halted : (j new : Inside D G) (calls number : ℕ) → number ≡ DEVICE → new.held ≡ j.held → j.broken ≡ false → new.broken ≡ true → ((G.disk new.device).honest → bytes_in (G.disk new.device).seen new.held ≡ (view_of j).bytes)
      → TurnRefusal (G.disk j.device) (G.disk new.device) calls number → Halted (G.disk j.device) (G.disk new.device) calls (view_of j) (view_of new)
  upgrade_halted j new calls number is held worked broken bytes refusal = record {
    worked = worked;
    stays = stays_if (G.disk new.device) j new (ap numbers_of held) bytes;
    broken = broken;
    failed = failed_of (G.disk j.device) (G.disk new.device) calls number is refusal;
  }

  -- it didn't
  pub upgrade_unwritten : (j new : Inside D G) (calls number : ℕ) → (number ≡ DEVICE → ⊥) → new.held ≡ j.held → new.copied ≡ j.copied → j.broken ≡ false → new.broken ≡ false
      → TurnRefusal (G.disk j.device) (G.disk new.device) calls number → UpgradeRefusal (G.disk j.device) (G.disk new.device) calls (view_of j) (view_of new) number
  upgrade_unwritten j new calls number other held copied worked works refusal =
      ⊎_elim (λ memory. inr (inl (memory.0, unwritten j new held copied worked works memory.1)))
      (⊎_elim (λ end. inr (inr (inl (end.0, end.1, unwritten j new held copied worked works end.2)))) (λ failed. absurd (other failed.0))) refusal

  pub downgraded_to : (j new : Inside D G) (target : List ℕ) → numbers_of new.held ≡ numbers_turned (numbers_of j.held) false 0 (length target) 0 0 → j.broken ≡ false → new.broken ≡ false → new.copied ≡ 0 → ((G.disk j.device).honest → bytes_in (G.disk new.device).seen new.held ≡ target)
      → Made (G.disk j.device) (G.disk new.device) (downgrade_calls (length target)) → Downgraded (G.disk j.device) (G.disk new.device) (view_of j) (view_of new) target
  downgraded_to j new target numbers worked works copied bytes made = record {
    worked = worked;
    became = record {
      bytes = bytes;
      used = used_is new ∙ ap (λ (n : Numbers). n.used) numbers;
      version = ap (λ (n : Numbers). n.version) numbers;
      rides = ap (λ (n : Numbers). n.rides) numbers;
      half = ap (λ (n : Numbers). n.half) numbers;
      seq = ap (λ (n : Numbers). n.seq) numbers;
      opens = ap (λ (n : Numbers). n.opens) numbers;
      identity = ap (λ (n : Numbers). n.identity) numbers;
      sectors = ap (λ (n : Numbers). n.sectors) numbers;
      works = works;
      settled = ap (λ (n : Numbers). n.settled) numbers;
      next = ap (λ (n : Numbers). n.next) numbers;
      made = made;
    };
    copied = ap (other_bytes (G.disk new.device).seen new.held) copied;
  }
