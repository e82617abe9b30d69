-- A snapshot that was written and switched to, or given up.
use Rattle.std.proofs.Common.{◌≡◌, inl, inr, ℕ, ◌+◌, List, [], length, Result, Ok, Err, IfOk, IfErr, refl, sym, ◌∙◌, ap, None, Option, false, ◌↔◌}
use Rattle.sector_device.specs.Disk.{Disk, Image, LeavesOnly}
use Rattle.sector_device.proofs.Moments.{leaves_weaker}
use Rattle.sector_device.specs.Sectors.{sectors_of}
use Rattle.store_journal.specs.Calls.{Broke, Switched}
use Rattle.store_journal.specs.Carries.{EitherCarried, switched}
use Rattle.store_journal.specs.JournalView.{JournalView, IsKept, carried_of}
use Rattle.store_journal.specs.Models.{model}
use Rattle.store_journal.specs.Writes.{switch_calls}
use Rattle.doc_changes.proofs.Framed.{framed_storable}
use Rattle.doc_changes.specs.Refusals.{plain}
use Rattle.doc_changes.specs.State.{State}
use Rattle.refusals.specs.declared.numbers.TheConstants.{DEVICE}
use Rattle.doc_changes.specs.declared.refusal.Refusal.{Refusal}
use Rattle.store_commits.specs.Account.{Copy, with_copy}
use Rattle.store_commits.specs.Inside.{IsHeld, account_of}
use Rattle.store_commits.specs.Snapshot.{CanHold, account_with_snapshot, RemakesAll, snapshot_bytes}
use Rattle.store_commits.specs.Images.{Holds, profile_in, version_of_frames}
use Rattle.store_commits.proofs.Migrating.{snapshot_holds}
use Rattle.store_commits.proofs.Snapshots.{remakes_all}
use Rattle.store_commits.specs.Folds.{StandsAfter}
use Rattle.store_commits.proofs.Standing.{held_broke, held_by, stands_by, stands_now}
use Rattle.store_commits.proofs.Modelled.{AreCoherent}

module _ {D : Type 0} (old new : Disk) (before now : JournalView D) (state : State) (remakes : RemakesAll state) (held : IsHeld old before state) (same : old.honest ↔ new.honest) (kept : IsKept new now) where
  abbrev target : List ℕ
  target = snapshot_bytes before.rides state.documents state.marks

  holds : Holds state.profile (version_of_frames before.rides 2) state.seq target state.documents state.marks
  holds = snapshot_holds before.rides state state.seq refl held.profile remakes

  either_stands : old.honest → (image : Image) → EitherCarried (carried_of before) (switched (carried_of before) target) image → StandsAfter state [] image
  either_stands honest image (inl carries) = stands_now state [] image (stands_by state (carried_of before) held.version held.seq held.profile (held.held honest) image carries)
  either_stands honest image (inr carries) = stands_now state [] image (stands_by state (switched (carried_of before) target) held.version held.seq held.profile holds image carries)

  pub snapshot_moments : old.honest → LeavesOnly (model before.rides old) (model before.rides new) (EitherCarried (carried_of before) (switched (carried_of before) target)) → LeavesOnly (model before.rides old) (model before.rides new) (StandsAfter state [])
  snapshot_moments honest leaves = leaves_weaker (model before.rides old) (model before.rides new) (EitherCarried (carried_of before) (switched (carried_of before) target)) (StandsAfter state []) (either_stands honest) leaves

  pub held_snapped : Switched old new before now target (sectors_of (length target) + switch_calls before.rides (length target)) → IsHeld new now state
  held_snapped counts = record {
    kept = kept;
    version = counts.version ∙ held.version;
    settled = counts.settled;
    seq = counts.seq ∙ held.seq;
    profile = ap profile_in counts.rides ∙ held.profile;
    good = held.good;
    held = λ honest. held_by before now state counts.rides target (counts.bytes (same.1 honest)) holds;
  }

  -- the account of the journal then
  pub snapped_is : (k : Option Copy) → before.broken ≡ false → Switched old new before now target (sectors_of (length target) + switch_calls before.rides (length target)) → account_of now state ≡ account_with_snapshot (with_copy (account_of before state) k)
  snapped_is k works counts = λ i. record { state = state; used = counts.used i; half = counts.half i; rides = counts.rides i; opens = counts.opens i; identity = counts.identity i; sectors = counts.sectors i; broken = (counts.works ∙ sym works) i; copy = None }

-- ---- either way

-- what a commit of a snapshot answers: the target counts, or the device failed
abbrev pub WasCommitted : {D : Type 0} → (D → Disk) → JournalView D → JournalView D → List ℕ → Result ℕ Refusal → Type 0
WasCommitted disk before now target r = IfOk r (λ used. Switched (disk before.device) (disk now.device) before now target (sectors_of (length target) + switch_calls before.rides (length target)) × (used ≡ length target))

abbrev pub WasNotCommitted : {D : Type 0} → (D → Disk) → JournalView D → JournalView D → List ℕ → Result ℕ Refusal → Type 0
WasNotCommitted disk before now target r = IfErr r (λ refusal. (refusal ≡ plain DEVICE) × Broke (disk before.device) (disk now.device) (sectors_of (length target) + switch_calls before.rides (length target)) before now)

module _ {D : Type 0} (disk : D → Disk) (coherent : AreCoherent disk) (before now : JournalView D) (state : State)
    (held : IsHeld (disk before.device) before state) (can : CanHold (account_of before state) (length (snapshot_bytes before.rides state.documents state.marks))) (kept : IsKept (disk now.device) now) (same : (disk before.device).honest ↔ (disk now.device).honest) where
  abbrev calls : ℕ
  calls = sectors_of (length (snapshot_bytes before.rides state.documents state.marks)) + switch_calls before.rides (length (snapshot_bytes before.rides state.documents state.marks))

  remakes : RemakesAll state
  remakes = remakes_all framed_storable state held.good

  pub snapped_held : (r : Result ℕ Refusal) → WasCommitted disk before now (snapshot_bytes before.rides state.documents state.marks) r → WasNotCommitted disk before now (snapshot_bytes before.rides state.documents state.marks) r → IsHeld (disk now.device) now state
  snapped_held (Ok used) ok err = held_snapped (disk before.device) (disk now.device) before now state remakes held same kept ok.0
  snapped_held (Err r) ok err = held_broke (disk before.device) (disk now.device) before now state calls err.1 held same kept
