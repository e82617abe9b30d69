-- A snapshot, or a step of a copy: what is left of the journal and of the copy, and what a crash leaves where a fault hit it.
use Rattle.std.proofs.Common.{◌≡◌, inl, inr, ℕ, ◌<◌, ◌≤◌, List, [], length, take, refl, sym, ◌∙◌, ap, subst, arith, true, false, Bool, Option, None, Some, ◌↔◌, take_all, ⊎_elim, ◌-◌, Result, Ok, Err, OnOk, IfErr, if◌then◌else◌, nat_le, nat_eq}
use Rattle.std.proofs.lemmas.Bool.{cases_lt, eq-eqb, le-leb, lt-leb, ne_eqb}
use Rattle.std.proofs.lemmas.List.{append-nil}
use Rattle.sector_device.specs.Charges.{Made, Failed}
use Rattle.sector_device.specs.Disk.{Disk, Image, LeavesOnly}
use Rattle.sector_device.proofs.Moments.{leaves_weaker, left_now}
use Rattle.store_journal.specs.Calls.{BeginsWith, Broke}
use Rattle.store_journal.specs.Carries.{EitherCarried, switched, Carries}
use Rattle.store_journal.specs.Layout.{capacity_of}
use Rattle.store_journal.specs.Models.{model}
use Rattle.store_journal.specs.Sealing.{seal_calls}
use Rattle.slot_commits.specs.Loads.{number_end}
use Rattle.store_journal.specs.JournalView.{JournalView, IsKept, carried_of}
use Rattle.doc_changes.proofs.Framed.{framed_storable}
use Rattle.doc_changes.specs.declared.refusal.Refusal.{Refusal}
use Rattle.doc_changes.specs.State.{State}
use Rattle.refusals.specs.declared.numbers.TheConstants.{DEVICE}
use Rattle.store_commits.specs.Account.{Account, Copy, StoreView, account_broken, with_copy, EndsWith, Extent, IsStandingAs, StandsAs, extent_of}
use Rattle.store_commits.specs.Batch.{FailedCommit, PassedCommit, to_snapshot}
use Rattle.store_commits.specs.Copying.{IsBegun, IsCopied, IsCopying, Target, copy_of, count_of, HasStepped, IsPumped, PumpAnswers, account_stepped, calls_of_pump, calls_of_step, copy_at, standing_after}
use Rattle.store_commits.specs.Inside.{IsHeld, IsStored, account_of}
use Rattle.store_commits.specs.Images.{Holds, profile_in, version_of_frames}
use Rattle.store_commits.specs.Run.{to_step}
use Rattle.store_commits.specs.Sealing.{to_seal}
use Rattle.store_commits.specs.Snapshot.{RemakesAll, snapshot_bytes, account_with_snapshot}
use Rattle.store_commits.specs.Folds.{StandsAfter}
use Rattle.store_commits.specs.declared.pump.Pump.{Pump}
use Rattle.store_commits.proofs.Extents.{as_it_was, broken_as, counted, ending_as, switched_as}
use Rattle.store_commits.proofs.Migrating.{snapshot_holds}
use Rattle.store_commits.proofs.Modelled.{AreCoherent}
use Rattle.store_commits.proofs.SnapshotOutcomes.{WasCommitted, WasNotCommitted, held_snapped, snapped_is}
use Rattle.store_commits.proofs.Snapshots.{remakes_all}
use Rattle.store_commits.proofs.Standing.{held_by, stands_by, stands_now}

-- ---- the copy that a step goes on with

module _ {D : Type 0} (disk : Disk) (journal : JournalView D) (state : State) where
  pub begun_copying : (copy : Option Target) (t : Target) → IsStored disk journal state copy → journal.next < number_end → IsBegun journal.rides state copy t → IsCopying disk journal state t
  begun_copying None t stored numbered is = subst (IsCopying disk journal state) (sym is) (record {
    holds = snapshot_holds journal.rides state state.seq refl stored.held.profile (remakes_all framed_storable state stored.held.good);
    within = omega arith;
    copied = λ honest works. refl;
    numbered = numbered;
  })
  begun_copying (Some u) t stored numbered is = subst (IsCopying disk journal state) (sym is) stored.copied

  -- where no number is left no copy runs
  pub none_runs : (copy : Option Target) → IsCopied disk journal state copy → (journal.next < number_end → ⊥) → copy_of copy ≡ None
  none_runs None copied none = refl
  none_runs (Some t) copied none = absurd (none copied.numbered)

  pub begun_at : (copy : Option Target) (t : Target) → IsBegun journal.rides state copy t → copy_at (with_copy (account_of journal state) (copy_of copy)) ≡ count_of t
  begun_at None t is = ap count_of (sym is)
  begun_at (Some u) t is = ap count_of (sym is)

-- ---- the device and the journal

-- the committed bytes and their numbers are as before
pub held_so : {D : Type 0} (old new : Disk) (before now : JournalView D) (state : State) → IsHeld old before state → (new.honest → old.honest) → IsKept new now
    → now.version ≡ before.version → now.seq ≡ before.seq → now.rides ≡ before.rides → (old.honest → now.bytes ≡ before.bytes) → now.settled ≡ true → IsHeld new now state
held_so old new before now state held back kept version seq rides bytes settled = record {
  kept = kept;
  version = version ∙ held.version;
  settled = settled;
  seq = seq ∙ held.seq;
  profile = ap profile_in rides ∙ held.profile;
  good = held.good;
  held = λ honest. held_by before now state rides before.bytes (bytes (back honest)) (held.held (back honest));
}

module _ {D : Type 0} (old new : Disk) (before now : JournalView D) (state : State) (t : Target) (held : IsHeld old before state) (copying : IsCopying old before state t) (same : old.honest ↔ new.honest) (kept : IsKept new now) where
  either_stands : old.honest → (image : Image) → EitherCarried (carried_of before) (switched (carried_of before) t.bytes) image → StandsAfter state [] image
  either_stands honest image (inl carries) = stands_now state [] image (stands_by state (carried_of before) held.version held.seq held.profile (held.held honest) image carries)
  either_stands honest image (inr carries) = stands_now state [] image (stands_by state (switched (carried_of before) t.bytes) held.version held.seq held.profile copying.holds image carries)

  pub step_moments : old.honest → LeavesOnly (model before.rides old) (model before.rides new) (EitherCarried (carried_of before) (switched (carried_of before) t.bytes)) → LeavesOnly (model before.rides old) (model before.rides new) (StandsAfter state [])
  step_moments honest leaves = leaves_weaker (model before.rides old) (model before.rides new) (EitherCarried (carried_of before) (switched (carried_of before) t.bytes)) (StandsAfter state []) (either_stands honest) leaves

  pub step_held : (most : ℕ) (p : Pump) (left : Option Target) → HasStepped old new before now t most p left → IsHeld new now state
  step_held most p left (inl on) = held_so old new before now state held same.1 kept on.stepped.stays.version on.stepped.stays.seq on.stepped.stays.rides on.stepped.stays.bytes (on.stepped.stays.settled ∙ held.settled)
  step_held most p left (inr over) = record {
    kept = kept;
    version = over.counts.version ∙ held.version;
    settled = over.counts.settled;
    seq = over.counts.seq ∙ held.seq;
    profile = ap profile_in over.counts.rides ∙ held.profile;
    good = held.good;
    held = λ honest. held_by before now state over.counts.rides t.bytes (over.counts.bytes (same.1 honest)) copying.holds;
  }

  pub step_copied : (most : ℕ) (p : Pump) (left : Option Target) → HasStepped old new before now t most p left → IsCopied new now state left
  step_copied most p left (inl on) = subst (IsCopied new now state) (sym on.left_is) (record {
    holds = subst (λ (r : Bool). Holds state.profile (version_of_frames r 2) state.seq t.bytes state.documents state.marks) (sym on.stepped.stays.rides) copying.holds;
    within = (let lt = on.less in omega (arith, lt));
    copied = λ honest works. (let front = take (standing_after (count_of t) most) t.bytes in
        subst (BeginsWith front) (sym (on.stepped.copied (same.1 honest) (copying.copied (same.1 honest) on.stepped.worked))) (take_all (length front) front (omega arith)));
    numbered = (let same_next = on.stepped.stays.next in let lt = copying.numbered in omega (arith, same_next, lt));
  })
  step_copied most p left (inr over) = subst (IsCopied new now state) (sym over.left_is) tt

  pub step_stored : (most : ℕ) (p : Pump) (left : Option Target) → HasStepped old new before now t most p left → IsStored new now state left
  step_stored most p left stepped = record { held = step_held most p left stepped; copied = step_copied most p left stepped }

-- ---- the account

-- once the device failed
pub broke_is : {D : Type 0} (old new : Disk) (before now : JournalView D) (state : State) (calls : ℕ) → Broke old new calls before now → account_of now state ≡ account_broken (account_of before state)
broke_is old new before now state calls broke = λ i. record {
  state = state;
  used = broke.stays.used i;
  half = broke.stays.half i;
  rides = broke.stays.rides i;
  opens = broke.stays.opens i;
  identity = broke.stays.identity i;
  sectors = broke.stays.sectors i;
  broken = broke.broken i;
  copy = None;
}

-- ---- its commit

-- an image of the state, whatever its bytes end with
pub ends_somehow : (l : Extent) (image : Image) → StandsAs l image → EndsWith [] l image
ends_somehow l image stands = record { stands = stands; front = stands.bytes; ends = sym (append-nil stands.bytes) }

-- the account after a step, by whether a half has room and whether the sectors were the last
abbrev stepped_by : Account → ℕ → Bool → Bool → Account
stepped_by a most fits whole =
    if fits
    then (if whole then record a { used = (copy_at a).target; half = 1 - a.half; copy = None } else record a { copy = Some (record (copy_at a) { standing = standing_after (copy_at a) most }) })
    else record a { copy = None }

module _ (a : Account) (most : ℕ) where
  abbrev fits_there : Bool
  fits_there = nat_le (copy_at a).target (capacity_of a.rides a.sectors)

  abbrev whole_there : Bool
  whole_there = nat_eq (standing_after (copy_at a) most) (copy_at a).target

  turned_is : (copy_at a).target ≤ capacity_of a.rides a.sectors → standing_after (copy_at a) most ≡ (copy_at a).target → account_stepped a most ≡ stepped_by a most true true
  turned_is fits whole = (λ i. stepped_by a most (le-leb (copy_at a).target (capacity_of a.rides a.sectors) fits i) (eq-eqb (standing_after (copy_at a) most) (copy_at a).target whole i))

  pub stepped_is : (p : Pump) (b : Account) → IsPumped a most p b → b ≡ account_stepped a most
  stepped_is p b (inl off) = off.1.new_is ∙ (λ i. stepped_by a most (sym (lt-leb (copy_at a).target (capacity_of a.rides a.sectors) off.1.over) i) whole_there)
  stepped_is p b (inr (inl on)) =
      let ne : standing_after (copy_at a) most ≡ (copy_at a).target → ⊥ = (λ e. let lt = on.less in omega (arith, lt, e)) in
      on.new_is ∙ (λ i. stepped_by a most (sym (le-leb (copy_at a).target (capacity_of a.rides a.sectors) on.can.fits) i) (sym (ne_eqb (standing_after (copy_at a) most) (copy_at a).target ne) i))
  stepped_is p b (inr (inr over)) = over.new_is ∙ sym (turned_is over.can.fits over.whole)

  pub calls_are : (copy_at a).target ≤ capacity_of a.rides a.sectors → calls_of_pump a most ≡ calls_of_step a.rides (copy_at a) most
  calls_are fits = ap (λ (b : Bool). if b then calls_of_step a.rides (copy_at a) most else 0) (le-leb (copy_at a).target (capacity_of a.rides a.sectors) fits)

-- a step passed
pub step_passed : {D : Type 0} (disk : D → Disk) (x y : StoreView D) (most : ℕ) (r : Result Pump Refusal) → PumpAnswers x.account most r y.account → OnOk r (Made (disk x.device) (disk y.device) (calls_of_pump x.account most))
    → IsStandingAs (disk y.device) y.account → OnOk r (PassedCommit disk x.device y.device (to_step x.account most))
step_passed disk x y most (Err r) is made stands = tt
step_passed disk x y most (Ok p) is made stands =
    let works = ⊎_elim (λ off. ap (λ (a : Account). a.broken) off.1.new_is ∙ off.1.works)
    (⊎_elim (λ on. ap (λ (a : Account). a.broken) on.new_is ∙ on.can.works) (λ over. ap (λ (a : Account). a.broken) over.new_is ∙ over.can.works)) is in
    record {
      passed = made;
      leaves = λ honest image left. subst (λ (b : Account). EndsWith [] (extent_of b) image) (stepped_is x.account most p y.account is)
          (ends_somehow (extent_of y.account) image (stands honest works image (subst (λ (b : Account). (model b.rides (disk y.device)).left image) (sym (stepped_is x.account most p y.account is)) left)));
    }

-- a snapshot, or a step of a copy: the other half may count, with the target
module _ {D : Type 0} (disk : D → Disk) (coherent : AreCoherent disk) (before now : JournalView D) (state : State) (held : IsHeld (disk before.device) before state)
    (same : (disk before.device).honest ↔ (disk now.device).honest) (kept : IsKept (disk now.device) now) (k : Option Copy) where
  abbrev a : Account
  a = with_copy (account_of before state) k

  abbrev bytes : List ℕ
  bytes = snapshot_bytes before.rides state.documents state.marks

  remakes : RemakesAll state
  remakes = remakes_all framed_storable state held.good

  -- the account of a journal that the device broke leaves what was there
  broken_leaves : (calls : ℕ) → Broke (disk before.device) (disk now.device) calls before now → (image : Image) → StandsAs (extent_of (account_of before state)) image → StandsAs (extent_of (with_copy (account_of now state) None)) image
  broken_leaves calls broke image old = broken_as a (with_copy (account_of now state) None) image (broke_is (disk before.device) (disk now.device) before now state calls broke) old

  -- in the model of the format that it had
  left_before : now.rides ≡ before.rides → (image : Image) → (model now.rides (disk now.device)).left image → (model before.rides (disk now.device)).left image
  left_before is image left = subst (λ (r : Bool). (model r (disk now.device)).left image) is left

  pub snapshot_passed : before.broken ≡ false → (r : Result ℕ Refusal) → WasCommitted disk before now bytes r → OnOk r (PassedCommit disk before.device now.device (to_snapshot a))
  snapshot_passed works (Err r) was = tt
  snapshot_passed works (Ok used) was = record {
    passed = was.0.made;
    leaves = ending_as (disk now.device) now state (coherent now.rides now.device) (held_snapped (disk before.device) (disk now.device) before now state remakes held same kept was.0) was.0.works [] bytes (λ honest. was.0.bytes (same.1 honest)) (account_with_snapshot a)
        (ap extent_of (snapped_is (disk before.device) (disk now.device) before now state remakes held same kept k works was.0));
  }

  pub snapshot_failed : (r : Result ℕ Refusal) → WasNotCommitted disk before now bytes r → ((disk before.device).honest → LeavesOnly (model before.rides (disk before.device)) (model before.rides (disk now.device)) (EitherCarried (carried_of before) (switched (carried_of before) bytes)))
      → IfErr r (λ refusal. refusal.number ≡ DEVICE → FailedCommit disk before.device now.device (to_snapshot a) (with_copy (account_of now state) None))
  snapshot_failed (Ok used) was leaves = tt
  snapshot_failed (Err refusal) was leaves = λ is. record {
    failed = was.1.failed;
    leaves = λ honest image left. ⊎_elim (λ old. inl (broken_leaves _ was.1 image old)) (λ new. inr new)
        (switched_as disk coherent before now state held same kept was.1.stays.sectors bytes (snapshot_holds before.rides state state.seq refl held.profile remakes) leaves honest image (left_before was.1.stays.rides image left));
  }

  pub seal_failed : Broke (disk before.device) (disk now.device) (seal_calls before.rides (length before.bytes)) before now
      → ((disk before.device).honest → LeavesOnly (model before.rides (disk before.device)) (model before.rides (disk now.device)) (Carries (carried_of before)))
      → FailedCommit disk before.device now.device (to_seal a) (with_copy (account_of now state) None)
  seal_failed broke leaves = record {
    failed = broke.failed;
    leaves = λ honest image there. (let left = left_before broke.stays.rides image there in
        inl (broken_leaves _ broke image (as_it_was (disk before.device) before state held image (counted disk coherent before now state held same kept broke.stays.sectors honest image left) (same.1 honest)
        (left_now (model before.rides (disk before.device)) (model before.rides (disk now.device)) (Carries (carried_of before)) (coherent before.rides now.device honest) (leaves (same.1 honest)) image left))));
  }

  pub step_failed : (most : ℕ) (t : Target) → Broke (disk before.device) (disk now.device) (calls_of_step before.rides (count_of t) most) before now → Holds state.profile (version_of_frames before.rides 2) state.seq t.bytes state.documents state.marks → copy_at a ≡ count_of t
      → length t.bytes ≤ capacity_of before.rides before.sectors → ((disk before.device).honest → LeavesOnly (model before.rides (disk before.device)) (model before.rides (disk now.device)) (EitherCarried (carried_of before) (switched (carried_of before) t.bytes)))
      → ((disk before.device).honest → standing_after (count_of t) most < length t.bytes → LeavesOnly (model before.rides (disk before.device)) (model before.rides (disk now.device)) (Carries (carried_of before)))
      → FailedCommit disk before.device now.device (to_step a most) (with_copy (account_of now state) None)
  step_failed most t broke holds at fits leaves before_last = record {
    failed = subst (Failed (disk before.device) (disk now.device)) (ap (λ (c : Copy). calls_of_step before.rides c most) (sym at) ∙ sym (calls_are a most fits_at)) broke.failed;
    leaves = λ honest image there. (let left = left_before broke.stays.rides image there in
        ⊎_elim (λ less. inl (broken_leaves _ broke image (as_it_was (disk before.device) before state held image (counted disk coherent before now state held same kept broke.stays.sectors honest image left) (same.1 honest)
        (left_now (model before.rides (disk before.device)) (model before.rides (disk now.device)) (Carries (carried_of before)) (coherent before.rides now.device honest) (before_last (same.1 honest) less) image left))))
        (λ all. ⊎_elim (λ old. inl (broken_leaves _ broke image old)) (λ new. inr (turned (omega (arith, all)) image new.stands))
        (switched_as disk coherent before now state held same kept broke.stays.sectors t.bytes holds leaves honest image left))
        (cases_lt (standing_after (count_of t) most) (length t.bytes)));
  }
    where
      fits_at : (copy_at a).target ≤ capacity_of a.rides a.sectors
      fits_at = subst (λ (x : Copy). x.target ≤ capacity_of before.rides before.sectors) (sym at) fits

      turned : standing_after (count_of t) most ≡ length t.bytes → (image : Image) → StandsAs (record { state = state; used = length t.bytes; half = 1 - before.half; rides = before.rides; identity = before.identity; sectors = before.sectors }) image
          → EndsWith [] (extent_of (account_stepped a most)) image
      turned whole image new =
          let there = turned_is a most fits_at (subst (λ (x : Copy). standing_after x most ≡ x.target) (sym at) whole) in
          subst (λ (b : Account). EndsWith [] (extent_of b) image) (sym there) (ends_somehow (extent_of (stepped_by a most true true)) image
          (subst (λ (x : Copy). StandsAs (record { state = state; used = x.target; half = 1 - before.half; rides = before.rides; identity = before.identity; sectors = before.sectors }) image) (sym at) new))
