-- A device of which one call fails, call by call: another call, or the one that is due.
use Rattle.std.proofs.Common.{◌≡◌, ◌≢◌, inl, inr, ⊎_elim, ℕ, ◌+◌, ◌-◌, ◌≤◌, ◌<◌, refl, ap, arith, Bool, true, false, None, Result, Ok, Err, List}
use Rattle.std.proofs.lemmas.Result.{on_ok_weaker, on_err_weaker}
use Rattle.sector_device.specs.Disk.{Disk, Elapses, Counts, Reads, Writes, Syncs}
use Rattle.sector_device.specs.FailOnce.{own_failure, FailsOnce}
use Rattle.sector_device.specs.declared.device.DeviceFault.{DeviceFault}
use Rattle.sector_device.specs.declared.device.SectorDevice.{Ghosts}
use Rattle.sector_device.specs.declared.fail_once.FailOnce.{FailOnce}

pub not_yet : (failed : Bool) (left : ℕ) → (failed ≡ true → left ≡ 0) → left ≡ 1 → failed ≡ false
not_yet true left once due = absurd (omega (arith, once refl, due))
not_yet false left once due = refl

none : (disk : Disk) → Elapses disk disk
none disk = record { later = omega arith; nothing_else = λ moment image le left. inl left; keeps = λ moment image le left. left }

-- what a call that is due needs to know of the device below: it was called, or not touched
pub record Below (old new : Disk) : Type 0 where
  size : new.sectors ≡ old.sectors
  honest : new.honest → old.honest
  later : old.failures ≤ new.failures
  later_faults : old.own_failures ≤ new.own_failures
  stays_saturated : old.failures_saturated → new.failures_saturated

pub called : {T E : Type 0} (old new : Disk) (answer : Result T E) → Counts old new answer → Below old new
called old new answer counts = record { size = counts.size; honest = counts.honest; later = counts.later; later_faults = counts.later_faults; stays_saturated = counts.stays_saturated }

pub untouched : (disk : Disk) → Below disk disk
untouched disk = record { size = refl; honest = λ h. h; later = omega arith; later_faults = omega arith; stays_saturated = λ saturated. saturated }

-- a device that did what it did for an answer did it for an error, too
pub reads_err : {T E : Type 0} (old new : Disk) (at : ℕ) (content : List ℕ) (answer : Result T E) (fault : E) → Reads old new at content answer → Reads {T = T} old new at content (Err fault)
reads_err old new at content answer fault reads = record { time = reads.time; seen = reads.seen; left = reads.left; given = tt }

pub writes_err : {T E : Type 0} (old new : Disk) (at : ℕ) (content : List ℕ) (answer : Result T E) (fault : E) → Writes old new at content answer → Writes {T = T} old new at content (Err fault)
writes_err old new at content (Ok value) fault writes = record { honest = writes.honest; time = writes.time; adds = writes.adds; seen = tt; all = tt; failed = inr writes.seen }
writes_err old new at content (Err own) fault writes = record { honest = writes.honest; time = writes.time; adds = writes.adds; seen = tt; all = tt; failed = writes.failed }

pub syncs_err : {T E : Type 0} (old new : Disk) (answer : Result T E) (fault : E) → Syncs old new answer → Syncs {T = T} old new (Err fault)
syncs_err old new answer fault syncs = record { honest = syncs.honest; time = syncs.time; seen = syncs.seen; adds_none = syncs.adds_none; settled = tt }

-- and so is one that was not touched
pub reads_none : {T E : Type 0} (disk : Disk) (at : ℕ) (content : List ℕ) (fault : E) → Reads {T = T} disk disk at content (Err fault)
reads_none disk at content fault = record { time = none disk; seen = refl; left = λ image. (λ l. l, λ l. l); given = tt }

pub writes_none : {T E : Type 0} (disk : Disk) (at : ℕ) (content : List ℕ) (fault : E) → disk.honest → Writes {T = T} disk disk at content (Err fault)
writes_none disk at content fault honest = record { honest = honest; time = none disk; adds = λ image left. inl left; seen = tt; all = tt; failed = inl refl }

pub syncs_none : {T E : Type 0} (disk : Disk) (fault : E) → disk.honest → Syncs {T = T} disk disk (Err fault)
syncs_none disk fault honest = record { honest = honest; time = none disk; seen = refl; adds_none = λ image left. left; settled = tt }

-- the device over it, with its own failure counted if it was made
abbrev pub over : Disk → Bool → Disk
over below failed = record {
  sectors = below.sectors;
  honest = below.honest;
  seen = below.seen;
  left = below.left;
  moment = below.moment;
  left_since = below.left_since;
  torn_left = below.torn_left;
  torn_since = below.torn_since;
  failures = below.failures + own_failure failed;
  own_failures = below.own_failures + own_failure failed;
  failures_saturated = below.failures_saturated;
  calls_left = None;
}

module _ (old new : Disk) (was is : Bool) where
  -- a call that was not due
  pub other_counts : {T E : Type 0} (result : Result T E) → old.calls_left ≡ None → is ≡ was → Counts old new result → Counts (over old was) (over new is) result
  other_counts result unlimited same counts =
      let own = ap own_failure same in
      record {
        size = counts.size;
        honest = counts.honest;
        calls_left = refl;
        passed = on_ok_weaker result (λ one. tt) counts.passed;
        ok = on_ok_weaker result (λ still. omega (arith, still, own)) counts.ok;
        ok_faults = on_ok_weaker result (λ still. omega (arith, still, own)) counts.ok_faults;
        later = omega (arith, counts.later, own);
        later_faults = omega (arith, counts.later_faults, own);
        err = on_err_weaker result (⊎_elim (λ more. inl (omega (arith, more, own))) inr) counts.err;
        err_faults = on_err_weaker result (⊎_elim (λ none. absurd (cc (none, unlimited))) (⊎_elim (λ more. inr (inl (omega (arith, more, own)))) (λ saturated. inr (inr saturated)))) counts.err_faults;
        spent = λ none. absurd (cc none);
        stays_saturated = counts.stays_saturated;
        saturates = λ saturated. ⊎_elim inl (λ more. inr (omega (arith, more, own))) (counts.saturates saturated);
      }

  -- the one that was due: its own failure is counted, whatever the device below did
  pub due_counts : {T E : Type 0} (fault : E) → was ≡ false → is ≡ true → Below old new → Counts {T = T} (over old was) (over new is) (Err fault)
  due_counts fault before after below =
      let none = ap own_failure before in
      let one = ap own_failure after in
      let rose : old.failures + own_failure was < new.failures + own_failure is = omega (arith, below.later, none, one) in
      let faults_rose : old.own_failures + own_failure was < new.own_failures + own_failure is = omega (arith, below.later_faults, none, one) in
      record {
        size = below.size;
        honest = below.honest;
        calls_left = refl;
        passed = tt;
        ok = tt;
        ok_faults = tt;
        later = omega (arith, rose);
        later_faults = omega (arith, faults_rose);
        err = inl rose;
        err_faults = inr (inl faults_rose);
        spent = λ none. absurd (cc none);
        stays_saturated = below.stays_saturated;
        saturates = λ saturated. inr rose;
      }

  -- what holds of the device below holds of the one over it, too
  time : Elapses old new → Elapses (over old was) (over new is)
  time below = record { later = below.later; nothing_else = below.nothing_else; keeps = below.keeps }

  pub reads_too : {T E : Type 0} (at : ℕ) (content : List ℕ) (result : Result T E) → Reads old new at content result → Reads (over old was) (over new is) at content result
  reads_too at content result reads = record { time = time reads.time; seen = reads.seen; left = reads.left; given = reads.given }

  pub writes_too : {T E : Type 0} (at : ℕ) (content : List ℕ) (result : Result T E) → Writes old new at content result → Writes (over old was) (over new is) at content result
  writes_too at content result writes = record { honest = writes.honest; time = time writes.time; adds = writes.adds; seen = writes.seen; all = writes.all; failed = writes.failed }

  pub syncs_too : {T E : Type 0} (result : Result T E) → Syncs old new result → Syncs (over old was) (over new is) result
  syncs_too result syncs = record { honest = syncs.honest; time = time syncs.time; seen = syncs.seen; adds_none = syncs.adds_none; settled = syncs.settled }

module _ {D : Type 0} {G : Ghosts D} (old new : FailOnce D G) where
  pub other_fails : (result : Result (Unit {0}) DeviceFault) → (new.left ≡ old.left - 1) × (new.pass ≡ old.pass) → old.left ≢ 1 → Counts (G.disk old.device) (G.disk new.device) result → FailsOnce old new result
  other_fails result counted other counts = record { counted = counted; due = λ due. absurd (other due); withheld = λ due pass. absurd (other due); others = λ apart. counts.err }

  pub due_fails : (fault : DeviceFault) → (new.left ≡ old.left - 1) × (new.pass ≡ old.pass) → old.left ≡ 1 → (old.pass ≡ false → new.device ≡ old.device) → FailsOnce old new (Err fault)
  due_fails fault counted due withheld = record { counted = counted; due = λ due. refl; withheld = λ due. withheld; others = λ apart. absurd (apart due) }
