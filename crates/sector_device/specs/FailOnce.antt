-- A device of which one call fails.
use Rattle.std.specs.Prelude.{◌≡◌, ◌≢◌, ◌⊎◌, ℕ, ◌+◌, ◌-◌, ◌<◌, Bool, true, false, None, Result, IsErr, OnErr}
use Rattle.sector_device.specs.Disk.{Disk, Counts}
use Rattle.sector_device.specs.declared.device.DeviceFault.{DeviceFault}
use Rattle.sector_device.specs.declared.device.SectorDevice.{Ghosts}
use Rattle.sector_device.specs.declared.fail_once.FailOnce.{FailOnce}

-- the failure of its own, if it was made
abbrev pub own_failure : Bool → ℕ
own_failure true = 1
own_failure false = 0

-- the device below, which has no limit of calls
abbrev pub fail_once_disk : {D : Type 0} {G : Ghosts D} → FailOnce D G → Disk
fail_once_disk {D} {G} device =
    let inner = G.disk device.device in
    record {
      sectors = inner.sectors;
      honest = inner.honest;
      seen = inner.seen;
      left = inner.left;
      moment = inner.moment;
      left_since = inner.left_since;
      torn_left = inner.torn_left;
      torn_since = inner.torn_since;
      failures = inner.failures + own_failure device.failed;
      own_failures = inner.own_failures + own_failure device.failed;
      failures_saturated = inner.failures_saturated;
      calls_left = None;
    }

-- which of its calls fail: the one that is due, and any other as the device below fails
pub record FailsOnce {D : Type 0} {G : Ghosts D} (old new : FailOnce D G) (result : Result (Unit {0}) DeviceFault) : Type 0 where
  pub counted : (new.left ≡ old.left - 1) × (new.pass ≡ old.pass)
  pub due : old.left ≡ 1 → IsErr result
  -- it doesn't touch the device, unless it is passed on
  pub withheld : old.left ≡ 1 → old.pass ≡ false → new.device ≡ old.device
  pub others : old.left ≢ 1 → OnErr result (((G.disk old.device).failures < (G.disk new.device).failures) ⊎ (G.disk old.device).failures_saturated)

-- the call that is due, if it is passed on: the device below was called once, and did this
abbrev pub IsPassedOn : {D : Type 0} {G : Ghosts D} → FailOnce D G → FailOnce D G → (Result (Unit {0}) DeviceFault → Type 0) → Type 0
IsPassedOn {D} {G} old new Did = old.left ≡ 1 → old.pass ≡ true → (answer : Result (Unit {0}) DeviceFault) × Counts (G.disk old.device) (G.disk new.device) answer × Did answer
