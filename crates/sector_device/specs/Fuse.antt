-- A device that passes a given number of calls and then fails.
use Rattle.std.specs.Prelude.{◌≡◌, ◌⊎◌, ℕ, ◌+◌, ◌-◌, ◌^◌, min, Option, Some, None}
use Rattle.sector_device.specs.Disk.{Disk}
use Rattle.sector_device.specs.declared.fuse.Fuse.{Fuse}

-- no more than n
abbrev pub at_most : Option ℕ → ℕ → ℕ
at_most None n = n
at_most (Some m) n = min m n

-- the device below, with a limit of calls
abbrev pub fuse_disk : {D : Type 0} → (D → Disk) → Fuse D → Disk
fuse_disk disk fuse =
    let inner = disk fuse.device in
    record {
      sectors = inner.sectors;
      honest = inner.honest;
      seen = inner.seen;
      left = inner.left;
      moment = inner.moment;
      left_since = inner.left_since;
      torn_left = inner.torn_left;
      torn_since = inner.torn_since;
      failures = inner.failures + fuse.failures;
      own_failures = inner.own_failures;
      failures_saturated = inner.failures_saturated ⊎ (fuse.failures ≡ 2 ^ 64 - 1);
      calls_left = Some (at_most inner.calls_left fuse.calls);
    }
