-- A disk in memory, as a device.
use Rattle.std.specs.Prelude.{◌≡◌, ℕ, List, length, Bool, None, Some}
use Rattle.sector_device.specs.Disk.{Disk, IsCoherent, IsRaised, IsTearing}
use Rattle.sector_device.specs.History.{disk_after}
use Rattle.sector_device.specs.Coherence.{seen_by, now_by, only_by, torn_more, torn_more_since}
use Rattle.sector_device.specs.Kept.{calls_in, contents_after, risk_after}
use Rattle.sector_device.specs.declared.call.DeviceCall.{DeviceCall}
use Rattle.sector_device.specs.declared.history.History.{History}
use Rattle.sector_device.specs.declared.memory.MemDisk.{MemDisk}

-- a disk of `sectors` sectors after these calls, and `failures` that failed: it is honest, and has no limit of calls
abbrev pub mem_after : ℕ → History → ℕ → Disk
mem_after sectors history failures = record (disk_after sectors history failures) { honest = Unit {0} }

-- what its calls made of its first contents; all its failures are its own
abbrev pub mem_disk : MemDisk → Disk
mem_disk m = mem_after (length m.current.items) m.history m.failures

-- a disk in memory is as every honest device is
pub mem_coherent : (m : MemDisk) → Unit {0} → IsCoherent (mem_disk m)
mem_coherent m h = record { seen = seen_by None m.history; shape = m.kept.shape None; now = now_by None m.history; only_now = only_by None m.history }

pub mem_tearing : (m : MemDisk) → Unit {0} → (torn : List ℕ → Bool) → IsTearing torn (mem_disk m)
mem_tearing m h torn = record {
  coherent = record { seen = seen_by (Some torn) m.history; shape = m.kept.shape (Some torn); now = now_by (Some torn) m.history; only_now = only_by (Some torn) m.history };
  adds = torn_more torn m.history;
  adds_since = torn_more_since torn m.history;
}

-- its record, the oldest call first
abbrev pub calls_of : MemDisk → List DeviceCall
calls_of m = calls_in m.history

-- of sector i, the content after the last sync and then each that was written to it since
abbrev pub contents_of : MemDisk → ℕ → List (List ℕ)
contents_of m = contents_after m.history

-- whether a crash may tear sector i
abbrev pub is_at_risk : MemDisk → ℕ → Bool
is_at_risk m = risk_after m.history

-- a call that found no memory: the contents and the record stay, and the failure is counted
pub record IsRefused (old new : MemDisk) : Type 0 where
  pub history : new.history ≡ old.history
  pub current : new.current.items ≡ old.current.items
  pub calls : new.calls.items ≡ old.calls.items
  pub settled : new.settled.items ≡ old.settled.items
  pub unsettled : new.unsettled.items ≡ old.unsettled.items
  pub failures : IsRaised old.failures new.failures
