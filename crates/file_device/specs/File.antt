-- A file, as a device.
use Rattle.std.specs.Prelude.{◌≡◌, ℕ, List, Bool}
use Rattle.sector_device.specs.Disk.{Disk, IsCoherent, IsTearing}
use Rattle.sector_device.specs.History.{KeepsTo, disk_after}
use Rattle.sector_device.specs.Coherence.{coherent_after, tearing_after}
use Rattle.file_device.specs.declared.file.FileDevice.{FileDevice}

-- what its calls made of what it held; it is honest as long as each read gave what the sector held
abbrev pub file_disk : FileDevice → Disk
file_disk device = disk_after device.sectors device.history device.failures

pub file_coherent : (device : FileDevice) → KeepsTo device.sectors device.history → IsCoherent (file_disk device)
file_coherent device = coherent_after device.sectors device.history device.failures

pub file_tearing : (device : FileDevice) → KeepsTo device.sectors device.history → (torn : List ℕ → Bool) → IsTearing torn (file_disk device)
file_tearing device = tearing_after device.sectors device.history device.failures

-- For the clauses within the crate: nothing of what contracts say of it has changed.
pub record IsSameDevice (old new : FileDevice) : Type 0 where
  pub sectors : new.sectors ≡ old.sectors
  pub failures : new.failures ≡ old.failures
  pub history : new.history ≡ old.history
