-- The bytes of torn sectors, if sectors tear.
use Rattle.std.specs.Prelude.{List, ℕ, Bool, Option, None, Some}
use Rattle.sector_device.specs.Disk.{Disk, IsDamage, tearing}
use Rattle.commit_slots.specs.Sealed.{IsNoticed}

-- the device, if no sector tears, or if some do
abbrev pub tearing_by : Option (List ℕ → Bool) → Disk → Disk
tearing_by None disk = disk
tearing_by (Some torn) disk = tearing torn disk

-- a torn sector may hold these bytes
abbrev pub IsTornBy : Option (List ℕ → Bool) → List ℕ → Type 0
IsTornBy None sector = ⊥
IsTornBy (Some torn) sector = IsDamage torn sector

-- the premise: no torn sector verifies
abbrev pub IsToldBy : Option (List ℕ → Bool) → Type 0
IsToldBy None = Unit {0}
IsToldBy (Some torn) = IsNoticed torn
