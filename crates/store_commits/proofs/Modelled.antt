-- The disk models of both formats.
use Rattle.std.proofs.Common.{◌≡◌, Bool, true, false, List, ℕ, refl}
use Rattle.sector_device.specs.Disk.{Disk, IsCoherent, IsTearing}
use Rattle.store_journal.specs.Models.{model}
use Rattle.store_journal.proofs.Weak.{model_coherent}

-- each honest device is coherent in both
abbrev pub AreCoherent : {D : Type 0} → (D → Disk) → Type 0
AreCoherent {D} disk = (rides : Bool) (device : D) → (disk device).honest → IsCoherent (model rides (disk device))

pub both_models : {D : Type 0} (disk : D → Disk) → ((device : D) → (disk device).honest → IsCoherent (disk device)) → ((device : D) → (disk device).honest → (torn : List ℕ → Bool) → IsTearing torn (disk device)) → AreCoherent disk
both_models disk plain tears rides device honest = model_coherent rides (disk device) (plain device honest) (tears device honest)

pub model_sectors : (rides : Bool) (disk : Disk) → (model rides disk).sectors ≡ disk.sectors
model_sectors false disk = refl
model_sectors true disk = refl
