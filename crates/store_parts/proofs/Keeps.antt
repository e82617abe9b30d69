-- Reads leave the images of a device as they were.
use Rattle.std.proofs.Common.{ℕ, List, ◌∙◌, ◌≤◌, Result, Ok, Err, refl, arith}
use Rattle.sector_device.specs.Disk.{Disk, IsCoherent, Reads}
use Rattle.sector_device.specs.Reads.{ReadCharges}
use Rattle.sector_device.specs.Sectors.{KeepsImages}
use Rattle.sector_device.specs.declared.read.ReadFault.{ReadFault}
use Rattle.sector_device.specs.declared.read.ReadFault.TheVariants.{Memory, Device}
use Rattle.sector_device.proofs.Moments.{goes_on, joined, leaves_weaker, started}

pub keeps_none : (disk : Disk) → IsCoherent disk → KeepsImages disk disk
keeps_none disk coherent = record { seen = refl; left = λ image left. left; any_moment = started disk disk.left coherent (λ image left. left) }

pub keeps_joined : (old mid new : Disk) → KeepsImages old mid → KeepsImages mid new → KeepsImages old new
keeps_joined old mid new one other = record {
  seen = other.seen ∙ one.seen;
  left = λ image left. one.left image (other.left image left);
  any_moment = joined old mid new old.left one.any_moment (leaves_weaker mid new mid.left old.left one.left other.any_moment);
}

-- a read more
pub keeps_more : {T E : Type 0} (old new : Disk) (at : ℕ) (content : List ℕ) (result : Result T E) → IsCoherent old → Reads old new at content result → KeepsImages old new
keeps_more old new at content result coherent reads = record {
  seen = reads.seen;
  left = λ image l. (reads.left image).0 l;
  any_moment = goes_on old old new old.left (keeps_none old coherent).any_moment reads.time (λ image l. (reads.left image).0 l);
}

-- they make no failure undone
pub read_later : {T : Type 0} (old new : Disk) (calls : ℕ) (result : Result T ReadFault) → ReadCharges old new calls result → old.failures ≤ new.failures
read_later old new calls (Ok value) made = omega (arith, made.failures)
read_later old new calls (Err Memory) made = let failures = made.2.failures in omega (arith, failures)
read_later old new calls (Err Device) failed = failed.later
