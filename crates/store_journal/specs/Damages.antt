-- Damage at rest of a device in format 3.
use Rattle.std.specs.Prelude.{◌≡◌, ℕ, ◌≤◌, true}
use Rattle.sector_device.specs.Disk.{Image}
use Rattle.half_journal.specs.Layout.{HasNoSector}
use Rattle.slot_commits.specs.Damages.{HoldsCopy, IsDamaged, IsTold}
use Rattle.slot_commits.specs.States.{Stands}
use Rattle.store_journal.specs.Carries.{Carried, state_of}

-- c is in format 3, and the image holds all of it: both copies of its commit, which is the last, and each whole block
pub record StandsRiding (number blocks : ℕ) (c : Carried) (image : Image) : Type 0 where
  pub rides_is : c.rides ≡ true
  pub version_is : c.version ≡ 2
  pub stands : Stands number (state_of c blocks) image

-- Damage that the checks notice: each sector of the slots is as it was or doesn't verify, sector 0 is no commit sector of formats 1 and 2, and the blocks that the slot names are as they were or have another check. All else may be anything.
pub record IsNoticedDamage (blocks : ℕ) (c : Carried) (before image : Image) : Type 0 where
  pub slots : IsDamaged before image
  pub none : HasNoSector image
  pub told : IsTold (state_of c blocks) image

-- neither copy of the commit is as it was
abbrev pub LostBothCopies : ℕ → ℕ → Carried → Image → Type 0
LostBothCopies number blocks c image = (copy : ℕ) → copy ≤ 1 → HoldsCopy number (state_of c blocks) copy image → ⊥
