-- The disk model of a store, by its format.
use Rattle.std.specs.Prelude.{◌≡◌, ◌≢◌, ℕ, List, length, Bool, true, false, IsTrue}
use Rattle.sector_device.specs.Disk.{Disk}
use Rattle.commit_slots.specs.Sealed.{IsNoticed}
use Rattle.half_journal.specs.Layout.{Fits, IsOf, sector_of}
use Rattle.half_journal.specs.declared.commit_sector.Commit.{Commit}

-- the premise on the bytes of torn sectors: none verifies, and none is a commit sector of formats 1 and 2
pub record IsTold (sectors : ℕ) (torn : List ℕ → Bool) : Type 0 where
  pub noticed : IsNoticed torn
  pub other : (sector : List ℕ) → IsTrue (torn sector) → (commit : Commit) → IsOf sectors commit → Fits commit → sector ≢ sector_of commit

-- the device, if its sectors may tear in any way that is noticed; each of its images has its size
abbrev pub weak : Disk → Disk
weak disk =
    record disk {
      left = λ image. (torn : List ℕ → Bool) × IsTold disk.sectors torn × disk.torn_left torn image;
      left_since = λ moment image. (torn : List ℕ → Bool) × IsTold disk.sectors torn × (length image ≡ disk.sectors) × disk.torn_since torn moment image;
    }

-- in formats 1 and 2 no sector tears, in format 3 some may
abbrev pub model : Bool → Disk → Disk
model false disk = disk
model true disk = weak disk
