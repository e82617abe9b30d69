-- The write of the commit sector that makes a commit count: what reads give then, and which images are left.
use Rattle.std.specs.Prelude.{◌≡◌, ◌⊎◌, List, ℕ, slice_set, Result, OnOk}
use Rattle.sector_device.specs.Disk.{Image, Disk, LeavesOnly, OrReplaced}

-- at any moment an image from before, or one with sector 0 replaced; what was read with it replaced is the only one at Ok
pub record Replaces {T E : Type 0} (old new : Disk) (content : List ℕ) (result : Result T E) : Type 0 where
  pub any_moment : LeavesOnly old new (OrReplaced old.left 0 content)
  pub seen : (new.seen ≡ old.seen) ⊎ (new.seen ≡ slice_set old.seen 0 content)
  pub done : OnOk result ((image : Image) → new.left image → image ≡ slice_set old.seen 0 content)
