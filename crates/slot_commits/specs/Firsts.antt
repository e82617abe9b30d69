-- Sector 0 while slots are written, for a reader who knows the format by it.
use Rattle.std.specs.Prelude.{◌≡◌, ◌⊎◌, List, ℕ, [], take, slice_index_or, Bool, Option}
use Rattle.sector_device.specs.Disk.{Disk, Image, LeavesOnly}
use Rattle.commit_slots.specs.Sealed.{beginning}
use Rattle.slot_commits.specs.Tears.{IsTornBy, tearing_by}

-- sector 0 is that of an image before, or begins as a slot does, or is torn
abbrev pub KeepsFirst : Option (List ℕ → Bool) → (Image → Type 0) → Image → Type 0
KeepsFirst torn old image =
    (before : Image) × old before × ((slice_index_or image 0 [] ≡ slice_index_or before 0 []) ⊎ (take 12 (slice_index_or image 0 []) ≡ beginning) ⊎ IsTornBy torn (slice_index_or image 0 []))

-- so at any moment
abbrev pub LeavesFirst : Option (List ℕ → Bool) → Disk → Disk → Type 0
LeavesFirst torn old new = LeavesOnly (tearing_by torn old) (tearing_by torn new) (KeepsFirst torn (tearing_by torn old).left)
