-- The bytes and numbers that an image of the device carries in format 1 or 2.
use Rattle.std.specs.Prelude.{◌≡◌, ◌⊎◌, ℕ, ◌+◌, ◌-◌, ◌<◌, ◌≤◌, ◌^◌, min, List, [], ◌++◌, length, slice_index, slice_index_or, if◌then◌else◌}
use Rattle.sector_device.specs.Disk.{Image}
use Rattle.sector_device.specs.Sectors.{byte_at}
use Rattle.half_journal.specs.Layout.{sector_of, half_start, half_capacity, IsFormat, IsHalfSized}
use Rattle.half_journal.specs.declared.commit_sector.Commit.{Commit}
use Rattle.half_journal.specs.declared.update.Base.{Base}
use Rattle.half_journal.specs.declared.update.Base.TheVariants.{Kept, Written, Copied}
use Rattle.half_journal.specs.declared.update.Update.{Update}

-- the half that counts, the bytes and their format, and the numbers that go with them
pub record HalfState : Type 0 where
  -- the format, 1 or 2
  pub version : ℕ
  pub half : ℕ
  pub bytes : List ℕ
  pub seq : ℕ
  pub opens : ℕ

-- the commit sector that names this, of a device of `sectors` sectors
abbrev pub commit_of : HalfState → ℕ → Commit
commit_of c sectors = record { format = c.version; half = c.half; length = length c.bytes; seq = c.seq; opens = c.opens; sectors = sectors }

-- what the commit says, with these bytes
abbrev pub state_in : Commit → List ℕ → HalfState
state_in commit bytes = record { version = commit.format; half = commit.half; bytes = bytes; seq = commit.seq; opens = commit.opens }

-- the sectors from start on hold the first n of these bytes
abbrev pub Holds : Image → ℕ → List ℕ → ℕ → Type 0
Holds image start all n = (i : ℕ) → i < n → byte_at image start i ≡ slice_index all i

-- The image has 3 to 2^32 sectors, sector 0 is the commit sector of these numbers, and the half that it names begins with the bytes.
pub record CarriesInHalf (c : HalfState) (image : Image) : Type 0 where
  pub sized : IsHalfSized (length image)
  pub version_fits : IsFormat c.version
  pub half_fits : c.half ≤ 1
  pub fits : length c.bytes ≤ half_capacity (length image)
  pub seq_fits : c.seq < 2 ^ 64
  pub opens_fits : c.opens < 2 ^ 64
  pub commit : slice_index_or image 0 [] ≡ sector_of (commit_of c (length image))
  pub begins : Holds image (half_start (length image) c.half) c.bytes (length c.bytes)

-- the one or the other
abbrev pub EitherInHalf : HalfState → HalfState → Image → Type 0
EitherInHalf old new image = CarriesInHalf old image ⊎ CarriesInHalf new image

-- one opening more; the count stays at its end
abbrev pub one_more : ℕ → ℕ
one_more opens = min (opens + 1) (2 ^ 64 - 1)

-- what a commit begins with: the bytes as they are, or a target in the other half
abbrev pub begun : HalfState → Base → HalfState
begun c Kept = c
begun c (Written target version) = record c { version = version; half = 1 - c.half; bytes = target.now }
begun c (Copied target version) = record c { version = version; half = 1 - c.half; bytes = target.now }

-- after the commit: the frames follow, seq has risen, and an opening is counted or not
abbrev pub committed : HalfState → Update → HalfState
committed c update = record {
  version = (begun c update.base).version;
  half = (begun c update.base).half;
  bytes = (begun c update.base).bytes ++ update.frames.now;
  seq = c.seq + update.adds;
  opens = if update.counts_opening then one_more c.opens else c.opens;
}
