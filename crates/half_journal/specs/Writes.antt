-- The sectors that a call writes, and what its writes make of the images.
use Rattle.std.specs.Prelude.{◌≡◌, ℕ, ◌+◌, ◌-◌, ◌*◌, ◌/◌, ◌≤◌, ◌<◌, ◌^◌, List, [], length, drop, if◌then◌else◌, nat_eq, Bool, false, ◌&&◌, Result, OnOk}
use Rattle.sector_device.specs.Disk.{Disk, Image, LeavesOnly}
use Rattle.sector_device.specs.Sectors.{Begins, Over, OverSome, SectorsHold, sectors_of}
use Rattle.half_journal.specs.Layout.{half_start, half_capacity, IsFormat, IsHalfSized}
use Rattle.half_journal.specs.declared.commit_sector.Commit.{Commit}
use Rattle.half_journal.specs.States.{CarriesInHalf, EitherInHalf, HalfState, Holds, begun, commit_of, committed}
use Rattle.half_journal.specs.declared.update.Base.{Base}
use Rattle.half_journal.specs.declared.update.Base.TheVariants.{Kept, Written, Copied}
use Rattle.half_journal.specs.declared.update.Start.{Start}
use Rattle.half_journal.specs.declared.update.Update.{Update}

-- how many sectors hold bytes of those after the used ones: from the first of them to the last
abbrev pub touched : ℕ → ℕ → ℕ
touched used more = if nat_eq more 0 then 0 else (used + more - 1) / 512 + 1 - used / 512

-- what a commit writes before its frames, from the first sector of the half on
abbrev pub written_first : Base → List ℕ
written_first (Written target version) = target.now
written_first _ = []

-- the sectors from start on begin with the target, if the commit takes it as copied
abbrev pub HasCopied : Base → Image → ℕ → Type 0
HasCopied (Copied target version) image start = Begins image start target.now
HasCopied _ image start = Unit {0}

-- a commit writes nothing into the other half
abbrev pub SparesOther : Base → List ℕ → Type 0
SparesOther (Written target version) frames = ⊥
SparesOther (Copied target version) frames = frames ≡ []
SparesOther Kept frames = Unit {0}

-- one sync makes the commit durable: an opening is counted alone
abbrev pub one_sync : Base → Bool → ℕ → Bool
one_sync Kept counts frames = counts && nat_eq frames 0
one_sync _ counts frames = false

abbrev pub takes_one_sync : Update → Bool
takes_one_sync update = one_sync update.base update.counts_opening (length update.frames.now)

-- the calls of the device: writes of the target, writes of the frames after `used` bytes, and sync, write 0, sync; if
-- one sync is enough, write 0, sync
abbrev pub commit_calls : Update → ℕ → ℕ
commit_calls update used = sectors_of (length (written_first update.base)) + touched used (length update.frames.now) + (if takes_one_sync update then 2 else 3)

-- what a commit writes begins in a half, and the target lies in it
pub record IsPlaced (sectors : ℕ) (start : Start) : Type 0 where
  pub sized : IsHalfSized sectors
  pub half_fits : start.half ≤ 1
  pub target_fits : length start.target.now ≤ half_capacity sectors
  pub short : length start.front.now ≤ 512

-- a run of writes: what a crash may leave meanwhile, what reads give then, and at Ok all of it is written
pub record WritesRun {T E : Type 0} (old new : Disk) (first count : ℕ) (run : List ℕ) (result : Result T E) : Type 0 where
  pub any_moment : LeavesOnly old new (OverSome first count run old.left)
  pub seen : Over first count run old.seen new.seen
  pub written : OnOk result (SectorsHold new.seen first count run)

-- each image carries old, and the commit sector is that of the update
pub record CanWrite (disk : Disk) (update : Update) (start : Start) (commit : Commit) (old : HalfState) : Type 0 where
  pub honest : disk.honest
  pub carried : (image : Image) → disk.left image → CarriesInHalf old image
  pub copied : HasCopied update.base disk.seen (half_start disk.sectors (1 - old.half))
  pub half_is : start.half ≡ (begun old update.base).half
  pub used_is : start.used ≡ length (begun old update.base).bytes
  pub front_is : start.front.now ≡ drop (512 * (start.used / 512)) (begun old update.base).bytes
  pub names : commit ≡ commit_of (committed old update) commit.sectors
  pub version_fits : IsFormat (begun old update.base).version
  pub seq_fits : old.seq + update.adds < 2 ^ 64

-- of the half's bytes those in the sectors from that of the byte in this place on are followed by zeros, to the end of the last of these sectors
abbrev pub EndsInZeros : ℕ → List ℕ → ℕ → Image → Type 0
EndsInZeros half bytes from image =
    SectorsHold image (half_start (length image) half + from / 512) (touched from (length bytes - from)) (drop (512 * (from / 512)) bytes)

-- a commit that was made or failed: at any moment the old bytes or the new, at Ok the new alone, and the old ones are read from their own place
pub record Tried {T E : Type 0} (disk new_disk : Disk) (update : Update) (old : HalfState) (result : Result T E) : Type 0 where
  pub any_moment : LeavesOnly disk new_disk (EitherInHalf old (committed old update))
  pub stays : Holds new_disk.seen (half_start disk.sectors old.half) old.bytes (length old.bytes)
  pub done : OnOk result ((image : Image) → new_disk.left image → CarriesInHalf (committed old update) image)
  pub zeros : OnOk result ((image : Image) → new_disk.left image → EndsInZeros (committed old update).half (committed old update).bytes (length (begun old update.base).bytes) image)
