-- The state that the calls of a device leave.
use Rattle.std.specs.Prelude.{◌≡◌, ◌⊎◌, ℕ, ◌+◌, ◌-◌, ◌^◌, ◌≤◌, List, length, slice_index_or, [], slice_set, replicate, Any, Bool, Option, None, Some}
use Rattle.sector_device.specs.Disk.{Disk, Image, OrReplaced, OrTorn, HasShape}
use Rattle.sector_device.specs.declared.history.History.{History, Opened, Created, Read', Written', WriteFailed', Synced'}

-- `sectors` sectors of zeros
abbrev pub zeros_of : ℕ → Image
zeros_of sectors = replicate sectors (replicate 512 0)

-- how many calls there were
abbrev pub moment_of : History → ℕ
moment_of (Opened held) = 0
moment_of (Created sectors) = 0
moment_of (Read' p earlier at content) = moment_of earlier + 1
moment_of (Written' p earlier at content) = moment_of earlier + 1
moment_of (WriteFailed' p earlier at content) = moment_of earlier + 1
moment_of (Synced' p earlier) = moment_of earlier + 1

-- what reads give: what was written last
abbrev pub seen_after : History → Image
seen_after (Opened held) = held.value.seen.items
seen_after (Created sectors) = zeros_of sectors
seen_after (Read' p earlier at content) = seen_after earlier
seen_after (Written' p earlier at content) = slice_set (seen_after earlier) at content.value
seen_after (WriteFailed' p earlier at content) = seen_after earlier
seen_after (Synced' p earlier) = seen_after earlier

-- what a write adds, if no sector tears, or if those do that hold such bytes
abbrev pub OrWritten : Option (List ℕ → Bool) → (Image → Type 0) → ℕ → List ℕ → Image → Type 0
OrWritten None = OrReplaced
OrWritten (Some torn) = OrTorn torn

-- what a crash may leave: each write may have reached the disk or not, until a sync settles them all
abbrev pub left_by : Option (List ℕ → Bool) → History → Image → Type 0
left_by torn (Opened held) = λ image. (image ≡ held.value.seen.items) ⊎ Any (λ other. image ≡ other.items) held.value.others.items
left_by torn (Created sectors) = λ image. image ≡ zeros_of sectors
left_by torn (Read' p earlier at content) = left_by torn earlier
left_by torn (Written' p earlier at content) = OrWritten torn (left_by torn earlier) at content.value
left_by torn (WriteFailed' p earlier at content) = OrWritten torn (left_by torn earlier) at content.value
left_by torn (Synced' p earlier) = λ image. image ≡ seen_after earlier

-- that, if no sector tears
abbrev pub left_after : History → Image → Type 0
left_after history = left_by None history

-- at this moment, which is the one since which is asked or a later one
abbrev pub Now : ℕ → ℕ → (Image → Type 0) → Image → Type 0
Now moment since left image = (since ≤ moment) × left image

-- what a crash might have left at some moment since that one
abbrev pub since_by : Option (List ℕ → Bool) → History → ℕ → Image → Type 0
since_by torn (Opened held) m image = Now 0 m (left_by torn (Opened held)) image
since_by torn (Created sectors) m image = Now 0 m (left_by torn (Created sectors)) image
since_by torn (Read' p earlier at content) m image = since_by torn earlier m image ⊎ Now (moment_of earlier + 1) m (left_by torn earlier) image
since_by torn (Written' p earlier at content) m image = since_by torn earlier m image ⊎ Now (moment_of earlier + 1) m (OrWritten torn (left_by torn earlier) at content.value) image
since_by torn (WriteFailed' p earlier at content) m image = since_by torn earlier m image ⊎ Now (moment_of earlier + 1) m (OrWritten torn (left_by torn earlier) at content.value) image
since_by torn (Synced' p earlier) m image = since_by torn earlier m image ⊎ Now (moment_of earlier + 1) m (λ i. i ≡ seen_after earlier) image

-- The device answered as one of `sectors` sectors with this history: each read gave what the sector held.
abbrev pub KeepsTo : ℕ → History → Type 0
KeepsTo sectors (Opened held) = (image : Image) → left_after (Opened held) image → HasShape sectors image
KeepsTo sectors (Created created) = created ≡ sectors
KeepsTo sectors (Read' p earlier at content) = KeepsTo sectors earlier × (content.value ≡ slice_index_or (seen_after earlier) at [])
KeepsTo sectors (Written' p earlier at content) = KeepsTo sectors earlier × (length content.value ≡ 512)
KeepsTo sectors (WriteFailed' p earlier at content) = KeepsTo sectors earlier × (length content.value ≡ 512)
KeepsTo sectors (Synced' p earlier) = KeepsTo sectors earlier

-- A device of `sectors` sectors after these calls, of which `failures` failed: it is honest as long as each read gave
-- what the sector held, its contents are by the calls, and there is no limit of calls.
abbrev pub disk_after : ℕ → History → ℕ → Disk
disk_after sectors history failures =
    record {
      sectors = sectors;
      honest = KeepsTo sectors history;
      seen = seen_after history;
      left = left_after history;
      moment = moment_of history;
      left_since = since_by None history;
      torn_left = λ torn. left_by (Some torn) history;
      torn_since = λ torn. since_by (Some torn) history;
      failures = failures;
      own_failures = failures;
      failures_saturated = failures ≡ 2 ^ 64 - 1;
      calls_left = None;
    }
