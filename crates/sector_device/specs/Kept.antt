-- The part of its history that a disk in memory keeps.
use Rattle.std.specs.Prelude.{◌≡◌, All, ℕ, ◌<◌, ◌/◌, List, [], ◌∷◌, ◌++◌, length, slice_index_or, slice_set, if◌then◌else◌, nat_eq, Bool, false, ◌||◌, Option}
use Rattle.sector_device.specs.Disk.{Image, HasShape}
use Rattle.sector_device.specs.declared.call.DeviceCall.{DeviceCall}
use Rattle.sector_device.specs.declared.call.DeviceCall.TheVariants.{Read, Write, Sync}
use Rattle.sector_device.specs.declared.history.History.{History, Opened, Created, Read', Written', WriteFailed', Synced'}
use Rattle.sector_device.specs.declared.unsettled.Unsettled.{Unsettled}
use Rattle.sector_device.specs.History.{zeros_of, seen_after, left_by}

-- the calls that went through, the oldest first
abbrev pub calls_in : History → List DeviceCall
calls_in (Opened held) = []
calls_in (Created sectors) = []
calls_in (Read' p earlier at content) = calls_in earlier ++ Read at ∷ []
calls_in (Written' p earlier at content) = calls_in earlier ++ Write at ∷ []
calls_in (WriteFailed' p earlier at content) = calls_in earlier
calls_in (Synced' p earlier) = calls_in earlier ++ Sync ∷ []

-- of sector i, the content after the last sync and then each that was written to it since
abbrev pub contents_after : History → ℕ → List (List ℕ)
contents_after (Opened held) i = slice_index_or held.value.seen.items i [] ∷ []
contents_after (Created sectors) i = slice_index_or (zeros_of sectors) i [] ∷ []
contents_after (Read' p earlier at content) i = contents_after earlier i
contents_after (Written' p earlier at content) i = if nat_eq at i then contents_after earlier i ++ content.value ∷ [] else contents_after earlier i
contents_after (WriteFailed' p earlier at content) i = if nat_eq at i then contents_after earlier i ++ content.value ∷ [] else contents_after earlier i
contents_after (Synced' p earlier) i = slice_index_or (seen_after earlier) i [] ∷ []

-- whether a crash may tear sector i: something was written to its block since the last sync
abbrev pub risk_after : History → ℕ → Bool
risk_after (Opened held) i = false
risk_after (Created sectors) i = false
risk_after (Read' p earlier at content) i = risk_after earlier i
risk_after (Written' p earlier at content) i = risk_after earlier i || nat_eq (at / 8) (i / 8)
risk_after (WriteFailed' p earlier at content) i = risk_after earlier i || nat_eq (at / 8) (i / 8)
risk_after (Synced' p earlier) i = false

-- the sectors after these writes, one after another
abbrev pub put_all : Image → List Unsettled → Image
put_all image [] = image
put_all image (write ∷ later) = put_all (slice_set image write.at write.content) later

-- what they wrote to sector i
abbrev pub written_to : ℕ → List Unsettled → List (List ℕ)
written_to i [] = []
written_to i (write ∷ later) = if nat_eq write.at i then write.content ∷ written_to i later else written_to i later

-- whether they wrote to the block of sector i
abbrev pub written_near : ℕ → List Unsettled → Bool
written_near i [] = false
written_near i (write ∷ later) = nat_eq (write.at / 8) (i / 8) || written_near i later

-- of a disk with this history: the record of its calls, the sectors as the last sync settled them, what was written since, and the sectors as they read
pub record IsKept (history : History) (calls : List DeviceCall) (settled : Image) (unsettled : List Unsettled) (current : Image) : Type 0 where
  pub recorded : calls ≡ calls_in history
  pub seen : current ≡ seen_after history
  pub shape : (torn : Option (List ℕ → Bool)) (image : Image) → left_by torn history image → HasShape (length current) image
  pub size : length settled ≡ length current
  pub placed : All (λ write. write.at < length settled) unsettled
  pub put : put_all settled unsettled ≡ current
  pub contents : (i : ℕ) → i < length current → contents_after history i ≡ slice_index_or settled i [] ∷ written_to i unsettled
  pub risks : (i : ℕ) → risk_after history i ≡ written_near i unsettled
