-- Documents that are made of the parts of a device.
use Rattle.std.specs.Prelude.{◌≡◌, ℕ, List, Option, Some, None, max, nat_eq, slice_get, if◌then◌else◌}
use Rattle.sector_device.specs.Disk.{Image}
use Rattle.doc_changes.specs.State.{empty_in}
use Rattle.schema_rules.specs.declared.profile.Profile.{Profile}
use Rattle.schema_rules.specs.declared.profile.Profile.TheVariants.{Two, Three}
use Rattle.store_parts.specs.Parts.{HasBytes, HasCheck}
use Rattle.store_parts.specs.declared.checking.Check.{Check}
use Rattle.store_parts.specs.declared.checking.Check.TheVariants.{Held, Failed, Unknown}
use Rattle.store_parts.specs.declared.findings.Findings.{Findings}
use Rattle.store_parts.specs.declared.part.Part.{Part}
use Rattle.store_salvage.specs.Gathering.{Gathers}
use Rattle.store_salvage.specs.declared.making.Made.{Made}
use Rattle.store_salvage.specs.declared.taking.Source.{Source}

-- the format of the frames, and the profile of their schemas
abbrev pub frames_of : ℕ → ℕ
frames_of format = if nat_eq format 1 then 1 else if nat_eq format 3 then 3 else 2

abbrev pub profile_of : ℕ → Profile
profile_of format = if nat_eq format 3 then Three else Two

-- the seq of the commit that counts, or if none does, this number
abbrev pub seq_or : ℕ → Option ℕ → ℕ
seq_or none None = none
seq_or none (Some seq) = seq

-- the place from which on the bytes of a part have a checksum of their own, if those of the half failed theirs
abbrev pub sure_of : Part → Check → ℕ
sure_of part Held = 0
sure_of part Failed = part.len
sure_of part Unknown = 0

-- what is known of the bytes of a part
abbrev pub source_of : Findings → Part → Check → Source
source_of found part check = record { version = frames_of found.format; counted = part.counted; limit = seq_or 0xffff_ffff_ffff_ffff found.seq; sure = sure_of part check }

-- the documents are made of the frames of a part, as the device has it but for sectors that it doesn't read, and of those of pieces; the doubts are those of all its bytes
pub record IsMadeOf (image : Image) (found : Findings) (part : Part) (made : Made) : Type 0 where
  pub bytes : List ℕ
  pub has : HasBytes image part made.unread.items bytes
  pub checked : HasCheck part bytes made.check
  pub last : ℕ
  pub gathers : Gathers (source_of found part made.check) bytes found.parts.items (empty_in (profile_of found.format) 0xffff_ffff_ffff_ffff) made.doubts.items last made.machine
  pub seq_is : made.seq ≡ max last (seq_or 0 found.seq)

-- that part is the first one, if a commit counts
abbrev pub IsOfCommit : Option ℕ → Made → Type 0
IsOfCommit None made = Unit {0}
IsOfCommit (Some seq) made = made.part ≡ 0

-- they are made of one of the parts
pub record IsMade (image : Image) (found : Findings) (made : Made) : Type 0 where
  pub part : Part
  pub is : slice_get found.parts.items made.part ≡ Some part
  pub of_commit : IsOfCommit found.seq made
  pub made_of : IsMadeOf image found part made
