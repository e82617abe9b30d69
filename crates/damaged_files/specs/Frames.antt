-- The lines of the frames of a device.
use Rattle.std.specs.Prelude.{◌≡◌, ◌≤◌, ◌+◌, ◌-◌, ◌*◌, ℕ, List, [], ◌∷◌, ◌++◌, ◌&&◌, not, Option, Some, None, codes, length, min, nat_eq, nat_lt, if◌then◌else◌}
use Rattle.std.specs.Io.KnownBytes.{Appends}
use Rattle.sector_device.specs.Disk.{Image}
use Rattle.record_text.specs.Frame.{body_of}
use Rattle.log_frames.specs.Kinds.{logged}
use Rattle.log_frames.specs.declared.kind.Kind.{Kind}
use Rattle.frame_search.specs.Places.{IsFirstFrom, StandsAt}
use Rattle.store_parts.specs.Parts.{HasBytes, HasCheck}
use Rattle.store_parts.specs.declared.checking.Check.{Check}
use Rattle.store_parts.specs.declared.checking.Check.TheVariants.{Held}
use Rattle.store_parts.specs.declared.findings.Findings.{Findings}
use Rattle.store_parts.specs.declared.part.Part.{Part}
use Rattle.store_salvage.specs.Gathering.{Placed}
use Rattle.damaged_files.specs.Heads.{text_of_head}
use Rattle.damaged_files.specs.Places.{place_of}
use Rattle.damaged_files.specs.declared.head.Head.{Head}

-- ---- one line

-- what is known of the checksum of the frame at that place of a part: each sector of a slot has its own
abbrev pub check_at : Part → Check → ℕ → Check
check_at part check at = if nat_lt at part.len then check else Held

-- the head of the line of the frame at that place of a part, of this kind and with this seq
abbrev pub head_at : Part → Check → ℕ → Kind → ℕ → Head
head_at part check at kind seq =
    let place = place_of part at in
    record { front = record { byte = place.byte; check = check_at part check at; counted = part.counted }; back = record { half = part.half; spot = record { sector = place.sector; seq = seq } }; kind = kind }

-- its text
abbrev pub frame_head : Part → Check → ℕ → Kind → ℕ → List ℕ
frame_head part check at kind seq = text_of_head (head_at part check at kind seq)

-- and the whole line, with its body, the text of a command, or of the creation that spells a mark
abbrev pub frame_text : Part → Check → ℕ → Kind → ℕ → List ℕ → List ℕ
frame_text part check at kind seq body = frame_head part check at kind seq ++ body ++ codes "}\n"

-- ---- the lines of a part

-- all frames in the bytes from a place on, one after another
abbrev pub AreFramesFrom : ℕ → List ℕ → ℕ → List Placed → Type 0
AreFramesFrom version bytes from [] = IsFirstFrom version bytes from (length bytes)
AreFramesFrom version bytes from (p ∷ ps) =
    (from ≤ p.at) × StandsAt version bytes p.at (logged p.kind p.entry) p.len × IsFirstFrom version bytes from p.at × AreFramesFrom version bytes (p.at + p.len) ps

-- their lines
abbrev pub lines_of_frames : Part → Check → List Placed → List ℕ
lines_of_frames part check [] = []
lines_of_frames part check (p ∷ ps) = frame_text part check p.at p.kind p.entry.seq (body_of p.entry.change) ++ lines_of_frames part check ps

pub record IsFramesText (version : ℕ) (part : Part) (bytes : List ℕ) (check : Check) (from : ℕ) (text : List ℕ) : Type 0 where
  pub frames : List Placed
  pub all : AreFramesFrom version bytes from frames
  pub text_is : text ≡ lines_of_frames part check frames

-- ---- those of all parts

-- the format of the frames
abbrev pub version_of : Findings → ℕ
version_of found = if nat_eq found.format 1 then 1 else if nat_eq found.format 3 then 3 else 2

-- the place in the bytes of a part from which frames are looked for: if the first part is counted and this is the rest of its half, the bytes of the first
-- that are in its sectors come before
abbrev pub begin_after : Part → Part → ℕ → ℕ
begin_after first part len =
    if first.counted && not part.counted && nat_eq part.half first.half then min (first.len - min (512 * (part.first - first.first)) 0xffff_ffff_ffff_ffff) len else 0

abbrev pub begin_among : List Part → Part → ℕ → ℕ
begin_among [] part len = 0
begin_among (first ∷ parts) part len = begin_after first part len

abbrev pub begin_of : Findings → Part → ℕ → ℕ
begin_of found part len = begin_among found.parts.items part len

-- the text has the frames of a part as the device has it, but for sectors that it doesn't read
pub record IsPartText (image : Image) (found : Findings) (part : Part) (text : List ℕ) : Type 0 where
  pub unread : List ℕ
  pub bytes : List ℕ
  pub has : HasBytes image part unread bytes
  pub check : Check
  pub checked : HasCheck part bytes check
  pub frames : IsFramesText (version_of found) part bytes check (begin_of found part (length bytes)) text

-- and of some parts, one after another
abbrev pub IsPartsText : Image → Findings → List Part → List ℕ → Type 0
IsPartsText image found [] text = text ≡ []
IsPartsText image found (p ∷ ps) text = (first : List ℕ) × (rest : List ℕ) × IsPartText image found p first × IsPartsText image found ps rest × (text ≡ first ++ rest)

-- the lines of the frames of all parts that were found were shown, or nothing if nothing can be a store
abbrev pub ShowsParts : Image → Option Findings → Option (List ℕ) → Option (List ℕ) → Type 0
ShowsParts image None before after = after ≡ before
ShowsParts image (Some found) before after = (text : List ℕ) × IsPartsText image found found.parts.items text × Appends before after text
