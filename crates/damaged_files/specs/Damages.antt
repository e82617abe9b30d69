-- The damages of a store, and their lines.
use Rattle.std.specs.Prelude.{◌≡◌, ◌<◌, ◌+◌, ◌-◌, ◌*◌, ◌/◌, ℕ, List, [], ◌∷◌, ◌++◌, Bool, true, false, Option, Some, None, IfNone, IfSome, codes, decimal, length, map, min, nat_eq, nat_lt, slice_get, if◌then◌else◌}
use Rattle.std.specs.List.{AllByRecursion}
use Rattle.commit_slots.specs.declared.slot.Slot.{Slot}
use Rattle.doc_changes.specs.State.{Good}
use Rattle.half_journal.specs.Layout.{IsHalfSized}
use Rattle.refusals.specs.Names.{name_of}
use Rattle.store_parts.specs.Parts.{AreParts}
use Rattle.store_parts.specs.declared.checking.Check.{Check}
use Rattle.store_parts.specs.declared.checking.Check.TheVariants.{Held, Failed, Unknown}
use Rattle.store_parts.specs.declared.findings.Findings.{Findings}
use Rattle.store_parts.specs.declared.findings.SlotCopy.{SlotCopy}
use Rattle.store_parts.specs.declared.part.Part.{Part}
use Rattle.store_salvage.specs.declared.making.Made.{Made}
use Rattle.store_salvage.specs.declared.taking.Doubt.{Doubt}
use Rattle.store_salvage.specs.declared.taking.Doubt.TheVariants as doubt
use Rattle.damaged_files.specs.Places.{place_of}
use Rattle.damaged_files.specs.Spots.{text_of_spot}
use Rattle.damaged_files.specs.declared.damage.Span.{Span}
use Rattle.damaged_files.specs.declared.damage.Lost.{Lost as LostRest}
use Rattle.damaged_files.specs.declared.damage.Refused.{Refused as RefusedRest}
use Rattle.damaged_files.specs.declared.damage.Damage.{Damage}
use Rattle.damaged_files.specs.declared.damage.Damage.TheVariants.{Unopened, NoCommit, Missing, Surplus, Slot as BadSlot, OldSlot, Checksum, Lost, Refused, Unread}
use Rattle.damaged_files.specs.declared.examined.Examined.{Examined}
use Rattle.damaged_files.specs.declared.showing.Condition.{Condition}
use Rattle.damaged_files.specs.declared.showing.Condition.TheVariants.{Whole, Damaged}

-- what was found on a device that has this number of sectors
pub record IsExaminedOn (sectors : ℕ) (examined : Examined) : Type 0 where
  pub parts : IfSome examined.found (λ f. AreParts sectors f.parts.items)
  pub size : IfSome examined.found (λ f. f.sectors ≡ sectors)
  pub none : IfNone examined.found (IsHalfSized sectors → ⊥)
  pub good : IfSome examined.made (λ m. Good m.machine)
  pub unread : AllByRecursion (λ at. at < sectors) examined.unread.items

-- ---- which they are

-- the name of a slot, and its first sector
abbrev pub slot_name : ℕ → List ℕ
slot_name place = if nat_eq place 0 then codes "A" else if nat_eq place 1 then codes "A'" else if nat_eq place 2 then codes "B" else codes "B'"

abbrev pub slot_start : ℕ → ℕ
slot_start place = min (place * 32) 0xffff_ffff_ffff_ffff

-- an opening is refused by that number
abbrev pub opening_damages : Option ℕ → List Damage
opening_damages None = []
opening_damages (Some number) = Unopened number ∷ []

-- no commit is valid
abbrev pub seq_damages : Option ℕ → List Damage
seq_damages None = NoCommit ∷ []
seq_damages (Some seq) = []

-- a device of `sectors` sectors is cut or padded: its store has `size`
abbrev pub size_damage : ℕ → ℕ → Option Damage
size_damage sectors size =
    if nat_lt sectors size
    then Some (Missing (record { sector = sectors; sectors = size - sectors }))
    else if nat_lt size sectors then Some (Surplus (record { sector = size; sectors = sectors - size })) else None

abbrev pub listed : Option Damage → List Damage
listed None = []
listed (Some damage) = damage ∷ []

abbrev pub size_damages : ℕ → ℕ → List Damage
size_damages sectors size = listed (size_damage sectors size)

-- the slot at a place holds no valid commit, or is an old one
abbrev pub slot_damage : ℕ → Option Slot → Bool → List Damage
slot_damage place None old = BadSlot place (slot_start place) ∷ []
slot_damage place (Some slot) true = OldSlot place (slot_start place) ∷ []
slot_damage place (Some slot) false = []

-- those of the slots from a place on
abbrev pub slot_damages : ℕ → List SlotCopy → List Damage
slot_damages place [] = []
slot_damages place (c ∷ cs) = slot_damage place c.slot c.old ++ slot_damages (place + 1) cs

-- of the commits
abbrev pub commit_damages : Findings → List Damage
commit_damages found = seq_damages found.seq ++ size_damages found.sectors found.size ++ slot_damages 0 found.copies.items

-- bytes of a part that are in no document
abbrev pub damage_of : Part → Doubt → Damage
damage_of part (doubt.Lost at len) = Lost (place_of part at).byte (record { len = len; sector = (place_of part at).sector })
damage_of part (doubt.Refused at len seq number) = Refused (place_of part at).byte (record { number = number; spot = record { sector = (place_of part at).sector; seq = seq } })

-- the bytes that a commit counts don't have its checksum
abbrev pub checksum_damages : Part → Check → List Damage
checksum_damages part Held = []
checksum_damages part Failed = Checksum part.half (record { sector = part.first; sectors = part.len / 512 }) ∷ []
checksum_damages part Unknown = []

-- that, and those of its bytes that are in no document
abbrev pub counted_damages : Part → Made → List Damage
counted_damages part made = checksum_damages part made.check ++ map (damage_of part) made.doubts.items

-- of the part that was made into documents, if a commit counts it
abbrev pub of_part : Option Part → Made → List Damage
of_part None made = []
of_part (Some part) made = if part.counted then counted_damages part made else []

abbrev pub part_damages : Findings → Made → List Damage
part_damages found made = of_part (slice_get found.parts.items made.part) made

-- of the commits and that part
abbrev pub found_damages : Option Findings → Option Made → List Damage
found_damages None made = []
found_damages (Some found) None = commit_damages found
found_damages (Some found) (Some made) = commit_damages found ++ part_damages found made

-- the sectors that aren't read
abbrev pub unread_damages : List ℕ → List Damage
unread_damages sectors = map Unread sectors

-- all, in the order of their lines
abbrev pub damages_of : Option ℕ → Examined → List Damage
damages_of refused examined = opening_damages refused ++ found_damages examined.found examined.made ++ unread_damages examined.unread.items

-- whole if there is none
abbrev pub condition_of : List Damage → Condition
condition_of [] = Whole
condition_of (d ∷ ds) = Damaged

-- ---- their lines

-- the members of a damage that are texts of their own
abbrev pub text_of_span : Span → List ℕ
text_of_span span = codes "\"sector\":" ++ decimal span.sector ++ codes ",\"sectors\":" ++ decimal span.sectors

abbrev pub text_of_lost : LostRest → List ℕ
text_of_lost lost = codes "\"damage\":\"lost\",\"length\":" ++ decimal lost.len ++ codes ",\"sector\":" ++ decimal lost.sector

abbrev pub text_of_refused : RefusedRest → List ℕ
text_of_refused refused = codes "\"damage\":\"refused\",\"number\":" ++ decimal refused.number ++ codes "," ++ text_of_spot refused.spot

-- the object of a damage, its members by name
abbrev pub text_of_damage : Damage → List ℕ
text_of_damage (Unopened number) = codes "{\"damage\":\"unopened\",\"error\":\"" ++ name_of number ++ codes "\",\"number\":" ++ decimal number ++ codes "}"
text_of_damage NoCommit = codes "{\"damage\":\"no-commit\"}"
text_of_damage (Missing span) = codes "{\"damage\":\"missing\"," ++ text_of_span span ++ codes "}"
text_of_damage (Surplus span) = codes "{\"damage\":\"surplus\"," ++ text_of_span span ++ codes "}"
text_of_damage (OldSlot place sector) = codes "{\"damage\":\"old-slot\",\"sector\":" ++ (decimal sector ++ (codes ",\"sectors\":32,\"slot\":\"" ++ (slot_name place ++ codes "\"}")))
text_of_damage (BadSlot place sector) = codes "{\"damage\":\"slot\",\"sector\":" ++ (decimal sector ++ (codes ",\"sectors\":32,\"slot\":\"" ++ (slot_name place ++ codes "\"}")))
text_of_damage (Checksum half span) = codes "{\"damage\":\"checksum\",\"half\":" ++ decimal half ++ codes "," ++ text_of_span span ++ codes "}"
text_of_damage (Lost byte rest) = codes "{\"byte\":" ++ (decimal byte ++ (codes "," ++ (text_of_lost rest ++ codes "}")))
text_of_damage (Refused byte rest) = codes "{\"byte\":" ++ (decimal byte ++ (codes "," ++ (text_of_refused rest ++ codes "}")))
text_of_damage (Unread sector) = codes "{\"damage\":\"unread\",\"sector\":" ++ decimal sector ++ codes "}"

-- a line each
abbrev pub line_of_damage : Damage → List ℕ
line_of_damage damage = text_of_damage damage ++ 10 ∷ []

abbrev pub lines_of_damages : List Damage → List ℕ
lines_of_damages [] = []
lines_of_damages (d ∷ ds) = line_of_damage d ++ lines_of_damages ds

abbrev pub word_for : Bool → List ℕ
word_for true = codes "true"
word_for false = codes "false"

-- The blocks have checksums: it is format 3. Of what is no store nothing is said.
abbrev pub has_checksums : Option Findings → Bool
has_checksums None = true
has_checksums (Some found) = nat_eq found.format 3

abbrev pub head_for : Bool → List ℕ
head_for true = codes "{"
head_for false = codes "{\"checksums\":false,"

-- that they have none, how many damages there are, and whether all is well
abbrev pub last_line : Bool → ℕ → Bool → List ℕ
last_line checksums count well = head_for checksums ++ codes "\"damages\":" ++ decimal count ++ codes ",\"ok\":" ++ word_for well ++ codes "}\n"

abbrev pub is_none_of : List Damage → Bool
is_none_of [] = true
is_none_of (d ∷ ds) = false

-- all lines
abbrev pub report_of : Bool → List Damage → List ℕ
report_of checksums damages = lines_of_damages damages ++ last_line checksums (length damages) (is_none_of damages)

-- of what was found on a device on which an opening would be refused by that number
abbrev pub report_on : Option ℕ → Examined → List ℕ
report_on refused examined = report_of (has_checksums examined.found) (damages_of refused examined)
