-- The programs that only read a file.
use Rattle.std.specs.Prelude.{◌≡◌, ◌≢◌, ◌⊎◌, ◌<◌, ◌-◌, ◌^◌, ℕ, List, Bool, true, false, Option, Some, None, Result, Ok, Err, IfOk, IfSome, MatchOption, MatchResult}
use Rattle.std.specs.declared.snapshot.Snapshot.{Snapshot}
use Rattle.std.specs.Io.KnownBytes.{Appends}
use Rattle.sector_device.specs.declared.history.Held.{Held}
use Rattle.sector_device.specs.declared.history.History.{Opened}
use Rattle.sector_device.specs.History.{disk_after}
use Rattle.file_device.specs.declared.file.FileDevice.{FileDevice}
use Rattle.file_device.specs.File.{file_disk}
use Rattle.store_commits.specs.Images.{Stands, StandsForNothing}
use Rattle.store_journal.specs.Layout.{IsSized}
use Rattle.store_journal.specs.Opening.{IsLikeStore}
use Rattle.store_journal.specs.Outdated.{IsOutdated}
use Rattle.sector_device.specs.Disk.{Disk, Image}
use Rattle.store_parts.specs.Copies.{AreToldOn}
use Rattle.store_parts.specs.declared.findings.Findings.{Findings}
use Rattle.doc_changes.specs.State.{Good, State}
use Rattle.doc_store.specs.Opening.{LacksRoom}
use Rattle.doc_store.specs.Strict.{IsCutOff, IsSaidOf, IsTaken}
use Rattle.doc_store.specs.declared.opening.Strictness.{Strictness}
use Rattle.doc_store.specs.declared.opening.Strictness.TheVariants.{AnyState, RefusesCutOff}
use Rattle.damaged_files.specs.Damages.{IsExaminedOn, condition_of, damages_of, report_on}
use Rattle.damaged_files.specs.Dump.{dump_of}
use Rattle.damaged_files.specs.Frames.{ShowsParts}
use Rattle.damaged_files.specs.Salvaged.{IsSalvagedOf, salvaged_condition}
use Rattle.damaged_files.specs.Shown.{Shows}
use Rattle.damaged_files.specs.declared.report.Told.{Told}
use Rattle.damaged_files.specs.declared.salvaged.Salvaged.{Salvaged}
use Rattle.damaged_files.specs.declared.showing.Condition.{Condition}
use Rattle.damaged_files.specs.declared.showing.Condition.TheVariants.{Whole, Damaged}
use Rattle.damaged_files.specs.declared.showing.ShowFault.{ShowFault}
use Rattle.damaged_files.specs.declared.showing.ShowFault.TheVariants.{Writer}
use Rattle.refusals.specs.declared.numbers.TheConstants.{CUT_OFF, DAMAGED, DEVICE, NO_ROOM, NOT_A_STORE}
use Rattle.file_programs.specs.Faults.{told_of_show}
use Rattle.file_programs.specs.Files.{IsNotTaken, fault_of}
use Rattle.file_programs.specs.declared.fault.Fault.{Fault}
use Rattle.file_programs.specs.declared.fault.Fault.TheVariants.{Damage}
use Rattle.file_programs.specs.declared.opening.Unopened.{Unopened}
use Rattle.file_programs.specs.declared.opening.Unopened.TheVariants.{NoFile, NoStore}
use Rattle.file_programs.specs.declared.programs.deep.Examined.{Examined}
use Rattle.file_programs.specs.declared.programs.dump.Dumped.{Dumped}
use Rattle.file_programs.specs.declared.programs.salvage.Left.{Left}
use Rattle.file_programs.specs.declared.programs.salvage.Left.TheVariants.{Documents, Frames}
use Rattle.file_programs.specs.declared.programs.salvage.SalvagedFile.{SalvagedFile}

-- ---- how they end

abbrev pub end_of_condition : Condition → Result (Unit {0}) Fault
end_of_condition Whole = Ok tt
end_of_condition Damaged = Err Damage

-- the damages were reported
abbrev pub end_of_told : Result Told ShowFault → Result (Unit {0}) Fault
end_of_told (Ok told) = end_of_condition told.condition
end_of_told (Err fault) = Err (told_of_show fault)

-- documents were salvaged, or none of a file that can be no store
abbrev pub end_of_salvaged : Result (Option Salvaged) ShowFault → Result (Unit {0}) Fault
end_of_salvaged (Ok (Some salvaged)) = end_of_condition salvaged.condition
end_of_salvaged (Ok None) = Err (fault_of NOT_A_STORE)
end_of_salvaged (Err fault) = Err (told_of_show fault)

-- frames were shown, or none of such a file
abbrev pub end_of_framed : Result (Option Findings) ShowFault → Result (Unit {0}) Fault
end_of_framed (Ok (Some found)) = Ok tt
end_of_framed (Ok None) = Err (fault_of NOT_A_STORE)
end_of_framed (Err fault) = Err (told_of_show fault)

-- that, or else that
abbrev pub end_of_left : Left → Result (Unit {0}) Fault
end_of_left (Documents shown) = end_of_salvaged shown
end_of_left (Frames shown) = end_of_framed shown

-- documents were shown
abbrev pub end_of_shown : Result (Unit {0}) ShowFault → Result (Unit {0}) Fault
end_of_shown (Ok done) = Ok tt
end_of_shown (Err fault) = Err (told_of_show fault)

-- ---- what they do

-- if all reads of the device gave what the file held, that is this state
abbrev pub IsReadIn : Snapshot Held → FileDevice → State → Type 0
IsReadIn held device state = (file_disk device).honest → Stands state held.value.seen.items

-- a call of a device failed after these failures, or their count was at its end
abbrev pub HasFailed : ℕ → FileDevice → Type 0
HasFailed failures device = (failures < (file_disk device).failures) ⊎ (failures ≡ 2 ^ 64 - 1)

-- If all reads gave what the file held, why an opening of that on a device of this many sectors is refused by that number; or a call failed.
abbrev pub IsRefusedFor : Type 0 → Type 0 → Image → ℕ → ℕ → Type 0
IsRefusedFor honest failed image sectors number =
    ((number ≡ NOT_A_STORE) × (honest → (IsSized false sectors → ⊥) ⊎ (IsLikeStore image → ⊥))) ⊎ ((number ≡ DAMAGED) × (honest → (IsLikeStore image × StandsForNothing image) ⊎ IsOutdated image))
    ⊎ ((number ≡ NO_ROOM) × (honest → LacksRoom image)) ⊎ ((number ≡ DEVICE) × failed)

-- what an opening would find there, or why it would be refused, of a device on which that many calls had failed before
abbrev pub IsFoundIn : Snapshot Held → ℕ → FileDevice → Result State ℕ → Type 0
IsFoundIn held failures device found =
    MatchResult found (λ state. IsReadIn held device state × Good state) (λ number. IsRefusedFor ((file_disk device).honest) (HasFailed failures device) held.value.seen.items (file_disk device).sectors number)

-- Why no documents are looked for on a device: as no store is opened there; or a commit was cut off in it, and that is refused.
abbrev pub IsNotLooked : Strictness → Disk → Disk → ℕ → Type 0
IsNotLooked AnyState old new number = IsNotTaken AnyState old new number
IsNotLooked RefusesCutOff old new number = IsNotTaken AnyState old new number ⊎ ((number ≡ CUT_OFF) × (new.honest → IsCutOff old.seen))

-- No documents were found on a device of this many sectors and failures that held this.
abbrev pub IsUnlookedOn : Strictness → Snapshot Held → ℕ → ℕ → Unopened → Type 0
IsUnlookedOn strictness held sectors failures (NoFile fault) = Unit {0}
IsUnlookedOn strictness held sectors failures (NoStore fault) = IsNotLooked strictness (disk_after sectors (Opened held) failures) (file_disk fault.device) fault.number

-- No documents were found in a file that held this: it wasn't opened, or the store in it is refused.
abbrev pub IsUnlookedIn : Strictness → Snapshot Held → Unopened → Type 0
IsUnlookedIn strictness held (NoFile fault) = Unit {0}
IsUnlookedIn strictness held (NoStore fault) = (sectors : ℕ) × IsUnlookedOn strictness held sectors 0 (NoStore fault)

-- the documents in a file that held this were found, in no older store than its slots hold, and their lines shown; and what its slots say is taken
pub record IsDumpedIn (strictness : Strictness) (held : Snapshot Held) (dumped : Dumped) (before after : Option (List ℕ)) : Type 0 where
  pub found : IsReadIn held dumped.looked.device dumped.looked.machine
  pub newest : (file_disk dumped.looked.device).honest → IsOutdated held.value.seen.items → ⊥
  pub said : (file_disk dumped.looked.device).honest → IsSaidOf held.value.seen.items dumped.looked.notice
  pub taken : IsTaken strictness dumped.looked.notice
  pub good : Good dumped.looked.machine
  pub shown : Shows dumped.shown (dump_of dumped.looked.machine.documents dumped.looked.machine.seq) before after

-- the number by which an opening would be refused
abbrev pub refused_by : Result State ℕ → Option ℕ
refused_by (Ok state) = None
refused_by (Err number) = Some number

-- all of a file that held this was read, and its damages reported
pub record IsExaminedIn (held : Snapshot Held) (examined : Examined) (before after : Option (List ℕ)) : Type 0 where
  pub found : IsFoundIn held 0 examined.device examined.found
  pub copies : (file_disk examined.device).honest → IfOk examined.told (λ told. IfSome told.examined.found (AreToldOn held.value.seen.items))
  pub told : MatchResult examined.told (λ told. IsExaminedOn (file_disk examined.device).sectors told.examined
      × (told.condition ≡ condition_of (damages_of (refused_by examined.found) told.examined))
      × Appends before after (report_on (refused_by examined.found) told.examined))
      (λ fault. fault ≢ Writer → after ≡ before)

-- documents were salvaged, and their lines shown: if all reads gave what the device held, they are made of frames that it held
pub record IsShownOf (honest : Type 0) (image : Image) (ended : Result (Option Salvaged) ShowFault) (before after : Option (List ℕ)) : Type 0 where
  pub good : IfOk ended (λ salvaged. IfSome salvaged (λ s. Good s.made.machine))
  pub made : honest → IfOk ended (λ salvaged. IfSome salvaged (IsSalvagedOf image))
  pub condition : IfOk ended (λ salvaged. IfSome salvaged (λ s. s.condition ≡ salvaged_condition s.found s.made))
  pub shown : MatchResult ended (λ salvaged. MatchOption salvaged (after ≡ before) (λ s. Appends before after (dump_of s.made.machine.documents s.made.seq))) (λ fault. fault ≢ Writer → after ≡ before)

-- what was shown of a device of a file that held this: the documents, or the frames if these were asked for. If all reads gave what it held, the frames are those of its bytes.
abbrev pub IsLeftIn : Snapshot Held → Bool → FileDevice → Left → Option (List ℕ) → Option (List ℕ) → Type 0
IsLeftIn held frames device (Documents shown) before after = (frames ≡ false) × IsShownOf ((file_disk device).honest) held.value.seen.items shown before after
IsLeftIn held frames device (Frames shown) before after = (frames ≡ true) × ((file_disk device).honest → IfOk shown (λ found. ShowsParts held.value.seen.items found before after))

abbrev pub IsSalvagedIn : Snapshot Held → Bool → SalvagedFile → Option (List ℕ) → Option (List ℕ) → Type 0
IsSalvagedIn held frames salvaged before after = IsLeftIn held frames salvaged.device salvaged.left before after
