-- The state that an image of a device holds, in format 1, 2 or 3.
use Rattle.std.specs.Prelude.{◌≡◌, ◌≢◌, ℕ, Bool, List, [], map, true, false}
use Rattle.sector_device.specs.Disk.{Image}
use Rattle.store_journal.specs.Carries.{Carried, Carries}
use Rattle.record_text.specs.Frame.{Entry, AreEntries, AreDated, frames_in}
use Rattle.log_frames.specs.Log.{IsLog, Log, entries_of, log_bytes, notes_of}
use Rattle.doc_machine.specs.Entries.{AreTaken, with_all}
use Rattle.schema_rules.specs.declared.profile.Profile.{Profile}
use Rattle.schema_rules.specs.declared.profile.Profile.TheVariants.{Three, Two}
use Rattle.doc_changes.specs.Marks.{Mark}
use Rattle.doc_changes.specs.State.{Document, State, empty_in}
use Rattle.store_commits.specs.Notes.{AreNoted, noted_entry, with_marks}

-- the profile of schemas in a store: 3 in format 3, in which the last bytes ride in slots
abbrev pub profile_in : Bool → Profile
profile_in true = Three
profile_in false = Two

-- and whether the last bytes ride in slots in a store of the profile
abbrev pub rides_for : Profile → Bool
rides_for Three = true
rides_for Two = false

-- the version of a store's frames: 3 if the last bytes ride in slots, else that of its journal, 1 or 2
abbrev pub version_of_frames : Bool → ℕ → ℕ
version_of_frames true version = 3
version_of_frames false version = version

-- the bytes are a log of these entries, and of these marks
pub record IsLogOf (entries : List Entry) (notes : List Mark) (bytes : List ℕ) : Type 0 where
  pub log : Log
  pub is_log : IsLog log
  pub entries_are : entries_of log ≡ entries
  pub notes_are : notes_of log ≡ map noted_entry notes
  pub bytes_are : log_bytes log ≡ bytes

-- The bytes are the entries' frames of that version, back to back, and there are no marks; in version 3 they are a log of both.
pub record AreSpelled (version : ℕ) (entries : List Entry) (notes : List Mark) (bytes : List ℕ) : Type 0 where
  pub framed : version ≢ 3 → (frames_in version entries ≡ bytes) × (notes ≡ [])
  pub logged : version ≡ 3 → IsLogOf entries notes bytes

-- The bytes spell entries that, each taken by a journal of that seq, make these documents from none, with schemas of the profile, and marks that make these marks. Format 1 has no seq in a frame: each entry has the journal's.
pub record Holds (profile : Profile) (version seq : ℕ) (bytes : List ℕ) (documents : List Document) (marks : List Mark) : Type 0 where
  pub entries : List Entry
  pub notes : List Mark
  pub framed : AreEntries version entries
  pub dated : version ≡ 1 → AreDated seq entries
  pub spelled : AreSpelled version entries notes bytes
  pub taken : AreTaken (empty_in profile seq) entries
  pub documents_are : (with_all (empty_in profile seq) entries).documents ≡ documents
  pub noted : AreNoted profile seq notes
  pub marks_are : with_marks [] notes ≡ marks

-- the image carries such bytes of the state's documents with their revisions and of its marks, and its seq, in a format of its profile
pub record Stands (state : State) (image : Image) : Type 0 where
  pub carried : Carried
  pub carries : Carries carried image
  pub seq_is : carried.seq ≡ state.seq
  pub profile_is : profile_in carried.rides ≡ state.profile
  pub holds : Holds state.profile (version_of_frames carried.rides carried.version) carried.seq carried.bytes state.documents state.marks

-- it holds no state
abbrev pub StandsForNothing : Image → Type 0
StandsForNothing image = (state : State) → Stands state image → ⊥

-- bytes of a format and a seq hold, in a profile, one list of documents at most, and one of marks
abbrev pub HoldsOne : Type 0
HoldsOne = (profile : Profile) (version seq : ℕ) (bytes : List ℕ) (ds es : List Document) (ms ns : List Mark)
    → Holds profile version seq bytes ds ms → Holds profile version seq bytes es ns → (ds ≡ es) × (ms ≡ ns)

-- an image holds one state at most
abbrev pub StandsForOne : Type 0
StandsForOne = (image : Image) (s t : State) → Stands s image → Stands t image → s ≡ t
