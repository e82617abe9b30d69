-- Entries read again from the front of some bytes, and those of a log.
use Rattle.std.specs.Prelude.{◌≡◌, ℕ, ◌≤◌, false, List, [], ◌∷◌, ◌++◌, length, take, None, Some, Ok, if◌then◌else◌, nat_eq}
use Rattle.std.specs.List.{AllByRecursion}
use Rattle.doc_patch.specs.Meaning.{operations}
use Rattle.doc_patch.specs.Reading.{operations_of}
use Rattle.doc_patch.specs.declared.patch.Patch.{Patch}
use Rattle.doc_tree.specs.Doc.{Doc}
use Rattle.doc_tree.specs.Sound.{IsSound}
use Rattle.record_text.specs.Change.{patch}
use Rattle.record_text.specs.Frame.{BeginsWith, Entry, IsEntry, AreEntries, AreDated, entry, frame_in, frames_in}
use Rattle.record_text.specs.declared.lent.PatchFrame.{PatchFrame}
use Rattle.record_text.specs.declared.fault.RecordFault.{RecordFault}
use Rattle.record_text.specs.declared.fault.RecordFault.TheVariants.{Memory as NoMemory}
use Rattle.log_frames.specs.Kinds.{BeginsAs, Logged, frames_as, is_noted, logged}
use Rattle.log_frames.specs.Places.{Complete, Lead, place_after}
use Rattle.log_frames.specs.declared.kind.Kind.{Kind}
use Rattle.log_frames.specs.declared.kind.Kind.TheVariants.{Kept, Last, More, Noted}
use Rattle.log_frames.specs.declared.place.Place.{Place}
use Rattle.log_frames.specs.declared.place.Place.TheVariants.{Snapshot}
use Rattle.refusals.specs.declared.numbers.TheConstants.{DAMAGED, MEMORY}
use Rattle.doc_machine.specs.Entries.{AreTaken, Takes, with_all, with_entry}
use Rattle.schema_rules.specs.declared.profile.Profile.{Profile}
use Rattle.doc_changes.specs.Marks.{Mark}
use Rattle.doc_changes.specs.State.{Document, State, empty_in, noted}
use Rattle.doc_changes.specs.declared.refusal.Refusal.{Refusal}
use Rattle.store_commits.specs.Images.{Holds}
use Rattle.store_commits.specs.Notes.{TakesNote, noted_entry}
use Rattle.store_commits.specs.declared.replaying.ReplayFault.{ReplayFault}
use Rattle.store_commits.specs.declared.replaying.ReplayFault.TheVariants.{Memory, Damaged}

-- the version of frames is 1, 2 or 3
pub record IsVersion (version : ℕ) : Type 0 where
  pub at_least : 1 ≤ version
  pub at_most : version ≤ 3

-- the bytes hold no documents and marks, whatever these are
abbrev pub HoldsNothing : Profile → ℕ → ℕ → List ℕ → Type 0
HoldsNothing profile version seq bytes = (documents : List Document) (marks : List Mark) → Holds profile version seq bytes documents marks → ⊥

-- the first n of the bytes are the entry's frame of that format, which can be read; in format 1 the entry has the journal's seq
pub record BeginsIn (version seq : ℕ) (bytes : List ℕ) (e : Entry) (n : ℕ) : Type 0 where
  pub framed : IsEntry version e
  pub dated : version ≡ 1 → e.seq ≡ seq
  pub frame : take n bytes ≡ frame_in version e
  pub len : n ≡ length (frame_in version e)

-- each frame of that format that the bytes may begin with is this entry's, and of this length
abbrev pub ReadsAs : ℕ → ℕ → List ℕ → Entry → ℕ → Type 0
ReadsAs version seq bytes e n = (f : Entry) (m : ℕ) → BeginsIn version seq bytes f m → (e ≡ f) × (n ≡ m)

-- The bytes begin with one frame alone. The old state takes its entry, and the new one has it.
pub record TakesFirst (version seq : ℕ) (bytes : List ℕ) (old new : State) (n : ℕ) : Type 0 where
  pub first : Entry
  pub begins : BeginsIn version seq bytes first n
  pub only : ReadsAs version seq bytes first n
  pub takes : Takes old first
  pub new_is : new ≡ with_entry old first

-- whatever frame the bytes begin with, the state doesn't take its entry
abbrev pub TakesNone : ℕ → ℕ → List ℕ → State → Type 0
TakesNone version seq bytes state = (f : Entry) (m : ℕ) → BeginsIn version seq bytes f m → Takes state f → ⊥

-- the bytes begin with the frame of a patch that asks for no revision, and these are its operations
pub record IsPatchFrame (bytes : List ℕ) (frame : PatchFrame) (changes : Patch) : Type 0 where
  pub ops : Doc
  pub begins : BeginsWith bytes (entry frame.seq (patch frame.name.now ops None)) frame.len
  pub read : operations_of ops ≡ Ok (operations changes)
  pub sound : IsSound ops

-- entries that the state takes and whose frames are these bytes
pub record Continues (version seq : ℕ) (state : State) (bytes : List ℕ) (entries : List Entry) : Type 0 where
  pub framed : AreEntries version entries
  pub dated : version ≡ 1 → AreDated seq entries
  pub spelled : frames_in version entries ≡ bytes
  pub taken : AreTaken state entries

-- The bytes are the frames of entries that made the state, and the rest; and whatever else they are frames of, the rest is what goes on from the state.
pub record Replayed (profile : Profile) (version seq : ℕ) (bytes rest : List ℕ) (state : State) : Type 0 where
  pub entries : List Entry
  pub framed : AreEntries version entries
  pub dated : version ≡ 1 → AreDated seq entries
  pub spelled : frames_in version entries ++ rest ≡ bytes
  pub taken : AreTaken (empty_in profile seq) entries
  pub state_is : with_all (empty_in profile seq) entries ≡ state
  pub only : (es : List Entry) → Continues version seq (empty_in profile seq) bytes es → (more : List Entry) × Continues version seq state rest more

-- ---- logs

-- each frame of a log that the bytes may begin with is this one, and of this length
abbrev pub ReadsOnly : List ℕ → Logged → ℕ → Type 0
ReadsOnly bytes l n = (m : Logged) (k : ℕ) → BeginsAs bytes m k → (l ≡ m) × (n ≡ k)

-- The state takes what a frame of that kind holds, and the new one has it: a mark, or the change of an entry.
abbrev pub TakesAs : Kind → Entry → State → State → Type 0
TakesAs Last e old new = Takes old e × (new ≡ with_entry old e)
TakesAs More e old new = Takes old e × (new ≡ with_entry old e)
TakesAs Kept e old new = Takes old e × (new ≡ with_entry old e)
TakesAs Noted e old new = (m : Mark) × (noted_entry m ≡ e) × TakesNote old.profile old.seq m × (new ≡ noted m old)

-- whatever the new state is
abbrev pub RefusesAs : Kind → Entry → State → Type 0
RefusesAs kind e old = (new : State) → TakesAs kind e old new → ⊥

-- it takes what these frames hold, one after another, and the last state has all of it
abbrev pub TakesFrames : State → List Logged → State → Type 0
TakesFrames old [] new = old ≡ new
TakesFrames old (l ∷ ls) new = (mid : State) × TakesAs l.kind l.entry old mid × TakesFrames mid ls new

-- The bytes begin with one frame of a log alone. It may come at the old place, which leads to the new one; the old state takes what it holds, and the new one has it.
pub record TakesLogged (bytes : List ℕ) (place : Place) (state : State) (next : Place) (new : State) (n : ℕ) : Type 0 where
  pub first : Logged
  pub begins : BeginsAs bytes first n
  pub only : ReadsOnly bytes first n
  pub comes : place_after place first.kind ≡ Some next
  pub takes : TakesAs first.kind first.entry state new

-- whatever frame of a log the bytes begin with, it may not come there, or the state doesn't take what it holds
abbrev pub TakesNoneLogged : List ℕ → Place → State → Type 0
TakesNoneLogged bytes place state = (l : Logged) (n : ℕ) (next : Place) → BeginsAs bytes l n → place_after place l.kind ≡ Some next → RefusesAs l.kind l.entry state

-- the bytes begin with the frame of a patch that asks for no revision, of that kind, which is not that of a mark, and these are its operations
pub record IsPatchAs (bytes : List ℕ) (kind : Kind) (frame : PatchFrame) (changes : Patch) : Type 0 where
  pub changes_documents : is_noted kind ≡ false
  pub ops : Doc
  pub begins : BeginsAs bytes (logged kind (entry frame.seq (patch frame.name.now ops None))) frame.len
  pub read : operations_of ops ≡ Ok (operations changes)
  pub sound : IsSound ops

-- each of these frames can be read
abbrev pub AreRead : List Logged → Type 0
AreRead ls = AllByRecursion (λ l. IsEntry 2 l.entry) ls

-- these bytes are frames that may be the last ones of a log from that place on, and the state takes what they hold
pub record ContinuesLog (place : Place) (state : State) (bytes : List ℕ) (ls : List Logged) : Type 0 where
  pub framed : AreRead ls
  pub spelled : frames_as ls ≡ bytes
  pub complete : Complete place ls
  pub end : State
  pub taken : TakesFrames state ls end

-- The bytes are frames that lead from a log's beginning to the place, and to the state, and the rest; and whatever else they are frames of a log of, the rest is what goes on from there.
pub record ReplayedLog (profile : Profile) (seq : ℕ) (bytes rest : List ℕ) (place : Place) (state : State) : Type 0 where
  pub logged : List Logged
  pub framed : AreRead logged
  pub spelled : frames_as logged ++ rest ≡ bytes
  pub leads : Lead Snapshot logged place
  pub taken : TakesFrames (empty_in profile seq) logged state
  pub only : (ls : List Logged) → ContinuesLog Snapshot (empty_in profile seq) bytes ls → (more : List Logged) × ContinuesLog place state rest more

-- ---- faults

-- a frame that isn't read, for another reason than memory, is damage
abbrev pub frame_fault : RecordFault → ReplayFault
frame_fault NoMemory = Memory
frame_fault _ = Damaged

-- and so is a change that isn't taken
abbrev pub take_fault : Refusal → ReplayFault
take_fault r = if nat_eq r.number MEMORY then Memory else Damaged

-- the number of a fault
abbrev pub fault_number : ReplayFault → ℕ
fault_number Memory = MEMORY
fault_number Damaged = DAMAGED
