-- Bytes that hold documents with schemas of a profile hold them with schemas of profile 3.
use Rattle.std.proofs.Common.{◌≡◌, ◌∙◌, ℕ, List, [], ◌∷◌, None, refl}
use Rattle.record_text.specs.Change.{Change}
use Rattle.record_text.specs.Frame.{Entry}
use Rattle.schema_rules.specs.declared.profile.Profile.{Profile}
use Rattle.schema_rules.specs.declared.profile.Profile.TheVariants.{Three}
use Rattle.doc_changes.specs.Refusals.{first}
use Rattle.doc_changes.specs.Marks.{Mark}
use Rattle.doc_changes.specs.State.{Document, State, empty_in}
use Rattle.doc_changes.specs.Step.{refusals_in}
use Rattle.doc_machine.specs.Entries.{AreTaken, with_all, with_entry}
use Rattle.store_commits.specs.Images.{Holds}
use Rattle.store_commits.proofs.Notes.{noted_raised}

-- a change that documents accept in a profile they accept in profile 3
abbrev pub ChangesStay : Type 0
ChangesStay = (profile : Profile) (ds : List Document) (c : Change) → first (refusals_in profile ds c) ≡ None → first (refusals_in Three ds c) ≡ None

-- the same state in profile 3
abbrev raised : State → State
raised s = record s { profile = Three }

taken_raised : ChangesStay → (s : State) (es : List Entry) → AreTaken s es → AreTaken (raised s) es
taken_raised stay s [] are = tt
taken_raised stay s (e ∷ es) are = (record { not_ahead = are.0.not_ahead; accepted = stay s.profile s.documents e.change are.0.accepted }, taken_raised stay (with_entry s e) es are.1)

same_made : (s : State) (es : List Entry) → (with_all (raised s) es).documents ≡ (with_all s es).documents
same_made s [] = refl
same_made s (e ∷ es) = same_made (with_entry s e) es

pub holds_raised : ChangesStay → (profile : Profile) (version seq : ℕ) (bytes : List ℕ) (ds : List Document) (ms : List Mark) → Holds profile version seq bytes ds ms → Holds Three version seq bytes ds ms
holds_raised stay profile version seq bytes ds ms holds = record {
  entries = holds.entries;
  notes = holds.notes;
  framed = holds.framed;
  dated = holds.dated;
  spelled = holds.spelled;
  taken = taken_raised stay (empty_in profile seq) holds.entries holds.taken;
  documents_are = same_made (empty_in profile seq) holds.entries ∙ holds.documents_are;
  noted = noted_raised profile seq holds.notes holds.noted;
  marks_are = holds.marks_are;
}
