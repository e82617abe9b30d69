-- Documents made from frames among damaged bytes.
use Rattle.std.specs.Prelude.{◌≡◌, ◌≤◌, ◌<◌, ◌+◌, ◌-◌, ◌⊎◌, ℕ, List, [], ◌∷◌, ◌++◌, Bool, true, false, Option, Some, None, length, max, nat_lt, slice_get, if◌then◌else◌}
use Rattle.refusals.specs.declared.numbers.TheConstants.{DAMAGED}
use Rattle.record_text.specs.Frame.{Entry}
use Rattle.log_frames.specs.Kinds.{is_noted, logged}
use Rattle.log_frames.specs.declared.kind.Kind.{Kind}
use Rattle.frame_search.specs.Places.{IsFirstFrom, StandsAt, logged_in}
use Rattle.frame_search.specs.declared.search.Found.{Found}
use Rattle.doc_machine.specs.Entries.{Takes, with_entry}
use Rattle.doc_changes.specs.Judged.{RefusesIn}
use Rattle.doc_changes.specs.State.{State}
use Rattle.doc_changes.specs.declared.refusal.Refusal.{Refusal}
use Rattle.store_parts.specs.declared.part.Part.{Part}
use Rattle.store_salvage.specs.declared.taking.Doubt.{Doubt}
use Rattle.store_salvage.specs.declared.taking.Doubt.TheVariants.{Lost, Refused}
use Rattle.store_salvage.specs.declared.taking.Source.{Source}

-- an entry whose frame was found: the place and the length of the frame, and its kind
pub record Placed : Type 0 where
  pub at : ℕ
  pub len : ℕ
  pub kind : Kind
  pub entry : Entry

abbrev pub placed_of : Found → Placed
placed_of found = record { at = found.at; len = found.len; kind = found.kind; entry = (logged_in found).entry }

-- a frame that was come upon: one of the bytes, which was taken or refused by a number, or a spare one that was taken
pub record Step : Type 0 where
  pub placed : Placed
  pub refusal : Option ℕ

-- ---- one frame

-- the old state took the entry, and the new one has it
abbrev pub IsTakenWith : State → Entry → State → Type 0
IsTakenWith old e new = Takes old e × (new ≡ with_entry old e)

-- in the tail of one of the parts is the frame of a change
pub record IsSpare (parts : List Part) (p : Placed) : Type 0 where
  pub place : ℕ
  pub part : Part
  pub is : slice_get parts place ≡ Some part
  pub stands : StandsAt 3 part.tail.items p.at (logged p.kind p.entry) p.len
  pub change : is_noted p.kind ≡ false

-- Why the state doesn't take a change: its documents refuse it, or it is newer than the number that they know.
abbrev pub Declines : State → Entry → ℕ → Type 0
Declines s e number = ((r : Refusal) × RefusesIn s.profile s.documents e.change r × (r.number ≡ number)) ⊎ ((number ≡ DAMAGED) × (s.seq < e.seq))

-- it took the change, or declined it
abbrev pub IsAnswered : State → Entry → Option ℕ → State → Type 0
IsAnswered old e None new = IsTakenWith old e new
IsAnswered old e (Some number) new = Declines old e number × (new ≡ old)

-- It isn't asked to take it: of bytes that a commit counts, and that didn't fail their checksum, only because it is newer than the commit.
abbrev pub IsUnasked : Source → Entry → ℕ → Type 0
IsUnasked source e number = (number ≡ DAMAGED) × (source.counted ≡ true → source.sure ≡ 0 → source.limit < e.seq)

-- what becomes of the frame of a mark, which is passed over, or of that of a change
abbrev pub GoesOn : Bool → Source → State → Placed → Option ℕ → State → Type 0
GoesOn true source old p refusal new = (refusal ≡ None) × (new ≡ old)
GoesOn false source old p refusal new = IsAnswered old p.entry refusal new ⊎ ((number : ℕ) × (refusal ≡ Some number) × IsUnasked source p.entry number × (new ≡ old))

abbrev pub Goes : Source → State → Placed → Option ℕ → State → Type 0
Goes source old p refusal new = GoesOn (is_noted p.kind) source old p refusal new

-- the highest seq of those that were taken
abbrev pub last_on : Bool → ℕ → ℕ → Option ℕ → ℕ
last_on true last seq refusal = last
last_on false last seq None = max last seq
last_on false last seq (Some number) = last

abbrev pub last_with : ℕ → Placed → Option ℕ → ℕ
last_with last p refusal = last_on (is_noted p.kind) last p.entry.seq refusal

-- ---- what is in no document

-- the bytes between two places
abbrev pub lost_of : ℕ → ℕ → List Doubt
lost_of from end = if nat_lt from end then Lost from (end - from) ∷ [] else []

abbrev pub doubts_of : Placed → Option ℕ → List Doubt
doubts_of p None = []
doubts_of p (Some number) = Refused p.at p.len p.entry.seq number ∷ []

-- ---- frames one after another

-- spare ones, each taken after those before it
abbrev pub AddsAll : List Part → ℕ → State → List Placed → ℕ → State → Type 0
AddsAll parts last s [] last' new = (last' ≡ last) × (new ≡ s)
AddsAll parts last s (p ∷ ps) last' new = IsSpare parts p × Takes s p.entry × AddsAll parts (max last p.entry.seq) (with_entry s p.entry) ps last' new

-- From a place of the bytes on, with these documents, the frames of the bytes one after another were come upon, all of them, and spare ones between them; these are the doubts and the documents
-- at the end, and the highest seq.
abbrev pub GathersFrom : Source → List ℕ → List Part → ℕ → ℕ → State → List Step → List Doubt → ℕ → State → Type 0
GathersFrom source bytes parts from last s [] doubts last' new =
    IsFirstFrom source.version bytes from (length bytes) × (doubts ≡ lost_of from (length bytes)) × (last' ≡ last) × (new ≡ s)
GathersFrom source bytes parts from last s (step ∷ steps) doubts last' new =
    let p = step.placed in
    (IsSpare parts p × Takes s p.entry × GathersFrom source bytes parts from (max last p.entry.seq) (with_entry s p.entry) steps doubts last' new)
    ⊎ ((from ≤ p.at) × StandsAt source.version bytes p.at (logged p.kind p.entry) p.len × IsFirstFrom source.version bytes from p.at
    × ((mid : State) × (rest : List Doubt) × Goes source s p step.refusal mid × (doubts ≡ lost_of from p.at ++ (doubts_of p step.refusal ++ rest))
    × GathersFrom source bytes parts (p.at + p.len) (last_with last p step.refusal) mid steps rest last' new))

-- the same from their beginning on
pub record Gathers (source : Source) (bytes : List ℕ) (parts : List Part) (old : State) (doubts : List Doubt) (last : ℕ) (new : State) : Type 0 where
  pub steps : List Step
  pub all : GathersFrom source bytes parts 0 0 old steps doubts last new
