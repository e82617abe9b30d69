-- For the clauses within the crate: the texts that the frames of a transaction spell.
use Rattle.std.specs.Prelude.{◌<◌, ◌^◌, List, [], ◌∷◌, ℕ, Option, None, Some, option_map, if◌then◌else◌, ⊤}
use Rattle.doc_changes.specs.Marks.{Mark}
use Rattle.log_frames.specs.Kinds.{Logged, is_noted, note}
use Rattle.record_text.specs.Change.{Change}
use Rattle.record_text.specs.Frame.{IsFramed, body_of}

-- each of these frames can be read
abbrev pub CanBeRead : List Logged → Type 0
CanBeRead [] = ⊤
CanBeRead (l ∷ ls) = IsFramed l.entry.change × (l.entry.seq < 2 ^ 64) × CanBeRead ls

-- the changes before the first mark
abbrev pub changes_before : List Logged → List Change
changes_before [] = []
changes_before (l ∷ ls) = if is_noted l.kind then [] else l.entry.change ∷ changes_before ls

-- what the frame of the first mark spells, if there is one
abbrev pub note_in : List Logged → Option (List ℕ)
note_in [] = None
note_in (l ∷ ls) = if is_noted l.kind then Some (body_of l.entry.change) else note_in ls

-- what the frame of a mark spells
abbrev pub note_of : Option Mark → Option (List ℕ)
note_of m = option_map (λ mark. body_of (note mark.key mark.value)) m
