-- Frames of format 3: those of format 2, but that the first byte says what the frame holds.
use Rattle.std.specs.Prelude.{◌≡◌, ℕ, ◌+◌, ◌*◌, ◌^◌, ◌<◌, Bool, true, false, List, [], ◌∷◌, ◌++◌, length, take}
use Rattle.std.specs.Int.{w32, w64, to_be_bytes}
use Rattle.doc_tree.specs.Doc.{boolean, text}
use Rattle.record_text.specs.Change.{Change, create}
use Rattle.record_text.specs.Frame.{Entry, IsFramed, body_of}
use Rattle.log_frames.specs.declared.kind.Kind.{Kind}
use Rattle.log_frames.specs.declared.kind.Kind.TheVariants.{Last, More, Kept, Noted}

-- the first byte of a frame of the kind
abbrev pub code_of : Kind → ℕ
code_of Last = 0
code_of More = 1
code_of Kept = 2
code_of Noted = 3

-- whether it is that of a mark, and of no change
abbrev pub is_noted : Kind → Bool
is_noted Last = false
is_noted More = false
is_noted Kept = false
is_noted Noted = true

-- what the frame of a mark spells: the creation of a document with the mark's key as its name and its value as a text
abbrev pub note : List ℕ → List ℕ → Change
note key value = create key (boolean true) (text value)

-- an entry, and what its frame says of it
pub record Logged : Type 0 where
  pub kind : Kind
  pub entry : Entry

abbrev pub logged : Kind → Entry → Logged
logged kind entry = record { kind = kind; entry = entry }

-- the kind's byte and the body's length in 3 bytes, the highest first; the seq in 8 bytes; and the body
abbrev pub frame_as : Logged → List ℕ
frame_as l = to_be_bytes w32 (code_of l.kind * 2 ^ 24 + length (body_of l.entry.change)) ++ to_be_bytes w64 l.entry.seq ++ body_of l.entry.change

-- the frames of these, back to back
abbrev pub frames_as : List Logged → List ℕ
frames_as [] = []
frames_as (l ∷ ls) = frame_as l ++ frames_as ls

-- the first n of the bytes are the frame of this, and it can be read
pub record BeginsAs (bytes : List ℕ) (l : Logged) (n : ℕ) : Type 0 where
  pub framed : IsFramed l.entry.change
  pub seq_fits : l.entry.seq < 2 ^ 64
  pub frame : take n bytes ≡ frame_as l
  pub len : n ≡ length (frame_as l)
