-- Frames: a change as bytes that begin with their own length.
use Rattle.std.specs.Prelude.{◌≡◌, ℕ, ◌<◌, ◌≤◌, ◌^◌, List, [], ◌∷◌, ◌++◌, length, take, nat_eq, if◌then◌else◌, ⊤}
use Rattle.std.specs.Int.{w32, w64, to_be_bytes}
use Rattle.doc_tree.specs.Sound.{IsSound}
use Rattle.doc_tree.specs.Text.{text_of}
use Rattle.record_text.specs.Change.{Change, object_of, trees_height, AsksNone}

-- a change as a journal keeps it: with the seq at which it was accepted, or in a snapshot with the revision that it makes
pub record Entry : Type 0 where
  pub seq : ℕ
  pub change : Change

abbrev pub entry : ℕ → Change → Entry
entry seq change = record { seq = seq; change = change }

-- the compact text of the change's object
abbrev pub body_of : Change → List ℕ
body_of c = text_of (object_of c)

-- format 1: the body's length in 4 bytes, the highest first, and the body
abbrev pub frame_1_of : Change → List ℕ
frame_1_of c = to_be_bytes w32 (length (body_of c)) ++ body_of c

-- format 2: between them the seq in 8 bytes, the highest first
abbrev pub frame_of : Entry → List ℕ
frame_of e = to_be_bytes w32 (length (body_of e.change)) ++ to_be_bytes w64 e.seq ++ body_of e.change

-- a frame of either format
abbrev pub frame_in : ℕ → Entry → List ℕ
frame_in version e = if nat_eq version 1 then frame_1_of e.change else frame_of e

-- the frames of entries, back to back
abbrev pub frames_in : ℕ → List Entry → List ℕ
frames_in version [] = []
frames_in version (e ∷ es) = frame_in version e ++ frames_in version es

-- a change whose body can be read: its object is sound, its trees are at most 126 high, and the body is within the limit
pub record IsFramed (c : Change) : Type 0 where
  pub sound : IsSound (object_of c)
  pub low : trees_height c ≤ 126
  pub small : length (body_of c) ≤ 4194304

-- an entry whose frame of that format can be read: format 1 has none for a change that asks for a revision
pub record IsEntry (version : ℕ) (e : Entry) : Type 0 where
  pub framed : IsFramed e.change
  pub seq_fits : e.seq < 2 ^ 64
  pub asks_none : version ≡ 1 → AsksNone e.change

-- each of them is
abbrev pub AreEntries : ℕ → List Entry → Type 0
AreEntries version [] = ⊤
AreEntries version (e ∷ es) = IsEntry version e × AreEntries version es

-- each of them has that seq
abbrev pub AreDated : ℕ → List Entry → Type 0
AreDated seq [] = ⊤
AreDated seq (e ∷ es) = (e.seq ≡ seq) × AreDated seq es

-- the first n of the bytes are the entry's frame, and it can be read
pub record BeginsWith (bytes : List ℕ) (e : Entry) (n : ℕ) : Type 0 where
  pub framed : IsFramed e.change
  pub seq_fits : e.seq < 2 ^ 64
  pub frame : take n bytes ≡ frame_of e
  pub len : n ≡ length (frame_of e)

-- they are the change's frame of format 1, and it can be read
pub record BeginsWith_1 (bytes : List ℕ) (c : Change) (n : ℕ) : Type 0 where
  pub framed : IsFramed c
  pub asks_none : AsksNone c
  pub frame : take n bytes ≡ frame_1_of c
  pub len : n ≡ length (frame_1_of c)
