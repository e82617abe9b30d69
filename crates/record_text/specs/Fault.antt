-- The reasons why bytes begin with no frame.
use Rattle.std.specs.Prelude.{◌≡◌, ℕ, ◌+◌, ◌<◌, ◌≤◌, ◌⊎◌, List, length, take, drop, ⊤}
use Rattle.std.specs.Int.{w32, w64, from_be_bytes}
use Rattle.doc_tree.specs.Doc.{Doc, height}
use Rattle.doc_tree.specs.Sound.{IsSound}
use Rattle.doc_tree.specs.Text.{text_of}
use Rattle.record_text.specs.Change.{Change, IsSpelled, AsksNone}
use Rattle.record_text.specs.Frame.{body_of}
use Rattle.record_text.specs.Record.{IsNoCommand, IsNoCommand_1}
use Rattle.record_text.specs.declared.fault.RecordFault.{RecordFault}
use Rattle.record_text.specs.declared.fault.RecordFault.TheVariants.{Short, Long, Text, Shape, Memory}

-- the length that the first 4 bytes state
abbrev pub stated_len : List ℕ → ℕ
stated_len bytes = from_be_bytes w32 (take 4 bytes)

-- the bytes after a head of `head` bytes, as many as it states
abbrev pub stated_body : ℕ → List ℕ → List ℕ
stated_body head bytes = take (stated_len bytes) (drop head bytes)

-- the seq that comes after the length in format 2
abbrev pub stated_seq : List ℕ → ℕ
stated_seq bytes = from_be_bytes w64 (take 8 (drop 4 bytes))

-- a head of `head` bytes, which states a length within the limit, and as many bytes as it states
pub record HasBody (head : ℕ) (bytes : List ℕ) : Type 0 where
  pub headed : head ≤ length bytes
  pub small : stated_len bytes ≤ 4194304
  pub whole : head + stated_len bytes ≤ length bytes

-- the bytes are the compact text of that document, which is sound and at most 127 high
pub record IsTextOf (bytes : List ℕ) (d : Doc) : Type 0 where
  pub sound : IsSound d
  pub low : height d ≤ 127
  pub text : text_of d ≡ bytes

-- why bytes don't have a head of `head` bytes and, after it, the body that it states
abbrev pub IsHeadFault : ℕ → RecordFault → List ℕ → Type 0
IsHeadFault head Short bytes = (length bytes < head) ⊎ ((stated_len bytes ≤ 4194304) × (length bytes < head + stated_len bytes))
IsHeadFault head Long bytes = (head ≤ length bytes) × (4194304 < stated_len bytes)
IsHeadFault head _ bytes = ⊥

-- why a frame with such a head isn't read, if these documents are no command's: each fault is judged only if none above
-- it applies
abbrev pub IsFaultBehind : ℕ → (Doc → Type 0) → RecordFault → List ℕ → Type 0
IsFaultBehind head IsNone Text bytes = HasBody head bytes × ((d : Doc) → IsTextOf (stated_body head bytes) d → ⊥)
IsFaultBehind head IsNone Shape bytes = HasBody head bytes × ((d : Doc) × IsTextOf (stated_body head bytes) d × IsNone d)
IsFaultBehind head IsNone Memory bytes = ⊤
IsFaultBehind head IsNone fault bytes = IsHeadFault head fault bytes

-- why a frame of format 2 isn't read
abbrev pub IsReadFault : RecordFault → List ℕ → Type 0
IsReadFault fault bytes = IsFaultBehind 12 IsNoCommand fault bytes

-- why a frame of format 1 isn't read
abbrev pub IsReadFault_1 : RecordFault → List ℕ → Type 0
IsReadFault_1 fault bytes = IsFaultBehind 4 IsNoCommand_1 fault bytes

-- why bytes are read as no document
abbrev pub IsTextFault : RecordFault → List ℕ → Type 0
IsTextFault Text bytes = (d : Doc) → IsTextOf bytes d → ⊥
IsTextFault Memory bytes = ⊤
IsTextFault _ bytes = ⊥

-- why bytes are no change's body
abbrev pub IsBodyFault : RecordFault → List ℕ → Type 0
IsBodyFault Text body = (d : Doc) → IsTextOf body d → ⊥
IsBodyFault Shape body = (d : Doc) × IsTextOf body d × IsNoCommand d
IsBodyFault Memory body = ⊤
IsBodyFault _ body = ⊥

-- the body isn't written: it is too long, or memory was refused
abbrev pub IsLong : RecordFault → List ℕ → Type 0
IsLong Long body = 4194304 < length body
IsLong Memory body = ⊤
IsLong _ body = ⊥

-- why a frame isn't written: each fault is judged only if none above it applies
abbrev pub IsWriteFault : RecordFault → Change → Type 0
IsWriteFault Shape c = IsSpelled c → ⊥
IsWriteFault Long c = IsSpelled c × (4194304 < length (body_of c))
IsWriteFault Memory c = ⊤
IsWriteFault _ c = ⊥

-- why a frame of format 1 isn't written
abbrev pub IsWriteFault_1 : RecordFault → Change → Type 0
IsWriteFault_1 Shape c = AsksNone c → ⊥
IsWriteFault_1 Long c = AsksNone c × (4194304 < length (body_of c))
IsWriteFault_1 Memory c = ⊤
IsWriteFault_1 _ c = ⊥
