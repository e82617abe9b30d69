-- The reasons why bytes begin with no frame of format 3.
use Rattle.std.specs.Prelude.{◌≡◌, ℕ, ◌+◌, ◌<◌, ◌≤◌, ◌%◌, ◌/◌, ◌^◌, ◌⊎◌, List, length, take, drop, ⊤}
use Rattle.std.specs.Int.{w32, from_be_bytes}
use Rattle.doc_tree.specs.Doc.{Doc}
use Rattle.record_text.specs.Fault.{IsTextOf, stated_seq}
use Rattle.record_text.specs.Record.{IsNoCommand}
use Rattle.record_text.specs.declared.fault.RecordFault.{RecordFault}
use Rattle.record_text.specs.declared.fault.RecordFault.TheVariants.{Short, Long, Text, Shape, Memory}
use Rattle.log_frames.specs.Kinds.{code_of}
use Rattle.log_frames.specs.declared.kind.Kind.{Kind}

-- the code of a kind that the first byte states, and the length that the 3 bytes after it do
abbrev pub stated_code : List ℕ → ℕ
stated_code bytes = from_be_bytes w32 (take 4 bytes) / 2 ^ 24

abbrev pub stated_length : List ℕ → ℕ
stated_length bytes = from_be_bytes w32 (take 4 bytes) % 2 ^ 24

-- the bytes after a head of 12, as many as it states
abbrev pub stated_bytes : List ℕ → List ℕ
stated_bytes bytes = take (stated_length bytes) (drop 12 bytes)

-- a head of 12 bytes, which states a kind and a length within the limit, and as many bytes as it states
pub record HasBodyAs (bytes : List ℕ) : Type 0 where
  pub headed : 12 ≤ length bytes
  pub known : stated_code bytes ≤ 3
  pub small : stated_length bytes ≤ 4194304
  pub whole : 12 + stated_length bytes ≤ length bytes

-- these are the kind, the seq and the body that such a head states
pub record AreStated (kind : Kind) (seq : ℕ) (body bytes : List ℕ) : Type 0 where
  pub has : HasBodyAs bytes
  pub code : code_of kind ≡ stated_code bytes
  pub seq_is : seq ≡ stated_seq bytes
  pub seq_fits : seq < 2 ^ 64
  pub body_is : body ≡ stated_bytes bytes
  pub len : length body ≡ stated_length bytes

-- why bytes don't have such a head and, after it, the body that it states
abbrev pub IsHeadFaultAs : RecordFault → List ℕ → Type 0
IsHeadFaultAs Short bytes = (length bytes < 12) ⊎ ((stated_code bytes ≤ 3) × (stated_length bytes ≤ 4194304) × (length bytes < 12 + stated_length bytes))
IsHeadFaultAs Long bytes = (12 ≤ length bytes) × ((3 < stated_code bytes) ⊎ (4194304 < stated_length bytes))
IsHeadFaultAs _ bytes = ⊥

-- why a frame isn't read: each fault is judged only if none above it applies, and Short both before and after Long
abbrev pub IsFaultAs : RecordFault → List ℕ → Type 0
IsFaultAs Text bytes = HasBodyAs bytes × ((d : Doc) → IsTextOf (stated_bytes bytes) d → ⊥)
IsFaultAs Shape bytes = HasBodyAs bytes × ((d : Doc) × IsTextOf (stated_bytes bytes) d × IsNoCommand d)
IsFaultAs Memory bytes = ⊤
IsFaultAs fault bytes = IsHeadFaultAs fault bytes
