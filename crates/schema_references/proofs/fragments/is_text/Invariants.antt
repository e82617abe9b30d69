use Rattle.std.proofs.Common.{◌≡◌, ◌≤◌, length, take}
use Rattle.percent_encoding.specs.Iter.{decoded_bytes}
use Rattle.schema_references.proofs.Characters.{Pending}
use Rattle.schema_references.proofs.fragments.is_text.Given as goal

abbrev pub invariant-loop-byte : goal.invariant-loop-byte
invariant-loop-byte l = (length l.begun ≡ 4) × (l.len ≤ 4) × Pending (take l.len l.begun) (decoded_bytes l.byte-iterator) (decoded_bytes l.bytes)
