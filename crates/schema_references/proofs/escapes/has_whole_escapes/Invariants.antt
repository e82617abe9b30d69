use Rattle.std.proofs.Common.{◌≡◌, drop}
use Rattle.schema_references.specs.Escapes.{are_whole, has_whole_escapes}
use Rattle.schema_references.proofs.escapes.has_whole_escapes.Given as goal

abbrev pub invariant-loop-byte : goal.invariant-loop-byte
invariant-loop-byte l = are_whole l.in_escape (drop l.byte-index l.bytes) ≡ has_whole_escapes l.bytes
