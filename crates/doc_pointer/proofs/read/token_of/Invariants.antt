use Rattle.std.proofs.Common.{◌≡◌, ◌++◌, string_bytes, length}
use denote.Text.{Utf8}
use denote.Shadow.{shadow}
use Rattle.doc_pointer.specs.Text.{escaped}
use Rattle.doc_pointer.specs.Lacks.{Lacks}
use Rattle.doc_pointer.proofs.read.token_of.Given as goal

abbrev pub invariant-escapes : goal.invariant-escapes
invariant-escapes l = shadow (Utf8 l.rest) × Lacks 47 l.rest × (escaped (string_bytes l.token) ++ l.rest ≡ l.part)

abbrev pub decreases-escapes : goal.decreases-escapes
decreases-escapes l = length l.rest
