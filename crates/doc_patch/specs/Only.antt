-- Operations that may change something.
use Rattle.std.specs.Prelude.{Bool, true, false}
use Rattle.doc_edits.specs.Operation.{Operation, test}

-- all but a test may (RFC 6902, section 4.6)
abbrev pub may_change : Operation → Bool
may_change (test path v) = false
may_change _ = true
