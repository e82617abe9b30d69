use Rattle.std.proofs.Common.{◌≡◌, true, false, refl, sym}
use Rattle.doc_schema.proofs.schema.Schema.accepts_shift.Goals as goal

pub returns-then-has_patterns : goal.returns-then-has_patterns
returns-then-has_patterns c = λ e. (let h : true ≡ false = c.if-has_patterns.ensures.1 e in absurd cc)

pub judged_shifted-requires : goal.judged_shifted-requires
judged_shifted-requires c = sym (c.if-has_patterns.ensures.0 refl)
