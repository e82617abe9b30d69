use Rattle.std.proofs.Common.{◌≡◌, true, false, refl, sym}
use Rattle.doc_schema.proofs.schema.Schema.accepts_change.Goals as goal

pub returns-then-has_patterns : goal.returns-then-has_patterns
returns-then-has_patterns c = λ e. (let h : true ≡ false = c.if-has_patterns.ensures.1 e in absurd cc)

pub judged_again-requires : goal.judged_again-requires
judged_again-requires c = sym (c.if-has_patterns.ensures.0 refl)
