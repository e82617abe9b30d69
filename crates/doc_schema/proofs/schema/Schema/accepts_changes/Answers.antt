use Rattle.std.proofs.Common.{◌≡◌, true, false, refl, sym}
use Rattle.doc_schema.proofs.schema.Schema.accepts_changes.Goals as goal

pub returns-then-has_patterns : goal.returns-then-has_patterns
returns-then-has_patterns c = λ e. (let h : true ≡ false = c.if-has_patterns.ensures.1 e in absurd cc)

pub judged_after-requires : goal.judged_after-requires
judged_after-requires c = sym (c.if-has_patterns.ensures.0 refl)
