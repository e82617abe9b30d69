use Rattle.std.proofs.Common.{drop}
use Rattle.schema_levels.specs.Known.{Keeps}
use Rattle.schema_levels.proofs.Finding.{Left}
use Rattle.schema_levels.proofs.found.with_patterns.Given as goal

abbrev pub invariant-loop-pattern : goal.invariant-loop-pattern
invariant-loop-pattern l = Left l.sought (drop l.pattern-index l.patterns) l.patterns × Keeps l.before l.sought
