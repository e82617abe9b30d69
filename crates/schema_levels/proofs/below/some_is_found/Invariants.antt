use Rattle.std.proofs.Common.{drop}
use Rattle.schema_levels.proofs.Finding.{Looking}
use Rattle.schema_levels.proofs.below.some_is_found.Given as goal

abbrev pub invariant-loop-pattern : goal.invariant-loop-pattern
invariant-loop-pattern l = Looking l.found (drop l.pattern-index l.patterns) l.patterns
