use Rattle.std.proofs.Common.{◌≡◌, ◌++◌, drop}
use Rattle.schema_pattern.specs.Tables.{pattern_sources, sources}
use Rattle.schema_pattern.proofs.all.searches_of.Given as goal

abbrev pub invariant-loop-pattern : goal.invariant-loop-pattern
invariant-loop-pattern l = sources l.searches.items ++ pattern_sources (drop l.pattern-index l.patterns) ≡ pattern_sources l.patterns
