use Rattle.std.proofs.Common.{drop}
use Rattle.schema_levels.specs.Known.{Keeps}
use Rattle.schema_levels.specs.NamePatterns.{patterns_in}
use Rattle.schema_levels.proofs.Finding.{Left}
use Rattle.schema_levels.proofs.found.with_rules.Given as goal

abbrev pub invariant-loop-rule : goal.invariant-loop-rule
invariant-loop-rule l = Left l.sought (patterns_in (drop l.rule-index l.rules)) (patterns_in l.rules) × Keeps l.before l.sought
