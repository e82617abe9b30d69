use Rattle.std.proofs.Common.{◌≡◌, drop}
use Rattle.schema_pattern.specs.Tables.{sources}
use Rattle.schema_rules.specs.Instances.{seen}
use Rattle.schema_levels.specs.Bits.{bit}
use Rattle.schema_levels.specs.Conclude.{rules_here}
use Rattle.schema_levels.proofs.conclude.rules_here.Given as goal

abbrev pub invariant-loop-rule : goal.invariant-loop-rule
invariant-loop-rule l = (rules_here (bit l.passed) (seen l.instance) (drop l.rule-index l.rules) ≡ rules_here (bit l.passed) (seen l.instance) l.rules) × (sources l.searches ≡ sources l.fn.searches)
