use Rattle.std.proofs.Common.{◌≡◌, drop}
use Rattle.schema_levels.specs.Bits.{bit}
use Rattle.schema_levels.specs.Counters.{rules_count}
use Rattle.schema_levels.proofs.counts.rules_count.Given as goal

abbrev pub invariant-loop-rule : goal.invariant-loop-rule
invariant-loop-rule l = rules_count l.counters l.narrow (bit l.found) l.counts (drop l.rule-index l.rules) ≡ rules_count l.counters l.narrow (bit l.found) l.counts l.rules
