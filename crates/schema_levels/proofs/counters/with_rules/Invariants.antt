use Rattle.std.proofs.Common.{◌+◌, ◌≤◌, drop, length}
use Rattle.schema_levels.specs.Counters.{Keeps, wanted}
use Rattle.schema_levels.proofs.Giving.{RulesLeft}
use Rattle.schema_levels.proofs.counters.with_rules.Given as goal

abbrev pub invariant-loop-rule : goal.invariant-loop-rule
invariant-loop-rule l = RulesLeft l.counters (drop l.rule-index l.rules) l.rules × Keeps l.fn.before l.counters
    × (length l.counters.counted.items + wanted (drop l.rule-index l.rules) ≤ length l.fn.before.counted.items + wanted l.rules)
