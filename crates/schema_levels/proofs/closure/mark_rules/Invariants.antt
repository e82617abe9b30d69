use Rattle.std.proofs.Common.{◌≡◌, drop}
use Rattle.schema_levels.specs.Closure.{mark_rules}
use Rattle.schema_levels.proofs.closure.mark_rules.Given as goal

abbrev pub invariant-loop-rule : goal.invariant-loop-rule
invariant-loop-rule l = mark_rules (drop l.rule-index l.rules) l.asked ≡ mark_rules l.rules l.initial.asked
