use Rattle.std.proofs.Common.{◌≡◌, drop}
use Rattle.schema_changes.specs.Again.{mark_must}
use Rattle.schema_changes.proofs.must.mark_rules.Given as goal

abbrev pub invariant-loop-rule : goal.invariant-loop-rule
invariant-loop-rule l = mark_must (drop l.rule-index l.rules) l.asked ≡ mark_must l.rules l.initial.asked
