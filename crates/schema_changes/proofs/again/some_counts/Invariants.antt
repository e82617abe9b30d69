use Rattle.std.proofs.Common.{◌≡◌, drop}
use Rattle.schema_changes.specs.Again.{some_counts}
use Rattle.schema_changes.proofs.again.some_counts.Given as goal

abbrev pub invariant-loop-rule : goal.invariant-loop-rule
invariant-loop-rule l = some_counts (drop l.rule-index l.rules) ≡ some_counts l.rules
