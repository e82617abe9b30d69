use Rattle.std.proofs.Common.{◌≡◌, drop}
use Rattle.schema_changes.specs.Again.{mark_anew_rules}
use Rattle.schema_changes.proofs.again.mark_rules.Given as goal

abbrev pub invariant-loop-rule : goal.invariant-loop-rule
invariant-loop-rule l = mark_anew_rules (drop l.rule-index l.rules) l.found ≡ mark_anew_rules l.rules l.initial.found
