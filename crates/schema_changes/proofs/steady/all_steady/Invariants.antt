use Rattle.std.proofs.Common.{◌≡◌, drop}
use Rattle.schema_changes.specs.Again.{all_steady}
use Rattle.schema_changes.proofs.steady.all_steady.Given as goal

abbrev pub invariant-loop-rule : goal.invariant-loop-rule
invariant-loop-rule l = all_steady l.index l.node (drop l.rule-index l.node.rules.items) ≡ all_steady l.index l.node l.node.rules.items
