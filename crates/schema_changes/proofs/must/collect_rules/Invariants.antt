use Rattle.std.proofs.Common.{◌≡◌, drop}
use Rattle.schema_levels.specs.Below.{seen}
use Rattle.schema_changes.specs.Again.{mark_must_below}
use Rattle.schema_changes.proofs.must.collect_rules.Given as goal

abbrev pub invariant-loop-rule : goal.invariant-loop-rule
invariant-loop-rule l = mark_must_below l.node (seen l.spot) (drop l.rule-index l.node.rules.items) l.found ≡ mark_must_below l.node (seen l.spot) l.node.rules.items l.initial.found
