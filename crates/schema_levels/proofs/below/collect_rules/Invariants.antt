use Rattle.std.proofs.Common.{◌≡◌, drop, false}
use Rattle.schema_levels.specs.Below.{collect_rules, seen}
use Rattle.schema_levels.proofs.below.collect_rules.Given as goal

abbrev pub invariant-loop-rule : goal.invariant-loop-rule
invariant-loop-rule l =
    (collect_rules l.node (seen l.spot) (drop l.rule-index l.node.rules.items) l.found ≡ collect_rules l.node (seen l.spot) l.node.rules.items l.initial.found)
    × (l.asks ≡ false → l.found ≡ l.initial.found)
