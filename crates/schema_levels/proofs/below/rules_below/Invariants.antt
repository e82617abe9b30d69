use Rattle.std.proofs.Common.{◌≡◌, drop}
use Rattle.schema_levels.specs.Bits.{bit}
use Rattle.schema_levels.specs.Below.{rules_below, seen}
use Rattle.schema_levels.proofs.below.rules_below.Given as goal

abbrev pub invariant-loop-rule : goal.invariant-loop-rule
invariant-loop-rule l = rules_below (bit l.child) l.node (seen l.spot) (drop l.rule-index l.node.rules.items) ≡ rules_below (bit l.child) l.node (seen l.spot) l.node.rules.items
