use Rattle.schema_levels.proofs.Searching.{of_rule, rules_still}
use Rattle.schema_levels.proofs.conclude.rules_here.Goals as goal

pub rule_here-requires : goal.rule_here-requires
rule_here-requires c = of_rule _ c.args.rules.now c.loop-rule.rule-index c.rule-item.result c.loop-rule-test.true c.rule-item.is (rules_still _ _ c.args.rules.now c.loop-rule.invariant.1 c.requires)
