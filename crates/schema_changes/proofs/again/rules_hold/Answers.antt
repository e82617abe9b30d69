use Rattle.schema_levels.proofs.Searching.{of_rule, rules_still}
use Rattle.schema_changes.proofs.again.rules_hold.Goals as goal

pub rule_holds-requires : goal.rule_holds-requires
rule_holds-requires c = of_rule _ c.args.rules.now c.loop-rule.rule-index c.rule-item.result c.loop-rule-test.true c.rule-item.is (rules_still _ _ c.args.rules.now c.loop-rule.invariant.1 c.requires)
