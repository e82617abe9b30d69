use Rattle.std.proofs.Common.{sym, subst}
use Rattle.schema_levels.specs.Known.{Knows}
use Rattle.schema_levels.specs.NamePatterns.{patterns_in}
use Rattle.schema_levels.proofs.Finding.{knows_rule}
use Rattle.schema_changes.proofs.must.collect_rules.Goals as goal

pub collect_rule-requires : goal.collect_rule-requires
collect_rule-requires c = knows_rule c.args.spot c.deref-rule-items.result.now c.loop-rule.rule-index c.rule-item.result c.loop-rule-test.true c.rule-item.is (subst (λ l. Knows c.args.spot (patterns_in l)) (sym c.deref-rule-items.ensures.value) c.requires)
