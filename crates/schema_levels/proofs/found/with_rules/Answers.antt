use Rattle.std.proofs.Common.{◌+◌, drop, subst, arith}
use Rattle.schema_levels.specs.NamePatterns.{patterns_by, patterns_in}
use Rattle.schema_levels.proofs.Finding.{Left, begins_left, ends_left, goes_left, rules_past, kept, kept_on, rules_left}
use Rattle.schema_levels.proofs.found.with_rules.Goals as goal

pub loop-rule-init : goal.loop-rule-init
loop-rule-init c = (begins_left c.args.before (patterns_in c.args.rules.now), kept c.args.before)

pub loop-rule-preserved : goal.loop-rule-preserved
loop-rule-preserved c =
    let r = c.rule-item.result in
    let now = c.loop-rule.sought in
    let all = patterns_in c.args.rules.now in (
      goes_left now c.with_rule-sought.result (patterns_by r) (patterns_in (drop (c.loop-rule.rule-index + 1) c.args.rules.now)) all (subst (λ l. Left now l all) (rules_left c.args.rules.now c.loop-rule.rule-index r c.loop-rule-test.true c.rule-item.is) c.loop-rule.invariant.0) c.with_rule-sought.ensures.keeps
          c.with_rule-sought.ensures.all,
      kept_on c.args.before now c.with_rule-sought.result c.loop-rule.invariant.1 c.with_rule-sought.ensures.keeps,
    )

pub returns-clause-all : goal.returns-clause-all
returns-clause-all c = ends_left c.loop-rule.sought _ (patterns_in c.args.rules.now) (rules_past c.args.rules.now c.loop-rule.rule-index (omega (arith, c.loop-rule-test.false))) c.loop-rule.invariant.0
