use Rattle.std.proofs.Common.{sym, subst, arith}
use Rattle.schema_levels.specs.Counters.{HaveCounters}
use Rattle.schema_levels.proofs.Counting.{drop_all}
use Rattle.schema_levels.proofs.Giving.{kept, kept_on, rules_go, wanted_left}
use Rattle.schema_levels.proofs.counters.with_rules.Goals as goal

pub loop-rule-init : goal.loop-rule-init
loop-rule-init c = ((λ cs k h. h), kept c.args.before, omega arith)

pub loop-rule-preserved : goal.loop-rule-preserved
loop-rule-preserved c = (
  rules_go c.loop-rule.counters c.in_ok-counters.counters c.args.rules.now c.args.rules.now c.loop-rule.rule-index c.rule-item.result c.loop-rule-test.true c.rule-item.is c.loop-rule.invariant.0 c.in_ok-counters.ensures.given.0 c.in_ok-counters.ensures.given.1,
  kept_on c.args.before c.loop-rule.counters c.in_ok-counters.counters c.loop-rule.invariant.1 c.in_ok-counters.ensures.given.0,
  (let left = wanted_left c.args.rules.now c.loop-rule.rule-index c.rule-item.result c.loop-rule-test.true c.rule-item.is in omega (arith, left, c.loop-rule.invariant.2, c.in_ok-counters.ensures.few)),
)

pub returns-clause-given : goal.returns-clause-given
returns-clause-given c = (c.loop-rule.invariant.1, c.loop-rule.invariant.0 c.loop-rule.counters (kept c.loop-rule.counters) (subst (HaveCounters c.loop-rule.counters) (sym (drop_all c.args.rules.now c.loop-rule.rule-index (omega (arith, c.loop-rule-test.false)))) tt))

pub returns-clause-few : goal.returns-clause-few
returns-clause-few c = omega (arith, c.loop-rule.invariant.2)
