use Rattle.std.proofs.Common.{sym, subst}
use Rattle.schema_rules.specs.Instances.{seen}
use Rattle.schema_rules.specs.declared.instance.Instance.{Instance}
use Rattle.schema_levels.specs.Levels.{AreJudged}
use Rattle.schema_levels.proofs.levels.judge_instance.Goals as goal

pub returns-in-Value : goal.returns-in-Value
returns-in-Value c = record { judged = subst (λ (x : Instance). AreJudged c.args.nodes.now (seen x) c.args.asked.now c.judge.new.passed) (sym c.in-Value.is) c.judge.ensures.judged; same = c.judge.ensures.same }

pub returns-in-Name : goal.returns-in-Name
returns-in-Name c = record { judged = subst (λ (x : Instance). AreJudged c.args.nodes.now (seen x) c.args.asked.now c.judge_name.new.passed) (sym c.in-Name.is) c.judge_name.ensures.judged; same = c.judge_name.ensures.same }
