use Rattle.std.proofs.Common.{◌≡◌, ◌+◌, drop}
use Rattle.schema_rules.specs.Instances.{seen}
use Rattle.judged_work.specs.Work.{rules_weight}
use Rattle.judged_work.proofs.weights.weigh_rules.Given as goal

abbrev pub invariant-loop-rule : goal.invariant-loop-rule
invariant-loop-rule l = l.left + rules_weight l.rules (seen l.instance) ≡ l.fn.before + rules_weight (drop l.rule-index l.rules) (seen l.instance)
