use Rattle.std.proofs.Common.{◌≡◌, ◌+◌, ◌-◌, drop, length}
use Rattle.schema_rules.specs.Instances.{seen}
use Rattle.judged_work.specs.Work.{weight_from}
use Rattle.judged_work.proofs.weights.weigh.Given as goal

abbrev pub invariant-loop-number : goal.invariant-loop-number
invariant-loop-number l = l.left + weight_from l.asked 0 l.nodes (seen l.instance) ≡ l.fn.before + weight_from l.asked l.number (drop l.number l.nodes) (seen l.instance)

abbrev pub decreases-loop-number : goal.decreases-loop-number
decreases-loop-number l = length l.nodes - l.number
