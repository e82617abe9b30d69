use Rattle.std.proofs.Common.{◌+◌, ap}
use Rattle.schema_rules.specs.Instances.{seen}
use Rattle.judged_work.proofs.Skipping.{begins, shift, steps}
use Rattle.judged_work.proofs.weights.weigh.Goals as goal

pub loop-number-init : goal.loop-number-init
loop-number-init c = ap (λ n. c.args.before + n) (begins c.args.asked.now c.args.nodes.now (seen c.args.instance) c.next-number.result c.next-number.ensures.none)

pub loop-number-preserved : goal.loop-number-preserved
loop-number-preserved c =
    let e = steps c.args.asked.now c.args.nodes.now (seen c.args.instance) c.loop-number.number c.next-number-in-loop-number.result c.index-nodes-number.result c.loop-number-test.true c.index-nodes-number.is c.next-number-in-loop-number.ensures.at_least c.next-number-in-loop-number.ensures.none in
    shift _ _ _ _ _ _ _ c.loop-number.invariant e c.in_ok-left.ensures.rest
