use Rattle.std.proofs.Common.{arith}
use Rattle.schema_levels.proofs.Finding.{sought_none, sought_on, sought_all}
use Rattle.schema_levels.proofs.found.sought.Goals as goal

pub loop-number-init : goal.loop-number-init
loop-number-init c = sought_none c.args.nodes.now c.args.asked.now c.next-number.result 0 c.next-number.ensures.none

pub loop-number-preserved : goal.loop-number-preserved
loop-number-preserved c = sought_on c.args.nodes.now c.args.asked.now c.loop-number.number c.next-number-in-loop-number.result c.loop-number.sought c.with_node-sought.result c.index-nodes-number.result c.loop-number-test.true c.index-nodes-number.is c.loop-number.invariant c.with_node-sought.ensures.keeps c.with_node-sought.ensures.all
    c.next-number-in-loop-number.ensures.none

pub returns : goal.returns
returns c = sought_all c.args.nodes.now c.args.asked.now c.loop-number.number c.loop-number.sought (omega (arith, c.loop-number-test.false)) c.loop-number.invariant
