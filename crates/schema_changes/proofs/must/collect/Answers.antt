use Rattle.schema_levels.specs.Below.{seen}
use Rattle.schema_levels.proofs.Finding.{get_is}
use Rattle.schema_levels.proofs.Skips.{begins, steps}
use Rattle.schema_changes.specs.Again.{mark_must_below}
use Rattle.schema_changes.proofs.must.collect.Goals as goal

pub loop-number-init : goal.loop-number-init
loop-number-init c = begins (λ n x now. mark_must_below x (seen c.args.spot) x.rules.items now) c.args.asked.now c.args.nodes.now c.next-number.result c.args.found.now c.next-number.ensures.none

pub loop-number-preserved : goal.loop-number-preserved
loop-number-preserved c = steps (λ n x now. mark_must_below x (seen c.args.spot) x.rules.items now) c.args.asked.now c.args.nodes.now c.loop-number.number c.next-number-in-loop-number.result c.index-nodes-number.result c.loop-number.found c.collect_one.new.found _
    c.loop-number-test.true c.index-nodes-number.is c.collect_one.ensures c.next-number-in-loop-number.ensures.at_least c.next-number-in-loop-number.ensures.none c.loop-number.invariant

pub collect_one-requires : goal.collect_one-requires
collect_one-requires c = λ on. c.requires.known c.loop-number.number c.index-nodes-number.result (get_is c.args.nodes.now c.loop-number.number c.index-nodes-number.result c.loop-number-test.true c.index-nodes-number.is) on
