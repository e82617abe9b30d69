use Rattle.std.proofs.Common.{◌&&◌}
use Rattle.schema_levels.specs.Bits.{bit, put}
use Rattle.schema_levels.specs.Below.{rules_below, seen}
use Rattle.schema_levels.proofs.Finding.{get_is}
use Rattle.schema_levels.proofs.Skips.{begins, steps}
use Rattle.schema_levels.proofs.below.fold.Goals as goal

pub loop-number-init : goal.loop-number-init
loop-number-init c = begins (λ n x now. put now n (bit now n && rules_below (bit c.args.child.now) x (seen c.args.spot) x.rules.items)) c.args.asked.now c.args.nodes.now c.next-number.result c.args.passed.now c.next-number.ensures.none

pub loop-number-preserved : goal.loop-number-preserved
loop-number-preserved c = steps (λ n x now. put now n (bit now n && rules_below (bit c.args.child.now) x (seen c.args.spot) x.rules.items)) c.args.asked.now c.args.nodes.now c.loop-number.number c.next-number-in-loop-number.result c.index-nodes-number.result c.loop-number.passed c.fold_one.new.passed _
    c.loop-number-test.true c.index-nodes-number.is c.fold_one.ensures c.next-number-in-loop-number.ensures.at_least c.next-number-in-loop-number.ensures.none c.loop-number.invariant

pub fold_one-requires : goal.fold_one-requires
fold_one-requires c = λ on. c.requires.known c.loop-number.number c.index-nodes-number.result (get_is c.args.nodes.now c.loop-number.number c.index-nodes-number.result c.loop-number-test.true c.index-nodes-number.is) on
