use Rattle.std.proofs.Common.{◌&&◌, ◌∙◌, refl}
use Rattle.schema_rules.specs.Instances.{seen}
use Rattle.schema_levels.specs.Bits.{bit, put}
use Rattle.schema_levels.specs.Conclude.{rules_here}
use Rattle.schema_levels.proofs.Searching.{of_node, still}
use Rattle.schema_levels.proofs.Skips.{begins, steps}
use Rattle.schema_levels.proofs.conclude.conclude.Goals as goal

pub loop-number-init : goal.loop-number-init
loop-number-init c = (begins (λ n x now. put now n (bit now n && rules_here (bit now) (seen c.args.instance) x.rules.items)) c.args.asked.now c.args.nodes.now c.next-number.result c.args.passed.now c.next-number.ensures.none, refl)

pub loop-number-preserved : goal.loop-number-preserved
loop-number-preserved c = (
  steps (λ n x now. put now n (bit now n && rules_here (bit now) (seen c.args.instance) x.rules.items)) c.args.asked.now c.args.nodes.now c.loop-number.number c.next-number-in-loop-number.result c.index-nodes-number.result c.loop-number.passed c.conclude_one.new.passed _
      c.loop-number-test.true c.index-nodes-number.is c.conclude_one.ensures.concluded c.next-number-in-loop-number.ensures.at_least c.next-number-in-loop-number.ensures.none c.loop-number.invariant.0,
  c.conclude_one.ensures.same ∙ c.loop-number.invariant.1,
)

pub conclude_one-requires : goal.conclude_one-requires
conclude_one-requires c = of_node _ c.args.nodes.now c.loop-number.number c.index-nodes-number.result c.loop-number-test.true c.index-nodes-number.is (still _ _ c.args.nodes.now c.loop-number.invariant.1 c.requires.searched)
