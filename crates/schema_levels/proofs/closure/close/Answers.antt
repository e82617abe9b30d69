use Rattle.std.proofs.Common.{◌∙◌, ◌<◌, suc, refl, sym, ap, arith, length}
use Rattle.schema_levels.specs.Closure.{mark_rules}
use Rattle.schema_levels.proofs.Sets.{close_step, close_skip}
use Rattle.schema_levels.proofs.closure.close.Goals as goal

pub loop-number-preserved : goal.loop-number-preserved
loop-number-preserved c =
    let found = c.in-Some.ensures in
    let below = found.below in
    let lt : c.in-Some.number < length c.args.nodes.now = omega (arith, below, c.loop-number.invariant.1) in
    let skipped = close_skip c.args.nodes.now (suc c.in-Some.number) c.loop-number.upto c.loop-number.asked (omega arith) (λ k le less. found.none k (omega arith) less) in (
      close_step c.args.nodes.now c.in-Some.number (suc c.in-Some.number) c.loop-number.asked c.mark_rules.new.asked c.index-nodes-number.result refl lt (sym found.is_in)
          (c.mark_rules.ensures ∙ ap (λ rs. mark_rules rs c.loop-number.asked) c.deref.ensures.value) ∙ sym skipped ∙ c.loop-number.invariant.0,
      omega arith,
    )

pub returns : goal.returns
returns c = sym (close_skip c.args.nodes.now 0 c.loop-number.upto c.loop-number.asked (omega arith) (λ k le less. c.in_default.ensures k less)) ∙ c.loop-number.invariant.0
