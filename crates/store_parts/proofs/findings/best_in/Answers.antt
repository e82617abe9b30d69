use Rattle.std.proofs.Common.{arith}
use Rattle.store_parts.proofs.findings.best_in.Goals as goal

pub loop-place-preserved : goal.loop-place-preserved
loop-place-preserved c = record {
  few = let test = c.loop-place-test.true in omega (arith, test);
  best = c.higher-best.ensures.best c.args.size c.args.slots.now c.loop-place.place c.loop-place.invariant.best c.in_ok-held_in.ensures;
}
