use Rattle.std.proofs.Common.{refl}
use Rattle.schema_levels.proofs.Giving.{kept, kept_on, rank_more}
use Rattle.schema_levels.proofs.counters.reaching.Goals as goal

pub loop-counters-init : goal.loop-counters-init
loop-counters-init c = (kept c.args.before, refl)

pub loop-counters-preserved : goal.loop-counters-preserved
loop-counters-preserved c = (kept_on c.args.before c.loop-counters.counters _ c.loop-counters.invariant.0 (rank_more c.loop-counters.counters _ c.in_ok-push.ensures.items refl), c.loop-counters.invariant.1)
