use Rattle.schema_levels.proofs.Counting.{one_tallied}
use Rattle.schema_levels.proofs.counts.tally.Goals as goal

pub loop-number-preserved : goal.loop-number-preserved
loop-number-preserved c = one_tallied c.args.counters.now c.args.narrow c.args.asked.now c.args.passed.now c.args.found.now c.args.counts.now c.loop-number.number c.loop-number.found c.loop-number.counts c.loop-number.invariant
    c.next-number-in-loop-number.result c.tally_one.new.found c.tally_one.new.counts c.tally_one.ensures.found c.tally_one.ensures.counts c.next-number-in-loop-number.ensures.at_least c.next-number-in-loop-number.ensures.none
