use Rattle.std.proofs.Common.{◌-◌, length}
use Rattle.schema_levels.specs.Counters.{Tallied}
use Rattle.schema_levels.proofs.counts.tally.Given as goal

abbrev pub invariant-loop-number : goal.invariant-loop-number
invariant-loop-number l = Tallied l.counters l.narrow l.asked l.passed l.number l.initial.found l.initial.counts l.found l.counts

abbrev pub decreases-loop-number : goal.decreases-loop-number
decreases-loop-number l = length l.counters.ranks.items - l.number
