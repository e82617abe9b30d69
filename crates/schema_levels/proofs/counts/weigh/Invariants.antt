use Rattle.std.proofs.Common.{◌≡◌, ◌-◌, drop, length}
use Rattle.schema_levels.specs.Bits.{bit}
use Rattle.schema_levels.specs.Counters.{weigh}
use Rattle.schema_levels.proofs.counts.weigh.Given as goal

abbrev pub invariant-loop-number : goal.invariant-loop-number
invariant-loop-number l = weigh l.counters l.narrow (bit l.found) l.counts l.asked l.number (drop l.number l.nodes) l.passed ≡ weigh l.counters l.narrow (bit l.found) l.counts l.asked 0 l.nodes l.initial.passed

abbrev pub decreases-loop-number : goal.decreases-loop-number
decreases-loop-number l = length l.nodes - l.number
