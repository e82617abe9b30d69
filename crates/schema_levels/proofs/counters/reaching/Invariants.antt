use Rattle.std.proofs.Common.{◌≡◌, ◌+◌, ◌-◌, length}
use Rattle.schema_levels.specs.Counters.{Keeps}
use Rattle.schema_levels.proofs.counters.reaching.Given as goal

abbrev pub invariant-loop-counters : goal.invariant-loop-counters
invariant-loop-counters l = Keeps l.fn.before l.counters × (length l.counters.counted.items ≡ length l.fn.before.counted.items)

abbrev pub decreases-loop-counters : goal.decreases-loop-counters
decreases-loop-counters l = (l.number + 1) - length l.counters.ranks.items
