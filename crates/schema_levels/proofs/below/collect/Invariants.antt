use Rattle.std.proofs.Common.{◌≡◌, ◌-◌, drop, length, false}
use Rattle.schema_levels.specs.Below.{collect, seen}
use Rattle.schema_levels.proofs.below.collect.Given as goal

abbrev pub invariant-loop-number : goal.invariant-loop-number
invariant-loop-number l =
    (collect l.asked (seen l.spot) l.number (drop l.number l.nodes) l.found ≡ collect l.asked (seen l.spot) 0 l.nodes l.initial.found)
    × (l.asks ≡ false → l.found ≡ l.initial.found)

abbrev pub decreases-loop-number : goal.decreases-loop-number
decreases-loop-number l = length l.nodes - l.number
