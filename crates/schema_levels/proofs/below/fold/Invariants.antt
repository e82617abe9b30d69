use Rattle.std.proofs.Common.{◌≡◌, ◌-◌, drop, length}
use Rattle.schema_levels.specs.Bits.{bit}
use Rattle.schema_levels.specs.Below.{fold, seen}
use Rattle.schema_levels.proofs.below.fold.Given as goal

abbrev pub invariant-loop-number : goal.invariant-loop-number
invariant-loop-number l = fold (bit l.child) l.asked (seen l.spot) l.number (drop l.number l.nodes) l.passed ≡ fold (bit l.child) l.asked (seen l.spot) 0 l.nodes l.initial.passed

abbrev pub decreases-loop-number : goal.decreases-loop-number
decreases-loop-number l = length l.nodes - l.number
