use Rattle.std.proofs.Common.{◌≡◌, ◌-◌, ◌<◌, ℕ, true}
use Rattle.schema_levels.specs.Bits.{bit}
use Rattle.schema_changes.proofs.whole.are_within.Given as goal

abbrev pub invariant-loop-number : goal.invariant-loop-number
invariant-loop-number l = (j : ℕ) → j < l.number → bit l.words j ≡ true → bit l.others j ≡ true

abbrev pub decreases-loop-number : goal.decreases-loop-number
decreases-loop-number l = l.upto - l.number
