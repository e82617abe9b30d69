use Rattle.std.proofs.Common.{◌≡◌, ℕ, ◌*◌, ◌<◌, ◌≤◌, false}
use Rattle.schema_levels.specs.Bits.{bit}
use Rattle.schema_levels.proofs.bits.last_word.Given as goal

abbrev pub invariant-loop-at : goal.invariant-loop-at
invariant-loop-at l = (j : ℕ) → 64 * l.at ≤ j → j < 64 * l.upto → bit l.words j ≡ false
