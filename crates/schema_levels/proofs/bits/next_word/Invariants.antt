use Rattle.std.proofs.Common.{◌≡◌, ℕ, ◌*◌, ◌<◌, ◌≤◌, false}
use Rattle.schema_levels.specs.Bits.{bit}
use Rattle.schema_levels.proofs.bits.next_word.Given as goal

abbrev pub invariant-loop-at : goal.invariant-loop-at
invariant-loop-at l = (j : ℕ) → 64 * l.first ≤ j → j < 64 * l.at → bit l.words j ≡ false
