use Rattle.std.proofs.Common.{◌≡◌, drop}
use Rattle.schema_levels.specs.Bits.{mark_all}
use Rattle.schema_levels.proofs.bits.mark_each.Given as goal

abbrev pub invariant-loop-number : goal.invariant-loop-number
invariant-loop-number l = mark_all (drop l.number-index l.numbers) l.words ≡ mark_all l.numbers l.initial.words
