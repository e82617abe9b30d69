use Rattle.std.proofs.Common.{◌≡◌, drop, map}
use Rattle.schema_rules.specs.Rules.{some}
use Rattle.schema_levels.specs.Bits.{bit}
use Rattle.schema_levels.proofs.conclude.some_passes.Given as goal

abbrev pub invariant-loop-number : goal.invariant-loop-number
invariant-loop-number l = some (map (bit l.passed) (drop l.number-index l.numbers)) ≡ some (map (bit l.passed) l.numbers)
