use Rattle.std.proofs.Common.{◌≡◌, drop, map}
use Rattle.schema_rules.specs.Rules.{every}
use Rattle.schema_levels.specs.Bits.{bit}
use Rattle.schema_levels.proofs.conclude.all_pass.Given as goal

abbrev pub invariant-loop-number : goal.invariant-loop-number
invariant-loop-number l = every (map (bit l.passed) (drop l.number-index l.numbers)) ≡ every (map (bit l.passed) l.numbers)
