use Rattle.std.proofs.Common.{◌≡◌, ◌+◌, ◌≤◌, drop, map}
use Rattle.schema_rules.specs.Rules.{how_many}
use Rattle.schema_levels.specs.Bits.{bit}
use Rattle.schema_levels.proofs.conclude.how_many_pass.Given as goal

abbrev pub invariant-loop-number : goal.invariant-loop-number
invariant-loop-number l = (l.count + how_many (map (bit l.passed) (drop l.number-index l.numbers)) ≡ how_many (map (bit l.passed) l.numbers)) × (l.count ≤ l.number-index)
