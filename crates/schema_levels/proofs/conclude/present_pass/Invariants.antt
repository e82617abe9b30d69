use Rattle.std.proofs.Common.{◌≡◌}
use Rattle.schema_rules.specs.Instances.{seen}
use Rattle.schema_levels.specs.Bits.{bit}
use Rattle.schema_levels.proofs.Presence.{presence}
use Rattle.schema_levels.proofs.conclude.present_pass.Given as goal

abbrev pub invariant-loop-name : goal.invariant-loop-name
invariant-loop-name l = presence (seen l.instance) (bit l.passed) l.name-iterator.a.rest.now l.name-iterator.b.rest.now ≡ presence (seen l.instance) (bit l.passed) l.names l.numbers
