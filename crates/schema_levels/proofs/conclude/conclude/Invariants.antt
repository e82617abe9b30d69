use Rattle.std.proofs.Common.{◌≡◌, ◌-◌, drop, length}
use Rattle.schema_pattern.specs.Tables.{sources}
use Rattle.schema_rules.specs.Instances.{seen}
use Rattle.schema_levels.specs.Conclude.{conclude}
use Rattle.schema_levels.proofs.conclude.conclude.Given as goal

abbrev pub invariant-loop-number : goal.invariant-loop-number
invariant-loop-number l =
    (conclude (seen l.instance) l.asked l.number (drop l.number l.nodes) l.passed ≡ conclude (seen l.instance) l.asked 0 l.nodes l.initial.passed)
    × (sources l.searches ≡ sources l.fn.searches)

abbrev pub decreases-loop-number : goal.decreases-loop-number
decreases-loop-number l = length l.nodes - l.number
