use Rattle.std.proofs.Common.{◌≡◌, ◌-◌, drop, length}
use Rattle.schema_levels.specs.Below.{seen}
use Rattle.schema_changes.specs.Again.{collect_must}
use Rattle.schema_changes.proofs.must.collect.Given as goal

abbrev pub invariant-loop-number : goal.invariant-loop-number
invariant-loop-number l = collect_must l.asked (seen l.spot) l.number (drop l.number l.nodes) l.found ≡ collect_must l.asked (seen l.spot) 0 l.nodes l.initial.found

abbrev pub decreases-loop-number : goal.decreases-loop-number
decreases-loop-number l = length l.nodes - l.number
