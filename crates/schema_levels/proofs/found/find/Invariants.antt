use Rattle.std.proofs.Common.{◌≡◌, ◌-◌, length}
use Rattle.schema_pattern.specs.Tables.{sources}
use Rattle.schema_levels.proofs.Finding.{FoundBelow}
use Rattle.schema_levels.proofs.found.find.Given as goal

abbrev pub invariant-loop-number : goal.invariant-loop-number
invariant-loop-number l = FoundBelow (sources l.fn.searches) l.sought l.name l.number l.found × (sources l.searches ≡ sources l.fn.searches)

abbrev pub decreases-loop-number : goal.decreases-loop-number
decreases-loop-number l = length l.searches - l.number
