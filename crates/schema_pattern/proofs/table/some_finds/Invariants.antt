use Rattle.std.proofs.Common.{length, ◌-◌, ◌≡◌, ◌≤◌, ◌||◌, drop}
use Rattle.schema_pattern.specs.Tables.{some_found, sources}
use Rattle.schema_pattern.proofs.table.some_finds.Given as goal

abbrev pub invariant-loop-number : goal.invariant-loop-number
invariant-loop-number l =
    (l.number ≤ length l.searches)
    × (sources l.searches ≡ sources l.fn.searches)
    × ((l.found || some_found (drop l.number (sources l.searches)) l.text) ≡ some_found (sources l.fn.searches) l.text)

abbrev pub decreases-loop-number : goal.decreases-loop-number
decreases-loop-number l = length l.initial.searches - l.number
