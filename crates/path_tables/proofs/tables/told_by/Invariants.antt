use Rattle.std.proofs.Common.{◌≡◌, ◌++◌, drop, map}
use Rattle.path_tables.specs.FilterTables.{answer, asked_view, said_of}
use Rattle.path_select.specs.Paths.{seen}
use Rattle.path_tables.proofs.tables.told_by.Given as goal

abbrev pub invariant-loop-number : goal.invariant-loop-number
invariant-loop-number l =
    map said_of l.all.items ++ map (λ u. answer (asked_view l.asked) u.1) (drop l.number (seen l.index.walk)) ≡ map (λ u. answer (asked_view l.asked) u.1) (seen l.index.walk)
