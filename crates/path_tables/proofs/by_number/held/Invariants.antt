use Rattle.std.proofs.Common.{◌≡◌, ◌++◌, drop, filter}
use Rattle.std.specs.List.{list_any}
use Rattle.path_tables.specs.FilterTables.{is_held, is_refused}
use Rattle.path_tables.proofs.by_number.held.Given as goal

abbrev pub invariant-loop-number : goal.invariant-loop-number
invariant-loop-number l =
    (l.found.items ++ filter (λ n. is_held n l.told) (drop l.number-index l.number-items) ≡ filter (λ n. is_held n l.told) l.number-items)
    × (list_any (λ n. is_refused n l.told) (drop l.number-index l.number-items) ≡ list_any (λ n. is_refused n l.told) l.number-items)
