use Rattle.std.proofs.Common.{◌≡◌, ◌||◌, drop}
use Rattle.std.specs.List.{list_any}
use Rattle.path_tables.specs.FilterTables.{is_held, is_refused}
use Rattle.path_tables.proofs.asking.some_hold.Given as goal

abbrev pub invariant-loop-each : goal.invariant-loop-each
invariant-loop-each l =
    ((l.held || list_any (is_held l.number) (drop l.each-index l.each-items)) ≡ list_any (is_held l.number) l.each-items)
    × (list_any (is_refused l.number) (drop l.each-index l.each-items) ≡ list_any (is_refused l.number) l.each-items)
