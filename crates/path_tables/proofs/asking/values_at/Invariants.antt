use Rattle.std.proofs.Common.{◌≡◌, ◌++◌, drop}
use Rattle.path_select.specs.Indexed.{at_numbers}
use Rattle.path_select.specs.Values.{values}
use Rattle.path_select.specs.ChildView.{docs_of}
use Rattle.path_tables.proofs.asking.values_at.Given as goal

abbrev pub invariant-loop-number : goal.invariant-loop-number
invariant-loop-number l =
    docs_of l.found.items ++ values (at_numbers l.index (drop l.number-index l.number-items)) ≡ values (at_numbers l.index l.number-items)
