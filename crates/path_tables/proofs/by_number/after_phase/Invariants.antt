use Rattle.std.proofs.Common.{◌≡◌, ◌++◌, drop}
use Rattle.path_tables.specs.FilterTables.{picks_view}
use Rattle.path_tables.specs.Visiting.{refused_at, selected_at}
use Rattle.path_tables.specs.Visits.{IsBegun}
use Rattle.path_select.specs.Indexed.{at_numbers}
use Rattle.path_select.specs.Nodes.{visited}
use Rattle.path_tables.proofs.by_number.after_phase.Given as goal

abbrev pub invariant-loop-number : goal.invariant-loop-number
invariant-loop-number l =
    let ss = picks_view l.phase.picks.items in
    (at_numbers l.index l.listing.found.items ++ selected_at ss (visited l.phase.descend (at_numbers l.index (drop l.number-index l.number-items))) ≡ selected_at ss (visited l.phase.descend (at_numbers l.index l.number-items)))
    × (refused_at ss (visited l.phase.descend (at_numbers l.index (drop l.number-index l.number-items))) ≡ refused_at ss (visited l.phase.descend (at_numbers l.index l.number-items)))
    × IsBegun l.index l.phase l.listing
