use Rattle.std.proofs.Common.{◌≡◌, ◌++◌, ◌+◌, ◌*◌, drop, true}
use Rattle.doc_tree.specs.Doc.{height}
use Rattle.path_tables.specs.FilterTables.{picks_view}
use Rattle.path_tables.specs.Visiting.{refused_at, selected_at}
use Rattle.path_tables.specs.Visits.{IsBegun}
use Rattle.path_select.specs.Indexed.{at_number, at_numbers, children_at}
use Rattle.path_select.specs.Nodes.{visited}
use Rattle.path_tables.proofs.by_number.+visiting.Given as goal

abbrev pub decreases-and_node : goal.decreases-and_node
decreases-and_node l = 4 * height (at_number l.index.now l.number).1 + 3

abbrev pub decreases-and_noted : goal.decreases-and_noted
decreases-and_noted l = 4 * height (at_number l.index.now l.number).1 + 2

abbrev pub decreases-and_visited : goal.decreases-and_visited
decreases-and_visited l = 4 * height (at_number l.index.now l.number).1 + 1

abbrev pub decreases-and_below : goal.decreases-and_below
decreases-and_below l = 4 * height (at_number l.index.now l.number).1

abbrev pub invariant-and_below-loop-place : goal.invariant-and_below-loop-place
invariant-and_below-loop-place l =
    let ss = picks_view l.phase.picks.items in
    let us = children_at (at_number l.index l.number) in
    (at_numbers l.index l.listing.found.items ++ selected_at ss (visited true (drop l.place us)) ≡ at_numbers l.index l.initial.listing.found.items ++ selected_at ss (visited true us))
    × (refused_at ss (visited true (drop l.place us)) ≡ refused_at ss (visited true us))
    × IsBegun l.index l.phase l.listing
