use Rattle.std.proofs.Common.{◌≡◌, ◌++◌, drop, flat_map}
use Rattle.doc_tree.specs.Doc.{height}
use Rattle.path_select.specs.Indexed.{at_number, at_numbers, children_at}
use Rattle.path_select.proofs.Numbered.{below_of}
use Rattle.path_select.proofs.numbered_below.+and_below.Given as goal

abbrev pub decreases-and_below : goal.decreases-and_below
decreases-and_below l = height (at_number l.index.now l.number).1

abbrev pub invariant-loop-place : goal.invariant-loop-place
invariant-loop-place l =
    let u = at_number l.index l.number in
    at_numbers l.index l.all.items ++ flat_map below_of (drop l.place (children_at u))
    ≡ at_numbers l.index l.initial.all.items ++ flat_map below_of (children_at u)
