use Rattle.std.proofs.Common.{◌≡◌, length, map}
use Rattle.doc_tree.specs.Lists.{elements_list}
use Rattle.doc_tree.specs.TreeView.{view, elements_view}
use Rattle.schema_rules.specs.Order.{rise, at_place}
use Rattle.schema_rules.proofs.distinct.rise.Given as goal

abbrev pub invariant-pairs : goal.invariant-pairs
invariant-pairs l =
    rise (map (at_place (elements_list (elements_view l.items)) (view l.first)) l.rest) ≡ rise (map (at_place (elements_list (elements_view l.items)) (view l.first)) l.places)

abbrev pub decreases-pairs : goal.decreases-pairs
decreases-pairs l = length l.rest
