use Rattle.std.proofs.Common.{◌≡◌, length, replicate, drop}
use Rattle.doc_tree.specs.TreeView.{elements_view, members_view}
use Rattle.schema_levels.specs.Table.{items_from, members_each}
use Rattle.schema_levels.specs.Counters.{width}
use Rattle.schema_levels.specs.Searched.{AreSearched}
use Rattle.schema_pattern.specs.Tables.{sources}
use Rattle.schema_levels.proofs.Counting.{Counting}
use Rattle.schema_levels.proofs.Folding.{Going}
use Rattle.schema_levels.proofs.levels.+levels.Given as goal

abbrev pub invariant-fold_each_item-loop-index : goal.invariant-fold_each_item-loop-index
invariant-fold_each_item-loop-index l =
    (length l.passed ≡ length l.asked) × (l.below_asked ≡ replicate (length l.asked) 0) × (length l.below_passed ≡ length l.asked) × (length l.found ≡ length l.asked) × (length l.counts ≡ width l.narrow (length l.counters.counted.items))
    × Going l.nodes l.asked l.fn.passed l.passed (items_from l.index (elements_view (drop l.index l.item-items))) (items_from 0 (elements_view l.items.items))
    × Counting l.nodes l.counters l.narrow l.asked l.found l.counts (elements_view (drop l.index l.item-items)) (elements_view l.items.items)
    × AreSearched (sources l.searches) l.nodes × (sources l.searches ≡ sources l.fn.searches)

abbrev pub invariant-fold_each_member-loop-name : goal.invariant-fold_each_member-loop-name
invariant-fold_each_member-loop-name l =
    goal.iterator-fold_each_member-loop-name.can_next l.name-iterator ×
    goal.iterator-fold_each_member-loop-name.is_finite l.name-iterator ×
    (length l.passed ≡ length l.asked) × (l.below_asked ≡ replicate (length l.asked) 0) × (length l.below_passed ≡ length l.asked)
    × Going l.nodes l.asked l.fn.passed l.passed (members_each (members_view l.name-iterator)) (members_each (members_view l.members.entries))
    × AreSearched (sources l.searches) l.nodes × (sources l.searches ≡ sources l.fn.searches)
