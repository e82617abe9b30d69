use Rattle.std.proofs.Common.{◌≡◌, ◌+◌, length, replicate, drop}
use Rattle.doc_tree.specs.TreeView.{elements_view, members_view}
use Rattle.schema_levels.specs.Searched.{AreSearched}
use Rattle.schema_pattern.specs.Tables.{sources}
use Rattle.judged_work.specs.Work.{elements_work, members_work}
use Rattle.judged_work.proofs.walk.+work.Given as goal

abbrev pub invariant-on_each_element-loop-index : goal.invariant-on_each_element-loop-index
invariant-on_each_element-loop-index l =
    (l.below ≡ replicate (length l.asked) 0)
    × (l.left + elements_work l.nodes l.asked 0 (elements_view l.items.items) ≡ l.fn.before + elements_work l.nodes l.asked l.index (elements_view (drop l.index l.item-items)))
    × AreSearched (sources l.searches) l.nodes × (sources l.searches ≡ sources l.fn.searches)

abbrev pub invariant-on_each_member-loop-name : goal.invariant-on_each_member-loop-name
invariant-on_each_member-loop-name l =
    goal.iterator-on_each_member-loop-name.can_next l.name-iterator ×
    goal.iterator-on_each_member-loop-name.is_finite l.name-iterator ×
    (l.below ≡ replicate (length l.asked) 0)
    × (l.left + members_work l.nodes l.asked (members_view l.members.entries) ≡ l.fn.before + members_work l.nodes l.asked (members_view l.name-iterator))
    × AreSearched (sources l.searches) l.nodes × (sources l.searches ≡ sources l.fn.searches)
