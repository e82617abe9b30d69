use Rattle.std.proofs.Common.{◌≡◌, ◌+◌, drop}
use Rattle.doc_tree.specs.TreeView.{elements_view, members_view}
use Rattle.judged_work.specs.Sizes.{elements_size, members_size}
use Rattle.judged_work.proofs.sizes.+whole.Given as goal

abbrev pub invariant-spend_elements-loop-item : goal.invariant-spend_elements-loop-item
invariant-spend_elements-loop-item l = l.left + elements_size (elements_view l.items.items) ≡ l.fn.before + elements_size (elements_view (drop l.item-index l.items.items))

abbrev pub invariant-spend_members-loop-name : goal.invariant-spend_members-loop-name
invariant-spend_members-loop-name l =
    goal.iterator-spend_members-loop-name.can_next l.name-iterator ×
    goal.iterator-spend_members-loop-name.is_finite l.name-iterator ×
    (l.left + members_size (members_view l.members.entries) ≡ l.fn.before + members_size (members_view l.name-iterator))
