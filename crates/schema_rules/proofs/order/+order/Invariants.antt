use Rattle.std.proofs.Common.{◌≡◌, drop}
use Rattle.std.specs.Slice.Iter.{iter_rest}
use Rattle.doc_tree.specs.TreeView.{elements_view, members_view}
use Rattle.schema_rules.specs.Order.{elements_cmp, members_cmp}
use Rattle.schema_rules.proofs.order.+order.Given as goal

-- what is left of the two stands as all of the two does
abbrev pub invariant-compare_elements-loop-element : goal.invariant-compare_elements-loop-element
invariant-compare_elements-loop-element l =
    (goal.iterator-compare_elements-loop-element).can_next l.others ×
    (goal.iterator-compare_elements-loop-element).is_finite l.others ×
    (elements_cmp (elements_view (drop l.element-index l.element-items)) (elements_view (iter_rest l.others)) ≡ elements_cmp (elements_view l.element-items) (elements_view (iter_rest l.initial.others)))

abbrev pub invariant-compare_members-loop-name : goal.invariant-compare_members-loop-name
invariant-compare_members-loop-name l =
    (goal.iterator-compare_members-loop-name).can_next l.name-iterator ×
    (goal.iterator-compare_members-loop-name).is_finite l.name-iterator ×
    (members_cmp (members_view l.name-iterator) (members_view l.others) ≡ members_cmp (members_view l.initial.name-iterator) (members_view l.initial.others))
