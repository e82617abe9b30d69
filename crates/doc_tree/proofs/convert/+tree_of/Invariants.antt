use Rattle.std.proofs.Common.{◌≡◌, option_map}
use Rattle.std.specs.List.Sorted.{IsStrictlySortedBy}
use Rattle.std.specs.Map.{keys_of}
use Rattle.std.specs.Vec.Iter.{into_iter_items}
use Rattle.serde_json.specs.View.{items_view, members_view}
use Rattle.std.specs.String.{string_cmp}
use Rattle.doc_tree.specs.Read.{elements_from, members_from}
use Rattle.doc_tree.specs.Sound.{AreSound}
use Rattle.doc_tree.specs.TreeView.{elements_view}
use Rattle.doc_tree.proofs.Conversion.{elements_before, members_before}
use Rattle.doc_tree.proofs.Soundness.{AllSound}
use Rattle.doc_tree.proofs.convert.+tree_of.Given as goal

-- what was found stands before what is left
abbrev pub invariant-elements_of-loop-item : goal.invariant-elements_of-loop-item
invariant-elements_of-loop-item l =
    (goal.iterator-elements_of-loop-item).can_next l.item-iterator ×
    (goal.iterator-elements_of-loop-item).is_finite l.item-iterator ×
    (elements_from (items_view l.fn.items.items) ≡ option_map (elements_before l.found.items) (elements_from (items_view (into_iter_items l.item-iterator)))) ×
    AreSound (elements_view l.found.items)

abbrev pub invariant-members_of-loop-name : goal.invariant-members_of-loop-name
invariant-members_of-loop-name l =
    (goal.iterator-members_of-loop-name).can_next l.name-iterator ×
    (goal.iterator-members_of-loop-name).is_finite l.name-iterator ×
    IsStrictlySortedBy string_cmp (keys_of l.found.entries)
    × (members_from (members_view l.fn.members.entries) ≡ option_map (members_before l.found.entries) (members_from (members_view l.name-iterator)))
    × AllSound l.found.entries
