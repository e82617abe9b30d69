use Rattle.std.proofs.Common.{◌≡◌, ◌++◌, drop, false}
use Rattle.doc_tree.specs.Sound.{AreSound}
use Rattle.doc_tree.specs.Text.{elements_text, members_text_of}
use Rattle.doc_tree.specs.TreeView.{elements_view, members_view}
use Rattle.doc_tree.proofs.Soundness.{AllSound}
use Rattle.doc_tree.proofs.put.+put.Given as goal

-- with the text of what is left it is the whole text, and if what is left is sound, all is
abbrev pub invariant-put_elements-loop-item : goal.invariant-put_elements-loop-item
invariant-put_elements-loop-item l =
    (l.out.items ++ elements_text l.later (elements_view (drop l.item-index l.item-items)) ≡ l.initial.out.items ++ elements_text false (elements_view l.item-items))
    × (AreSound (elements_view (drop l.item-index l.item-items)) → AreSound (elements_view l.item-items))

abbrev pub invariant-put_members-loop-name : goal.invariant-put_members-loop-name
invariant-put_members-loop-name l =
    (l.out.items ++ members_text_of l.later (members_view l.name-iterator) ≡ l.initial.out.items ++ members_text_of false (members_view l.initial.name-iterator))
    × (AllSound l.name-iterator → AllSound l.members.entries)
