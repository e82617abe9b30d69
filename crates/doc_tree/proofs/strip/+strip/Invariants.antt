use Rattle.std.proofs.Common.{◌≡◌, ℕ, List, ◌++◌, drop, false}
use Rattle.doc_tree.specs.Text.{elements_text, members_text_of}
use Rattle.doc_tree.specs.TreeView.{elements_view, members_view}
use Rattle.doc_tree.proofs.strip.+strip.Given as goal

-- whatever follows the rest of the text here follows the whole text there
abbrev pub invariant-after_elements-loop-item : goal.invariant-after_elements-loop-item
invariant-after_elements-loop-item l =
    (more : List ℕ) → l.rest ≡ elements_text l.later (elements_view (drop l.item-index l.item-items)) ++ more
    → l.initial.rest ≡ elements_text false (elements_view l.item-items) ++ more

abbrev pub invariant-after_members-loop-name : goal.invariant-after_members-loop-name
invariant-after_members-loop-name l =
    (more : List ℕ) → l.rest ≡ members_text_of l.later (members_view l.name-iterator) ++ more
    → l.initial.rest ≡ members_text_of false (members_view l.initial.name-iterator) ++ more
