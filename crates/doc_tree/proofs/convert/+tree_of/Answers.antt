use Rattle.std.proofs.Common.{rules, ◌≡◌, [], ◌∷◌, ◌++◌, Some, option_map, option_and_then, sym, ap, ◌∙◌, subst}
use Rattle.std.proofs.lemmas.List.{nil_from_length}
use Rattle.std.proofs.lemmas.Str.{IsUtf8-string_bytes}
use Rattle.std.specs.String.{string_bytes}
use Rattle.std.specs.Vec.Iter.{into_iter_items}
use Rattle.serde_json.specs.View.{items_view, members_view as data_members}
use Rattle.doc_tree.specs.Doc.{element, member}
use Rattle.doc_tree.specs.Read.{elements_from, members_from}
use Rattle.doc_tree.specs.Sound.{IsSound, AreSound}
use Rattle.doc_tree.specs.TreeView.{view, elements_view}
use Rattle.doc_tree.proofs.Soundness.{AllSound, AllSound-push, AreSound-push, MembersAreSound-members_view}
use Rattle.doc_tree.proofs.Views.{Entry, view-Text}
use Rattle.doc_tree.proofs.Conversion.{elements_before, elements_before-none, one_more_element, members_before, members_before-none, one_more_member}
use Rattle.doc_tree.proofs.convert.+tree_of.Goals as goal

pub elements_of-loop-item-preserved : goal.elements_of-loop-item-preserved
elements_of-loop-item-preserved t c =
    let found = c.loop-item.found.items in
    let tree = c.in_ok-tree.tree in
    let left = elements_from (items_view (into_iter_items c.next.new.self)) in
    let step = ap (λ vs. elements_from (items_view vs)) c.in-Some.ensures.steps.0 ∙ ap (option_and_then (λ e. option_map (element e) left)) c.in_ok-tree.ensures.document in (
      tt,
      tt,
      c.loop-item.invariant.2 ∙ ap (option_map (elements_before found)) step ∙ one_more_element found tree left
          ∙ ap (λ ts. option_map (elements_before ts) left) (sym c.in_ok-push.ensures.items),
      subst (λ ts. AreSound (elements_view ts)) (sym c.in_ok-push.ensures.items) (AreSound-push found tree c.loop-item.invariant.3 c.in_ok-tree.ensures.sound),
    )

pub elements_of-returns-clause-elements : goal.elements_of-returns-clause-elements
elements_of-returns-clause-elements t c =
    let found = c.loop-item.found.items in
    let none : into_iter_items c.loop-item.item-iterator ≡ [] = nil_from_length _ (sym c.loop-item.item-iterator.rest.ok.0 ∙ c.in-None.ensures.steps.0) in
    c.loop-item.invariant.2 ∙ ap (λ vs. option_map (elements_before found) (elements_from (items_view vs))) none ∙ ap Some (elements_before-none found)

pub members_of-loop-name-preserved : goal.members_of-loop-name-preserved
members_of-loop-name-preserved t c =
    let l = c.loop-name in
    let found = l.found.entries in
    let name = c.in-Some.name in
    let tree = c.in_ok-tree.tree in
    let e : Entry = (c.in_ok-key.key, tree) in
    let left = members_from (data_members c.next.new.self) in
    let now : c.add_last.new.self.entries ≡ found ++ e ∷ [] = search rules in
    let step = ap (λ ms. members_from (data_members ms)) c.in-Some.ensures.steps ∙ ap (option_and_then (λ d. option_map (member (string_bytes name) d) left)) c.in_ok-tree.ensures.document in
    let renamed = ap (λ k. option_map (member k (view tree)) left) (sym (c.in_ok-key.ensures ∙ c.as_str-in-loop-name.ensures.value)) in (
      tt,
      tt,
      c.add_last.ensures.ordered,
      l.invariant.3 ∙ ap (option_map (members_before found)) (step ∙ renamed) ∙ one_more_member found e left
          ∙ ap (λ es. option_map (members_before es) left) (sym now),
      subst AllSound (sym now) (AllSound-push found e l.invariant.4 c.in_ok-tree.ensures.sound),
    )

pub members_of-returns-clause-members : goal.members_of-returns-clause-members
members_of-returns-clause-members t c =
    let found = c.loop-name.found.entries in
    c.loop-name.invariant.3 ∙ ap (λ vs. option_map (members_before found) (members_from (data_members vs))) c.in-None.ensures.steps.0 ∙ ap Some (members_before-none found)

pub members_of-returns-clause-sound : goal.members_of-returns-clause-sound
members_of-returns-clause-sound t c = MembersAreSound-members_view c.loop-name.found.entries c.loop-name.invariant.2 c.loop-name.invariant.4

pub tree_of-returns-in-String-clause-sound : goal.tree_of-returns-in-String-clause-sound
tree_of-returns-in-String-clause-sound t c = subst IsSound (sym (view-Text c.in-String.text)) (IsUtf8-string_bytes c.in-String.text)
