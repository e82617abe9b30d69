use Rattle.std.proofs.Common.{◌≡◌, ◌<◌, Some, sym, ap, ◌∙◌, refl, length, arith}
use Rattle.doc_tree.specs.Doc.{get_element}
use Rattle.doc_tree.specs.TreeView.{view, elements_view}
use Rattle.doc_edits.proofs.Indices.{index_in}
use Rattle.doc_edits.proofs.Leaves.{item_taken, item_removed, item_not_removed}
use Rattle.doc_edits.proofs.Missing.{as_missing}
use Rattle.doc_tree.proofs.Views.{get_element_within}
use Rattle.doc_edits.proofs.Grown.{removed_item_size}
use Rattle.doc_edits.proofs.elements.remove.Goals as goal

pub returns-in-None-clause-made : goal.returns-in-None-clause-made
returns-in-None-clause-made c = as_missing c.nothing.result _ c.nothing.ensures.fault (item_not_removed c.args.token.now c.args.items.now.items c.len.result (c.len.ensures ∙ c.args.items.now.ok.0) c.in-None.ensures.named)

pub returns-in-Some-clause-made : goal.returns-in-Some-clause-made
returns-in-Some-clause-made c = item_removed c.args.token.now c.args.items.now.items _ c.len.result c.in-Some.index (c.len.ensures ∙ c.args.items.now.ok.0) c.in-Some.ensures.named c.in-Some.ensures.below c.remove.ensures.items

pub returns-in-Some-clause-taken : goal.returns-in-Some-clause-taken
returns-in-Some-clause-taken c = sym (item_taken c.args.token.now c.args.items.now.items c.len.result c.in-Some.index c.remove.result (c.len.ensures ∙ c.args.items.now.ok.0) c.in-Some.ensures.named c.in-Some.ensures.below c.remove.ensures.value)

pub returns-in-Some-clause-sized : goal.returns-in-Some-clause-sized
returns-in-Some-clause-sized c =
    let len : c.len.result ≡ length c.args.items.now.items = c.len.ensures ∙ c.args.items.now.ok.0 in
    let below : c.in-Some.index < length c.args.items.now.items = omega (arith, len, c.in-Some.ensures.below) in
    let at : get_element c.in-Some.index (elements_view c.args.items.now.items) ≡ Some (view c.remove.result) =
    sym (get_element_within c.args.items.now.items c.in-Some.index c.remove.result below) ∙ ap (λ x. Some (view x)) (sym c.remove.ensures.value) in
    let s = removed_item_size c.args.token.now c.in-Some.index (view c.remove.result) (elements_view c.args.items.now.items) _ _ (returns-in-Some-clause-made c)
    (index_in c.args.token.now c.args.items.now.items c.len.result (Some c.in-Some.index) len c.in-Some.ensures.named) at (sym c.comma_beside.ensures) in
    (c.comma_beside.result, refl, s)
