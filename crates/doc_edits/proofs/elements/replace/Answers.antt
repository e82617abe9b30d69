use Rattle.std.proofs.Common.{◌≡◌, ◌<◌, Some, sym, ap, ◌∙◌, refl, length, arith, get_or}
use Rattle.doc_tree.specs.Doc.{get_element}
use Rattle.doc_tree.specs.TreeView.{view, elements_view}
use Rattle.doc_edits.proofs.Indices.{index_in}
use Rattle.doc_edits.proofs.Leaves.{item_taken, item_replaced, item_not_replaced}
use Rattle.doc_edits.proofs.Missing.{as_missing}
use Rattle.doc_tree.proofs.Views.{get_element_within}
use Rattle.doc_edits.proofs.Grown.{replaced_item_size}
use Rattle.doc_edits.proofs.elements.replace.Goals as goal

pub returns-in-None-clause-made : goal.returns-in-None-clause-made
returns-in-None-clause-made c = as_missing c.of.result _ c.of.ensures.fault (item_not_replaced c.args.token.now c.args.items.now.items c.len.result (view c.args.value) (c.len.ensures ∙ c.args.items.now.ok.0) c.in-None.ensures.named)

pub returns-in-Some-clause-made : goal.returns-in-Some-clause-made
returns-in-Some-clause-made c = item_replaced c.args.token.now c.args.items.now.items _ c.len.result c.in-Some.index c.args.value c.replace.new.dest c.replace.ensures.after (c.len.ensures ∙ c.args.items.now.ok.0) c.in-Some.ensures.named refl

pub returns-in-Some-clause-sized : goal.returns-in-Some-clause-sized
returns-in-Some-clause-sized c =
    let len : c.len.result ≡ length c.args.items.now.items = c.len.ensures ∙ c.args.items.now.ok.0 in
    let below : c.in-Some.index < length c.args.items.now.items = omega (arith, len, c.in-Some.ensures.below) in
    let is : c.replace.result ≡ get_or c.args.items.now.items c.in-Some.index c.index_mut.result.now = c.replace.ensures.value ∙ c.index_mut.ensures.value in
    let at : get_element c.in-Some.index (elements_view c.args.items.now.items) ≡ Some (view c.replace.result) = sym (get_element_within c.args.items.now.items c.in-Some.index c.index_mut.result.now below) ∙ ap (λ x. Some (view x)) (sym is) in
    replaced_item_size c.args.token.now c.in-Some.index (view c.args.value) (view c.replace.result) (elements_view c.args.items.now.items) _ (returns-in-Some-clause-made c) (index_in c.args.token.now c.args.items.now.items c.len.result (Some c.in-Some.index) len c.in-Some.ensures.named) at

pub returns-in-Some-clause-taken : goal.returns-in-Some-clause-taken
returns-in-Some-clause-taken c =
    let taken = item_taken c.args.token.now c.args.items.now.items c.len.result c.in-Some.index c.index_mut.result.now (c.len.ensures ∙ c.args.items.now.ok.0) c.in-Some.ensures.named c.in-Some.ensures.below c.index_mut.ensures.value in
    ap (λ x. Some (view x)) c.replace.ensures.value ∙ sym taken
