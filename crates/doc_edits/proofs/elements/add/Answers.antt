use Rattle.std.proofs.Common.{sym, ◌∙◌, refl, arith}
use Rattle.doc_tree.specs.TreeView.{view, elements_view}
use Rattle.doc_edits.proofs.Leaves.{item_appended, item_added, item_not_added}
use Rattle.doc_edits.proofs.Grown.{added_item_size}
use Rattle.doc_edits.proofs.Missing.{as_missing}
use Rattle.doc_edits.proofs.elements.add.Goals as goal

pub returns-then-eq-clause-made : goal.returns-then-eq-clause-made
returns-then-eq-clause-made c = item_appended c.args.token.now c.args.items.now.items _ c.args.value (sym c.eq.ensures ∙ c.if-eq.true) c.in_ok-push.ensures.items

pub returns-in-None-clause-made : goal.returns-in-None-clause-made
returns-in-None-clause-made c = as_missing c.of.result _ c.of.ensures.fault (item_not_added c.args.token.now c.args.items.now.items _ (view c.args.value) (sym c.eq.ensures ∙ c.if-eq.false) (omega (arith, c.len.ensures, c.args.items.now.ok.0)) c.in-None.ensures.named)

pub returns-clause-made : goal.returns-clause-made
returns-clause-made c = item_added c.args.token.now c.args.items.now.items _ _ c.in-Some.index c.args.value (sym c.eq.ensures ∙ c.if-eq.false) (omega (arith, c.len.ensures, c.args.items.now.ok.0)) c.in-Some.ensures.named c.in-Some.ensures.below c.in_ok-insert-in-Some.ensures.items

pub returns-then-eq-clause-sized : goal.returns-then-eq-clause-sized
returns-then-eq-clause-sized c =
    let s = added_item_size c.args.token.now (view c.args.value) (elements_view c.args.items.now.items) _ _ (returns-then-eq-clause-made c) (sym c.comma_beside.ensures) in
    (c.comma_beside.result, refl, s.0, s.1)

pub returns-clause-sized : goal.returns-clause-sized
returns-clause-sized c =
    let s = added_item_size c.args.token.now (view c.args.value) (elements_view c.args.items.now.items) _ _ (returns-clause-made c) (sym c.comma_beside.ensures) in
    (c.comma_beside.result, refl, s.0, s.1)
