use Rattle.std.proofs.Common.{◌<◌, ◌≤◌, Some, None, sym, ap, ◌∙◌, arith}
use Rattle.doc_tree.specs.TreeView.{view, elements_view}
use Rattle.doc_edits.specs.Edit.{elements_len}
use Rattle.doc_edits.proofs.Indices.{elements_len-view, index_to_end}
use Rattle.doc_edits.proofs.Missing.{as_missing}
use Rattle.doc_edits.proofs.Rooms.{item_full, item_nowhere, item_fits}
use Rattle.doc_edits.proofs.Views.{elements_view-insert}
use Rattle.doc_edits.proofs.elements.put_in.Goals as goal

pub returns-then-len-clause-made : goal.returns-then-len-clause-made
returns-then-len-clause-made c =
    let items = c.args.items.now.items in
    let full : c.in-Elements.room ≤ elements_len (elements_view items) = omega (arith, c.if-len.true, c.len.ensures, c.args.items.now.ok.0, c.len-2.ensures, elements_len-view items) in
    as_missing c.of-then-len.result _ c.of-then-len.ensures.fault (item_full c.args.spare c.in-Elements.room (view c.args.value) c.args.token.now (elements_view items) c.in-Elements.is full)

pub returns-in-None-clause-made : goal.returns-in-None-clause-made
returns-in-None-clause-made c =
    let items = c.args.items.now.items in
    let room : elements_len (elements_view items) < c.in-Elements.room = omega (arith, c.if-len.false, c.len.ensures, c.args.items.now.ok.0, c.len-2.ensures, elements_len-view items) in
    let none = index_to_end c.args.token.now items _ None (omega (arith, c.len-3.ensures, c.args.items.now.ok.0)) c.in-None.ensures.named in
    as_missing c.of-in-None.result _ c.of-in-None.ensures.fault (item_nowhere c.args.spare c.in-Elements.room (view c.args.value) c.args.token.now (elements_view items) c.in-Elements.is room none)

pub returns-in-Some-clause-made : goal.returns-in-Some-clause-made
returns-in-Some-clause-made c =
    let items = c.args.items.now.items in
    let room : elements_len (elements_view items) < c.in-Elements.room = omega (arith, c.if-len.false, c.len.ensures, c.args.items.now.ok.0, c.len-2.ensures, elements_len-view items) in
    let at = index_to_end c.args.token.now items _ (Some c.in-Some.index) (omega (arith, c.len-3.ensures, c.args.items.now.ok.0)) c.in-Some.ensures.named in
    item_fits c.args.spare c.in-Elements.room c.in-Some.index (view c.args.value) c.args.token.now (elements_view items) _ c.in-Elements.is room at
    (elements_view-insert items c.in-Some.index c.args.value (omega (arith, c.in-Some.ensures.below, c.len-3.ensures, c.args.items.now.ok.0)) ∙ ap (λ xs. Some (elements_view xs)) (sym c.put_item_in.ensures))
