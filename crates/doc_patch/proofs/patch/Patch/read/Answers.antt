use Rattle.std.proofs.Common.{◌≡◌, ◌<◌, suc, ◌+◌, arith, ◌∷◌, drop, drop-cons, length, Ok, inr, append-nil, refl, sym, ap, ◌∙◌, subst, rules}
use Rattle.std.proofs.lemmas.List.{drop_all, map_push}
use Rattle.doc_tree.specs.Doc.{list}
use Rattle.doc_tree.specs.TreeView.{view, elements_view}
use Rattle.doc_tree.proofs.Views.{view-List}
use Rattle.doc_patch.specs.Fault.{IsFaultOf, no_memory}
use Rattle.doc_edits.specs.Meaning.{meaning}
use Rattle.doc_patch.specs.Meaning.{meanings}
use Rattle.doc_patch.specs.Reading.{operations_of, operations_from}
use Rattle.doc_edits.proofs.Missing.{refused_same}
use Rattle.doc_patch.proofs.Operations.{prepended, read_of_list, read_one, unread_in}
use Rattle.doc_patch.proofs.patch.Patch.read.Goals as goal

pub returns-in-Err-clause-read : goal.returns-in-Err-clause-read
returns-in-Err-clause-read c =
    let less : c.loop-index.index < length c.deref-item-items.result.now = search rules in
    let here = unread_in c.loop-index.index (meanings c.loop-index.operations.items) c.deref-item-items.result.now c.item-item.result c.in-Err.fault c.of.result less c.item-item.is c.in-Err.ensures c.of.ensures in
    let is : view c.args.tree.now ≡ list (elements_view c.deref-item-items.result.now) = ap view c.in-List.is ∙ view-List c.in-List.items ∙ ap (λ ts. list (elements_view ts)) (sym c.deref-item-items.ensures.value) in
    subst (λ r. IsFaultOf r c.of.result) (c.loop-index.invariant ∙ sym (read_of_list (view c.args.tree.now) (elements_view c.deref-item-items.result.now) (sym c.is_over_limits.ensures.judged ∙ c.if-is_over_limits.false) is)) here

pub returns-in_err-push-in-Ok-clause-read : goal.returns-in_err-push-in-Ok-clause-read
returns-in_err-push-in-Ok-clause-read c = refused_same c.from_residual.result no_memory _ (IsFaultOf (operations_of (view c.args.tree.now))) (inr refl) c.from_residual.ensures.1

pub loop-index-preserved : goal.loop-index-preserved
loop-index-preserved c =
    let i = c.loop-index.index in
    let os = c.loop-index.operations.items in
    let items = c.deref-item-items.result.now in
    let left : drop i items ≡ c.item-item.result ∷ drop (suc i) items = drop-cons items i c.item-item.result c.loop-index-test.true ∙ ap (λ x. x ∷ drop (suc i) items) (sym c.item-item.is) in
    let next : i + 1 ≡ suc i = omega arith in
    ap (λ n. prepended (meanings c.push.new.self.items) (operations_from n (elements_view (drop n items)))) next
    ∙ ap (λ l. prepended (meanings l) (operations_from (suc i) (elements_view (drop (suc i) items)))) c.in_ok-push-in-Ok.ensures.items
    ∙ ap (λ l. prepended l (operations_from (suc i) (elements_view (drop (suc i) items)))) (map_push meaning os c.in-Ok.operation)
    ∙ read_one i (meanings os) (meaning c.in-Ok.operation) (view c.item-item.result) (elements_view (drop (suc i) items)) c.in-Ok.ensures
    ∙ ap (λ l. prepended (meanings os) (operations_from i (elements_view l))) (sym left)
    ∙ c.loop-index.invariant

pub returns-clause-read : goal.returns-clause-read
returns-clause-read c =
    let i = c.loop-index.index in
    let os = c.loop-index.operations.items in
    let items = c.deref-item-items.result.now in
    let is : view c.args.tree.now ≡ list (elements_view items) = ap view c.in-List.is ∙ view-List c.in-List.items ∙ ap (λ ts. list (elements_view ts)) (sym c.deref-item-items.ensures.value) in
    read_of_list (view c.args.tree.now) (elements_view items) (sym c.is_over_limits.ensures.judged ∙ c.if-is_over_limits.false) is
    ∙ sym c.loop-index.invariant
    ∙ ap (λ l. prepended (meanings os) (operations_from i (elements_view l))) (drop_all i items c.loop-index-test.false)
    ∙ ap Ok (append-nil (meanings os))
