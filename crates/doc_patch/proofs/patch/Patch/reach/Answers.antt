use Rattle.std.proofs.Common.{◌∙◌, ◌<◌, ◌≤◌, List, get_or, ap, subst, length, arith}
use Rattle.doc_edits.specs.declared.operation.Operation.{Operation}
use Rattle.doc_patch.specs.Meaning.{meanings}
use Rattle.doc_patch.specs.Within.{Unchanging}
use Rattle.doc_patch.proofs.Fronts.{ends, ends_longest, ends_without, holder_next}
use Rattle.doc_patch.proofs.Within.{unchanged}
use Rattle.doc_patch.proofs.patch.Patch.reach.Goals as goal

pub loop-operation-preserved : goal.loop-operation-preserved
loop-operation-preserved c =
    let items = c.args.self.now.operations.items in
    let i = c.loop-operation.operation-index in
    let e = c.deref-operation-items.ensures.value in
    holder_next _ c.loop-operation.found items i _ c.operation-item.result (omega arith) (subst (λ (l : List Operation). i < length l) e c.loop-operation-test.true) (c.operation-item.is ∙ ap (λ (l : List Operation). get_or l i c.operation-item.result) e) c.narrowed-found.ensures c.loop-operation.invariant

pub returns-clause-some : goal.returns-clause-some
returns-clause-some c =
    let i = c.loop-operation.operation-index in
    ends c.args.self.now.operations.items i c.loop-operation.found (subst (λ (l : List Operation). length l ≤ i) c.deref-operation-items.ensures.value c.loop-operation-test.false) c.loop-operation.invariant

pub returns-clause-longest : goal.returns-clause-longest
returns-clause-longest c =
    let i = c.loop-operation.operation-index in
    ends_longest c.args.self.now.operations.items i c.loop-operation.found (subst (λ (l : List Operation). length l ≤ i) c.deref-operation-items.ensures.value c.loop-operation-test.false) c.loop-operation.invariant

pub returns-clause-none : goal.returns-clause-none
returns-clause-none c =
    let items = c.args.self.now.operations.items in
    let i = c.loop-operation.operation-index in
    ends_without items i c.loop-operation.found (subst (λ (l : List Operation). length l ≤ i) c.deref-operation-items.ensures.value c.loop-operation-test.false) c.loop-operation.invariant
    (Unchanging (meanings items)) (unchanged (meanings items))
