use Rattle.std.proofs.Common.{List, ◌<◌, ◌≤◌, length, get_or, refl, sym, ap, subst, ◌∙◌, arith}
use Rattle.doc_edits.specs.declared.operation.Operation.{Operation}
use Rattle.doc_patch.proofs.Single.{after_first, after_test, at_end, count_end, count_first, count_test}
use Rattle.doc_patch.proofs.patch.Patch.only_change.Goals as goal
use Rattle.doc_patch.proofs.patch.Patch.only_change.Goals.{then-may_change+else-is_some, else-may_change}

pub loop-operation-preserved : goal.loop-operation-preserved
loop-operation-preserved c =
    let items = c.args.self.now.operations.items in
    let i = c.loop-operation.operation-index in
    let view = c.deref-operation-items.ensures.value in
    let less : i < length items = subst (λ (l : List Operation). i < length l) view c.loop-operation-test.true in
    let is = c.operation-item.is ∙ ap (λ (l : List Operation). get_or l i c.operation-item.result) view in
    let before = c.loop-operation.invariant in
    elim c.if-may_change.branch [
      | then-may_change+else-is_some w ↦ (
        λ d e h. after_first items i _ c.loop-operation.found c.if-may_change.found _ c.operation-item.result d e (omega arith) less is (sym w.is_some.ensures ∙ w.if-is_some.false) w.found-is refl (before.0 d e h),
        count_first items i _ c.loop-operation.found c.if-may_change.found _ c.operation-item.result (omega arith) less is (sym c.may_change.ensures ∙ w.if-may_change.true) (sym w.is_some.ensures ∙ w.if-is_some.false) w.found-is before.1,
      )
      | else-may_change w ↦ (
        λ d e h. rw w.found-is (after_test items i _ c.loop-operation.found c.operation-item.result d e (omega arith) less is (sym c.may_change.ensures ∙ w.if-may_change.false) (before.0 d e h)),
        rw w.found-is (count_test items i _ c.loop-operation.found c.operation-item.result (omega arith) less is (sym c.may_change.ensures ∙ w.if-may_change.false) before.1),
      )
    ]

pub returns-clause-some : goal.returns-clause-some
returns-clause-some c =
    let items = c.args.self.now.operations.items in
    let i = c.loop-operation.operation-index in
    at_end items i c.loop-operation.found (subst (λ (l : List Operation). length l ≤ i) c.deref-operation-items.ensures.value c.loop-operation-test.false) c.loop-operation.invariant.0

pub returns-clause-none : goal.returns-clause-none
returns-clause-none c =
    let items = c.args.self.now.operations.items in
    let i = c.loop-operation.operation-index in
    count_end items i c.loop-operation.found (subst (λ (l : List Operation). length l ≤ i) c.deref-operation-items.ensures.value c.loop-operation-test.false) c.loop-operation.invariant.1
