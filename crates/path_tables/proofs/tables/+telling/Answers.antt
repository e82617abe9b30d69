use Rattle.std.proofs.Common.{◌≡◌, ◌∙◌, ◌+◌, IfOk, ap, arith, drop, refl, subst, sym}
use Rattle.std.proofs.lemmas.List.{drop_all}
use Rattle.std.proofs.lemmas.Result.{IfOk-from_err}
use Rattle.path_tables.proofs.Phased.{TellFirst, all_right_more, phases_onto, phases_onto-done, phases_onto-more, picks_onto, picks_onto-more, picks_onto-none, right_more, tell_all, tell_more}
use Rattle.path_plans.proofs.PlanRows.{test_view-AllOf, test_view-SomeOf}
use Rattle.path_plans.proofs.PlanValued.{plan_view-is}
use Rattle.path_plans.specs.PlanView.{choice_view, choices_view, plan_segments_view, term_view, test_view, tests_view}
use Rattle.path_plans.specs.Planned.{compared, not_that, step, there_is}
use Rattle.path_tables.specs.FilterTables.{AreAllRight, AreRight, IsRightFor, TellEach, TellsAll, phases_view, plan_in}
use Rattle.path_select.proofs.Trails.{drop_next}
use Rattle.path_tables.proofs.tables.+telling.Goals as goal

pub asked_of-returns-in_ok-told-in-SomeOf-clause-same : goal.asked_of-returns-in_ok-told-in-SomeOf-clause-same
asked_of-returns-in_ok-told-in-SomeOf-clause-same t c = sym (ap test_view c.in-SomeOf.is ∙ test_view-SomeOf c.in-SomeOf.parts)

pub asked_of-returns-in_ok-told-in-AllOf-clause-same : goal.asked_of-returns-in_ok-told-in-AllOf-clause-same
asked_of-returns-in_ok-told-in-AllOf-clause-same t c = sym (ap test_view c.in-AllOf.is ∙ test_view-AllOf c.in-AllOf.parts)

pub phases_of-returns-clause-same : goal.phases_of-returns-clause-same
phases_of-returns-clause-same t c =
    let l = c.loop-segment in
    let items = c.deref-segment-items.result.now in
    let is = plan_view-is c.args.plan.now ∙ ap plan_segments_view (sym c.deref-segment-items.ensures.value) in
    let none = drop_all l.segment-index items (omega arith) in
    sym (phases_onto-done l.phases.items) ∙ (rw none at l.invariant.0) ∙ sym is

pub told_each-loop-part-preserved : goal.told_each-loop-part-preserved
told_each-loop-part-preserved t c =
    let x = c.args.index.now in
    let l = c.loop-part in
    let items = c.deref-part-items.result.now in
    let rest = tests_view (drop (l.part-index + 1) items) in
    let here = drop_next items l.part-index c.part-item.result c.loop-part-test.true c.part-item.is in
    let so_far = subst (λ ts. TellFirst x (tests_view items) l.all.items (tests_view ts)) here l.invariant in
    subst (λ ws. TellFirst x (tests_view items) ws rest) (sym c.in_ok-push.ensures.items)
    (tell_more x (tests_view items) l.all.items (test_view c.part-item.result) rest c.in_ok-told_of.field-0 so_far c.in_ok-told_of.ensures)

pub told_each-returns : goal.told_each-returns
told_each-returns t c =
    let x = c.args.index.now in
    let l = c.loop-part in
    let items = c.deref-part-items.result.now in
    let none = drop_all l.part-index items (omega arith) in
    subst (λ ts. TellEach x (tests_view ts) l.all.items) c.deref-part-items.ensures.value
    (tell_all x (tests_view items) l.all.items (subst (λ ts. TellFirst x (tests_view items) l.all.items (tests_view ts)) none l.invariant))

pub asked_of-returns-in_err-told-in-SomeOf-clause-same : goal.asked_of-returns-in_err-told-in-SomeOf-clause-same
asked_of-returns-in_err-told-in-SomeOf-clause-same t c = IfOk-from_err c.from_residual.result _ c.from_residual.ensures.0

pub asked_of-returns-in_err-told-in-SomeOf-clause-right : goal.asked_of-returns-in_err-told-in-SomeOf-clause-right
asked_of-returns-in_err-told-in-SomeOf-clause-right t c = IfOk-from_err c.from_residual.result _ c.from_residual.ensures.0

pub asked_of-returns-in_err-told-in-AllOf-clause-same : goal.asked_of-returns-in_err-told-in-AllOf-clause-same
asked_of-returns-in_err-told-in-AllOf-clause-same t c = IfOk-from_err c.from_residual-in_err-told-in-AllOf.result _ c.from_residual-in_err-told-in-AllOf.ensures.0

pub asked_of-returns-in_err-told-in-AllOf-clause-right : goal.asked_of-returns-in_err-told-in-AllOf-clause-right
asked_of-returns-in_err-told-in-AllOf-clause-right t c = IfOk-from_err c.from_residual-in_err-told-in-AllOf.result _ c.from_residual-in_err-told-in-AllOf.ensures.0

pub asked_of-returns-in_err-told-in-NotThat-clause-same : goal.asked_of-returns-in_err-told-in-NotThat-clause-same
asked_of-returns-in_err-told-in-NotThat-clause-same t c = IfOk-from_err c.from_residual-in_err-told-in-NotThat.result _ c.from_residual-in_err-told-in-NotThat.ensures.0

pub asked_of-returns-in_err-told-in-NotThat-clause-right : goal.asked_of-returns-in_err-told-in-NotThat-clause-right
asked_of-returns-in_err-told-in-NotThat-clause-right t c = IfOk-from_err c.from_residual-in_err-told-in-NotThat.result _ c.from_residual-in_err-told-in-NotThat.ensures.0

pub asked_of-returns-in_err-phases_of-in-ThereIs-clause-same : goal.asked_of-returns-in_err-phases_of-in-ThereIs-clause-same
asked_of-returns-in_err-phases_of-in-ThereIs-clause-same t c = IfOk-from_err c.from_residual-in_err-phases_of-in-ThereIs.result _ c.from_residual-in_err-phases_of-in-ThereIs.ensures.0

pub asked_of-returns-in_err-phases_of-in-ThereIs-clause-right : goal.asked_of-returns-in_err-phases_of-in-ThereIs-clause-right
asked_of-returns-in_err-phases_of-in-ThereIs-clause-right t c = IfOk-from_err c.from_residual-in_err-phases_of-in-ThereIs.result _ c.from_residual-in_err-phases_of-in-ThereIs.ensures.0

pub asked_of-returns-in_err-sought_of-in-Compared-clause-same : goal.asked_of-returns-in_err-sought_of-in-Compared-clause-same
asked_of-returns-in_err-sought_of-in-Compared-clause-same t c = IfOk-from_err c.from_residual-in_err-sought_of-in-Compared.result _ c.from_residual-in_err-sought_of-in-Compared.ensures.0

pub asked_of-returns-in_err-sought_of-in-Compared-clause-right : goal.asked_of-returns-in_err-sought_of-in-Compared-clause-right
asked_of-returns-in_err-sought_of-in-Compared-clause-right t c = IfOk-from_err c.from_residual-in_err-sought_of-in-Compared.result _ c.from_residual-in_err-sought_of-in-Compared.ensures.0

pub asked_of-returns-in_err-sought_of-in-Compared-2-clause-same : goal.asked_of-returns-in_err-sought_of-in-Compared-2-clause-same
asked_of-returns-in_err-sought_of-in-Compared-2-clause-same t c = IfOk-from_err c.from_residual-in_err-sought_of-in-Compared-2.result _ c.from_residual-in_err-sought_of-in-Compared-2.ensures.0

pub asked_of-returns-in_err-sought_of-in-Compared-2-clause-right : goal.asked_of-returns-in_err-sought_of-in-Compared-2-clause-right
asked_of-returns-in_err-sought_of-in-Compared-2-clause-right t c = IfOk-from_err c.from_residual-in_err-sought_of-in-Compared-2.result _ c.from_residual-in_err-sought_of-in-Compared-2.ensures.0

pub phases_of-returns-in_err-phases-clause-right : goal.phases_of-returns-in_err-phases-clause-right
phases_of-returns-in_err-phases-clause-right t c = IfOk-from_err c.from_residual.result _ c.from_residual.ensures.0

pub phases_of-returns-in_err-phases-clause-same : goal.phases_of-returns-in_err-phases-clause-same
phases_of-returns-in_err-phases-clause-same t c = IfOk-from_err c.from_residual.result _ c.from_residual.ensures.0

pub phases_of-returns-in_err-picks_of-clause-right : goal.phases_of-returns-in_err-picks_of-clause-right
phases_of-returns-in_err-picks_of-clause-right t c = IfOk-from_err c.from_residual-in_err-picks_of.result _ c.from_residual-in_err-picks_of.ensures.0

pub phases_of-returns-in_err-picks_of-clause-same : goal.phases_of-returns-in_err-picks_of-clause-same
phases_of-returns-in_err-picks_of-clause-same t c = IfOk-from_err c.from_residual-in_err-picks_of.result _ c.from_residual-in_err-picks_of.ensures.0

pub phases_of-returns-in_err-push-clause-right : goal.phases_of-returns-in_err-push-clause-right
phases_of-returns-in_err-push-clause-right t c = IfOk-from_err c.from_residual-in_err-push.result _ c.from_residual-in_err-push.ensures.0

pub phases_of-returns-in_err-push-clause-same : goal.phases_of-returns-in_err-push-clause-same
phases_of-returns-in_err-push-clause-same t c = IfOk-from_err c.from_residual-in_err-push.result _ c.from_residual-in_err-push.ensures.0

pub picks_of-returns-in_err-picks-clause-right : goal.picks_of-returns-in_err-picks-clause-right
picks_of-returns-in_err-picks-clause-right t c = IfOk-from_err c.from_residual.result _ c.from_residual.ensures.0

pub picks_of-returns-in_err-picks-clause-same : goal.picks_of-returns-in_err-picks-clause-same
picks_of-returns-in_err-picks-clause-same t c = IfOk-from_err c.from_residual.result _ c.from_residual.ensures.0

pub picks_of-returns-in_err-told-clause-right : goal.picks_of-returns-in_err-told-clause-right
picks_of-returns-in_err-told-clause-right t c = IfOk-from_err c.from_residual-in_err-told.result _ c.from_residual-in_err-told.ensures.0

pub picks_of-returns-in_err-told-clause-same : goal.picks_of-returns-in_err-told-clause-same
picks_of-returns-in_err-told-clause-same t c = IfOk-from_err c.from_residual-in_err-told.result _ c.from_residual-in_err-told.ensures.0

pub picks_of-returns-in_err-push-clause-right : goal.picks_of-returns-in_err-push-clause-right
picks_of-returns-in_err-push-clause-right t c = IfOk-from_err c.from_residual-in_err-push.result _ c.from_residual-in_err-push.ensures.0

pub picks_of-returns-in_err-push-clause-same : goal.picks_of-returns-in_err-push-clause-same
picks_of-returns-in_err-push-clause-same t c = IfOk-from_err c.from_residual-in_err-push.result _ c.from_residual-in_err-push.ensures.0

pub sought_of-returns-in_err-phases : goal.sought_of-returns-in_err-phases
sought_of-returns-in_err-phases t c = IfOk-from_err c.from_residual.result _ c.from_residual.ensures.0

pub told_each-returns-in_err-all : goal.told_each-returns-in_err-all
told_each-returns-in_err-all t c = IfOk-from_err c.from_residual.result _ c.from_residual.ensures.0

pub told_each-returns-in_err-told_of : goal.told_each-returns-in_err-told_of
told_each-returns-in_err-told_of t c = IfOk-from_err c.from_residual-in_err-told_of.result _ c.from_residual-in_err-told_of.ensures.0

pub told_each-returns-in_err-push : goal.told_each-returns-in_err-push
told_each-returns-in_err-push t c = IfOk-from_err c.from_residual-in_err-push.result _ c.from_residual-in_err-push.ensures.0

pub told_of-returns-in_err-asked : goal.told_of-returns-in_err-asked
told_of-returns-in_err-asked t c = IfOk-from_err c.from_residual.result _ c.from_residual.ensures.0

pub asked_of-returns-then-not-goes_by_numbers-clause-same : goal.asked_of-returns-then-not-goes_by_numbers-clause-same
asked_of-returns-then-not-goes_by_numbers-clause-same t c = refl

pub asked_of-returns-then-not-goes_by_numbers-clause-right : goal.asked_of-returns-then-not-goes_by_numbers-clause-right
asked_of-returns-then-not-goes_by_numbers-clause-right t c = tt

pub asked_of-returns-then-not-side_goes_by_numbers-2-clause-same : goal.asked_of-returns-then-not-side_goes_by_numbers-2-clause-same
asked_of-returns-then-not-side_goes_by_numbers-2-clause-same t c = refl

pub asked_of-returns-then-not-side_goes_by_numbers-2-clause-right : goal.asked_of-returns-then-not-side_goes_by_numbers-2-clause-right
asked_of-returns-then-not-side_goes_by_numbers-2-clause-right t c = tt

pub asked_of-returns-in_default-clause-same : goal.asked_of-returns-in_default-clause-same
asked_of-returns-in_default-clause-same t c = refl

pub asked_of-returns-in_default-clause-right : goal.asked_of-returns-in_default-clause-right
asked_of-returns-in_default-clause-right t c = tt

pub asked_of-returns-in_ok-told-in-SomeOf-clause-right : goal.asked_of-returns-in_ok-told-in-SomeOf-clause-right
asked_of-returns-in_ok-told-in-SomeOf-clause-right t c = c.in_ok-told-in-SomeOf.ensures

pub asked_of-returns-in_ok-told-in-AllOf-clause-right : goal.asked_of-returns-in_ok-told-in-AllOf-clause-right
asked_of-returns-in_ok-told-in-AllOf-clause-right t c = c.in_ok-told-in-AllOf.ensures

pub asked_of-returns-in_ok-told-in-NotThat-clause-same : goal.asked_of-returns-in_ok-told-in-NotThat-clause-same
asked_of-returns-in_ok-told-in-NotThat-clause-same t c = ap (λ e. not_that (test_view e)) c.deref-in-NotThat.ensures ∙ ap test_view (sym c.in-NotThat.is)

pub asked_of-returns-in_ok-told-in-NotThat-clause-right : goal.asked_of-returns-in_ok-told-in-NotThat-clause-right
asked_of-returns-in_ok-told-in-NotThat-clause-right t c = subst (λ e. TellsAll c.args.index.now (test_view e) c.in_ok-told-in-NotThat.told) (c.deref.ensures ∙ sym c.deref-in-NotThat.ensures) c.in_ok-told-in-NotThat.ensures

pub asked_of-returns-in_ok-phases_of-in-ThereIs-clause-same : goal.asked_of-returns-in_ok-phases_of-in-ThereIs-clause-same
asked_of-returns-in_ok-phases_of-in-ThereIs-clause-same t c = ap there_is c.in_ok-phases_of-in-ThereIs.ensures.same ∙ ap test_view (sym c.in-ThereIs.is)

pub asked_of-returns-in_ok-phases_of-in-ThereIs-clause-right : goal.asked_of-returns-in_ok-phases_of-in-ThereIs-clause-right
asked_of-returns-in_ok-phases_of-in-ThereIs-clause-right t c = c.in_ok-phases_of-in-ThereIs.ensures.right

pub asked_of-returns-in_ok-sought_of-in-Compared-2-clause-same : goal.asked_of-returns-in_ok-sought_of-in-Compared-2-clause-same
asked_of-returns-in_ok-sought_of-in-Compared-2-clause-same t c =
    let op = c.in-Compared.op in
    ap (λ x. compared op x (term_view c.in_ok-sought_of-in-Compared-2.field-0.side.now)) c.in_ok-sought_of-in-Compared.ensures.1
    ∙ ap (λ x. compared op (term_view c.in-Compared.left) x) c.in_ok-sought_of-in-Compared-2.ensures.1
    ∙ ap test_view (sym c.in-Compared.is)

pub asked_of-returns-in_ok-sought_of-in-Compared-2-clause-right : goal.asked_of-returns-in_ok-sought_of-in-Compared-2-clause-right
asked_of-returns-in_ok-sought_of-in-Compared-2-clause-right t c = (c.in_ok-sought_of-in-Compared.ensures.0, c.in_ok-sought_of-in-Compared-2.ensures.0)

pub phases_in-returns-in-OnlyOf-clause-right : goal.phases_in-returns-in-OnlyOf-clause-right
phases_in-returns-in-OnlyOf-clause-right t c = c.phases_of.ensures.right

pub phases_in-returns-in-OnlyOf-clause-same : goal.phases_in-returns-in-OnlyOf-clause-same
phases_in-returns-in-OnlyOf-clause-same t c = subst (λ q. IfOk c.phases_of.result (λ ps. phases_view ps.items ≡ q)) (ap plan_in (sym c.in-OnlyOf.is)) c.phases_of.ensures.same

pub phases_in-returns-in-NumberOf-clause-right : goal.phases_in-returns-in-NumberOf-clause-right
phases_in-returns-in-NumberOf-clause-right t c = c.phases_of-in-NumberOf.ensures.right

pub phases_in-returns-in-NumberOf-clause-same : goal.phases_in-returns-in-NumberOf-clause-same
phases_in-returns-in-NumberOf-clause-same t c = subst (λ q. IfOk c.phases_of-in-NumberOf.result (λ ps. phases_view ps.items ≡ q)) (ap plan_in (sym c.in-NumberOf.is)) c.phases_of-in-NumberOf.ensures.same

pub phases_in-returns-in-SizeOf-clause-right : goal.phases_in-returns-in-SizeOf-clause-right
phases_in-returns-in-SizeOf-clause-right t c = c.phases_in.ensures.right

pub phases_in-returns-in-SizeOf-clause-same : goal.phases_in-returns-in-SizeOf-clause-same
phases_in-returns-in-SizeOf-clause-same t c = subst (λ q. IfOk c.phases_in.result (λ ps. phases_view ps.items ≡ q)) (ap plan_in c.deref.ensures ∙ ap plan_in (sym c.in-SizeOf.is)) c.phases_in.ensures.same

pub phases_in-returns-in_default-clause-right : goal.phases_in-returns-in_default-clause-right
phases_in-returns-in_default-clause-right t c = rw c.new.ensures.items tt

pub phases_of-loop-segment-init : goal.phases_of-loop-segment-init
phases_of-loop-segment-init t c = rw c.in_ok-phases.ensures.items (refl, tt)

pub phases_of-loop-segment-preserved : goal.phases_of-loop-segment-preserved
phases_of-loop-segment-preserved t c =
    let x = c.args.index.now in
    let l = c.loop-segment in
    let items = c.deref-segment-items.result.now in
    let rest = plan_segments_view (drop (l.segment-index + 1) items) in
    let here = drop_next items l.segment-index c.segment-item.result c.loop-segment-test.true c.segment-item.is in (
      ap (λ ps. phases_onto ps rest) c.in_ok-push.ensures.items ∙ phases_onto-more l.phases.items _ rest
          ∙ ap (λ cs. phases_onto l.phases.items (step c.segment-item.result.descend cs rest)) c.in_ok-picks_of.ensures.same
          ∙ sym (ap (λ xs. phases_onto l.phases.items (plan_segments_view xs)) here) ∙ l.invariant.0,
      subst (AreAllRight x) (sym c.in_ok-push.ensures.items) (all_right_more x l.phases.items _ l.invariant.1 c.in_ok-picks_of.ensures.right),
    )

pub phases_of-returns-clause-right : goal.phases_of-returns-clause-right
phases_of-returns-clause-right t c = c.loop-segment.invariant.1

pub picks_of-loop-choice-init : goal.picks_of-loop-choice-init
picks_of-loop-choice-init t c = rw c.in_ok-picks.ensures.items (refl, tt)

pub picks_of-loop-choice-preserved : goal.picks_of-loop-choice-preserved
picks_of-loop-choice-preserved t c =
    let x = c.args.index.now in
    let l = c.loop-choice in
    let items = c.deref-choice-items.result.now in
    let rest = choices_view (drop (l.choice-index + 1) items) in
    let here = drop_next items l.choice-index c.choice-item.result c.loop-choice-test.true c.choice-item.is in (
      ap (λ ps. picks_onto ps rest) c.in_ok-push.ensures.items ∙ picks_onto-more l.picks.items _ rest
          ∙ sym (ap (λ xs. picks_onto l.picks.items (choices_view xs)) here) ∙ l.invariant.0,
      subst (AreRight x) (sym c.in_ok-push.ensures.items) (right_more x l.picks.items _ l.invariant.1 c.in_ok-told.ensures),
    )

pub picks_of-returns-clause-right : goal.picks_of-returns-clause-right
picks_of-returns-clause-right t c = c.loop-choice.invariant.1

pub picks_of-returns-clause-same : goal.picks_of-returns-clause-same
picks_of-returns-clause-same t c =
    let l = c.loop-choice in
    let items = c.deref-choice-items.result.now in
    let none = drop_all l.choice-index items (omega arith) in
    sym (picks_onto-none l.picks.items) ∙ sym (ap (λ xs. picks_onto l.picks.items (choices_view xs)) none) ∙ l.invariant.0 ∙ ap choices_view c.deref-choice-items.ensures.value

pub sought_of-returns : goal.sought_of-returns
sought_of-returns t c = ((c.in_ok-phases.ensures.right, c.in_ok-phases.ensures.same), refl)

pub told_each-loop-part-init : goal.told_each-loop-part-init
told_each-loop-part-init t c = rw c.in_ok-all.ensures.items refl

pub told_if_filter-returns-in-Kept : goal.told_if_filter-returns-in-Kept
told_if_filter-returns-in-Kept t c = subst (λ s. IfOk c.told_of.result (IsRightFor c.args.index.now s)) (ap choice_view (sym c.in-Kept.is)) c.told_of.ensures

pub told_of-returns : goal.told_of-returns
told_of-returns t c = subst (λ e. IfOk c.told_by.result (TellsAll c.args.index.now e)) c.in_ok-asked.ensures.same c.told_by.ensures
