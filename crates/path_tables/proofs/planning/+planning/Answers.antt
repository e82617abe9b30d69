use Rattle.std.proofs.Common.{◌≡◌, ◌+◌, ◌∙◌, IfOk, ap, subst, sym, drop, arith}
use Rattle.std.proofs.lemmas.List.{drop_all}
use Rattle.std.proofs.lemmas.Result.{IfOk-from_err}
use Rattle.doc_tree.specs.TreeView.{view}
use Rattle.path_parse.proofs.Rows.{expression_view-And, expression_view-Or}
use Rattle.path_parse.specs.SyntaxView.{expression_view, expressions_view, operand_view, query_view, segments_view, selectors_view, source_query, source_root}
use Rattle.path_plans.specs.PlanView.{plan_view, term_view, test_view}
use Rattle.path_plans.specs.Planned.{all_of, choice, compared_once, not_that, plan, plan_choices, plan_side, plan_test, plan_tests, some_of, step, test}
use Rattle.path_tables.proofs.Made.{choices_onto, choices_onto-more, choices_onto-none, found_kept, single_side, plan_segments_onto, plan_segments_onto-done, plan_segments_onto-more, tests_onto, tests_onto-more, tests_onto-none}
use Rattle.path_plans.proofs.PlanRows.{plan_view-Plan, test_view-AllOf, test_view-SomeOf}
use Rattle.path_select.proofs.Trails.{drop_next, if_made}
use Rattle.path_tables.proofs.Made.{query_view-is}
use Rattle.path_tables.proofs.planning.+planning.Goals as goal

pub found_of-returns : goal.found_of-returns
found_of-returns t c =
    if_made c.unless_too_many.result
    (found_kept (view c.args.root.now) (query_view c.args.query.now) (plan_view c.in_ok-plan.plan) c.in_ok-plan.ensures c.values_of.result c.values_of.ensures)
    c.unless_too_many.ensures

pub plan_of-returns : goal.plan_of-returns
plan_of-returns t c =
    let q = c.args.query.now in
    let l = c.loop-segment in
    let is = query_view-is q ∙ ap segments_view (sym c.deref-segment-items.ensures.value) in
    let none = drop_all l.segment-index c.deref-segment-items.result.now (omega arith) in
    plan_view-Plan l.segments ∙ sym (plan_segments_onto-done l.segments.items) ∙ (rw none at l.invariant) ∙ ap (plan (view c.args.root.now)) (sym is)

pub test_of-returns-in_ok-tests_of-in-Or : goal.test_of-returns-in_ok-tests_of-in-Or
test_of-returns-in_ok-tests_of-in-Or t c =
    let is = ap expression_view c.in-Or.is ∙ expression_view-Or c.in-Or.parts in
    let made = c.in_ok-tests_of-in-Or in
    test_view-SomeOf made.field-0 ∙ ap some_of made.ensures ∙ ap (plan_test (view c.args.root.now)) (sym is)

pub test_of-returns-in_ok-tests_of-in-And : goal.test_of-returns-in_ok-tests_of-in-And
test_of-returns-in_ok-tests_of-in-And t c =
    let is = ap expression_view c.in-And.is ∙ expression_view-And c.in-And.parts in
    let made = c.in_ok-tests_of-in-And in
    test_view-AllOf made.field-0 ∙ ap all_of made.ensures ∙ ap (plan_test (view c.args.root.now)) (sym is)

pub choice_of-returns-in_err-test_of-in-Filter : goal.choice_of-returns-in_err-test_of-in-Filter
choice_of-returns-in_err-test_of-in-Filter t c = IfOk-from_err c.from_residual.result _ c.from_residual.ensures.0

pub choices_of-returns-in_err-choices : goal.choices_of-returns-in_err-choices
choices_of-returns-in_err-choices t c = IfOk-from_err c.from_residual.result _ c.from_residual.ensures.0

pub choices_of-returns-in_err-choice_of : goal.choices_of-returns-in_err-choice_of
choices_of-returns-in_err-choice_of t c = IfOk-from_err c.from_residual-in_err-choice_of.result _ c.from_residual-in_err-choice_of.ensures.0

pub choices_of-returns-in_err-push : goal.choices_of-returns-in_err-push
choices_of-returns-in_err-push t c = IfOk-from_err c.from_residual-in_err-push.result _ c.from_residual-in_err-push.ensures.0

pub exists_of-returns-in_err-found : goal.exists_of-returns-in_err-found
exists_of-returns-in_err-found t c = IfOk-from_err c.from_residual.result _ c.from_residual.ensures.0

pub exists_of-returns-in_err-ways : goal.exists_of-returns-in_err-ways
exists_of-returns-in_err-ways t c = IfOk-from_err c.from_residual-in_err-ways.result _ c.from_residual-in_err-ways.ensures.0

pub exists_of-returns-in_err-plan_of-in-None : goal.exists_of-returns-in_err-plan_of-in-None
exists_of-returns-in_err-plan_of-in-None t c = IfOk-from_err c.from_residual-in_err-plan_of-in-None.result _ c.from_residual-in_err-plan_of-in-None.ensures.0

pub found_of-returns-in_err-plan : goal.found_of-returns-in_err-plan
found_of-returns-in_err-plan t c = IfOk-from_err c.from_residual.result _ c.from_residual.ensures.0

pub number_of-returns-in_err-found : goal.number_of-returns-in_err-found
number_of-returns-in_err-found t c = IfOk-from_err c.from_residual.result _ c.from_residual.ensures.0

pub number_of-returns-in_err-plan_of : goal.number_of-returns-in_err-plan_of
number_of-returns-in_err-plan_of t c = IfOk-from_err c.from_residual-in_err-plan_of.result _ c.from_residual-in_err-plan_of.ensures.0

pub only_of-returns-in_err-found : goal.only_of-returns-in_err-found
only_of-returns-in_err-found t c = IfOk-from_err c.from_residual.result _ c.from_residual.ensures.0

pub only_of-returns-in_err-ways : goal.only_of-returns-in_err-ways
only_of-returns-in_err-ways t c = IfOk-from_err c.from_residual-in_err-ways.result _ c.from_residual-in_err-ways.ensures.0

pub only_of-returns-in_err-plan_of-in-None : goal.only_of-returns-in_err-plan_of-in-None
only_of-returns-in_err-plan_of-in-None t c = IfOk-from_err c.from_residual-in_err-plan_of-in-None.result _ c.from_residual-in_err-plan_of-in-None.ensures.0

pub plan_of-returns-in_err-segments : goal.plan_of-returns-in_err-segments
plan_of-returns-in_err-segments t c = IfOk-from_err c.from_residual.result _ c.from_residual.ensures.0

pub plan_of-returns-in_err-choices_of : goal.plan_of-returns-in_err-choices_of
plan_of-returns-in_err-choices_of t c = IfOk-from_err c.from_residual-in_err-choices_of.result _ c.from_residual-in_err-choices_of.ensures.0

pub plan_of-returns-in_err-push : goal.plan_of-returns-in_err-push
plan_of-returns-in_err-push t c = IfOk-from_err c.from_residual-in_err-push.result _ c.from_residual-in_err-push.ensures.0

pub term_of-returns-in_err-term_of-in-Length : goal.term_of-returns-in_err-term_of-in-Length
term_of-returns-in_err-term_of-in-Length t c = IfOk-from_err c.from_residual.result _ c.from_residual.ensures.0

pub test_of-returns-in_err-tests_of-in-Or : goal.test_of-returns-in_err-tests_of-in-Or
test_of-returns-in_err-tests_of-in-Or t c = IfOk-from_err c.from_residual.result _ c.from_residual.ensures.0

pub test_of-returns-in_err-tests_of-in-And : goal.test_of-returns-in_err-tests_of-in-And
test_of-returns-in_err-tests_of-in-And t c = IfOk-from_err c.from_residual-in_err-tests_of-in-And.result _ c.from_residual-in_err-tests_of-in-And.ensures.0

pub test_of-returns-in_err-test_of-in-Not : goal.test_of-returns-in_err-test_of-in-Not
test_of-returns-in_err-test_of-in-Not t c = IfOk-from_err c.from_residual-in_err-test_of-in-Not.result _ c.from_residual-in_err-test_of-in-Not.ensures.0

pub test_of-returns-in_err-new-in-Not : goal.test_of-returns-in_err-new-in-Not
test_of-returns-in_err-new-in-Not t c = IfOk-from_err c.from_residual-in_err-new-in-Not.result _ c.from_residual-in_err-new-in-Not.ensures.0

pub test_of-returns-in_err-term_of-in-Compare : goal.test_of-returns-in_err-term_of-in-Compare
test_of-returns-in_err-term_of-in-Compare t c = IfOk-from_err c.from_residual-in_err-term_of-in-Compare.result _ c.from_residual-in_err-term_of-in-Compare.ensures.0

pub test_of-returns-in_err-term_of-in-Compare-2 : goal.test_of-returns-in_err-term_of-in-Compare-2
test_of-returns-in_err-term_of-in-Compare-2 t c = IfOk-from_err c.from_residual-in_err-term_of-in-Compare-2.result _ c.from_residual-in_err-term_of-in-Compare-2.ensures.0

pub tests_of-returns-in_err-tests : goal.tests_of-returns-in_err-tests
tests_of-returns-in_err-tests t c = IfOk-from_err c.from_residual.result _ c.from_residual.ensures.0

pub tests_of-returns-in_err-test_of : goal.tests_of-returns-in_err-test_of
tests_of-returns-in_err-test_of t c = IfOk-from_err c.from_residual-in_err-test_of.result _ c.from_residual-in_err-test_of.ensures.0

pub tests_of-returns-in_err-push : goal.tests_of-returns-in_err-push
tests_of-returns-in_err-push t c = IfOk-from_err c.from_residual-in_err-push.result _ c.from_residual-in_err-push.ensures.0

pub plan_of-loop-segment-init : goal.plan_of-loop-segment-init
plan_of-loop-segment-init t c = ap (λ ss. plan_segments_onto ss (plan (view c.args.root.now) (segments_view c.deref-segment-items.result.now))) c.in_ok-segments.ensures.items

pub plan_of-loop-segment-preserved : goal.plan_of-loop-segment-preserved
plan_of-loop-segment-preserved t c =
    let l = c.loop-segment in
    let root = view c.args.root.now in
    let items = c.deref-segment-items.result.now in
    let rest = plan root (segments_view (drop (l.segment-index + 1) items)) in
    let here = drop_next items l.segment-index c.segment-item.result c.loop-segment-test.true c.segment-item.is in
    ap (λ ss. plan_segments_onto ss rest) c.in_ok-push.ensures.items ∙ plan_segments_onto-more l.segments.items _ rest
    ∙ ap (λ cs. plan_segments_onto l.segments.items (step c.segment-item.result.descend cs rest)) c.in_ok-choices_of.ensures
    ∙ sym (ap (λ xs. plan_segments_onto l.segments.items (plan root (segments_view xs))) here) ∙ l.invariant

pub choices_of-loop-selector-init : goal.choices_of-loop-selector-init
choices_of-loop-selector-init t c = ap (λ cs. choices_onto cs (plan_choices (view c.args.root.now) (selectors_view c.deref-selector-items.result.now))) c.in_ok-choices.ensures.items

pub choices_of-loop-selector-preserved : goal.choices_of-loop-selector-preserved
choices_of-loop-selector-preserved t c =
    let l = c.loop-selector in
    let root = view c.args.root.now in
    let items = c.deref-selector-items.result.now in
    let rest = plan_choices root (selectors_view (drop (l.selector-index + 1) items)) in
    let here = drop_next items l.selector-index c.selector-item.result c.loop-selector-test.true c.selector-item.is in
    ap (λ cs. choices_onto cs rest) c.in_ok-push.ensures.items ∙ choices_onto-more l.choices.items _ rest
    ∙ ap (λ x. choices_onto l.choices.items (choice x rest)) c.in_ok-choice_of.ensures
    ∙ sym (ap (λ xs. choices_onto l.choices.items (plan_choices root (selectors_view xs))) here) ∙ l.invariant

pub choices_of-returns : goal.choices_of-returns
choices_of-returns t c =
    let l = c.loop-selector in
    let root = view c.args.root.now in
    let items = c.deref-selector-items.result.now in
    let none = drop_all l.selector-index items (omega arith) in
    sym (choices_onto-none l.choices.items) ∙ sym (ap (λ xs. choices_onto l.choices.items (plan_choices root (selectors_view xs))) none) ∙ l.invariant
    ∙ ap (λ xs. plan_choices root (selectors_view xs)) c.deref-selector-items.ensures.value

pub tests_of-loop-part-init : goal.tests_of-loop-part-init
tests_of-loop-part-init t c = ap (λ ts. tests_onto ts (plan_tests (view c.args.root.now) (expressions_view c.deref-part-items.result.now))) c.in_ok-tests.ensures.items

pub tests_of-loop-part-preserved : goal.tests_of-loop-part-preserved
tests_of-loop-part-preserved t c =
    let l = c.loop-part in
    let root = view c.args.root.now in
    let items = c.deref-part-items.result.now in
    let rest = plan_tests root (expressions_view (drop (l.part-index + 1) items)) in
    let here = drop_next items l.part-index c.part-item.result c.loop-part-test.true c.part-item.is in
    ap (λ ts. tests_onto ts rest) c.in_ok-push.ensures.items ∙ tests_onto-more l.tests.items _ rest
    ∙ ap (λ x. tests_onto l.tests.items (test x rest)) c.in_ok-test_of.ensures
    ∙ sym (ap (λ xs. tests_onto l.tests.items (plan_tests root (expressions_view xs))) here) ∙ l.invariant

pub tests_of-returns : goal.tests_of-returns
tests_of-returns t c =
    let l = c.loop-part in
    let root = view c.args.root.now in
    let items = c.deref-part-items.result.now in
    let none = drop_all l.part-index items (omega arith) in
    sym (tests_onto-none l.tests.items) ∙ sym (ap (λ xs. tests_onto l.tests.items (plan_tests root (expressions_view xs))) none) ∙ l.invariant
    ∙ ap (λ xs. plan_tests root (expressions_view xs)) c.deref-part-items.ensures.value

pub term_of-returns-in-Literal : goal.term_of-returns-in-Literal
term_of-returns-in-Literal t c = ap (λ o. plan_side (view c.args.root.now) (operand_view o)) (sym c.in-Literal.is)

pub term_of-returns-in-Single : goal.term_of-returns-in-Single
term_of-returns-in-Single t c =
    let root = view c.args.root.now in
    let s = c.in-Single.source in
    subst (λ x. IfOk c.only_of.result (λ y. term_view y ≡ x)) (single_side root (source_root s) (source_query s) ∙ ap (λ o. plan_side root (operand_view o)) (sym c.in-Single.is)) c.only_of.ensures

pub term_of-returns-in-Count : goal.term_of-returns-in-Count
term_of-returns-in-Count t c = subst (λ x. IfOk c.number_of.result (λ y. term_view y ≡ x)) (ap (λ o. plan_side (view c.args.root.now) (operand_view o)) (sym c.in-Count.is)) c.number_of.ensures

pub term_of-returns-in-ValueOf : goal.term_of-returns-in-ValueOf
term_of-returns-in-ValueOf t c = subst (λ x. IfOk c.only_of-in-ValueOf.result (λ y. term_view y ≡ x)) (ap (λ o. plan_side (view c.args.root.now) (operand_view o)) (sym c.in-ValueOf.is)) c.only_of-in-ValueOf.ensures

pub test_of-returns-in-Exists : goal.test_of-returns-in-Exists
test_of-returns-in-Exists t c = subst (λ x. IfOk c.exists_of.result (λ y. test_view y ≡ x)) (ap (λ e. plan_test (view c.args.root.now) (expression_view e)) (sym c.in-Exists.is)) c.exists_of.ensures

pub test_of-returns-in_ok-new-in-Not : goal.test_of-returns-in_ok-new-in-Not
test_of-returns-in_ok-new-in-Not t c =
    let root = view c.args.root.now in
    ap (λ x. not_that (test_view x)) c.in_ok-new-in-Not.ensures.ok ∙ ap not_that c.in_ok-test_of-in-Not.ensures ∙ ap (λ e. not_that (plan_test root (expression_view e))) c.deref.ensures
    ∙ ap (λ e. plan_test root (expression_view e)) (sym c.in-Not.is)

pub test_of-returns-in_ok-term_of-in-Compare-2 : goal.test_of-returns-in_ok-term_of-in-Compare-2
test_of-returns-in_ok-term_of-in-Compare-2 t c =
    let root = view c.args.root.now in
    let op = c.in-Compare.op in
    c.compared.ensures ∙ ap (λ x. compared_once op x (term_view c.in_ok-term_of-in-Compare-2.field-0)) c.in_ok-term_of-in-Compare.ensures
    ∙ ap (λ x. compared_once op (plan_side root (operand_view c.in-Compare.left)) x) c.in_ok-term_of-in-Compare-2.ensures
    ∙ ap (λ e. plan_test root (expression_view e)) (sym c.in-Compare.is)
