use Rattle.path_select.specs.Limit.{is_over}
use Rattle.std.proofs.Common.{length, ◌++◌, ◌∷◌, ◌≡◌, Bool, true, false, ◌&&◌, ◌||◌, not, ◌∙◌, ◌+◌, suc, refl, sym, ap, subst, drop, filter, append-nil, option_map, option_to_list, flat_map, arith}
use Rattle.std.specs.List.{list_any}
use Rattle.std.proofs.lemmas.Grind.{flat_map-append}
use Rattle.std.proofs.lemmas.List.{drop_all, length-map, map_push}
use Rattle.std.proofs.lemmas.List.Folds.{list_any-append}
use Rattle.std.proofs.lemmas.Result.{err_from_is_err_and}
use Rattle.doc_tree.proofs.Views.{view-List, view-Object}
use Rattle.doc_tree.specs.Doc.{index}
use Rattle.doc_tree.specs.TreeView.{elements_view, members_view, view}
use Rattle.path_grammar.specs.Lent.{lent_place}
use Rattle.path_grammar.specs.declared.lent_step.LentStep.TheVariants.{Name}
use Rattle.path_select.specs.Nodes.{Child, children, element_children, member_children}
use Rattle.path_select.specs.Gives.{Gives, Stops}
use Rattle.path_plans.specs.PlanValues.{planned_from}
use Rattle.path_plans.specs.PlanView.{plan_view, plan_segments_view, term_view, test_view, tests_view, choice_view, choices_view, ways_plan}
use Rattle.path_plans.specs.Planned.{passes, side_refused, side_value, test_refused}
use Rattle.path_select.specs.ChildView.{child_of, children_of, docs_of}
use Rattle.path_plans.proofs.Filtered.{takes_it, leaves_it, none_here, stops_here}
use Rattle.path_plans.proofs.PlanRows.{test_view-SomeOf, test_view-AllOf}
use Rattle.path_plans.proofs.PlanValued.{plan_view-is, plan_done, plan_stopped}
use Rattle.path_select.proofs.Trails.{drop_next}
use Rattle.path_plans.proofs.Ways.{led_only, led_there, ways_refused}
use Rattle.path_select.specs.declared.stop.Stop.{Stop}
use Rattle.path_select.specs.declared.stop.Stop.TheVariants.{Memory, TooMany}
use Rattle.path_select.specs.Comparing as comparing
use Rattle.path_plans.specs.Planned as planned
use Rattle.path_select.proofs.Gathering.{stop_all, stop_new, both_false, go_on, stop_over, all_found}
use Rattle.path_select.proofs.Valued.{is_some_node-values, length-values, only_value-values}
use Rattle.path_select.specs.Values.{visited_values, values_after, values_below, each_selected, child_values, is_some_value, only}
use Rattle.path_plans.proofs.passing.+passing.Goals as goal
use Rattle.path_plans.proofs.passing.+passing.Goals.{filtered_elements-then-branch+in_ok-push, filtered_elements-else-branch}

stops_or : (e : Stop) (a b : Bool) → Stops e a → Stops e (a || b)
stops_or Memory a b h = tt
stops_or TooMany a b h = ap (λ x. x || b) h

stops_from : (e : Stop) (x y : Bool) → (x ≡ true → y ≡ true) → Stops e x → Stops e y
stops_from Memory x y f h = tt
stops_from TooMany x y f h = f h

stops_else : (e : Stop) (a b : Bool) → a ≡ false → Stops e b → Stops e (a || b)
stops_else e a b n h = rw n h

or_false : (a : Bool) → a ≡ (a || false)
or_false true = refl
or_false false = refl

and_true : (a : Bool) → a ≡ (a && true)
and_true true = refl
and_true false = refl

or_assoc : (a b c : Bool) → ((a || b) || c) ≡ (a || (b || c))
or_assoc true b c = refl
or_assoc false b c = refl

and_assoc : (a b c : Bool) → ((a && b) && c) ≡ (a && (b && c))
and_assoc true b c = refl
and_assoc false b c = refl

pub passes_by_lists-returns-in-SomeOf : goal.passes_by_lists-returns-in-SomeOf
passes_by_lists-returns-in-SomeOf t c =
    let here = view c.args.here.now in
    let is = ap test_view c.in-SomeOf.is ∙ test_view-SomeOf c.in-SomeOf.parts in
    subst (λ e. Gives (λ b. b) c.some_pass.result (test_refused e here) (passes e here)) (sym is) c.some_pass.ensures

pub passes_by_lists-returns-in-AllOf : goal.passes_by_lists-returns-in-AllOf
passes_by_lists-returns-in-AllOf t c =
    let here = view c.args.here.now in
    let is = ap test_view c.in-AllOf.is ∙ test_view-AllOf c.in-AllOf.parts in
    subst (λ e. Gives (λ b. b) c.all_pass.result (test_refused e here) (passes e here)) (sym is) c.all_pass.ensures

pub values_of_plan-returns-in_err-list : goal.values_of_plan-returns-in_err-list
values_of_plan-returns-in_err-list t c =
    let q = c.args.plan.now in
    let l = c.loop-segment in
    let p = err_from_is_err_and c.from_residual-in_err-list.result c.from_residual-in_err-list.ensures.1 in
    let is = plan_view-is q ∙ ap plan_segments_view (sym c.deref-segment-items.ensures.value) in
    let items = c.deref-segment-items.result.now in
    let here = drop_next items l.segment-index c.segment-item.result c.loop-segment-test.true c.segment-item.is in
    rw (p.1, p.2) (plan_stopped (view c.args.start.now) (plan_view q) items is (docs_of l.list.items) c.in_err-list.field-0.0 c.segment-item.result (drop (l.segment-index + 1) items)
    (rw here at l.invariant.1) c.in_err-list.ensures)

pub values_of_plan-returns : goal.values_of_plan-returns
values_of_plan-returns t c =
    let q = c.args.plan.now in
    let l = c.loop-segment in
    let is = plan_view-is q ∙ ap plan_segments_view (sym c.deref-segment-items.ensures.value) in
    let none = drop_all l.segment-index c.deref-segment-items.result.now (omega arith) in
    plan_done (view c.args.start.now) (plan_view q) c.deref-segment-items.result.now is (docs_of l.list.items)
    (rw none at l.invariant.0) (rw none at l.invariant.1)

pub passes_by_lists-returns-in-LeadsThere : goal.passes_by_lists-returns-in-LeadsThere
passes_by_lists-returns-in-LeadsThere t c =
    let here = view c.args.here.now in
    let ways = c.in-LeadsThere.ways.items in
    let is = ap test_view c.in-LeadsThere.is in
    let led = c.led_to.ensures ∙ ap (λ ws. planned_from (ways_plan ws) here) c.deref-in-LeadsThere.ensures.value in (
      ap (λ e. test_refused e here) is ∙ ways_refused ways here,
      c.is_some.ensures ∙ led_there c.led_to.result (ways_plan ways) here led ∙ ap (λ e. passes e here) (sym is),
    )

pub term-returns-in-LedTo : goal.term-returns-in-LedTo
term-returns-in-LedTo t c =
    let here = view c.args.here.now in
    let ways = c.in-LedTo.ways.items in
    let is = ap term_view c.in-LedTo.is in
    let led = c.led_to.ensures ∙ ap (λ ws. planned_from (ways_plan ws) here) c.deref.ensures.value in (
      ap (λ o. side_refused o here) is ∙ ways_refused ways here,
      c.lent_side-in-LedTo.ensures ∙ led_only c.led_to.result (ways_plan ways) here led ∙ ap (λ o. side_value o here) (sym is),
    )

pub filtered-returns-in-List : goal.filtered-returns-in-List
filtered-returns-in-List t c =
    let is = ap view c.in-List.is ∙ view-List c.in-List.items in
    let e = test_view c.args.test.now in
    subst (λ d. Gives (λ all. children_of all.items) c.filtered_elements.result (list_any (λ k. test_refused e k.1) (children d)) (filter (λ k. passes e k.1) (children d))) (sym is) c.filtered_elements.ensures

pub filtered-returns-in-Object : goal.filtered-returns-in-Object
filtered-returns-in-Object t c =
    let is = ap view c.in-Object.is ∙ view-Object c.in-Object.members in
    let e = test_view c.args.test.now in
    subst (λ d. Gives (λ all. children_of all.items) c.filtered_members.result (list_any (λ k. test_refused e k.1) (children d)) (filter (λ k. passes e k.1) (children d))) (sym is) c.filtered_members.ensures

pub all_pass-loop-part-init : goal.all_pass-loop-part-init
all_pass-loop-part-init t c = (refl, refl)

pub and_passes-returns-in_err-holds : goal.and_passes-returns-in_err-holds
and_passes-returns-in_err-holds t c =
    let p = err_from_is_err_and c.from_residual.result c.from_residual.ensures.1 in
    rw (p.1, p.2) c.in_err-holds.ensures

pub and_passes-returns-then-held : goal.and_passes-returns-then-held
and_passes-returns-then-held t c = rw c.if-held.true c.in_ok-holds.ensures

pub and_passes-returns-else-held : goal.and_passes-returns-else-held
and_passes-returns-else-held t c = rw c.if-held.false (c.in_ok-holds.ensures.0, refl)

pub or_passes-returns-in_err-holds : goal.or_passes-returns-in_err-holds
or_passes-returns-in_err-holds t c =
    let p = err_from_is_err_and c.from_residual.result c.from_residual.ensures.1 in
    rw (p.1, p.2) c.in_err-holds.ensures

pub or_passes-returns-then-held-2 : goal.or_passes-returns-then-held-2
or_passes-returns-then-held-2 t c = rw c.if-held-2.true (c.in_ok-holds.ensures.0, refl)

pub or_passes-returns-else-held-2 : goal.or_passes-returns-else-held-2
or_passes-returns-else-held-2 t c = rw c.if-held-2.false c.in_ok-holds.ensures

pub passes-returns-in-None : goal.passes-returns-in-None
passes-returns-in-None t c = c.passes_by_lists.ensures

pub passes_by_lists-returns-in_err-passes-in-NotThat :
    goal.passes_by_lists-returns-in_err-passes-in-NotThat
passes_by_lists-returns-in_err-passes-in-NotThat t c =
    let p = err_from_is_err_and c.from_residual.result c.from_residual.ensures.1 in
    let is = ap (λ e. test_refused (test_view e) (view c.args.here.now)) c.in-NotThat.is in
    rw (p.1, p.2, is, sym c.deref.ensures) c.in_err-passes-in-NotThat.ensures

pub passes_by_lists-returns-in_err-values_of_plan-in-ThereIs :
    goal.passes_by_lists-returns-in_err-values_of_plan-in-ThereIs
passes_by_lists-returns-in_err-values_of_plan-in-ThereIs t c =
    let p = err_from_is_err_and c.from_residual-in_err-values_of_plan-in-ThereIs.result c.from_residual-in_err-values_of_plan-in-ThereIs.ensures.1 in
    let is = ap (λ e. test_refused (test_view e) (view c.args.here.now)) c.in-ThereIs.is in
    rw (p.1, p.2, is) c.in_err-values_of_plan-in-ThereIs.ensures

pub passes_by_lists-returns-in_ok-passes-in-NotThat :
    goal.passes_by_lists-returns-in_ok-passes-in-NotThat
passes_by_lists-returns-in_ok-passes-in-NotThat t c = rw (ap test_view c.in-NotThat.is, sym c.deref.ensures) (c.in_ok-passes-in-NotThat.ensures.0, ap not c.in_ok-passes-in-NotThat.ensures.1)

pub passes_by_lists-returns-then-refused : goal.passes_by_lists-returns-then-refused
passes_by_lists-returns-then-refused t c = rw (ap test_view c.in-ThereWas.is) c.if-refused.true

pub passes_by_lists-returns-else-refused : goal.passes_by_lists-returns-else-refused
passes_by_lists-returns-else-refused t c = rw (ap test_view c.in-ThereWas.is) (c.if-refused.false, refl)

pub some_pass-loop-part-init : goal.some_pass-loop-part-init
some_pass-loop-part-init t c = (refl, refl)

pub taken-returns-in-Kept : goal.taken-returns-in-Kept
taken-returns-in-Kept t c = rw (ap choice_view c.in-Kept.is) c.filtered.ensures

pub term-returns-in_err-values_of_plan-in-OnlyOf :
    goal.term-returns-in_err-values_of_plan-in-OnlyOf
term-returns-in_err-values_of_plan-in-OnlyOf t c =
    let p = err_from_is_err_and c.from_residual.result c.from_residual.ensures.1 in
    let is = ap (λ e. side_refused (term_view e) (view c.args.here.now)) c.in-OnlyOf.is in
    rw (p.1, p.2, is) c.in_err-values_of_plan-in-OnlyOf.ensures

pub term-returns-in_err-value-in-SizeOf : goal.term-returns-in_err-value-in-SizeOf
term-returns-in_err-value-in-SizeOf t c =
    let p = err_from_is_err_and c.from_residual-in_err-value-in-SizeOf.result c.from_residual-in_err-value-in-SizeOf.ensures.1 in
    let is = ap (λ e. side_refused (term_view e) (view c.args.here.now)) c.in-SizeOf.is in
    rw (p.1, p.2, is, sym c.deref-in-SizeOf.ensures) c.in_err-value-in-SizeOf.ensures

pub term-returns-in_err-values_of_plan-in-NumberOf :
    goal.term-returns-in_err-values_of_plan-in-NumberOf
term-returns-in_err-values_of_plan-in-NumberOf t c =
    let p = err_from_is_err_and c.from_residual-in_err-values_of_plan-in-NumberOf.result c.from_residual-in_err-values_of_plan-in-NumberOf.ensures.1 in
    let is = ap (λ e. side_refused (term_view e) (view c.args.here.now)) c.in-NumberOf.is in
    rw (p.1, p.2, is) c.in_err-values_of_plan-in-NumberOf.ensures

pub term-returns-then-refused : goal.term-returns-then-refused
term-returns-then-refused t c = rw (ap term_view c.in-Known.is) c.if-refused.true

pub term-returns-else-refused : goal.term-returns-else-refused
term-returns-else-refused t c = rw (ap term_view c.in-Known.is) (c.if-refused.false, c.lent_side.ensures ∙ c.lend.ensures)

pub values_after-returns-then-segment : goal.values_after-returns-then-segment
values_after-returns-then-segment t c = rw c.if-segment.true c.each_taken_below.ensures

pub values_after-returns-else-segment : goal.values_after-returns-else-segment
values_after-returns-else-segment t c = rw c.if-segment.false (rw c.new.ensures.items at c.and_each_taken.ensures)

pub values_of_plan-returns-in_err-push : goal.values_of_plan-returns-in_err-push
values_of_plan-returns-in_err-push t c =
    let p = err_from_is_err_and c.from_residual.result c.from_residual.ensures.1 in
    rw (p.1, p.2) tt

pub all_pass-returns-in_err-held : goal.all_pass-returns-in_err-held
all_pass-returns-in_err-held t c =
    let l = c.loop-part in
    let here = drop_next c.deref-part-items.result.now l.part-index c.part-item.result c.loop-part-test.true c.part-item.is in
    let p = err_from_is_err_and c.from_residual.result c.from_residual.ensures.1 in
    rw (p.1, p.2, sym c.deref-part-items.ensures.value, sym (rw here at l.invariant.1)) (stops_or c.in_err-held.field-0.0 (test_refused (test_view c.part-item.result) (view c.args.here.now)) (planned.tests_refused (tests_view (drop (l.part-index + 1) c.deref-part-items.result.now)) (view c.args.here.now)) c.in_err-held.ensures)

pub all_pass-returns : goal.all_pass-returns
all_pass-returns t c =
    let l = c.loop-part in
    let none = drop_all l.part-index c.deref-part-items.result.now (omega arith) in
    rw (sym c.deref-part-items.ensures.value) (sym (rw none at l.invariant.1), and_true _ ∙ (rw none at l.invariant.0))

pub some_pass-returns-in_err-held : goal.some_pass-returns-in_err-held
some_pass-returns-in_err-held t c =
    let l = c.loop-part in
    let here = drop_next c.deref-part-items.result.now l.part-index c.part-item.result c.loop-part-test.true c.part-item.is in
    let p = err_from_is_err_and c.from_residual.result c.from_residual.ensures.1 in
    rw (p.1, p.2, sym c.deref-part-items.ensures.value, sym (rw here at l.invariant.1)) (stops_or c.in_err-held.field-0.0 (test_refused (test_view c.part-item.result) (view c.args.here.now)) (planned.tests_refused (tests_view (drop (l.part-index + 1) c.deref-part-items.result.now)) (view c.args.here.now)) c.in_err-held.ensures)

pub some_pass-returns : goal.some_pass-returns
some_pass-returns t c =
    let l = c.loop-part in
    let none = drop_all l.part-index c.deref-part-items.result.now (omega arith) in
    rw (sym c.deref-part-items.ensures.value) (sym (rw none at l.invariant.1), or_false _ ∙ (rw none at l.invariant.0))

pub passes-returns-in-Some : goal.passes-returns-in-Some
passes-returns-in-Some t c = c.in-Some.ensures

pub or_passes-returns-then-not-may_be_refused : goal.or_passes-returns-then-not-may_be_refused
or_passes-returns-then-not-may_be_refused t c = rw c.if-held.true (c.if-not-may_be_refused.ensures (view c.args.here.now) refl, refl)

pub and_passes-returns-then-not-may_be_refused : goal.and_passes-returns-then-not-may_be_refused
and_passes-returns-then-not-may_be_refused t c = rw c.if-not-held.true (c.if-not-may_be_refused.ensures (view c.args.here.now) refl, refl)

pub passes_by_lists-returns-in_err-left-in-Compared : goal.passes_by_lists-returns-in_err-left-in-Compared
passes_by_lists-returns-in_err-left-in-Compared t c =
    let p = err_from_is_err_and c.from_residual-in_err-left-in-Compared.result c.from_residual-in_err-left-in-Compared.ensures.1 in
    rw (p.1, p.2, ap test_view c.in-Compared.is) (stops_or c.in_err-left-in-Compared.field-0.0 (side_refused (term_view c.in-Compared.left) (view c.args.here.now)) (side_refused (term_view c.in-Compared.right) (view c.args.here.now)) c.in_err-left-in-Compared.ensures)

pub passes_by_lists-returns-in_err-right-in-Compared : goal.passes_by_lists-returns-in_err-right-in-Compared
passes_by_lists-returns-in_err-right-in-Compared t c =
    let p = err_from_is_err_and c.from_residual-in_err-right-in-Compared.result c.from_residual-in_err-right-in-Compared.ensures.1 in
    rw (p.1, p.2, ap test_view c.in-Compared.is) (stops_else c.in_err-right-in-Compared.field-0.0 (side_refused (term_view c.in-Compared.left) (view c.args.here.now)) (side_refused (term_view c.in-Compared.right) (view c.args.here.now)) c.in_ok-left-in-Compared.ensures.0 c.in_err-right-in-Compared.ensures)

pub term-returns-in_ok-value-in-SizeOf : goal.term-returns-in_ok-value-in-SizeOf
term-returns-in_ok-value-in-SizeOf t c =
    let a = c.in_ok-value-in-SizeOf.ensures in
    rw (ap term_view c.in-SizeOf.is, sym c.deref-in-SizeOf.ensures) (a.0, c.length_value.ensures ∙ ap comparing.length_value (c.lend-in-SizeOf.ensures ∙ a.1))

pub all_taken-loop-choice-init : goal.all_taken-loop-choice-init
all_taken-loop-choice-init t c = rw c.new-found.ensures.items (refl, refl, refl)

pub all_pass-loop-part-preserved : goal.all_pass-loop-part-preserved
all_pass-loop-part-preserved t c =
    let l = c.loop-part in
    let items = c.deref-part-items.result.now in
    let d = view c.args.here.now in
    let here = drop_next items l.part-index c.part-item.result c.loop-part-test.true c.part-item.is in (
      rw c.in_ok-held.ensures.1 (and_assoc l.held (passes (test_view c.part-item.result) d) (planned.all_pass (tests_view (drop (l.part-index + 1) items)) d) ∙ (rw here at l.invariant.0)),
      rw c.in_ok-held.ensures.0 at (rw here at l.invariant.1),
    )

pub some_pass-loop-part-preserved : goal.some_pass-loop-part-preserved
some_pass-loop-part-preserved t c =
    let l = c.loop-part in
    let items = c.deref-part-items.result.now in
    let d = view c.args.here.now in
    let here = drop_next items l.part-index c.part-item.result c.loop-part-test.true c.part-item.is in (
      rw c.in_ok-held.ensures.1 (or_assoc l.held (passes (test_view c.part-item.result) d) (planned.some_pass (tests_view (drop (l.part-index + 1) items)) d) ∙ (rw here at l.invariant.0)),
      rw c.in_ok-held.ensures.0 at (rw here at l.invariant.1),
    )

pub all_taken-loop-choice-preserved : goal.all_taken-loop-choice-preserved
all_taken-loop-choice-preserved t c =
    let l = c.loop-choice in
    let items = c.deref-choice-items.result.now in
    let d = view c.args.here.now in
    let rest = choices_view (drop (l.choice-index + 1) items) in
    let one = choice_view c.choice-item.result in
    let here = drop_next items l.choice-index c.choice-item.result c.loop-choice-test.true c.choice-item.is in
    go_on (children_of l.found.items) (planned.taken one d) (planned.all_taken rest d) (planned.all_taken (choices_view items) d) (planned.choice_refused one d) (planned.choices_refused rest d) (planned.choices_refused (choices_view items) d) (rw here at l.invariant.0) (rw here at l.invariant.1) c.in_ok-taken.ensures.0 (rw c.in_ok-taken.ensures.1 at c.in_ok-found.ensures.0) (children_of c.in_ok-found.found.items) (rw c.in_ok-taken.ensures.1 at c.in_ok-found.ensures.1)

pub all_taken-returns-in_err-found : goal.all_taken-returns-in_err-found
all_taken-returns-in_err-found t c =
    let l = c.loop-choice in
    let items = c.deref-choice-items.result.now in
    let d = view c.args.here.now in
    let rest = choices_view (drop (l.choice-index + 1) items) in
    let one = choice_view c.choice-item.result in
    let here = drop_next items l.choice-index c.choice-item.result c.loop-choice-test.true c.choice-item.is in
    let p = err_from_is_err_and c.from_residual-in_err-found.result c.from_residual-in_err-found.ensures.1 in
    rw (p.1, p.2, sym c.deref-choice-items.ensures.value)
    (stops_from c.in_err-found.field-0.0 _ _ (stop_over (children_of l.found.items) (planned.taken one d) (planned.all_taken rest d) (planned.all_taken (choices_view items) d) (planned.choice_refused one d) (planned.choices_refused rest d) (planned.choices_refused (choices_view items) d) (rw here at l.invariant.0) (rw here at l.invariant.1)) (rw c.in_ok-taken.ensures.1 at c.in_err-found.ensures))

pub all_taken-returns : goal.all_taken-returns
all_taken-returns t c =
    let l = c.loop-choice in
    let items = c.deref-choice-items.result.now in
    let d = view c.args.here.now in
    let none = drop_all l.choice-index items (omega arith) in
    rw (sym c.deref-choice-items.ensures.value)
    (all_found (children_of l.found.items) (planned.all_taken (choices_view items) d) (planned.choices_refused (choices_view items) d) (rw none at l.invariant.0) (rw none at l.invariant.1) l.invariant.2)

pub and_each_taken-loop-value-init : goal.and_each_taken-loop-value-init
and_each_taken-loop-value-init t c = (refl, refl, c.requires.within)

pub and_each_taken-loop-value-preserved : goal.and_each_taken-loop-value-preserved
and_each_taken-loop-value-preserved t c =
    let l = c.loop-value in
    let items = c.deref-value-items.result.now in
    let ss = choices_view c.args.choices.now.items in
    let rest = docs_of (drop (l.value-index + 1) items) in
    let d = view c.value-item.result.now in
    let here = drop_next items l.value-index c.value-item.result c.loop-value-test.true c.value-item.is in
    let refuses = planned.choices_refused ss in
    let takes = planned.all_taken ss in
    go_on (docs_of l.found.items) (child_values (takes d)) (each_selected takes rest) (docs_of c.args.listed.items ++ each_selected takes (docs_of items)) (refuses d) (list_any refuses rest) (list_any refuses (docs_of items)) (rw here at l.invariant.0) (rw here at l.invariant.1) (both_false (refuses d) _ c.in_ok-all_taken.ensures.0).0 (rw c.in_ok-all_taken.ensures.1 at c.in_ok-found.ensures.0) (docs_of c.in_ok-found.found.items) (rw c.in_ok-all_taken.ensures.1 at c.in_ok-found.ensures.1)

pub and_each_taken-returns-in_err-found : goal.and_each_taken-returns-in_err-found
and_each_taken-returns-in_err-found t c =
    let l = c.loop-value in
    let items = c.deref-value-items.result.now in
    let ss = choices_view c.args.choices.now.items in
    let rest = docs_of (drop (l.value-index + 1) items) in
    let d = view c.value-item.result.now in
    let here = drop_next items l.value-index c.value-item.result c.loop-value-test.true c.value-item.is in
    let refuses = planned.choices_refused ss in
    let takes = planned.all_taken ss in
    let p = err_from_is_err_and c.from_residual-in_err-found.result c.from_residual-in_err-found.ensures.1 in
    rw (p.1, p.2, sym c.deref-value-items.ensures.value)
    (stops_from c.in_err-found.field-0.0 _ _ (stop_over (docs_of l.found.items) (child_values (takes d)) (each_selected takes rest) (docs_of c.args.listed.items ++ each_selected takes (docs_of items)) (refuses d) (list_any refuses rest) (list_any refuses (docs_of items)) (rw here at l.invariant.0) (rw here at l.invariant.1)) (rw c.in_ok-all_taken.ensures.1 at c.in_err-found.ensures))

pub and_each_taken-returns : goal.and_each_taken-returns
and_each_taken-returns t c =
    let l = c.loop-value in
    let items = c.deref-value-items.result.now in
    let ss = choices_view c.args.choices.now.items in
    let refuses = planned.choices_refused ss in
    let none = drop_all l.value-index items (omega arith) in
    rw (sym c.deref-value-items.ensures.value)
    (all_found (docs_of l.found.items) (docs_of c.args.listed.items ++ each_selected (planned.all_taken ss) (docs_of items)) (list_any refuses (docs_of items)) (rw none at l.invariant.0) (rw none at l.invariant.1) l.invariant.2)

pub passes_by_lists-returns-in_ok-right-in-Compared : goal.passes_by_lists-returns-in_ok-right-in-Compared
passes_by_lists-returns-in_ok-right-in-Compared t c =
    let a = c.in_ok-left-in-Compared.ensures in
    let b = c.in_ok-right-in-Compared.ensures in
    rw (ap test_view c.in-Compared.is) (
      rw (a.0, b.0) refl,
      rw (c.lend.ensures, a.1, c.lend-in-Compared.ensures, b.1) at c.compares.ensures,
    )

pub all_taken-returns-in_err-taken : goal.all_taken-returns-in_err-taken
all_taken-returns-in_err-taken t c =
    let l = c.loop-choice in
    let items = c.deref-choice-items.result.now in
    let d = view c.args.here.now in
    let rest = planned.choices_refused (choices_view (drop (l.choice-index + 1) items)) d in
    let one = planned.choice_refused (choice_view c.choice-item.result) d in
    let here = drop_next items l.choice-index c.choice-item.result c.loop-choice-test.true c.choice-item.is in
    let p = err_from_is_err_and c.from_residual.result c.from_residual.ensures.1 in
    let e = c.in_err-taken.field-0.0 in
    rw (p.1, p.2, sym c.deref-choice-items.ensures.value, sym (rw here at l.invariant.1))
    (stops_or e (one || rest) (is_over (length (planned.all_taken (choices_view items) d))) (stops_or e one rest c.in_err-taken.ensures))

pub values_of_plan-loop-segment-preserved : goal.values_of_plan-loop-segment-preserved
values_of_plan-loop-segment-preserved t c =
    let l = c.loop-segment in
    let s = c.segment-item.result in
    let ds = docs_of l.list.items in
    let ss = choices_view s.choices.items in
    let here = drop_next c.deref-segment-items.result.now l.segment-index s c.loop-segment-test.true c.segment-item.is in
    let a = c.in_ok-list.ensures in
    let no = both_false (list_any (planned.choices_refused ss) (visited_values s.descend ds)) (is_over (length (values_after (planned.all_taken ss) s.descend ds))) a.0 in (
      rw a.1 (rw here at l.invariant.0),
      rw a.1 (rw (no.0, no.1) at (rw here at l.invariant.1)),
    )

pub and_each_taken-returns-in_err-all_taken : goal.and_each_taken-returns-in_err-all_taken
and_each_taken-returns-in_err-all_taken t c =
    let l = c.loop-value in
    let items = c.deref-value-items.result.now in
    let ss = choices_view c.args.choices.now.items in
    let rest = docs_of (drop (l.value-index + 1) items) in
    let d = view c.value-item.result.now in
    let here = drop_next items l.value-index c.value-item.result c.loop-value-test.true c.value-item.is in
    let refuses = planned.choices_refused ss in
    let takes = planned.all_taken ss in
    let p = err_from_is_err_and c.from_residual.result c.from_residual.ensures.1 in
    let same = length-map (takes d) (λ k. k.1) in
    rw (p.1, p.2, sym c.deref-value-items.ensures.value)
    (stops_from c.in_err-all_taken.field-0.0 (refuses d || is_over (length (takes d))) _ (λ h. stop_new (docs_of l.found.items) (child_values (takes d)) (each_selected takes rest) (docs_of c.args.listed.items ++ each_selected takes (docs_of items)) (refuses d) (list_any refuses rest) (list_any refuses (docs_of items)) (rw here at l.invariant.0) (rw here at l.invariant.1) (ap (λ n. refuses d || is_over n) same ∙ h)) c.in_err-all_taken.ensures)

pub each_taken_below-returns : goal.each_taken_below-returns
each_taken_below-returns t c =
    let l = c.loop-value in
    let items = c.deref-value-items.result.now in
    let ss = choices_view c.args.choices.now.items in
    let ds = visited_values true (docs_of items) in
    let none = drop_all l.value-index items (omega arith) in
    rw (sym c.deref-value-items.ensures.value)
    (all_found (docs_of l.found.items) (each_selected (planned.all_taken ss) ds) (list_any (planned.choices_refused ss) ds) (rw none at l.invariant.0) (rw none at l.invariant.1) l.invariant.2)

pub filtered_elements-loop-index-init : goal.filtered_elements-loop-index-init
filtered_elements-loop-index-init t c = rw c.new-found.ensures.items (refl, refl)

pub filtered_elements-returns-in_err-passes : goal.filtered_elements-returns-in_err-passes
filtered_elements-returns-in_err-passes t c =
    let l = c.loop-index in
    let items = c.deref-item-items.result.now in
    let refuses : Child → Bool = λ k. test_refused (test_view c.args.test.now) k.1 in
    let here = drop_next items l.index c.item-item.result c.loop-index-test.true c.item-item.is in
    let same = sym (ap (λ xs. list_any refuses (element_children l.index (elements_view xs))) here) ∙ l.invariant.1 in
    let p = err_from_is_err_and c.from_residual.result c.from_residual.ensures.1 in
    rw (p.1, p.2, sym c.deref-item-items.ensures.value)
    (stops_here refuses (index l.index, view c.item-item.result) (element_children (suc l.index) (elements_view (drop (l.index + 1) items))) _ same c.in_err-passes.field-0.0 c.in_err-passes.ensures)

pub filtered_elements-returns-in_err-push : goal.filtered_elements-returns-in_err-push
filtered_elements-returns-in_err-push t c =
    let p = err_from_is_err_and c.from_residual-in_err-push.result c.from_residual-in_err-push.ensures.1 in
    rw (p.1, p.2) tt

pub filtered_elements-loop-index-preserved : goal.filtered_elements-loop-index-preserved
filtered_elements-loop-index-preserved t c =
    let l = c.loop-index in
    let items = c.deref-item-items.result.now in
    let e = test_view c.args.test.now in
    let refuses : Child → Bool = λ k. test_refused e k.1 in
    let takes : Child → Bool = λ k. passes e k.1 in
    let x : Child = (index l.index, view c.item-item.result) in
    let left = elements_view (drop (l.index + 1) items) in
    let rest = element_children (suc l.index) left in
    let next : suc l.index ≡ l.index + 1 = omega arith in
    let found = children_of l.found.items in
    let here = drop_next items l.index c.item-item.result c.loop-index-test.true c.item-item.is in
    let so_far : found ++ filter takes (x ∷ rest) ≡ _ = sym (ap (λ xs. found ++ filter takes (element_children l.index (elements_view xs))) here) ∙ l.invariant.0 in
    let same : list_any refuses (x ∷ rest) ≡ _ = sym (ap (λ xs. list_any refuses (element_children l.index (elements_view xs))) here) ∙ l.invariant.1 in (
      ap (λ n. children_of c.if-branch.found.items ++ filter takes (element_children n left)) (sym next) ∙ elim c.if-branch.branch [
        | filtered_elements-then-branch+in_ok-push w ↦ rw w.found-is (ap (λ ks. children_of ks ++ filter takes rest) w.in_ok-push.ensures.items ∙ ap (λ ks. ks ++ filter takes rest) (map_push child_of l.found.items _) ∙ takes_it takes found x rest _ so_far (sym c.in_ok-passes.ensures.1 ∙ w.if-branch.true))
        | filtered_elements-else-branch w ↦ rw w.found-is (leaves_it takes found x rest _ so_far (sym c.in_ok-passes.ensures.1 ∙ w.if-branch.false))
      ],
      ap (λ n. list_any refuses (element_children n left)) (sym next) ∙ none_here refuses x rest _ same c.in_ok-passes.ensures.0,
    )

pub filtered_elements-returns : goal.filtered_elements-returns
filtered_elements-returns t c =
    let l = c.loop-index in
    let items = c.deref-item-items.result.now in
    let refuses : Child → Bool = λ k. test_refused (test_view c.args.test.now) k.1 in
    let takes : Child → Bool = λ k. passes (test_view c.args.test.now) k.1 in
    let found = children_of l.found.items in
    let none = drop_all l.index items (omega arith) in
    rw (sym c.deref-item-items.ensures.value) (
      sym l.invariant.1 ∙ ap (λ xs. list_any refuses (element_children l.index (elements_view xs))) none,
      sym (append-nil found) ∙ sym (ap (λ xs. found ++ filter takes (element_children l.index (elements_view xs))) none) ∙ l.invariant.0,
    )

pub filtered_members-loop-name-init : goal.filtered_members-loop-name-init
filtered_members-loop-name-init t c = rw c.new-found.ensures.items (refl, refl)

pub filtered_members-returns-in_err-passes : goal.filtered_members-returns-in_err-passes
filtered_members-returns-in_err-passes t c =
    let refuses : Child → Bool = λ k. test_refused (test_view c.args.test.now) k.1 in
    let all = c.into_iter-name-iterator.ensures.into_iter_gives ∙ c.iter-name-items.ensures.rest in
    let same = sym (ap (λ es. list_any refuses (member_children (members_view es))) c.in-Some.ensures.steps) ∙ c.loop-name.invariant.1 ∙ ap (λ es. list_any refuses (member_children (members_view es))) all in
    let p = err_from_is_err_and c.from_residual.result c.from_residual.ensures.1 in
    rw (p.1, p.2)
    (stops_here refuses (lent_place (Name c.in-Some.name), view c.in-Some.value.now) (member_children (members_view c.next.new.self)) _ same c.in_err-passes.field-0.0 c.in_err-passes.ensures)

pub filtered_members-returns-in_err-push : goal.filtered_members-returns-in_err-push
filtered_members-returns-in_err-push t c =
    let p = err_from_is_err_and c.from_residual-in_err-push.result c.from_residual-in_err-push.ensures.1 in
    rw (p.1, p.2) tt

pub filtered_members-loop-name-preserved-in-Continue-branch-2 : goal.filtered_members-loop-name-preserved-in-Continue-branch-2
filtered_members-loop-name-preserved-in-Continue-branch-2 t c =
    let l = c.loop-name in
    let refuses : Child → Bool = λ k. test_refused (test_view c.args.test.now) k.1 in
    let takes : Child → Bool = λ k. passes (test_view c.args.test.now) k.1 in
    let x : Child = (lent_place (Name c.in-Some.name), view c.in-Some.value.now) in
    let rest = member_children (members_view c.next.new.self) in
    let found = children_of l.found.items in
    let so_far : found ++ filter takes (x ∷ rest) ≡ _ = sym (ap (λ es. found ++ filter takes (member_children (members_view es))) c.in-Some.ensures.steps) ∙ l.invariant.0 in
    let same : list_any refuses (x ∷ rest) ≡ _ = sym (ap (λ es. list_any refuses (member_children (members_view es))) c.in-Some.ensures.steps) ∙ l.invariant.1 in (
      ap (λ ks. children_of ks ++ filter takes rest) c.in_ok-push.ensures.items ∙ ap (λ ks. ks ++ filter takes rest) (map_push child_of l.found.items _) ∙ takes_it takes found x rest _ so_far (sym c.in_ok-passes.ensures.1 ∙ c.if-branch.true),
      none_here refuses x rest _ same c.in_ok-passes.ensures.0,
    )

pub filtered_members-loop-name-preserved : goal.filtered_members-loop-name-preserved
filtered_members-loop-name-preserved t c =
    let l = c.loop-name in
    let refuses : Child → Bool = λ k. test_refused (test_view c.args.test.now) k.1 in
    let takes : Child → Bool = λ k. passes (test_view c.args.test.now) k.1 in
    let x : Child = (lent_place (Name c.in-Some.name), view c.in-Some.value.now) in
    let rest = member_children (members_view c.next.new.self) in
    let found = children_of l.found.items in
    let so_far : found ++ filter takes (x ∷ rest) ≡ _ = sym (ap (λ es. found ++ filter takes (member_children (members_view es))) c.in-Some.ensures.steps) ∙ l.invariant.0 in
    let same : list_any refuses (x ∷ rest) ≡ _ = sym (ap (λ es. list_any refuses (member_children (members_view es))) c.in-Some.ensures.steps) ∙ l.invariant.1 in (
      leaves_it takes found x rest _ so_far (sym c.in_ok-passes.ensures.1 ∙ c.if-branch.false),
      none_here refuses x rest _ same c.in_ok-passes.ensures.0,
    )

pub filtered_members-returns : goal.filtered_members-returns
filtered_members-returns t c =
    let l = c.loop-name in
    let refuses : Child → Bool = λ k. test_refused (test_view c.args.test.now) k.1 in
    let takes : Child → Bool = λ k. passes (test_view c.args.test.now) k.1 in
    let found = children_of l.found.items in
    let all = c.into_iter-name-iterator.ensures.into_iter_gives ∙ c.iter-name-items.ensures.rest in (
      sym (ap (λ es. list_any refuses (member_children (members_view es))) all) ∙ sym l.invariant.1 ∙ ap (λ es. list_any refuses (member_children (members_view es))) c.in-None.ensures.steps.0,
      sym (append-nil found) ∙ sym (ap (λ es. found ++ filter takes (member_children (members_view es))) c.in-None.ensures.steps.0) ∙ l.invariant.0 ∙ ap (λ es. filter takes (member_children (members_view es))) all,
    )

pub each_taken_below-loop-value-init : goal.each_taken_below-loop-value-init
each_taken_below-loop-value-init t c = rw c.new-found.ensures.items (refl, refl, refl)

pub each_taken_below-returns-in_err-visited : goal.each_taken_below-returns-in_err-visited
each_taken_below-returns-in_err-visited t c =
    let p = err_from_is_err_and c.from_residual.result c.from_residual.ensures.1 in
    rw (p.1, p.2) tt

pub each_taken_below-returns-in_err-found : goal.each_taken_below-returns-in_err-found
each_taken_below-returns-in_err-found t c =
    let l = c.loop-value in
    let items = c.deref-value-items.result.now in
    let ss = choices_view c.args.choices.now.items in
    let refuses = planned.choices_refused ss in
    let takes = planned.all_taken ss in
    let found = docs_of l.found.items in
    let new = values_below (view c.value-item.result.now) in
    let rest = flat_map values_below (docs_of (drop (l.value-index + 1) items)) in
    let all = flat_map values_below (docs_of items) in
    let here = drop_next items l.value-index c.value-item.result c.loop-value-test.true c.value-item.is in
    let whole : found ++ (each_selected takes new ++ each_selected takes rest) ≡ each_selected takes all =
    ap (λ ds. found ++ ds) (sym (flat_map-append (λ d. child_values (takes d)) new rest)) ∙ sym (ap (λ xs. found ++ each_selected takes (flat_map values_below (docs_of xs))) here) ∙ l.invariant.0 in
    let same : (list_any refuses new || list_any refuses rest) ≡ list_any refuses all =
    sym (list_any-append refuses new rest) ∙ sym (ap (λ xs. list_any refuses (flat_map values_below (docs_of xs))) here) ∙ l.invariant.1 in
    let e = c.in_err-found.field-0.0 in
    let stops = subst (λ ds. Stops e (list_any refuses ds || is_over (length (found ++ each_selected takes ds)))) c.in_ok-visited.ensures c.in_err-found.ensures in
    let p = err_from_is_err_and c.from_residual-in_err-found.result c.from_residual-in_err-found.ensures.1 in
    rw (p.1, p.2, sym c.deref-value-items.ensures.value)
    (stops_from e _ _ (stop_all found (each_selected takes new) (each_selected takes rest) (each_selected takes all) (list_any refuses new) (list_any refuses rest) (list_any refuses all) whole same) stops)

pub each_taken_below-loop-value-preserved : goal.each_taken_below-loop-value-preserved
each_taken_below-loop-value-preserved t c =
    let l = c.loop-value in
    let items = c.deref-value-items.result.now in
    let ss = choices_view c.args.choices.now.items in
    let refuses = planned.choices_refused ss in
    let takes = planned.all_taken ss in
    let found = docs_of l.found.items in
    let new = values_below (view c.value-item.result.now) in
    let rest = flat_map values_below (docs_of (drop (l.value-index + 1) items)) in
    let all = flat_map values_below (docs_of items) in
    let here = drop_next items l.value-index c.value-item.result c.loop-value-test.true c.value-item.is in
    let whole : found ++ (each_selected takes new ++ each_selected takes rest) ≡ each_selected takes all =
    ap (λ ds. found ++ ds) (sym (flat_map-append (λ d. child_values (takes d)) new rest)) ∙ sym (ap (λ xs. found ++ each_selected takes (flat_map values_below (docs_of xs))) here) ∙ l.invariant.0 in
    let same : (list_any refuses new || list_any refuses rest) ≡ list_any refuses all =
    sym (list_any-append refuses new rest) ∙ sym (ap (λ xs. list_any refuses (flat_map values_below (docs_of xs))) here) ∙ l.invariant.1 in
    let visited = c.in_ok-visited.ensures in
    let no = both_false (list_any refuses new) _ (subst (λ ds. (list_any refuses ds || is_over (length (found ++ each_selected takes ds))) ≡ false) visited c.in_ok-found.ensures.0) in
    go_on found (each_selected takes new) (each_selected takes rest) (each_selected takes all) (list_any refuses new) (list_any refuses rest) (list_any refuses all) whole same no.0 no.1
    (docs_of c.in_ok-found.found.items) (c.in_ok-found.ensures.1 ∙ ap (λ ds. found ++ each_selected takes ds) visited)

pub taken-returns-in_err-and_one-in-Only : goal.taken-returns-in_err-and_one-in-Only
taken-returns-in_err-and_one-in-Only t c =
    let p = err_from_is_err_and c.from_residual.result c.from_residual.ensures.1 in
    rw (p.1, p.2) tt

pub taken-returns-in_err-children-in-Every : goal.taken-returns-in_err-children-in-Every
taken-returns-in_err-children-in-Every t c =
    let p = err_from_is_err_and c.from_residual-in_err-children-in-Every.result c.from_residual-in_err-children-in-Every.ensures.1 in
    rw (p.1, p.2) tt

pub taken-returns-in_err-sliced-in-Sliced : goal.taken-returns-in_err-sliced-in-Sliced
taken-returns-in_err-sliced-in-Sliced t c =
    let p = err_from_is_err_and c.from_residual-in_err-sliced-in-Sliced.result c.from_residual-in_err-sliced-in-Sliced.ensures.1 in
    rw (p.1, p.2) tt

pub taken-returns-in_ok-and_one-in-Only : goal.taken-returns-in_ok-and_one-in-Only
taken-returns-in_ok-and_one-in-Only t c =
    rw (ap choice_view c.in-Only.is) (refl, c.in_ok-and_one-in-Only.ensures ∙ ap (λ ks. children_of ks ++ option_to_list (option_map child_of c.child_on.result)) c.new.ensures.items ∙ c.child_on.ensures)

pub taken-returns-in_ok-children-in-Every : goal.taken-returns-in_ok-children-in-Every
taken-returns-in_ok-children-in-Every t c = rw (ap choice_view c.in-Every.is) (refl, c.in_ok-children-in-Every.ensures)

pub taken-returns-in_ok-sliced-in-Sliced : goal.taken-returns-in_ok-sliced-in-Sliced
taken-returns-in_ok-sliced-in-Sliced t c = rw (ap choice_view c.in-Sliced.is) (refl, c.in_ok-sliced-in-Sliced.ensures)

pub values_of_plan-loop-segment-init : goal.values_of_plan-loop-segment-init
values_of_plan-loop-segment-init t c = rw (c.in_ok-push.ensures.items, c.new-list.ensures.items) (refl, refl)

pub passes_by_lists-returns-in_ok-values_of_plan-in-ThereIs : goal.passes_by_lists-returns-in_ok-values_of_plan-in-ThereIs
passes_by_lists-returns-in_ok-values_of_plan-in-ThereIs t c =
    let a = c.in_ok-values_of_plan-in-ThereIs.ensures in
    rw (ap test_view c.in-ThereIs.is) (a.0, c.is_some_value.ensures ∙ ap is_some_value a.1 ∙ sym (is_some_node-values _))

pub term-returns-in_ok-values_of_plan-in-OnlyOf : goal.term-returns-in_ok-values_of_plan-in-OnlyOf
term-returns-in_ok-values_of_plan-in-OnlyOf t c =
    let a = c.in_ok-values_of_plan-in-OnlyOf.ensures in
    rw (ap term_view c.in-OnlyOf.is) (a.0, c.only.ensures ∙ ap only a.1 ∙ sym (only_value-values _))

pub term-returns-in_ok-values_of_plan-in-NumberOf : goal.term-returns-in_ok-values_of_plan-in-NumberOf
term-returns-in_ok-values_of_plan-in-NumberOf t c =
    let a = c.in_ok-values_of_plan-in-NumberOf.ensures in
    rw (ap term_view c.in-NumberOf.is) (a.0, c.count.ensures ∙ ap (λ ds. comparing.number (length ds)) a.1 ∙ ap comparing.number (length-values _))
