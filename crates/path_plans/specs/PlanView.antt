-- The plans that the code's types represent.
use Rattle.std.specs.Prelude.{List, [], ◌∷◌, false, string_bytes}
use Rattle.path_grammar.specs.Syntax.{Selector, name_selector, wildcard_selector, slice_selector, index_selector}
use Rattle.path_plans.specs.Planned as planned
use Rattle.path_plans.specs.Planned.{plain, kept, no_choices, choice, done, step, some_of, all_of, not_that, there_is, there_was, compared, no_tests, test, known, only_of, size_of, number_of}
use Rattle.path_select.specs.ChildView.{side_if}
use Rattle.path_plans.specs.declared.plan.Plan.{Plan, Plan', Row_of-PlanSegment, end_of-PlanSegment, more_of-PlanSegment, Row_of-PlanSelector, end_of-PlanSelector, more_of-PlanSelector}
use Rattle.path_plans.specs.declared.plan.PlanSegment.{PlanSegment}
use Rattle.path_plans.specs.declared.plan.PlanSelector.{PlanSelector, Only, Every, Sliced, Kept}
use Rattle.path_plans.specs.declared.plan.Way.{Way}
use Rattle.path_plans.specs.declared.plan.Way.TheVariants.{Name, Index}
use Rattle.path_plans.specs.declared.plan.PlanFilter.{PlanFilter, LeadsThere, SomeOf', AllOf', NotThat', ThereIs, ThereWas, Compared, Row_of-PlanFilter, end_of-PlanFilter, more_of-PlanFilter}
use Rattle.path_plans.specs.declared.plan.PlanComparable.{PlanComparable, Known, OnlyOf, LedTo, SizeOf', NumberOf}

-- a name, or an index
abbrev pub way_selector : Way → Selector
way_selector (Name s) = name_selector (string_bytes s.now)
way_selector (Index i) = index_selector i

-- a singular query: a child segment for each way, with that selector alone
abbrev pub ways_plan : List Way → planned.Plan
ways_plan [] = done
ways_plan (w ∷ ws) = step false (choice (plain (way_selector w)) no_choices) (ways_plan ws)

abbrev mutual
  pub plan_view : Plan → planned.Plan
  plan_view (Plan' shape row) = plan_segments_in row

  pub plan_segments_in : {n : _} → Row_of-PlanSegment n → planned.Plan
  plan_segments_in end_of-PlanSegment = done
  plan_segments_in (more_of-PlanSegment descend shape row rest) = step descend (choices_in row) (plan_segments_in rest)

  pub choices_in : {n : _} → Row_of-PlanSelector n → planned.PlanSelectors
  choices_in end_of-PlanSelector = no_choices
  choices_in (more_of-PlanSelector s rest) = choice (choice_view s) (choices_in rest)

  pub choice_view : PlanSelector → planned.PlanSelector
  choice_view (Only w) = plain (way_selector w)
  choice_view Every = plain wildcard_selector
  choice_view (Sliced start stop by) = plain (slice_selector start stop by)
  choice_view (Kept t) = kept (test_view t)

  pub test_view : PlanFilter → planned.PlanFilter
  test_view (SomeOf' shape row) = some_of (tests_in row)
  test_view (AllOf' shape row) = all_of (tests_in row)
  test_view (NotThat' p t) = not_that (test_view t)
  test_view (ThereIs q) = there_is (plan_view q)
  test_view (LeadsThere ways) = there_is (ways_plan ways.items)
  test_view (ThereWas refused is) = there_was refused is
  test_view (Compared op left right) = compared op (term_view left) (term_view right)

  pub tests_in : {n : _} → Row_of-PlanFilter n → planned.PlanFilters
  tests_in end_of-PlanFilter = no_tests
  tests_in (more_of-PlanFilter t rest) = test (test_view t) (tests_in rest)

  pub term_view : PlanComparable → planned.PlanComparable
  term_view (Known refused value) = known refused (side_if value)
  term_view (OnlyOf q) = only_of (plan_view q)
  term_view (LedTo ways) = only_of (ways_plan ways.items)
  term_view (SizeOf' p t) = size_of (term_view t)
  term_view (NumberOf q) = number_of (plan_view q)

abbrev pub choices_view : List PlanSelector → planned.PlanSelectors
choices_view [] = no_choices
choices_view (s ∷ rest) = choice (choice_view s) (choices_view rest)

abbrev pub plan_segments_view : List PlanSegment → planned.Plan
plan_segments_view [] = done
plan_segments_view (s ∷ rest) = step s.descend (choices_view s.choices.items) (plan_segments_view rest)

abbrev pub tests_view : List PlanFilter → planned.PlanFilters
tests_view [] = no_tests
tests_view (t ∷ rest) = test (test_view t) (tests_view rest)
