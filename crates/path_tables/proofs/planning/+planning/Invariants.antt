use Rattle.std.proofs.Common.{◌≡◌, drop}
use Rattle.doc_tree.specs.TreeView.{view}
use Rattle.path_parse.specs.SyntaxView.{expressions_view, segments_view, selectors_view}
use Rattle.path_plans.specs.Planned.{plan, plan_choices, plan_tests}
use Rattle.path_tables.proofs.Made.{choices_onto, plan_segments_onto, tests_onto}
use Rattle.path_tables.proofs.planning.+planning.Given as goal

abbrev pub invariant-plan_of-loop-segment : goal.invariant-plan_of-loop-segment
invariant-plan_of-loop-segment l =
    plan_segments_onto l.segments.items (plan (view l.root) (segments_view (drop l.segment-index l.segment-items))) ≡ plan (view l.root) (segments_view l.segment-items)

abbrev pub invariant-choices_of-loop-selector : goal.invariant-choices_of-loop-selector
invariant-choices_of-loop-selector l =
    choices_onto l.choices.items (plan_choices (view l.root) (selectors_view (drop l.selector-index l.selector-items))) ≡ plan_choices (view l.root) (selectors_view l.selector-items)

abbrev pub invariant-tests_of-loop-part : goal.invariant-tests_of-loop-part
invariant-tests_of-loop-part l =
    tests_onto l.tests.items (plan_tests (view l.root) (expressions_view (drop l.part-index l.part-items))) ≡ plan_tests (view l.root) (expressions_view l.part-items)
