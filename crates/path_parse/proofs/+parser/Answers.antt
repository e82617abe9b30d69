use Rattle.std.proofs.Common.{◌≡◌, Some, true, false, refl, ◌∙◌, ap, subst, sym, arith}
use Rattle.std.proofs.lemmas.Result.{err_from_is_err_and}
use Rattle.path_grammar.specs.Syntax.{Segments}
use Rattle.path_grammar.specs.Reading.{after_character, after_doubled, read_expression, read_argument, read_selector, skip, read_basic, read_logical_and, read_logical_or, read_parts, begins_segment, read_segment, read_comparison, read_comparable, read_from_query, read_in_parentheses, read_test, read_nodes_argument, read_value_argument, read_no_query, read_filter_query, read_bracketed}
use Rattle.path_parse.specs.Gives.{Stops}
use Rattle.path_parse.proofs.Loops.{parts_on, parts_done, parts_stopped, parts_over, segments_on, segments_done, segments_stopped, segments_over, selectors_on, selectors_done, selectors_refused, selectors_stopped, selectors_over}
use Rattle.path_parse.proofs.Arguments.{two_arguments}
use Rattle.path_parse.proofs.Stopping.{passed, refused, made}
use Rattle.path_parse.proofs.+parser.Goals as goal

pub filters::more_conjuncts-returns-in_default : goal.filters::more_conjuncts-returns-in_default
filters::more_conjuncts-returns-in_default t c =
    let here = ap (after_doubled 38) (sym c.skip_blanks.ensures) ∙ sym c.in_default.ensures in
    parts_done (read_basic (read_expression c.args.depth) (read_argument c.args.depth)) 38 c.loop.found.items c.loop.left_out _ c.loop.counter c.loop.rest.now _ c.loop.invariant (omega arith) here

pub filters::more_conjuncts-returns-in_err-part : goal.filters::more_conjuncts-returns-in_err-part
filters::more_conjuncts-returns-in_err-part t c =
    let p = err_from_is_err_and c.from_residual.result c.from_residual.ensures.1 in
    let here = ap (after_doubled 38) (sym c.skip_blanks.ensures) ∙ sym c.in-Some.ensures in
    let stops = subst (λ w. Stops c.in_err-part.field-0.0 (read_basic (read_expression c.args.depth) (read_argument c.args.depth) w)) c.skip_blanks-in-loop.ensures c.in_err-part.ensures in
    rw (p.1, p.2) (parts_stopped (read_basic (read_expression c.args.depth) (read_argument c.args.depth)) 38 c.loop.found.items c.loop.left_out _ c.loop.counter c.loop.rest.now _ c.loop.invariant c.in_err-part.field-0.0 c.in-Some.next.now (omega arith) here stops)

pub filters::more_conjuncts-loop-preserved : goal.filters::more_conjuncts-loop-preserved
filters::more_conjuncts-loop-preserved t c =
    let here = ap (after_doubled 38) (sym c.skip_blanks.ensures) ∙ sym c.in-Some.ensures in
    let is = ap (read_basic (read_expression c.args.depth) (read_argument c.args.depth)) (sym c.skip_blanks-in-loop.ensures) ∙ c.in_ok-part.ensures in
    rw c.in_ok-push.ensures.items (parts_on (read_basic (read_expression c.args.depth) (read_argument c.args.depth)) 38 c.loop.found.items c.loop.left_out _ c.loop.counter c.loop.rest.now _ c.loop.invariant c.in_ok-part.part.value c.in_ok-part.part.left_out c.in-Some.next.now c.in_ok-part.part.rest.now (omega arith) here is)

pub filters::more_conjuncts-returns : goal.filters::more_conjuncts-returns
filters::more_conjuncts-returns t c = parts_over (read_basic (read_expression c.args.depth) (read_argument c.args.depth)) 38 c.loop.found.items c.loop.left_out _ c.loop.counter c.loop.rest.now _ c.loop.invariant (omega arith)

pub filters::more_disjuncts-returns-in_default : goal.filters::more_disjuncts-returns-in_default
filters::more_disjuncts-returns-in_default t c =
    let here = ap (after_doubled 124) (sym c.skip_blanks.ensures) ∙ sym c.in_default.ensures in
    parts_done (read_logical_and (read_expression c.args.depth) (read_argument c.args.depth)) 124 c.loop.found.items c.loop.left_out _ c.loop.counter c.loop.rest.now _ c.loop.invariant (omega arith) here

pub filters::more_disjuncts-returns-in_err-part : goal.filters::more_disjuncts-returns-in_err-part
filters::more_disjuncts-returns-in_err-part t c =
    let p = err_from_is_err_and c.from_residual.result c.from_residual.ensures.1 in
    let here = ap (after_doubled 124) (sym c.skip_blanks.ensures) ∙ sym c.in-Some.ensures in
    let stops = subst (λ w. Stops c.in_err-part.field-0.0 (read_logical_and (read_expression c.args.depth) (read_argument c.args.depth) w)) c.skip_blanks-in-loop.ensures c.in_err-part.ensures in
    rw (p.1, p.2) (parts_stopped (read_logical_and (read_expression c.args.depth) (read_argument c.args.depth)) 124 c.loop.found.items c.loop.left_out _ c.loop.counter c.loop.rest.now _ c.loop.invariant c.in_err-part.field-0.0 c.in-Some.next.now (omega arith) here stops)

pub filters::more_disjuncts-loop-preserved : goal.filters::more_disjuncts-loop-preserved
filters::more_disjuncts-loop-preserved t c =
    let here = ap (after_doubled 124) (sym c.skip_blanks.ensures) ∙ sym c.in-Some.ensures in
    let is = ap (read_logical_and (read_expression c.args.depth) (read_argument c.args.depth)) (sym c.skip_blanks-in-loop.ensures) ∙ c.in_ok-part.ensures in
    rw c.in_ok-push.ensures.items (parts_on (read_logical_and (read_expression c.args.depth) (read_argument c.args.depth)) 124 c.loop.found.items c.loop.left_out _ c.loop.counter c.loop.rest.now _ c.loop.invariant c.in_ok-part.part.value c.in_ok-part.part.left_out c.in-Some.next.now c.in_ok-part.part.rest.now (omega arith) here is)

pub filters::more_disjuncts-returns : goal.filters::more_disjuncts-returns
filters::more_disjuncts-returns t c = parts_over (read_logical_and (read_expression c.args.depth) (read_argument c.args.depth)) 124 c.loop.found.items c.loop.left_out _ c.loop.counter c.loop.rest.now _ c.loop.invariant (omega arith)

pub selectors::more_selectors-returns-in-Some : goal.selectors::more_selectors-returns-in-Some
selectors::more_selectors-returns-in-Some t c =
    let found : after_character 93 (skip c.loop.rest.now) ≡ _ = ap (after_character 93) (sym c.skip_blanks-here.ensures) ∙ sym c.in-Some.ensures in
    selectors_done (read_expression c.args.depth) (read_argument c.args.depth) c.loop.found.items c.loop.left_out _ c.loop.counter c.loop.rest.now _ c.loop.invariant c.in-Some.rest.now (omega arith) found

pub selectors::more_selectors-returns-in_default-after : goal.selectors::more_selectors-returns-in_default-after
selectors::more_selectors-returns-in_default-after t c =
    let no_end = ap (after_character 93) (sym c.skip_blanks-here.ensures) ∙ sym c.in_default.ensures in
    let no_comma = ap (after_character 44) (sym c.skip_blanks-here.ensures) ∙ sym c.in_default-after.ensures in
    selectors_refused (read_expression c.args.depth) (read_argument c.args.depth) c.loop.found.items c.loop.left_out _ c.loop.counter c.loop.rest.now _ c.loop.invariant (omega arith) no_end no_comma

pub selectors::more_selectors-returns-in_err-part : goal.selectors::more_selectors-returns-in_err-part
selectors::more_selectors-returns-in_err-part t c =
    let p = err_from_is_err_and c.from_residual.result c.from_residual.ensures.1 in
    let no_end = ap (after_character 93) (sym c.skip_blanks-here.ensures) ∙ sym c.in_default.ensures in
    let comma = ap (after_character 44) (sym c.skip_blanks-here.ensures) ∙ sym c.in-Some-after.ensures in
    let stops = subst (λ w. Stops c.in_err-part.field-0.0 (read_selector (read_expression c.args.depth) (read_argument c.args.depth) w)) c.skip_blanks.ensures c.in_err-part.ensures in
    rw (p.1, p.2) (selectors_stopped (read_expression c.args.depth) (read_argument c.args.depth) c.loop.found.items c.loop.left_out _ c.loop.counter c.loop.rest.now _ c.loop.invariant c.in_err-part.field-0.0 c.in-Some-after.next.now (omega arith) no_end comma stops)

pub selectors::more_selectors-loop-preserved : goal.selectors::more_selectors-loop-preserved
selectors::more_selectors-loop-preserved t c =
    let no_end = ap (after_character 93) (sym c.skip_blanks-here.ensures) ∙ sym c.in_default.ensures in
    let comma = ap (after_character 44) (sym c.skip_blanks-here.ensures) ∙ sym c.in-Some-after.ensures in
    let is = ap (read_selector (read_expression c.args.depth) (read_argument c.args.depth)) (sym c.skip_blanks.ensures) ∙ c.in_ok-part.ensures in
    rw c.in_ok-push.ensures.items (selectors_on (read_expression c.args.depth) (read_argument c.args.depth) c.loop.found.items c.loop.left_out _ c.loop.counter c.loop.rest.now _ c.loop.invariant c.in_ok-part.part.value c.in_ok-part.part.left_out c.in-Some-after.next.now c.in_ok-part.part.rest.now (omega arith) no_end comma is)

pub selectors::more_selectors-returns : goal.selectors::more_selectors-returns
selectors::more_selectors-returns t c = selectors_over (read_expression c.args.depth) (read_argument c.args.depth) c.loop.found.items c.loop.left_out _ c.loop.counter c.loop.rest.now _ c.loop.invariant (omega arith)

pub segments::query-returns-then-not-begins_segment : goal.segments::query-returns-then-not-begins_segment
segments::query-returns-then-not-begins_segment t c =
    let here : begins_segment (skip c.loop.rest.now) ≡ false = ap begins_segment (sym c.skip_blanks-here.ensures) ∙ (sym c.begins_segment.ensures ∙ c.if-not-begins_segment.true) in
    segments_done (read_expression c.args.depth) (read_argument c.args.depth) c.loop.found.items c.loop.singular c.loop.left_out _ c.loop.counter c.loop.rest.now _ c.loop.invariant (omega arith) here ∙ ap (λ (q : Segments). Some (q, c.loop.singular, c.loop.left_out, c.loop.rest.now)) (sym c.query.ensures)

pub segments::query-returns-in_err-part : goal.segments::query-returns-in_err-part
segments::query-returns-in_err-part t c =
    let p = err_from_is_err_and c.from_residual.result c.from_residual.ensures.1 in
    let here : begins_segment (skip c.loop.rest.now) ≡ true = ap begins_segment (sym c.skip_blanks-here.ensures) ∙ (sym c.begins_segment.ensures ∙ c.if-not-begins_segment.false) in
    let stops = subst (λ w. Stops c.in_err-part.field-0.0 (read_segment (read_expression c.args.depth) (read_argument c.args.depth) w)) c.skip_blanks-here.ensures c.in_err-part.ensures in
    rw (p.1, p.2) (segments_stopped (read_expression c.args.depth) (read_argument c.args.depth) c.loop.found.items c.loop.singular c.loop.left_out _ c.loop.counter c.loop.rest.now _ c.loop.invariant c.in_err-part.field-0.0 (omega arith) here stops)

pub segments::query-loop-preserved : goal.segments::query-loop-preserved
segments::query-loop-preserved t c =
    let here : begins_segment (skip c.loop.rest.now) ≡ true = ap begins_segment (sym c.skip_blanks-here.ensures) ∙ (sym c.begins_segment.ensures ∙ c.if-not-begins_segment.false) in
    let is = ap (read_segment (read_expression c.args.depth) (read_argument c.args.depth)) (sym c.skip_blanks-here.ensures) ∙ c.in_ok-part.ensures in
    rw c.in_ok-push.ensures.items (segments_on (read_expression c.args.depth) (read_argument c.args.depth) c.loop.found.items c.loop.singular c.loop.left_out _ c.loop.counter c.loop.rest.now _ c.loop.invariant c.in_ok-part.part.value c.in_ok-part.part.singular c.in_ok-part.part.left_out c.in_ok-part.part.rest.now (omega arith) here is)

pub segments::query-returns : goal.segments::query-returns
segments::query-returns t c = segments_over (read_expression c.args.depth) (read_argument c.args.depth) c.loop.found.items c.loop.singular c.loop.left_out _ c.loop.counter c.loop.rest.now _ c.loop.invariant (omega arith)

pub filters::comparison-returns-in_err-right : goal.filters::comparison-returns-in_err-right
unfolding read_comparison
filters::comparison-returns-in_err-right t c = rw (sym c.skip_blanks.ensures) (passed _ _ _ c.from_residual.result c.in_err-right.field-0.0 c.from_residual.ensures.1 c.in_err-right.ensures)

pub filters::from_no_query-returns-in_err-left : goal.filters::from_no_query-returns-in_err-left
filters::from_no_query-returns-in_err-left t c = passed _ _ _ c.from_residual.result c.in_err-left.field-0.0 c.from_residual.ensures.1 c.in_err-left.ensures

pub filters::from_query-returns-in_err-part : goal.filters::from_query-returns-in_err-part
unfolding read_from_query
filters::from_query-returns-in_err-part t c = passed _ _ _ c.from_residual.result c.in_err-part.field-0.0 c.from_residual.ensures.1 c.in_err-part.ensures

pub filters::in_parentheses-returns-in_err-part : goal.filters::in_parentheses-returns-in_err-part
unfolding read_in_parentheses
filters::in_parentheses-returns-in_err-part t c = rw (sym c.skip_blanks.ensures) (passed _ _ _ c.from_residual.result c.in_err-part.field-0.0 c.from_residual.ensures.1 c.in_err-part.ensures)

pub filters::logical_and-returns-in_err-first : goal.filters::logical_and-returns-in_err-first
unfolding read_logical_and read_parts
filters::logical_and-returns-in_err-first t c = passed _ _ _ c.from_residual.result c.in_err-first.field-0.0 c.from_residual.ensures.1 c.in_err-first.ensures

pub filters::logical_or-returns-in_err-first : goal.filters::logical_or-returns-in_err-first
unfolding read_logical_or read_parts
filters::logical_or-returns-in_err-first t c = passed _ _ _ c.from_residual.result c.in_err-first.field-0.0 c.from_residual.ensures.1 c.in_err-first.ensures

pub filters::more_conjuncts-returns-in_err-push : goal.filters::more_conjuncts-returns-in_err-push
filters::more_conjuncts-returns-in_err-push t c = refused _ _ c.from_residual-in_err-push.result c.from_residual-in_err-push.ensures.1

pub filters::more_disjuncts-returns-in_err-push : goal.filters::more_disjuncts-returns-in_err-push
filters::more_disjuncts-returns-in_err-push t c = refused _ _ c.from_residual-in_err-push.result c.from_residual-in_err-push.ensures.1

pub filters::negation-returns-in_err-part : goal.filters::negation-returns-in_err-part
filters::negation-returns-in_err-part t c = rw (sym c.skip_blanks.ensures) (passed _ _ _ c.from_residual.result c.in_err-part.field-0.0 c.from_residual.ensures.1 c.in_err-part.ensures)

pub filters::negation-returns-in_err-not : goal.filters::negation-returns-in_err-not
filters::negation-returns-in_err-not t c = refused _ _ c.from_residual-in_err-not.result c.from_residual-in_err-not.ensures.1

pub filters::test-returns-in_err-part : goal.filters::test-returns-in_err-part
unfolding read_test
filters::test-returns-in_err-part t c = rw (sym c.in_default.ensures, sym c.in_default-after_word.ensures, sym c.in_default-after_word-2.ensures) (passed _ _ _ c.from_residual.result c.in_err-part.field-0.0 c.from_residual.ensures.1 c.in_err-part.ensures)

pub filters::with_conjuncts-returns-in_err-more : goal.filters::with_conjuncts-returns-in_err-more
filters::with_conjuncts-returns-in_err-more t c = passed _ _ _ c.from_residual.result c.in_err-more.field-0.0 c.from_residual.ensures.1 c.in_err-more.ensures

pub filters::with_disjuncts-returns-in_err-more : goal.filters::with_disjuncts-returns-in_err-more
filters::with_disjuncts-returns-in_err-more t c = passed _ _ _ c.from_residual.result c.in_err-more.field-0.0 c.from_residual.ensures.1 c.in_err-more.ensures

pub operands::comparable-returns-in_err-part : goal.operands::comparable-returns-in_err-part
unfolding read_comparable
operands::comparable-returns-in_err-part t c = rw (sym c.in-Some.ensures) (passed _ _ _ c.from_residual.result c.in_err-part.field-0.0 c.from_residual.ensures.1 c.in_err-part.ensures)

pub operands::count_call-returns-in_err-part : goal.operands::count_call-returns-in_err-part
unfolding read_nodes_argument
operands::count_call-returns-in_err-part t c = rw (sym c.skip_blanks.ensures) (passed _ _ _ c.from_residual.result c.in_err-part.field-0.0 c.from_residual.ensures.1 c.in_err-part.ensures)

pub operands::length_call-returns-in_err-part : goal.operands::length_call-returns-in_err-part
unfolding read_value_argument
operands::length_call-returns-in_err-part t c = rw (sym c.skip_blanks.ensures) (passed _ _ _ c.from_residual.result c.in_err-part.field-0.0 c.from_residual.ensures.1 c.in_err-part.ensures)

pub operands::length_call-returns-in_err-length : goal.operands::length_call-returns-in_err-length
operands::length_call-returns-in_err-length t c = refused _ _ c.from_residual-in_err-length.result c.from_residual-in_err-length.ensures.1

pub operands::no_query-returns-in_err-part : goal.operands::no_query-returns-in_err-part
unfolding read_no_query
operands::no_query-returns-in_err-part t c = rw (sym c.in_default.ensures, sym c.in_default-after_word.ensures, sym c.in_default-after_word-2.ensures) (passed _ _ _ c.from_residual.result c.in_err-part.field-0.0 c.from_residual.ensures.1 c.in_err-part.ensures)

pub operands::value_call-returns-in_err-part : goal.operands::value_call-returns-in_err-part
unfolding read_nodes_argument
operands::value_call-returns-in_err-part t c = rw (sym c.skip_blanks.ensures) (passed _ _ _ c.from_residual.result c.in_err-part.field-0.0 c.from_residual.ensures.1 c.in_err-part.ensures)

pub segments::filter_query-returns-in_err-part : goal.segments::filter_query-returns-in_err-part
unfolding read_filter_query
segments::filter_query-returns-in_err-part t c = rw (sym c.in-Some.ensures) (passed _ _ _ c.from_residual.result c.in_err-part.field-0.0 c.from_residual.ensures.1 c.in_err-part.ensures)

pub segments::query-returns-in_err-push : goal.segments::query-returns-in_err-push
segments::query-returns-in_err-push t c = refused _ _ c.from_residual-in_err-push.result c.from_residual-in_err-push.ensures.1

pub segments::segment-returns-in_err-part : goal.segments::segment-returns-in_err-part
unfolding read_segment
segments::segment-returns-in_err-part t c = rw (sym c.in-Some.ensures) (passed _ _ _ c.from_residual.result c.in_err-part.field-0.0 c.from_residual.ensures.1 c.in_err-part.ensures)

pub segments::segment-returns-in_err-part-2 : goal.segments::segment-returns-in_err-part-2
unfolding read_segment
segments::segment-returns-in_err-part-2 t c = rw (sym c.in_default.ensures, sym c.in-Some-after.ensures) (passed _ _ _ c.from_residual-in_err-part-2.result c.in_err-part-2.field-0.0 c.from_residual-in_err-part-2.ensures.1 c.in_err-part-2.ensures)

pub segments::segment-returns-in_err-part-3 : goal.segments::segment-returns-in_err-part-3
unfolding read_segment
segments::segment-returns-in_err-part-3 t c = rw (sym c.in_default.ensures, sym c.in_default-after.ensures, sym c.in-Some-after-2.ensures) (passed _ _ _ c.from_residual-in_err-part-3.result c.in_err-part-3.field-0.0 c.from_residual-in_err-part-3.ensures.1 c.in_err-part-3.ensures)

pub selectors::bracketed-returns-in_err-first : goal.selectors::bracketed-returns-in_err-first
unfolding read_bracketed
selectors::bracketed-returns-in_err-first t c = rw (sym c.skip_blanks.ensures) (passed _ _ _ c.from_residual.result c.in_err-first.field-0.0 c.from_residual.ensures.1 c.in_err-first.ensures)

pub selectors::bracketed-returns-in_err-push : goal.selectors::bracketed-returns-in_err-push
selectors::bracketed-returns-in_err-push t c = refused _ _ c.from_residual-in_err-push.result c.from_residual-in_err-push.ensures.1

pub selectors::bracketed-returns-in_err-all : goal.selectors::bracketed-returns-in_err-all
unfolding read_bracketed
selectors::bracketed-returns-in_err-all t c = rw (sym c.skip_blanks.ensures, c.in_ok-first.ensures, sym c.in_default.ensures) (passed _ _ _ c.from_residual-in_err-all.result c.in_err-all.field-0.0 c.from_residual-in_err-all.ensures.1 (made _ _ c.in_err-all.field-0.0 c.in_err-all.ensures))

pub selectors::selector-returns-in_err-part : goal.selectors::selector-returns-in_err-part
unfolding read_selector
selectors::selector-returns-in_err-part t c = rw (sym c.in_default.ensures, sym c.in-Some-after.ensures, sym c.skip_blanks.ensures) (passed _ _ _ c.from_residual.result c.in_err-part.field-0.0 c.from_residual.ensures.1 c.in_err-part.ensures)

pub selectors::selector-returns-in_err-value : goal.selectors::selector-returns-in_err-value
unfolding read_selector
selectors::selector-returns-in_err-value t c = rw (sym c.in_default.ensures, sym c.in_default-after.ensures) (passed _ _ _ c.from_residual-in_err-value.result c.in_err-value.field-0.0 c.from_residual-in_err-value.ensures.1 c.in_err-value.ensures)

pub operands::after_argument-returns : goal.operands::after_argument-returns
operands::after_argument-returns t c = rw (sym c.skip_blanks.ensures, c.in_ok-part.ensures) (ap Some (sym c.skip_blanks-2.ensures))

pub operands::two_arguments-returns-in_default : goal.operands::two_arguments-returns-in_default
operands::two_arguments-returns-in_default t c = two_arguments (read_expression c.args.depth) (read_argument c.args.depth) c.args.text.now ∙ rw (c.in_ok-after_argument.ensures, sym c.in_default.ensures) refl

pub operands::two_arguments-returns : goal.operands::two_arguments-returns
operands::two_arguments-returns t c = two_arguments (read_expression c.args.depth) (read_argument c.args.depth) c.args.text.now ∙ rw (c.in_ok-after_argument.ensures, sym c.in-Some.ensures, c.in_ok-after_argument-2.ensures, sym c.in-Some-after.ensures, c.nothing.ensures) refl
