use Rattle.std.proofs.Common.{◌≡◌, ◌+◌, ◌*◌, ◌-◌, suc, length}
use Rattle.path_grammar.specs.Reading.{read_more_selectors, read_basic, read_logical_and, read_more_parts, read_expression, read_argument, read_query, read_segments}
use Rattle.path_parse.specs.Gives.{before_selectors}
use Rattle.path_parse.proofs.Loops.{before_expressions, before_segments}
use Rattle.path_parse.proofs.+parser.Given as goal

abbrev pub decreases-filters::basic : goal.decreases-filters::basic
decreases-filters::basic l = 32 * l.depth + 13

abbrev pub decreases-filters::comparison : goal.decreases-filters::comparison
decreases-filters::comparison l = 32 * l.depth + 11

abbrev pub decreases-filters::expression : goal.decreases-filters::expression
decreases-filters::expression l = 32 * l.depth + 0

abbrev pub decreases-filters::from_query : goal.decreases-filters::from_query
decreases-filters::from_query l = 32 * l.depth + 12

abbrev pub decreases-filters::in_parentheses : goal.decreases-filters::in_parentheses
decreases-filters::in_parentheses l = 32 * l.depth + 1

abbrev pub decreases-filters::logical_and : goal.decreases-filters::logical_and
decreases-filters::logical_and l = 32 * l.depth + 16

abbrev pub decreases-filters::logical_or : goal.decreases-filters::logical_or
decreases-filters::logical_or l = 32 * l.depth + 19

abbrev pub decreases-filters::more_conjuncts : goal.decreases-filters::more_conjuncts
decreases-filters::more_conjuncts l = 32 * l.depth + 14

abbrev pub decreases-filters::more_disjuncts : goal.decreases-filters::more_disjuncts
decreases-filters::more_disjuncts l = 32 * l.depth + 17

abbrev pub decreases-filters::test : goal.decreases-filters::test
decreases-filters::test l = 32 * l.depth + 8

abbrev pub decreases-filters::from_no_query : goal.decreases-filters::from_no_query
decreases-filters::from_no_query l = 32 * l.depth + 12

abbrev pub decreases-filters::negation : goal.decreases-filters::negation
decreases-filters::negation l = 32 * l.depth + 12

abbrev pub decreases-filters::with_conjuncts : goal.decreases-filters::with_conjuncts
decreases-filters::with_conjuncts l = 32 * l.depth + 15

abbrev pub decreases-filters::with_disjuncts : goal.decreases-filters::with_disjuncts
decreases-filters::with_disjuncts l = 32 * l.depth + 18

abbrev pub decreases-operands::argument : goal.decreases-operands::argument
decreases-operands::argument l = 32 * l.depth + 0

abbrev pub decreases-operands::comparable : goal.decreases-operands::comparable
decreases-operands::comparable l = 32 * l.depth + 10

abbrev pub decreases-operands::count_call : goal.decreases-operands::count_call
decreases-operands::count_call l = 32 * l.depth + 8

abbrev pub decreases-operands::length_call : goal.decreases-operands::length_call
decreases-operands::length_call l = 32 * l.depth + 1

abbrev pub decreases-operands::no_query : goal.decreases-operands::no_query
decreases-operands::no_query l = 32 * l.depth + 9

abbrev pub decreases-operands::two_arguments : goal.decreases-operands::two_arguments
decreases-operands::two_arguments l = 32 * l.depth + 2

abbrev pub decreases-operands::after_argument : goal.decreases-operands::after_argument
decreases-operands::after_argument l = 32 * l.depth + 1

abbrev pub decreases-operands::value_call : goal.decreases-operands::value_call
decreases-operands::value_call l = 32 * l.depth + 8

abbrev pub decreases-segments::after_dots : goal.decreases-segments::after_dots
decreases-segments::after_dots l = 32 * l.depth + 4

abbrev pub decreases-segments::filter_query : goal.decreases-segments::filter_query
decreases-segments::filter_query l = 32 * l.depth + 7

abbrev pub decreases-segments::query : goal.decreases-segments::query
decreases-segments::query l = 32 * l.depth + 6

abbrev pub decreases-segments::segment : goal.decreases-segments::segment
decreases-segments::segment l = 32 * l.depth + 5

abbrev pub decreases-selectors::bracketed : goal.decreases-selectors::bracketed
decreases-selectors::bracketed l = 32 * l.depth + 3

abbrev pub decreases-selectors::more_selectors : goal.decreases-selectors::more_selectors
decreases-selectors::more_selectors l = 32 * l.depth + 2

abbrev pub decreases-selectors::selector : goal.decreases-selectors::selector
decreases-selectors::selector l = 32 * l.depth + 1

abbrev pub invariant-selectors::more_selectors-loop : goal.invariant-selectors::more_selectors-loop
invariant-selectors::more_selectors-loop l = before_selectors l.found.items l.left_out (read_more_selectors (read_expression l.depth) (read_argument l.depth) (l.end - l.counter) l.rest) ≡ before_selectors l.fn.found.items l.fn.left_out (read_more_selectors (read_expression l.depth) (read_argument l.depth) (suc (length l.text)) l.text)

abbrev pub invariant-filters::more_conjuncts-loop : goal.invariant-filters::more_conjuncts-loop
invariant-filters::more_conjuncts-loop l = before_expressions l.found.items l.left_out (read_more_parts (read_basic (read_expression l.depth) (read_argument l.depth)) 38 (l.end - l.counter) l.rest) ≡ read_more_parts (read_basic (read_expression l.depth) (read_argument l.depth)) 38 (suc (length l.text)) l.text

abbrev pub invariant-filters::more_disjuncts-loop : goal.invariant-filters::more_disjuncts-loop
invariant-filters::more_disjuncts-loop l = before_expressions l.found.items l.left_out (read_more_parts (read_logical_and (read_expression l.depth) (read_argument l.depth)) 124 (l.end - l.counter) l.rest) ≡ read_more_parts (read_logical_and (read_expression l.depth) (read_argument l.depth)) 124 (suc (length l.text)) l.text

abbrev pub invariant-segments::query-loop : goal.invariant-segments::query-loop
invariant-segments::query-loop l = before_segments l.found.items l.singular l.left_out (read_segments (read_expression l.depth) (read_argument l.depth) (l.end - l.counter) l.rest) ≡ read_query (read_expression l.depth) (read_argument l.depth) l.text
