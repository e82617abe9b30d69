-- What is left is no longer than the text.
use Rattle.std.proofs.Common.{ℕ, ◌≤◌, ◌<◌, Bool, List, length, Option, ℤ, arith}
use Rattle.path_grammar.specs.declared.compare_op.CompareOp.{CompareOp}
use Rattle.path_grammar.specs.Syntax.{Literal, Selector, Selectors, Segments, Expression, Expressions, Operand}
use Rattle.path_grammar.specs.Characters.{Text, Blanks, no_blank, blank, Run, run_end, run_on, Shorthand, shorthand}
use Rattle.path_grammar.specs.Strings.{StringLiteral, double_quoted, single_quoted}
use Rattle.path_grammar.specs.Numbers.{Digits, no_digit, digit, Positive, positive, Int, zero_int, positive_int, negative_int, Magnitude, zero_magnitude, positive_magnitude, Signed, unsigned, minus, Fraction, no_fraction, fraction, Natural, natural, Exponent, no_exponent, bare_exponent, plus_exponent, minus_exponent, number}
use Rattle.path_grammar.specs.Grammar.{SingularSelectorAt, a_name, an_index, SliceBoundAt, no_bound, bound, SliceStepAt, no_step, empty_step, step, DottedAt, dotted_wildcard, dotted_name, LiteralAt, a_number, a_string, a_true, a_false, a_null, ComparisonOpAt, equal, not_equal, less_equal, greater_equal, less, greater, SegmentsAt, segments_end, segments_more, SegmentAt, child_bracketed, child_dotted, descendant_bracketed, descendant_dotted, BracketedAt, singular_bracket, any_bracket, MoreSelectorsAt, selectors_end, selectors_more, SelectorAt, a_singular, a_wildcard, a_slice, a_filter, LogicalOrAt, one_conjunction, disjunction, MoreOrAt, last_disjunct, more_disjuncts, LogicalAndAt, one_basic_expression, conjunction, MoreAndAt, last_conjunct, more_conjuncts, BasicExpressionAt, a_test, negated_test, a_comparison, TestAt, parentheses, existence_test, match_call, search_call, FilterQueryAt, relative_query, absolute_query, ComparableAt, a_literal, a_singular_query, length_call, count_call, value_call, TwoArgumentsAt, two_arguments}
use Rattle.path_grammar.proofs.Follow.{chars_le}

pub blanks_le : {t r : Text} → Blanks t r → length r ≤ length t
blanks_le no_blank = omega arith
blanks_le (blank h b) = omega (arith, blanks_le b)

pub run_le : {p : ℕ → Bool} {cs : List ℕ} {t r : Text} → Run p cs t r → length r ≤ length t
run_le run_end = omega arith
run_le (run_on h b) = omega (arith, run_le b)

pub shorthand_le : {cs : List ℕ} {t r : Text} → Shorthand cs t r → length r < length t
shorthand_le (shorthand h b) = omega (arith, run_le b)

pub string_le : {s : List ℕ} {t r : Text} → StringLiteral s t r → length r < length t
string_le (double_quoted m) = omega (arith, chars_le m)
string_le (single_quoted m) = omega (arith, chars_le m)

pub digits_le : {n m : ℕ} {t r : Text} → Digits n m t r → length r ≤ length t
digits_le no_digit = omega arith
digits_le (digit h b) = omega (arith, digits_le b)

pub positive_le : {m : ℕ} {t r : Text} → Positive m t r → length r < length t
positive_le (positive h b) = omega (arith, digits_le b)

pub int_le : {z : ℤ} {t r : Text} → Int z t r → length r < length t
int_le zero_int = omega arith
int_le (positive_int h b) = omega (arith, positive_le b)
int_le (negative_int h b) = omega (arith, positive_le b)

pub bound_le : {z : Option ℤ} {t r : Text} → SliceBoundAt z t r → length r ≤ length t
bound_le no_bound = omega arith
bound_le (bound i b) = omega (arith, int_le i, blanks_le b)

pub step_le : {z : Option ℤ} {t r : Text} → SliceStepAt z t r → length r ≤ length t
step_le no_step = omega arith
step_le empty_step = omega arith
step_le (step b i) = omega (arith, blanks_le b, int_le i)

pub comparison_op_le : {o : CompareOp} {t r : Text} → ComparisonOpAt o t r → length r < length t
comparison_op_le equal = omega arith
comparison_op_le not_equal = omega arith
comparison_op_le less_equal = omega arith
comparison_op_le greater_equal = omega arith
comparison_op_le less = omega arith
comparison_op_le greater = omega arith

magnitude_le : {m : ℕ} {t r : Text} → Magnitude m t r → length r < length t
magnitude_le zero_magnitude = omega arith
magnitude_le (positive_magnitude p) = positive_le p

signed_le : {s : Bool} {m : ℕ} {t r : Text} → Signed s m t r → length r < length t
signed_le (unsigned p) = magnitude_le p
signed_le (minus p) = omega (arith, magnitude_le p)

fraction_le : {f : List ℕ} {t r : Text} → Fraction f t r → length r ≤ length t
fraction_le no_fraction = omega arith
fraction_le (fraction d p) = omega (arith, run_le p)

natural_le : {m : ℕ} {t r : Text} → Natural m t r → length r < length t
natural_le (natural h p) = omega (arith, digits_le p)

exponent_le : {z : Option ℤ} {t r : Text} → Exponent z t r → length r ≤ length t
exponent_le no_exponent = omega arith
exponent_le (bare_exponent x n) = omega (arith, natural_le n)
exponent_le (plus_exponent x n) = omega (arith, natural_le n)
exponent_le (minus_exponent x n) = omega (arith, natural_le n)

pub literal_le : {l : Literal} {t r : Text} → LiteralAt l t r → length r < length t
literal_le (a_string s) = string_le s
literal_le a_true = omega arith
literal_le a_false = omega arith
literal_le a_null = omega arith
literal_le (a_number (number s f e)) = omega (arith, signed_le s, fraction_le f, exponent_le e)

pub singular_selector_le : {s : Selector} {t r : Text} → SingularSelectorAt s t r → length r < length t
singular_selector_le (a_name s) = string_le s
singular_selector_le (an_index i) = int_le i

pub dotted_le : {ss : Selectors} {b : Bool} {t r : Text} → DottedAt ss b t r → length r < length t
dotted_le dotted_wildcard = omega arith
dotted_le (dotted_name s) = omega (arith, shorthand_le s)

mutual
  pub segments_le : {q : Segments} {b : Bool} {t r : Text} → SegmentsAt q b t r → length r ≤ length t
  segments_le segments_end = omega arith
  segments_le (segments_more a s m) = omega (arith, blanks_le a, segment_le s, segments_le m)

  pub segment_le : {d : Bool} {q : Selectors} {b : Bool} {t r : Text} → SegmentAt d q b t r → length r < length t
  segment_le (child_dotted d) = omega (arith, dotted_le d)
  segment_le (child_bracketed s) = omega (arith, bracket_le s)
  segment_le (descendant_dotted d) = omega (arith, dotted_le d)
  segment_le (descendant_bracketed s) = omega (arith, bracket_le s)

  pub bracket_le : {q : Selectors} {b : Bool} {t r : Text} → BracketedAt q b t r → length r < length t
  bracket_le (singular_bracket s) = omega (arith, singular_selector_le s)
  bracket_le (any_bracket a s m) = omega (arith, blanks_le a, selector_le s, more_selectors_le m)

  pub more_selectors_le : {q : Selectors} {t r : Text} → MoreSelectorsAt q t r → length r < length t
  more_selectors_le (selectors_end a) = omega (arith, blanks_le a)
  more_selectors_le (selectors_more a b s m) = omega (arith, blanks_le a, blanks_le b, selector_le s, more_selectors_le m)

  pub selector_le : {q : Selector} {t r : Text} → SelectorAt q t r → length r ≤ length t
  selector_le a_wildcard = omega arith
  selector_le (a_singular s) = omega (arith, singular_selector_le s)
  selector_le (a_slice a b c d) = omega (arith, bound_le a, blanks_le b, bound_le c, step_le d)
  selector_le (a_filter a e) = omega (arith, blanks_le a, or_le e)

  pub or_le : {e : Expression} {t r : Text} → LogicalOrAt e t r → length r ≤ length t
  or_le (one_conjunction e) = and_le e
  or_le (disjunction e m) = omega (arith, and_le e, ors_le m)

  pub ors_le : {e : Expressions} {t r : Text} → MoreOrAt e t r → length r ≤ length t
  ors_le (last_disjunct a b e) = omega (arith, blanks_le a, blanks_le b, and_le e)
  ors_le (more_disjuncts a b e m) = omega (arith, blanks_le a, blanks_le b, and_le e, ors_le m)

  pub and_le : {e : Expression} {t r : Text} → LogicalAndAt e t r → length r ≤ length t
  and_le (one_basic_expression e) = basic_le e
  and_le (conjunction e m) = omega (arith, basic_le e, ands_le m)

  pub ands_le : {e : Expressions} {t r : Text} → MoreAndAt e t r → length r ≤ length t
  ands_le (last_conjunct a b e) = omega (arith, blanks_le a, blanks_le b, basic_le e)
  ands_le (more_conjuncts a b e m) = omega (arith, blanks_le a, blanks_le b, basic_le e, ands_le m)

  pub basic_le : {e : Expression} {t r : Text} → BasicExpressionAt e t r → length r ≤ length t
  basic_le (a_test e) = test_le e
  basic_le (negated_test a e) = omega (arith, blanks_le a, test_le e)
  basic_le (a_comparison l a o b r) = omega (arith, comparable_le l, blanks_le a, comparison_op_le o, blanks_le b, comparable_le r)

  pub test_le : {e : Expression} {t r : Text} → TestAt e t r → length r ≤ length t
  test_le (parentheses a e b) = omega (arith, blanks_le a, or_le e, blanks_le b)
  test_le (existence_test q) = omega (arith, filter_query_le q)
  test_le (match_call m) = omega (arith, two_arguments_le m)
  test_le (search_call m) = omega (arith, two_arguments_le m)

  pub filter_query_le : {root b : Bool} {q : Segments} {t r : Text} → FilterQueryAt root q b t r → length r < length t
  filter_query_le (relative_query s) = omega (arith, segments_le s)
  filter_query_le (absolute_query s) = omega (arith, segments_le s)

  pub comparable_le : {o : Operand} {t r : Text} → ComparableAt o t r → length r ≤ length t
  comparable_le (a_literal l) = omega (arith, literal_le l)
  comparable_le (a_singular_query q) = omega (arith, filter_query_le q)
  comparable_le (length_call a o b) = omega (arith, blanks_le a, comparable_le o, blanks_le b)
  comparable_le (count_call a q b) = omega (arith, blanks_le a, filter_query_le q, blanks_le b)
  comparable_le (value_call a q b) = omega (arith, blanks_le a, filter_query_le q, blanks_le b)

  pub two_arguments_le : {o p : Operand} {t r : Text} → TwoArgumentsAt o p t r → length r ≤ length t
  two_arguments_le (two_arguments a o b c p d) = omega (arith, blanks_le a, comparable_le o, blanks_le b, blanks_le c, comparable_le p, blanks_le d)
