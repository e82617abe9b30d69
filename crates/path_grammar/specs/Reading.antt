-- No definition of the grammar: a device of its proofs. It reads from left to right, as a function, what the grammar
-- relates (the law `reading_is_the_grammar`), so that the code can be tied to the grammar one reader at a time. Each
-- reader answers what is kept of the value (`Kept`), whether something is left out (`Profile`), and the rest of the text.
use Rattle.std.specs.Prelude.{ℕ, zero, suc, Bool, true, false, ◌&&◌, ◌||◌, ◌==◌, [], ◌∷◌, length, Option, Some, None, ℤ, if◌then◌else◌}
use Rattle.path_grammar.specs.declared.compare_op.CompareOp.{CompareOp}
use Rattle.path_grammar.specs.declared.compare_op.CompareOp.TheVariants.{Equal, NotEqual, Less, LessEqual, Greater, GreaterEqual}
use Rattle.path_grammar.specs.Syntax.{Selector, name_selector, wildcard_selector, index_selector, filter_selector, slice_selector, Selectors, no_selectors, selector, Segments, no_segments, segment, Expression, logical_or, logical_and, logical_not, existence, comparison, Expressions, no_expressions, expression, Operand, literal, singular_query, length_of, count_of, value_of}
use Rattle.path_grammar.specs.Characters.{Text, is_blank}
unfoldable pub use Rattle.path_grammar.specs.ReadingWords.{◌>>=◌, on, after_character, after_doubled, after_word, after, skip, read_run, read_shorthand, begins, read_hex_digit, read_four_hex_digits, read_low_surrogate, read_hex_escape, read_short_escape, read_escaped, read_unescaped, read_character, read_characters, read_quoted, read_string, begins_string, read_digits, read_positive, read_int, read_magnitude, read_signed, read_fraction_digits, read_fraction, read_natural, after_e, read_exponent, goes_on_number, read_number, read_literal, begins_int}

-- ---- selectors without a filter

-- a bound of a slice, or nothing, and the blanks after it
unfoldable pub read_slice_bound : Text → Option (Option ℤ × Text)
read_slice_bound t = if begins_int t then (read_int t >>= λ x. Some (Some x.0, skip x.1)) else Some (None, t)

-- the step of a slice with its colon, or nothing
unfoldable pub read_slice_step : Text → Option (Option ℤ × Text)
read_slice_step t =
    on (after ":" t)
    (λ w. if begins_int (skip w) then (read_int (skip w) >>= λ x. Some (Some x.0, x.1)) else Some (None, w))
    (Some (None, t))

-- after the first colon
unfoldable pub read_slice_from : Option ℤ → Text → Option (Selector × Text)
read_slice_from start t = read_slice_bound (skip t) >>= λ b. read_slice_step b.1 >>= λ c. Some (slice_selector start b.0 c.0, c.1)

-- `index-selector` or `slice-selector`
unfoldable pub read_index_or_slice : Text → Option (Selector × Text)
read_index_or_slice t =
    on (after ":" t) (read_slice_from None)
    (read_int t >>= λ x. on (after ":" (skip x.1)) (read_slice_from (Some x.0)) (Some (index_selector x.0, x.1)))

-- what selects without a filter
unfoldable pub read_plain_selector : Text → Option (Selector × Text)
read_plain_selector t = if begins_string t then (read_string t >>= λ x. Some (name_selector x.0, x.1)) else read_index_or_slice t

-- the selectors after one dot or two; whether a singular query may have them, and then that nothing is left out
unfoldable pub read_dotted : Text → Option (Selectors × Bool × Bool × Text)
read_dotted t =
    on (after "*" t) (λ r. Some (selector wildcard_selector no_selectors, false, false, r))
    (read_shorthand t >>= λ x. Some (selector (name_selector x.0) no_selectors, true, false, x.1))

-- ---- operators

-- the operator with an `=`, or without it
abbrev pub read_with_equals : CompareOp → CompareOp → Text → Option (CompareOp × Text)
read_with_equals both alone r = on (after "=" r) (λ w. Some (both, w)) (Some (alone, r))

-- `comparison-op`
unfoldable pub read_comparison_op : Text → Option (CompareOp × Text)
read_comparison_op t =
    on (after "=" t) (λ r. after "=" r >>= λ w. Some (Equal, w))
    (on (after "!" t) (λ r. after "=" r >>= λ w. Some (NotEqual, w))
    (on (after "<" t) (read_with_equals LessEqual Less)
    (on (after ">" t) (read_with_equals GreaterEqual Greater) None)))

-- `@` or `$`, by which a query begins at the current node or at the root
abbrev pub read_identifier : Text → Option (Bool × Text)
read_identifier t = on (after "@" t) (λ r. Some (false, r)) (on (after "$" t) (λ r. Some (true, r)) None)

-- parts together; one alone is that part itself
abbrev pub join_parts : (Expressions → Expression) → Expression → Expressions → Expression
join_parts make e no_expressions = e
join_parts make e (expression f rest) = make (expression e (expression f rest))

-- further parts after a doubled separator
unfoldable pub read_more_parts : (Text → Option (Expression × Bool × Text)) → ℕ → ℕ → Text → Option (Expressions × Bool × Text)
read_more_parts item separator zero t = None
read_more_parts item separator (suc k) t =
    on (after_doubled separator (skip t))
    (λ u. item (skip u) >>= λ x. read_more_parts item separator k x.2 >>= λ y. Some (expression x.0 y.0, x.1 || y.1, y.2))
    (Some (no_expressions, false, t))

-- one part and its further ones
unfoldable pub read_parts : (Text → Option (Expression × Bool × Text)) → (Expressions → Expression) → ℕ → Text → Option (Expression × Bool × Text)
read_parts item make separator t = item t >>= λ x. read_more_parts item separator (suc (length x.2)) x.2 >>= λ y. Some (join_parts make x.0 y.0, x.1 || y.1, y.2)

-- begins with `.` or `[`
abbrev pub begins_segment : Text → Bool
begins_segment [] = false
begins_segment (c ∷ t) = (c == 46) || (c == 91)

-- begins with a blank
abbrev pub starts_with_blank : Text → Bool
starts_with_blank [] = false
starts_with_blank (c ∷ t) = is_blank c

-- a bracket of a singular query may hold it
abbrev pub is_singular_selector : Selector → Bool
is_singular_selector (name_selector n) = true
is_singular_selector (index_selector z) = true
is_singular_selector wildcard_selector = false
is_singular_selector (filter_selector e) = false
is_singular_selector (slice_selector a b c) = false

-- a name or an index, read from the text t, with no blank on either side
abbrev pub after_singular : Text → Selector → Text → Option Text
after_singular t s r = if starts_with_blank t then None else if is_singular_selector s then after "]" r else None

-- begins with `@` or `$`
abbrev pub begins_query : Text → Bool
begins_query [] = false
begins_query (c ∷ t) = (c == 64) || (c == 36)

-- `inner` reads the inside of a filter or of parentheses, and `argument` a Value argument
module _ (inner : Text → Option (Expression × Bool × Text)) (read_argument : Text → Option (Operand × Bool × Text)) where
  -- `selector`
  unfoldable pub read_selector : Text → Option (Selector × Bool × Text)
  read_selector t =
      on (after "*" t) (λ r. Some (wildcard_selector, false, r))
      (on (after "?" t) (λ r. inner (skip r) >>= λ x. Some (filter_selector x.0, x.1, x.2))
      (read_plain_selector t >>= λ x. Some (x.0, false, x.1)))

  -- further selectors up to the closing bracket
  unfoldable pub read_more_selectors : ℕ → Text → Option (Selectors × Bool × Text)
  read_more_selectors zero t = None
  read_more_selectors (suc k) t =
      on (after "]" (skip t)) (λ r. Some (no_selectors, false, r))
      (after "," (skip t) >>= λ u. read_selector (skip u) >>= λ x. read_more_selectors k x.2 >>= λ y. Some (selector x.0 y.0, x.1 || y.1, y.2))

  -- the selectors after the opening bracket; whether a singular query may have them, and then what is left out
  unfoldable pub read_bracketed : Text → Option (Selectors × Bool × Bool × Text)
  read_bracketed t =
      read_selector (skip t) >>= λ x.
      on (after_singular t x.0 x.2) (λ r. Some (selector x.0 no_selectors, true, x.1, r))
      (read_more_selectors (suc (length x.2)) x.2 >>= λ y. Some (selector x.0 y.0, false, x.1 || y.1, y.2))

  -- after two dots
  unfoldable pub read_after_dots : Text → Option (Selectors × Bool × Bool × Text)
  read_after_dots t = on (after "[" t) read_bracketed (read_dotted t)

  -- `segment`
  unfoldable pub read_segment : Text → Option (Bool × Selectors × Bool × Bool × Text)
  read_segment t =
      on (after ".." t) (λ u. read_after_dots u >>= λ x. Some (true, x.0, false, x.2, x.3))
      (on (after "." t) (λ u. read_dotted u >>= λ x. Some (false, x.0, x.1, x.2, x.3))
      (after "[" t >>= λ u. read_bracketed u >>= λ x. Some (false, x.0, x.1, x.2, x.3)))

  -- `segments`: whether they may be those of a singular query, and what is left out
  unfoldable pub read_segments : ℕ → Text → Option (Segments × Bool × Bool × Text)
  read_segments zero t = None
  read_segments (suc k) t =
      if begins_segment (skip t)
      then (read_segment (skip t) >>= λ x. read_segments k x.4 >>= λ y. Some (segment x.0 x.1 y.0, x.2 && y.1, x.3 || y.2, y.3))
      else Some (no_segments, true, false, t)

  -- a query after `@` or `$`
  abbrev pub read_query : Text → Option (Segments × Bool × Bool × Text)
  read_query t = read_segments (suc (length t)) t

  -- a query with its root
  unfoldable pub read_filter_query : Text → Option (Bool × Segments × Bool × Bool × Text)
  read_filter_query t = read_identifier t >>= λ x. read_query x.1 >>= λ q. Some (x.0, q.0, q.1, q.2, q.3)

  -- the argument of `length` and the closing parenthesis
  unfoldable pub read_value_argument : Text → Option (Operand × Bool × Text)
  read_value_argument t = read_argument (skip t) >>= λ x. after ")" (skip x.2) >>= λ r. Some (length_of x.0, x.1, r)

  -- the argument of `count` or `value` and the closing parenthesis
  unfoldable pub read_nodes_argument : (Bool → Segments → Operand) → Text → Option (Operand × Bool × Text)
  read_nodes_argument make t = read_filter_query (skip t) >>= λ x. after ")" (skip x.4) >>= λ r. Some (make x.0 x.1, x.3, r)

  -- the two arguments of a test that is left out
  unfoldable pub read_two_arguments : Text → Option (Expression × Bool × Text)
  read_two_arguments t =
      read_argument (skip t) >>= λ a. after "," (skip a.2) >>= λ u. read_argument (skip u) >>= λ b. after ")" (skip b.2) >>= λ r. Some (logical_or no_expressions, true, r)

  -- a comparable that is no query
  unfoldable pub read_no_query : Text → Option (Operand × Bool × Text)
  read_no_query t =
      on (after "length(" t) read_value_argument
      (on (after "count(" t) (read_nodes_argument count_of)
      (on (after "value(" t) (read_nodes_argument value_of)
      (read_literal t >>= λ x. Some (literal x.0, x.1, x.2))))

  -- `comparable`
  unfoldable pub read_comparable : Text → Option (Operand × Bool × Text)
  read_comparable t =
      on (read_identifier t)
      (λ x. read_query x.1 >>= λ q. if q.1 then Some (singular_query x.0 q.0, q.2, q.3) else None)
      (read_no_query t)

  -- `logical-expr` after an opening parenthesis, and the closing one
  unfoldable pub read_in_parentheses : Text → Option (Expression × Bool × Text)
  read_in_parentheses t = inner (skip t) >>= λ x. after ")" (skip x.2) >>= λ r. Some (x.0, x.1, r)

  -- what may be negated
  unfoldable pub read_test : Text → Option (Expression × Bool × Text)
  read_test t =
      on (after "(" t) read_in_parentheses
      (on (after "match(" t) read_two_arguments
      (on (after "search(" t) read_two_arguments
      (read_filter_query t >>= λ x. Some (existence x.0 x.1, x.3, x.4))))

  -- a comparison after its operator
  unfoldable pub read_comparison : Operand → Bool → CompareOp → Text → Option (Expression × Bool × Text)
  read_comparison left out op t = read_comparable (skip t) >>= λ right. Some (comparison op left right.0, out || right.1, right.2)

  -- what begins with a query: a comparison, or a test
  unfoldable pub read_from_query : Text → Option (Expression × Bool × Text)
  read_from_query t =
      read_filter_query t >>= λ x.
      on (read_comparison_op (skip x.4))
      (λ o. if x.2 then read_comparison (singular_query x.0 x.1) x.3 o.0 o.1 else None)
      (Some (existence x.0 x.1, x.3, x.4))

  -- `basic-expr`
  unfoldable pub read_basic : Text → Option (Expression × Bool × Text)
  read_basic t =
      on (after "!" t) (λ r. read_test (skip r) >>= λ x. Some (logical_not x.0, x.1, x.2))
      (if begins_query t then read_from_query t else
      (on (after "(" t) read_in_parentheses
      (on (after "match(" t) read_two_arguments
      (on (after "search(" t) read_two_arguments
      (read_no_query t >>= λ x. read_comparison_op (skip x.2) >>= λ o. read_comparison x.0 x.1 o.0 o.1)))))

  -- the further parts of a conjunction, each after `&&`
  abbrev pub read_more_conjuncts : ℕ → Text → Option (Expressions × Bool × Text)
  read_more_conjuncts = read_more_parts read_basic 38

  -- `logical-and-expr`
  unfoldable pub read_logical_and : Text → Option (Expression × Bool × Text)
  read_logical_and = read_parts read_basic logical_and 38

  -- the further parts of a disjunction, each after `||`
  abbrev pub read_more_disjuncts : ℕ → Text → Option (Expressions × Bool × Text)
  read_more_disjuncts = read_more_parts read_logical_and 124

  -- `logical-or-expr`
  unfoldable pub read_logical_or : Text → Option (Expression × Bool × Text)
  read_logical_or = read_parts read_logical_and logical_or 124

-- an expression and a Value argument, at most n parentheses, filters and calls deep
unfoldable mutual
  -- `logical-expr`
  pub read_expression : ℕ → Text → Option (Expression × Bool × Text)
  read_expression zero t = None
  read_expression (suc n) t = read_logical_or (read_expression n) (read_argument n) t

  -- an argument of a function that takes a Value
  pub read_argument : ℕ → Text → Option (Operand × Bool × Text)
  read_argument zero t = None
  read_argument (suc n) t = read_comparable (read_expression n) (read_argument n) t

-- the whole text, and whether something in it is left out
unfoldable pub read_whole : Text → Option (Segments × Bool)
read_whole t = after "$" t >>= λ r. read_query (read_expression (length t)) (read_argument (length t)) r >>= λ q. if length q.3 == 0 then Some (q.0, q.2) else None
