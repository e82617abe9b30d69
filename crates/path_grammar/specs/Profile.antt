-- The parts of RFC 9535 that the profile leaves out: `match` and `search` (sections 2.4.6 and 2.4.7), and number
-- literals that are no whole numbers of 64 bits, written without fraction and exponent.
use Rattle.std.specs.Prelude.{◌≡◌, ◌^◌, Bool, true, false, ◌||◌, not, nat_lt, ℤ, pos, negsuc}
use Rattle.path_grammar.specs.Syntax.{Literal, json, decimal, Selector, name_selector, wildcard_selector, index_selector, filter_selector, slice_selector, Selectors, no_selectors, selector, Segments, no_segments, segment, Expression, logical_or, logical_and, logical_not, existence, comparison, match_of, search_of, Expressions, no_expressions, expression, Operand, literal, singular_query, length_of, count_of, value_of}
use Rattle.doc_tree.specs.Doc.{int}

-- a whole number of 64 bits
abbrev pub is_64_bit : ℤ → Bool
is_64_bit (pos n) = nat_lt n (2 ^ 63)
is_64_bit (negsuc n) = nat_lt n (2 ^ 63)

-- the literal is left out
abbrev pub literal_left_out : Literal → Bool
literal_left_out (json (int z)) = not (is_64_bit z)
literal_left_out (json d) = false
literal_left_out (decimal s m f e) = true

-- something in the query is left out
abbrev mutual
  -- in a selector
  pub selector_left_out : Selector → Bool
  selector_left_out (name_selector n) = false
  selector_left_out wildcard_selector = false
  selector_left_out (index_selector z) = false
  selector_left_out (filter_selector e) = expression_left_out e
  selector_left_out (slice_selector a b c) = false

  -- in selectors
  pub selectors_left_out : Selectors → Bool
  selectors_left_out no_selectors = false
  selectors_left_out (selector s ss) = selector_left_out s || selectors_left_out ss

  -- in a query, which is its segments
  pub segments_left_out : Segments → Bool
  segments_left_out no_segments = false
  segments_left_out (segment d ss q) = selectors_left_out ss || segments_left_out q

  -- in a logical expression
  pub expression_left_out : Expression → Bool
  expression_left_out (logical_or es) = expressions_left_out es
  expression_left_out (logical_and es) = expressions_left_out es
  expression_left_out (logical_not e) = expression_left_out e
  expression_left_out (existence root q) = segments_left_out q
  expression_left_out (comparison op a b) = operand_left_out a || operand_left_out b
  expression_left_out (match_of a b) = true
  expression_left_out (search_of a b) = true

  -- in the parts of an `or` or `and`
  pub expressions_left_out : Expressions → Bool
  expressions_left_out no_expressions = false
  expressions_left_out (expression e es) = expression_left_out e || expressions_left_out es

  -- in a side of a comparison, or an argument
  pub operand_left_out : Operand → Bool
  operand_left_out (literal l) = literal_left_out l
  operand_left_out (singular_query root q) = segments_left_out q
  operand_left_out (length_of o) = operand_left_out o
  operand_left_out (count_of root q) = segments_left_out q
  operand_left_out (value_of root q) = segments_left_out q

-- nothing in the query is left out
abbrev pub InProfile : Segments → Type 0
InProfile q = segments_left_out q ≡ false
