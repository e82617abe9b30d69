-- No definition of the grammar: a device of its proofs. It says what reading keeps of a query: placeholders represent
-- what the profile leaves out, `null` a literal and an empty `or` a call.
use Rattle.std.specs.Prelude.{if◌then◌else◌}
use Rattle.path_grammar.specs.Syntax.{Literal, json, Selector, name_selector, wildcard_selector, index_selector, filter_selector, slice_selector, Selectors, no_selectors, selector, Segments, no_segments, segment, Expression, logical_or, logical_and, logical_not, existence, comparison, match_of, search_of, Expressions, no_expressions, expression, Operand, literal, singular_query, length_of, count_of, value_of}
use Rattle.doc_tree.specs.Doc.{null}
use Rattle.path_grammar.specs.Profile.{literal_left_out}

-- what is kept of a literal
abbrev pub literal_kept : Literal → Literal
literal_kept l = if literal_left_out l then json null else l

-- what is kept of a query and of its parts
abbrev mutual
  -- of a selector
  pub selector_kept : Selector → Selector
  selector_kept (name_selector n) = name_selector n
  selector_kept wildcard_selector = wildcard_selector
  selector_kept (index_selector z) = index_selector z
  selector_kept (filter_selector e) = filter_selector (expression_kept e)
  selector_kept (slice_selector a b c) = slice_selector a b c

  -- of selectors
  pub selectors_kept : Selectors → Selectors
  selectors_kept no_selectors = no_selectors
  selectors_kept (selector s ss) = selector (selector_kept s) (selectors_kept ss)

  -- of a query, which is its segments
  pub segments_kept : Segments → Segments
  segments_kept no_segments = no_segments
  segments_kept (segment d ss q) = segment d (selectors_kept ss) (segments_kept q)

  -- of a logical expression
  pub expression_kept : Expression → Expression
  expression_kept (logical_or es) = logical_or (expressions_kept es)
  expression_kept (logical_and es) = logical_and (expressions_kept es)
  expression_kept (logical_not e) = logical_not (expression_kept e)
  expression_kept (existence root q) = existence root (segments_kept q)
  expression_kept (comparison op a b) = comparison op (operand_kept a) (operand_kept b)
  expression_kept (match_of a b) = logical_or no_expressions
  expression_kept (search_of a b) = logical_or no_expressions

  -- of the parts of an `or` or `and`
  pub expressions_kept : Expressions → Expressions
  expressions_kept no_expressions = no_expressions
  expressions_kept (expression e es) = expression (expression_kept e) (expressions_kept es)

  -- of a side of a comparison, or an argument
  pub operand_kept : Operand → Operand
  operand_kept (literal l) = literal (literal_kept l)
  operand_kept (singular_query root q) = singular_query root (segments_kept q)
  operand_kept (length_of o) = length_of (operand_kept o)
  operand_kept (count_of root q) = count_of root (segments_kept q)
  operand_kept (value_of root q) = value_of root (segments_kept q)
