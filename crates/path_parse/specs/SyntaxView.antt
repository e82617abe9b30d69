-- The queries that the code's syntax represents.
use Rattle.std.specs.Prelude.{Bool, List, string_bytes, [], ◌∷◌}
use Rattle.doc_tree.specs.TreeView.{view}
use Rattle.path_grammar.specs.Syntax
use Rattle.path_grammar.specs.Syntax.{name_selector, wildcard_selector, slice_selector, index_selector, filter_selector, no_selectors, selector, no_segments, segment, logical_or, logical_and, logical_not, existence, comparison, no_expressions, expression, literal, json, singular_query, length_of, count_of, value_of}
use Rattle.path_parse.specs.declared.syntax.Query.{Query, Query', Row_of-Segment, end_of-Segment, more_of-Segment, Row_of-Selector, end_of-Selector, more_of-Selector}
use Rattle.path_parse.specs.declared.syntax.Segment.{Segment}
use Rattle.path_parse.specs.declared.syntax.Selector.{Selector, Name, Wild, Index, Filter, Slice}
use Rattle.path_parse.specs.declared.syntax.Source.{Source, Source'}
use Rattle.path_parse.specs.declared.syntax.Expr.{Expr, Or', And', Not', Exists, Compare, Row_of-Expr, end_of-Expr, more_of-Expr}
use Rattle.path_parse.specs.declared.syntax.Operand.{Operand, Literal, Single, Length', Count, ValueOf}

-- whether the query begins at the root
abbrev pub source_root : Source → Bool
source_root (Source' root q) = root

-- the query and its parts that the code's types represent
abbrev mutual
  -- a query
  pub query_view : Query → Syntax.Segments
  query_view (Query' shape row) = segments_in row

  -- its segments, as a row of a `Vec`
  pub segments_in : {n : _} → Row_of-Segment n → Syntax.Segments
  segments_in end_of-Segment = no_segments
  segments_in (more_of-Segment descend shape row rest) = segment descend (selectors_in row) (segments_in rest)

  -- selectors, as a row of a `Vec`
  pub selectors_in : {n : _} → Row_of-Selector n → Syntax.Selectors
  selectors_in end_of-Selector = no_selectors
  selectors_in (more_of-Selector s rest) = selector (selector_view s) (selectors_in rest)

  -- a selector
  pub selector_view : Selector → Syntax.Selector
  selector_view (Name s) = name_selector (string_bytes s)
  selector_view Wild = wildcard_selector
  selector_view (Index i) = index_selector i
  selector_view (Filter e) = filter_selector (expression_view e)
  selector_view (Slice start stop step) = slice_selector start stop step

  -- a logical expression
  pub expression_view : Expr → Syntax.Expression
  expression_view (Or' shape row) = logical_or (expressions_in row)
  expression_view (And' shape row) = logical_and (expressions_in row)
  expression_view (Not' p e) = logical_not (expression_view e)
  expression_view (Exists s) = existence (source_root s) (source_query s)
  expression_view (Compare op left right) = comparison op (operand_view left) (operand_view right)

  -- expressions, as a row of a `Vec`
  pub expressions_in : {n : _} → Row_of-Expr n → Syntax.Expressions
  expressions_in end_of-Expr = no_expressions
  expressions_in (more_of-Expr e rest) = expression (expression_view e) (expressions_in rest)

  -- the query of a source, without its beginning
  pub source_query : Source → Syntax.Segments
  source_query (Source' root q) = query_view q

  -- a side of a comparison, or an argument
  pub operand_view : Operand → Syntax.Operand
  operand_view (Literal t) = literal (json (view t))
  operand_view (Single s) = singular_query (source_root s) (source_query s)
  operand_view (Length' p o) = length_of (operand_view o)
  operand_view (Count s) = count_of (source_root s) (source_query s)
  operand_view (ValueOf s) = value_of (source_root s) (source_query s)

-- of selectors in a `Vec`
abbrev pub selectors_view : List Selector → Syntax.Selectors
selectors_view [] = no_selectors
selectors_view (s ∷ rest) = selector (selector_view s) (selectors_view rest)

-- of segments in a `Vec`
abbrev pub segments_view : List Segment → Syntax.Segments
segments_view [] = no_segments
segments_view (s ∷ rest) = segment s.descend (selectors_view s.selectors.items) (segments_view rest)

-- of expressions in a `Vec`
abbrev pub expressions_view : List Expr → Syntax.Expressions
expressions_view [] = no_expressions
expressions_view (e ∷ rest) = expression (expression_view e) (expressions_view rest)
