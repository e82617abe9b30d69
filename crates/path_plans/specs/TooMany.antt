-- The queries that are refused for the number of their nodes.
use Rattle.std.specs.Prelude.{Bool, false, ◌||◌, List, length}
use Rattle.std.specs.List.{list_any}
use Rattle.doc_tree.specs.Doc.{Doc}
use Rattle.path_grammar.specs.Syntax.{Selector, name_selector, wildcard_selector, slice_selector, index_selector, filter_selector, Selectors, no_selectors, selector, Segments, no_segments, segment, Expression, logical_or, logical_and, logical_not, existence, comparison, match_of, search_of, Expressions, no_expressions, expression, Operand, literal, singular_query, length_of, count_of, value_of}
use Rattle.path_select.specs.Nodes.{Located, children, visited, list_after, only_node}
use Rattle.path_plans.specs.Evaluating.{all_selected, beginning}
use Rattle.path_select.specs.Limit.{is_over}

abbrev mutual
  -- the list after some segment has too many nodes, or a filter of a segment is tried on a child at which a query in it
  -- is refused
  pub too_many : Doc → Segments → List Located → Bool
  too_many root no_segments ns = false
  too_many root (segment descend ss q) ns =
      list_any (λ u. selectors_refused root ss u.1) (visited descend ns) || (is_over (length (list_after (all_selected root ss) descend ns)) || too_many root q (list_after (all_selected root ss) descend ns))

  pub selectors_refused : Doc → Selectors → Doc → Bool
  selectors_refused root no_selectors d = false
  selectors_refused root (selector s ss) d = selector_refused root s d || selectors_refused root ss d

  -- a filter is tried on each child of the value
  pub selector_refused : Doc → Selector → Doc → Bool
  selector_refused root (name_selector k) d = false
  selector_refused root wildcard_selector d = false
  selector_refused root (slice_selector start stop step) d = false
  selector_refused root (index_selector i) d = false
  selector_refused root (filter_selector e) d = list_any (λ c. expression_refused root e c.1) (children d)

  -- a query in the expression is refused, whether or not it decides
  pub expression_refused : Doc → Expression → Doc → Bool
  expression_refused root (logical_or es) here = some_refused root es here
  expression_refused root (logical_and es) here = some_refused root es here
  expression_refused root (logical_not e) here = expression_refused root e here
  expression_refused root (existence from_root q) here = too_many root q (only_node (beginning from_root root here))
  expression_refused root (comparison op a b) here = operand_refused root a here || operand_refused root b here
  expression_refused root (match_of a b) here = false
  expression_refused root (search_of a b) here = false

  pub some_refused : Doc → Expressions → Doc → Bool
  some_refused root no_expressions here = false
  some_refused root (expression e es) here = expression_refused root e here || some_refused root es here

  pub operand_refused : Doc → Operand → Doc → Bool
  operand_refused root (literal l) here = false
  operand_refused root (singular_query from_root q) here = too_many root q (only_node (beginning from_root root here))
  operand_refused root (length_of o) here = operand_refused root o here
  operand_refused root (count_of from_root q) here = too_many root q (only_node (beginning from_root root here))
  operand_refused root (value_of from_root q) here = too_many root q (only_node (beginning from_root root here))
