-- The evaluation of queries (RFC 9535, sections 2.3 and 2.5): the nodelist, with no limit on how many nodes it has.
-- `root` is the value of the whole document, which `$` means. The locations of nodes don't matter in a filter.
use Rattle.std.specs.Prelude.{Bool, true, false, not, ◌&&◌, ◌||◌, List, [], ◌++◌, length, filter, Option, Some, None, if◌then◌else◌}
use Rattle.doc_tree.specs.Doc.{Doc}
use Rattle.path_grammar.specs.Syntax.{json, decimal, Selector, name_selector, wildcard_selector, slice_selector, index_selector, filter_selector, Selectors, no_selectors, selector, Segments, no_segments, segment, Expression, logical_or, logical_and, logical_not, existence, comparison, match_of, search_of, Expressions, no_expressions, expression, Operand, literal, singular_query, length_of, count_of, value_of}
use Rattle.path_select.specs.Nodes.{Located, Child, children, list_after, only_node}
use Rattle.path_select.specs.Selectors.{named, indexed, sliced}
use Rattle.path_select.specs.Comparing.{compares, number, length_value, only_value, is_some_node}

-- the value at which a query begins: the root (`$`) or the current value (`@`)
abbrev pub beginning : Bool → Doc → Doc → Doc
beginning from_root root here = if from_root then root else here

abbrev mutual
  -- the children of a value that a selector selects
  pub selected : Doc → Selector → Doc → List Child
  selected root (name_selector k) d = named k d
  selected root wildcard_selector d = children d
  selected root (slice_selector start stop step) d = sliced start stop step d
  selected root (index_selector i) d = indexed i d
  selected root (filter_selector e) d = filter (λ c. holds root e c.1) (children d)

  -- those of each selector in order; what is selected twice is in the list twice
  pub all_selected : Doc → Selectors → Doc → List Child
  all_selected root no_selectors d = []
  all_selected root (selector s ss) d = selected root s d ++ all_selected root ss d

  -- the list after all segments
  pub nodelist : Doc → Segments → List Located → List Located
  nodelist root no_segments ns = ns
  nodelist root (segment descend ss q) ns = nodelist root q (list_after (all_selected root ss) descend ns)

  -- the filter's expression holds of the value
  pub holds : Doc → Expression → Doc → Bool
  holds root (logical_or es) here = some_hold root es here
  holds root (logical_and es) here = all_hold root es here
  holds root (logical_not e) here = not (holds root e here)
  holds root (existence from_root q) here = is_some_node (nodelist root q (only_node (beginning from_root root here)))
  holds root (comparison op a b) here = compares op (operand_value root a here) (operand_value root b here)
  holds root (match_of a b) here = false
  holds root (search_of a b) here = false

  pub some_hold : Doc → Expressions → Doc → Bool
  some_hold root no_expressions here = false
  some_hold root (expression e es) here = holds root e here || some_hold root es here

  pub all_hold : Doc → Expressions → Doc → Bool
  all_hold root no_expressions here = true
  all_hold root (expression e es) here = holds root e here && all_hold root es here

  -- the value of a side of a comparison, or Nothing
  pub operand_value : Doc → Operand → Doc → Option Doc
  operand_value root (literal (json d)) here = Some d
  operand_value root (literal (decimal s m f x)) here = None
  operand_value root (singular_query from_root q) here = only_value (nodelist root q (only_node (beginning from_root root here)))
  operand_value root (length_of o) here = length_value (operand_value root o here)
  operand_value root (count_of from_root q) here = number (length (nodelist root q (only_node (beginning from_root root here))))
  operand_value root (value_of from_root q) here = only_value (nodelist root q (only_node (beginning from_root root here)))
