-- Queries as RFC 9535 has them, apart from how code keeps them: every valid query, with calls of `match` and
-- `search` and with number literals of every size and form.
use Rattle.std.specs.Prelude.{ℕ, Bool, List, Option, ℤ}
use Rattle.doc_tree.specs.Doc.{Doc}
use Rattle.path_grammar.specs.declared.compare_op.CompareOp.{CompareOp}

-- `literal`, section 2.3.5.1: a JSON value that is no list and no object; or a number with a fraction or an
-- exponent, kept as it is spelled (whether it begins with `-`, its whole part, the digits of its fraction, its
-- exponent)
pub data Literal : Type 0 where
  json : Doc → Literal
  decimal : Bool → ℕ → List ℕ → Option ℤ → Literal

mutual
  -- `selector`, section 2.3. Names are UTF-8 bytes; an absent bound or step of a slice is None (section 2.3.4)
  pub data Selector : Type 0 where
    name_selector : List ℕ → Selector
    wildcard_selector : Selector
    slice_selector : Option ℤ → Option ℤ → Option ℤ → Selector
    index_selector : ℤ → Selector
    filter_selector : Expression → Selector

  -- the selectors of one segment, in order
  pub data Selectors : Type 0 where
    no_selectors : Selectors
    selector : Selector → Selectors → Selectors

  -- `segments`, sections 2.1.1 and 2.5: each with whether it is a descendant segment (`..`)
  pub data Segments : Type 0 where
    no_segments : Segments
    segment : Bool → Selectors → Segments → Segments

  -- `logical-expr`, section 2.3.5.1. A query has its segments, and says whether it begins at the root (`$`, else `@`).
  -- `match` and `search` are those of sections 2.4.6 and 2.4.7
  pub data Expression : Type 0 where
    logical_or : Expressions → Expression
    logical_and : Expressions → Expression
    logical_not : Expression → Expression
    existence : Bool → Segments → Expression
    comparison : CompareOp → Operand → Operand → Expression
    match_of : Operand → Operand → Expression
    search_of : Operand → Operand → Expression

  -- the parts of an `||` or an `&&`, in order
  pub data Expressions : Type 0 where
    no_expressions : Expressions
    expression : Expression → Expressions → Expressions

  -- `comparable`, section 2.3.5.1, and what is given to `length`: a literal, a query, or a call of the functions
  -- of sections 2.4.4, 2.4.5 and 2.4.8
  pub data Operand : Type 0 where
    literal : Literal → Operand
    singular_query : Bool → Segments → Operand
    length_of : Operand → Operand
    count_of : Bool → Segments → Operand
    value_of : Bool → Segments → Operand
