-- The grammar: which texts spell which queries, by the productions of RFC 9535 (its Appendix A puts them together),
-- with the types of functions (section 2.4.3) and the range of indexes (section 2.1). Each family is named after a
-- production, each constructor is one of its choices, and a text in quotes is the production's.
use Rattle.std.specs.Prelude.{codes, ◌≡◌, Bool, true, false, ◌&&◌, List, ℕ, [], ◌++◌, Option, Some, None, ℤ}
use Rattle.doc_tree.specs.Doc.{null, boolean, text}
use Rattle.path_grammar.specs.declared.compare_op.CompareOp.{CompareOp}
use Rattle.path_grammar.specs.declared.compare_op.CompareOp.TheVariants.{Equal, NotEqual, Less, LessEqual, Greater, GreaterEqual}
use Rattle.path_grammar.specs.Syntax.{Literal, json, Selector, name_selector, wildcard_selector, slice_selector, index_selector, filter_selector, Selectors, no_selectors, selector, Segments, no_segments, segment, Expression, logical_or, logical_and, logical_not, existence, comparison, match_of, search_of, Expressions, no_expressions, expression, Operand, literal, singular_query, length_of, count_of, value_of}
use Rattle.path_grammar.specs.Characters.{Text, Blanks, Shorthand}
use Rattle.path_grammar.specs.Strings.{StringLiteral}
use Rattle.path_grammar.specs.Numbers.{Int, Number}

-- ---- selectors without a filter (section 2.3), and what follows a dot (sections 2.5.1.1 and 2.5.2.1)

-- `name-selector` (2.3.1.1) or `index-selector` (2.3.3.1): what a bracket of a singular query holds
pub data SingularSelectorAt : Selector → Text → Text → Type 0 where
  a_name : {s : List ℕ} {t r : Text} → StringLiteral s t r → SingularSelectorAt (name_selector s) t r
  an_index : {z : ℤ} {t r : Text} → Int z t r → SingularSelectorAt (index_selector z) t r

-- of a slice (2.3.4.1) `[start S]`, and `[end S]`
pub data SliceBoundAt : Option ℤ → Text → Text → Type 0 where
  no_bound : {t : Text} → SliceBoundAt None t t
  bound : {z : ℤ} {t u r : Text} → Int z t u → Blanks u r → SliceBoundAt (Some z) t r

-- `[":" [S step]]`
pub data SliceStepAt : Option ℤ → Text → Text → Type 0 where
  no_step : {t : Text} → SliceStepAt None t t
  empty_step : {r : Text} → SliceStepAt None (codes ":" ++ r) r
  step : {z : ℤ} {t u r : Text} → Blanks t u → Int z u r → SliceStepAt (Some z) (codes ":" ++ t) r

-- after one dot or two, `wildcard-selector` or `member-name-shorthand`; whether a singular query may have it
pub data DottedAt : Selectors → Bool → Text → Text → Type 0 where
  dotted_wildcard : {r : Text} → DottedAt (selector wildcard_selector no_selectors) false (codes "*" ++ r) r
  dotted_name : {n : List ℕ} {t r : Text} → Shorthand n t r → DottedAt (selector (name_selector n) no_selectors) true t r

-- ---- filters (section 2.3.5.1)

-- `literal`
pub data LiteralAt : Literal → Text → Text → Type 0 where
  a_number : {l : Literal} {t r : Text} → Number l t r → LiteralAt l t r
  a_string : {s : List ℕ} {t r : Text} → StringLiteral s t r → LiteralAt (json (text s)) t r
  a_true : {r : Text} → LiteralAt (json (boolean true)) (codes "true" ++ r) r
  a_false : {r : Text} → LiteralAt (json (boolean false)) (codes "false" ++ r) r
  a_null : {r : Text} → LiteralAt (json null) (codes "null" ++ r) r

-- `comparison-op`
pub data ComparisonOpAt : CompareOp → Text → Text → Type 0 where
  equal : {r : Text} → ComparisonOpAt Equal (codes "==" ++ r) r
  not_equal : {r : Text} → ComparisonOpAt NotEqual (codes "!=" ++ r) r
  less_equal : {r : Text} → ComparisonOpAt LessEqual (codes "<=" ++ r) r
  greater_equal : {r : Text} → ComparisonOpAt GreaterEqual (codes ">=" ++ r) r
  less : {r : Text} → ComparisonOpAt Less (codes "<" ++ r) r
  greater : {r : Text} → ComparisonOpAt Greater (codes ">" ++ r) r

-- ---- segments, selectors and expressions, which hold one another
-- The Bool of segments, of a segment and of a bracket says that this spelling is also one of
-- `singular-query-segments` (2.3.5.1), whose brackets have exactly one name or index and no blank inside.
mutual
  -- `segments` (2.1.1)
  pub data SegmentsAt : Segments → Bool → Text → Text → Type 0 where
    segments_end : {t : Text} → SegmentsAt no_segments true t t
    segments_more : {d a b : Bool} {ss : Selectors} {more : Segments} {t u v r : Text} → Blanks t u → SegmentAt d ss a u v → SegmentsAt more b v r → SegmentsAt (segment d ss more) (a && b) t r

  -- `segment` (2.5), which is `child-segment` (2.5.1.1) or `descendant-segment` (2.5.2.1): which of these, and its selectors
  pub data SegmentAt : Bool → Selectors → Bool → Text → Text → Type 0 where
    child_bracketed : {ss : Selectors} {b : Bool} {t r : Text} → BracketedAt ss b t r → SegmentAt false ss b (codes "[" ++ t) r
    child_dotted : {ss : Selectors} {b : Bool} {t r : Text} → DottedAt ss b t r → SegmentAt false ss b (codes "." ++ t) r
    descendant_bracketed : {ss : Selectors} {b : Bool} {t r : Text} → BracketedAt ss b t r → SegmentAt true ss false (codes "..[" ++ t) r
    descendant_dotted : {ss : Selectors} {b : Bool} {t r : Text} → DottedAt ss b t r → SegmentAt true ss false (codes ".." ++ t) r

  -- `bracketed-selection` (2.5.1.1) after its `[`
  pub data BracketedAt : Selectors → Bool → Text → Text → Type 0 where
    singular_bracket : {s : Selector} {t r : Text} → SingularSelectorAt s t (codes "]" ++ r) → BracketedAt (selector s no_selectors) true t r
    any_bracket : {s : Selector} {ss : Selectors} {t u v r : Text} → Blanks t u → SelectorAt s u v → MoreSelectorsAt ss v r → BracketedAt (selector s ss) false t r

  -- `*(S "," S selector) S "]"`
  pub data MoreSelectorsAt : Selectors → Text → Text → Type 0 where
    selectors_end : {t r : Text} → Blanks t (codes "]" ++ r) → MoreSelectorsAt no_selectors t r
    selectors_more : {s : Selector} {ss : Selectors} {t u v w r : Text} → Blanks t (codes "," ++ u) → Blanks u v → SelectorAt s v w → MoreSelectorsAt ss w r → MoreSelectorsAt (selector s ss) t r

  -- `selector` (2.3), with `slice-selector` (2.3.4.1) and `filter-selector` (2.3.5.1)
  pub data SelectorAt : Selector → Text → Text → Type 0 where
    a_singular : {s : Selector} {t r : Text} → SingularSelectorAt s t r → SelectorAt s t r
    a_wildcard : {r : Text} → SelectorAt wildcard_selector (codes "*" ++ r) r
    a_slice : {a b c : Option ℤ} {t u v w r : Text} → SliceBoundAt a t (codes ":" ++ u) → Blanks u v → SliceBoundAt b v w → SliceStepAt c w r → SelectorAt (slice_selector a b c) t r
    a_filter : {e : Expression} {t u r : Text} → Blanks t u → LogicalOrAt e u r → SelectorAt (filter_selector e) (codes "?" ++ t) r

  -- `logical-expr`, which is `logical-or-expr`: one part alone is that part itself
  pub data LogicalOrAt : Expression → Text → Text → Type 0 where
    one_conjunction : {e : Expression} {t r : Text} → LogicalAndAt e t r → LogicalOrAt e t r
    disjunction : {e : Expression} {es : Expressions} {t u r : Text} → LogicalAndAt e t u → MoreOrAt es u r → LogicalOrAt (logical_or (expression e es)) t r

  -- `1*(S "||" S logical-and-expr)`
  pub data MoreOrAt : Expressions → Text → Text → Type 0 where
    last_disjunct : {e : Expression} {t u v r : Text} → Blanks t (codes "||" ++ u) → Blanks u v → LogicalAndAt e v r → MoreOrAt (expression e no_expressions) t r
    more_disjuncts : {e : Expression} {es : Expressions} {t u v w r : Text} → Blanks t (codes "||" ++ u) → Blanks u v → LogicalAndAt e v w → MoreOrAt es w r → MoreOrAt (expression e es) t r

  -- `logical-and-expr`: one part alone is that part itself
  pub data LogicalAndAt : Expression → Text → Text → Type 0 where
    one_basic_expression : {e : Expression} {t r : Text} → BasicExpressionAt e t r → LogicalAndAt e t r
    conjunction : {e : Expression} {es : Expressions} {t u r : Text} → BasicExpressionAt e t u → MoreAndAt es u r → LogicalAndAt (logical_and (expression e es)) t r

  -- `1*(S "&&" S basic-expr)`
  pub data MoreAndAt : Expressions → Text → Text → Type 0 where
    last_conjunct : {e : Expression} {t u v r : Text} → Blanks t (codes "&&" ++ u) → Blanks u v → BasicExpressionAt e v r → MoreAndAt (expression e no_expressions) t r
    more_conjuncts : {e : Expression} {es : Expressions} {t u v w r : Text} → Blanks t (codes "&&" ++ u) → Blanks u v → BasicExpressionAt e v w → MoreAndAt es w r → MoreAndAt (expression e es) t r

  -- `basic-expr`: `paren-expr` and `test-expr`, either with `[logical-not-op S]`, and `comparison-expr`
  pub data BasicExpressionAt : Expression → Text → Text → Type 0 where
    a_test : {e : Expression} {t r : Text} → TestAt e t r → BasicExpressionAt e t r
    negated_test : {e : Expression} {t u r : Text} → Blanks t u → TestAt e u r → BasicExpressionAt (logical_not e) (codes "!" ++ t) r
    a_comparison : {op : CompareOp} {a b : Operand} {t u v w x r : Text} → ComparableAt a t u → Blanks u v → ComparisonOpAt op v w → Blanks w x → ComparableAt b x r → BasicExpressionAt (comparison op a b) t r

  -- what may be negated: `"(" S logical-expr S ")"`; `filter-query`; `function-expr` of a type other than ValueType,
  -- and these are `match` (2.4.6) and `search` (2.4.7)
  pub data TestAt : Expression → Text → Text → Type 0 where
    parentheses : {e : Expression} {t u v r : Text} → Blanks t u → LogicalOrAt e u v → Blanks v (codes ")" ++ r) → TestAt e (codes "(" ++ t) r
    existence_test : {root b : Bool} {q : Segments} {t r : Text} → FilterQueryAt root q b t r → TestAt (existence root q) t r
    match_call : {a b : Operand} {t r : Text} → TwoArgumentsAt a b t r → TestAt (match_of a b) (codes "match(" ++ t) r
    search_call : {a b : Operand} {t r : Text} → TwoArgumentsAt a b t r → TestAt (search_of a b) (codes "search(" ++ t) r

  -- `filter-query`, which is also the argument of a parameter of NodesType (2.4.3): whether it is a `jsonpath-query`
  -- and begins at the root, and whether it is a `singular-query`
  pub data FilterQueryAt : Bool → Segments → Bool → Text → Text → Type 0 where
    relative_query : {q : Segments} {b : Bool} {t r : Text} → SegmentsAt q b t r → FilterQueryAt false q b (codes "@" ++ t) r
    absolute_query : {q : Segments} {b : Bool} {t r : Text} → SegmentsAt q b t r → FilterQueryAt true q b (codes "$" ++ t) r

  -- `comparable`, which is also the argument of a parameter of ValueType (2.4.3): `literal`, `singular-query`, or
  -- `function-expr` of ValueType, and these are `length` (2.4.4), `count` (2.4.5) and `value` (2.4.8)
  pub data ComparableAt : Operand → Text → Text → Type 0 where
    a_literal : {l : Literal} {t r : Text} → LiteralAt l t r → ComparableAt (literal l) t r
    a_singular_query : {root : Bool} {q : Segments} {t r : Text} → FilterQueryAt root q true t r → ComparableAt (singular_query root q) t r
    length_call : {o : Operand} {t u v r : Text} → Blanks t u → ComparableAt o u v → Blanks v (codes ")" ++ r) → ComparableAt (length_of o) (codes "length(" ++ t) r
    count_call : {root b : Bool} {q : Segments} {t u v r : Text} → Blanks t u → FilterQueryAt root q b u v → Blanks v (codes ")" ++ r) → ComparableAt (count_of root q) (codes "count(" ++ t) r
    value_call : {root b : Bool} {q : Segments} {t u v r : Text} → Blanks t u → FilterQueryAt root q b u v → Blanks v (codes ")" ++ r) → ComparableAt (value_of root q) (codes "value(" ++ t) r

  -- two arguments of ValueType and the closing parenthesis
  pub data TwoArgumentsAt : Operand → Operand → Text → Text → Type 0 where
    two_arguments : {a b : Operand} {t u v w x y r : Text} → Blanks t u → ComparableAt a u v → Blanks v (codes "," ++ w) → Blanks w x → ComparableAt b x y → Blanks y (codes ")" ++ r) → TwoArgumentsAt a b t r

-- `jsonpath-query` (2.1.1): the whole text spells the query
abbrev pub Spells : Segments → Text → Type 0
Spells q t = (singular : Bool) × (rest : Text) × (t ≡ codes "$" ++ rest) × SegmentsAt q singular rest []
