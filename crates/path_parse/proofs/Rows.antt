-- What a row of children stands for is what the list of the code's `Vec` stands for.
use Rattle.std.proofs.Common.{◌≡◌, Vec, Global, refl, ap, ◌∙◌}
use mathlib.Core.Former.{Count as Shape}
use Rattle.path_parse.specs.declared.syntax.Query.{Query, Query', roll-Query, Row_of-Segment, end_of-Segment, more_of-Segment, Row_of-Selector, end_of-Selector, more_of-Selector, items-the_row-Segment, items-the_row-Selector, items_hidden-the_row-Segment-2, items_shown-the_row-Selector-1}
use Rattle.path_parse.specs.declared.syntax.Segment.{Segment}
use Rattle.path_parse.specs.declared.syntax.Expr.{Expr, Or', And', Row_of-Expr, end_of-Expr, more_of-Expr, items-the_row-Expr, items_hidden-the_row-Expr-0}
use Rattle.path_parse.specs.declared.syntax.Expr.TheVariants.{Or, And}
use Rattle.path_grammar.specs.Syntax.{logical_or, logical_and, expression, selector}
use Rattle.path_parse.specs.SyntaxView.{query_view, segments_in, selectors_in, selector_view, expression_view, expressions_in, segments_view, selectors_view, expressions_view}

expressions_row : (n : _) (row : Row_of-Expr n) → expressions_in row ≡ expressions_view (items-the_row-Expr n row)
expressions_row n end_of-Expr = refl
expressions_row n (more_of-Expr e rest) = ap (λ x. expression (expression_view e) x) (expressions_row _ rest)

selectors_row : (n : _) (row : Row_of-Selector n) → selectors_in row ≡ selectors_view (items-the_row-Selector n row)
selectors_row n end_of-Selector = refl
selectors_row n (more_of-Selector s rest) = ap (λ x. selector (selector_view s) x) (selectors_row _ rest)

segments_row : (n : _) (row : Row_of-Segment n) → segments_in row ≡ segments_view (items-the_row-Segment n row)
segments_row n end_of-Segment = refl
segments_row n (more_of-Segment descend shape row rest) =
    let a = selectors_row _ row in
    let b = segments_row _ rest in
    let c = ap selectors_view (items_shown-the_row-Selector-1 shape row) in
    cc

abbrev row_of : Expr → (n : Shape) × Row_of-Expr n
row_of (Or' _ row) = (_, row)
row_of (And' _ row) = (_, row)
row_of _ = (_, end_of-Expr)

pub expression_view-Or : (v : Vec Expr Global) → expression_view (Or v) ≡ logical_or (expressions_view v.items)
expression_view-Or v = let row = row_of (Or v) in ap (λ x. logical_or x) (expressions_row row.0 row.1 ∙ ap expressions_view (items_hidden-the_row-Expr-0 v))

pub expression_view-And : (v : Vec Expr Global) → expression_view (And v) ≡ logical_and (expressions_view v.items)
expression_view-And v = let row = row_of (And v) in ap (λ x. logical_and x) (expressions_row row.0 row.1 ∙ ap expressions_view (items_hidden-the_row-Expr-0 v))

abbrev segments_of : Query → (n : Shape) × Row_of-Segment n
segments_of (Query' _ row) = (_, row)

pub query_view-Query : (v : Vec Segment Global) → query_view (roll-Query (record { segments = v })) ≡ segments_view v.items
unfolding roll-Query Rattle.path_parse.specs.declared.syntax.Expr.TheBlock.hidden-the_row-Segment-2 denote.Hole.Carrier.roll
query_view-Query v = let row = segments_of (roll-Query (record { segments = v })) in segments_row row.0 row.1 ∙ ap segments_view (items_hidden-the_row-Segment-2 v)
