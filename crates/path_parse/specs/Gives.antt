-- For the clauses within the crate: the answers of the reader's functions, which are what reading gives.
use Rattle.std.specs.Prelude.{◌≡◌, ⊤, ℕ, List, [], ◌∷◌, Bool, ◌||◌, Option, Some, None, Result, Ok, Err}
use Rattle.path_grammar.specs.Syntax.{Expression, Expressions, Operand, Segments, Selectors, logical_not, selector}
use Rattle.path_grammar.specs.declared.compare_op.CompareOp.{CompareOp}
use Rattle.path_grammar.specs.Characters.{Text}
use Rattle.path_grammar.specs.Reading.{◌>>=◌, join_parts, read_argument, read_comparison_op, read_expression, skip}
use Rattle.path_parse.specs.declared.path_part.PathPart.{PathPart}
use Rattle.path_parse.specs.declared.stop.Stop.{Stop}
use Rattle.path_parse.specs.declared.stop.Stop.TheVariants.{Memory, Syntax}
use Rattle.path_parse.specs.declared.syntax.Segment.{Segment}
use Rattle.path_parse.specs.declared.syntax.Selector.{Selector}
use Rattle.path_parse.specs.declared.syntax.Source.{Source}
use Rattle.path_parse.specs.SyntaxView.{selector_view, selectors_view, source_root, source_query}

-- reading stops if nothing is read, or if memory ran out
abbrev pub Stops : {Y : Type 0} → Stop → Option Y → Type 0
Stops Memory read = ⊤
Stops Syntax read = read ≡ None

-- what is seen of the value returned is what reading gives
abbrev pub Gives : {X Y : Type 0} → (X → Y) → Result X Stop → Option Y → Type 0
Gives view (Ok x) read = read ≡ Some (view x)
Gives view (Err e) read = Stops e read

-- a reader of what may hold expressions and arguments, at most `depth` calls, parentheses and filters deep
abbrev pub at_depth : {A : Type 0} → ((Text → Option (Expression × Bool × Text)) → (Text → Option (Operand × Bool × Text)) → A) → ℕ → A
at_depth reader depth = reader (read_expression depth) (read_argument depth)

-- parts of paths as reading has them
abbrev pub path_of : {X Y : Type 0} → (X → Y) → PathPart X → Y × Bool × Bool × Text
path_of view p = (view p.value, p.singular, p.left_out, p.rest.now)

-- a segment: whether it is a descendant segment, and its selectors
abbrev pub segment_of : PathPart Segment → Bool × Selectors × Bool × Bool × Text
segment_of p = (p.value.descend, selectors_view p.value.selectors.items, p.singular, p.left_out, p.rest.now)

-- a query: whether it begins at the root, and its segments
abbrev pub source_of : PathPart Source → Bool × Segments × Bool × Bool × Text
source_of p = (source_root p.value, source_query p.value, p.singular, p.left_out, p.rest.now)

-- selectors before others
abbrev pub selectors_then : List Selector → Selectors → Selectors
selectors_then [] more = more
selectors_then (s ∷ rest) more = selector (selector_view s) (selectors_then rest more)

-- what is read of a bracket of which these selectors were read already
abbrev pub before_selectors : List Selector → Bool → Option (Selectors × Bool × Text) → Option (Selectors × Bool × Text)
before_selectors found left_out read = read >>= λ x. Some (selectors_then found x.0, left_out || x.1, x.2)

-- the negation of what is read
abbrev pub negated : Option (Expression × Bool × Text) → Option (Expression × Bool × Text)
negated read = read >>= λ x. Some (logical_not x.0, x.1, x.2)

-- a comparison whose left side is what is read
abbrev pub compared_on : (Operand → Bool → CompareOp → Text → Option (Expression × Bool × Text)) → Option (Operand × Bool × Text) → Option (Expression × Bool × Text)
compared_on compare read = read >>= λ x. read_comparison_op (skip x.2) >>= λ o. compare x.0 x.1 o.0 o.1

-- a part that was read, and the further ones that are read
abbrev pub joined : (Expressions → Expression) → Expression × Bool × Text → Option (Expressions × Bool × Text) → Option (Expression × Bool × Text)
joined make first read = read >>= λ more. Some (join_parts make first.0 more.0, first.1 || more.1, more.2)
