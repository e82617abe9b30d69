-- Loops that read one part after the other. `inner` and `read_argument` read what stands deeper.
use Rattle.std.proofs.Common.{◌≡◌, ℕ, suc, ◌+◌, ◌-◌, ◌<◌, ◌≤◌, Bool, true, false, ◌&&◌, ◌||◌, List, [], ◌∷◌, ◌++◌, Option, Some, None, refl, sym, ap, ◌∙◌, arith}
use Rattle.path_grammar.specs.Syntax.{Selectors, no_selectors, selector, Expression, Expressions, no_expressions, expression, Segments, no_segments, segment, Operand}
use Rattle.path_grammar.specs.Characters.{Text}
use Rattle.path_grammar.specs.Reading.{◌>>=◌, after_character, skip, after_doubled, read_selector, read_more_selectors, read_segment, read_segments, begins_segment, read_more_parts, join_parts}
use Rattle.path_parse.specs.declared.stop.Stop.{Stop}
use Rattle.path_parse.specs.declared.stop.Stop.TheVariants.{Memory, Syntax}
use Rattle.path_parse.specs.declared.syntax.Expr.{Expr}
use Rattle.path_parse.specs.declared.syntax.Segment.{Segment}
use Rattle.path_parse.specs.declared.syntax.Selector.{Selector}
use Rattle.path_parse.specs.SyntaxView.{selector_view, expression_view, selectors_view, expressions_view, segments_view}
use Rattle.path_parse.specs.Gives.{Stops, selectors_then, before_selectors}

-- expressions before others
abbrev pub expressions_then : List Expr → Expressions → Expressions
expressions_then [] more = more
expressions_then (e ∷ rest) more = expression (expression_view e) (expressions_then rest more)

abbrev pub before_expressions : List Expr → Bool → Option (Expressions × Bool × Text) → Option (Expressions × Bool × Text)
before_expressions found left_out read = read >>= λ x. Some (expressions_then found x.0, left_out || x.1, x.2)

-- segments before others
abbrev pub segments_then : List Segment → Segments → Segments
segments_then [] more = more
segments_then (s ∷ rest) more = segment s.descend (selectors_view s.selectors.items) (segments_then rest more)

abbrev pub before_segments : List Segment → Bool → Bool → Option (Segments × Bool × Bool × Text) → Option (Segments × Bool × Bool × Text)
before_segments found singular left_out read = read >>= λ x. Some (segments_then found x.0, singular && x.1, left_out || x.2, x.3)

or_assoc : (a b c : Bool) → ((a || b) || c) ≡ (a || (b || c))
or_assoc true b c = refl
or_assoc false b c = refl

or_none : (a : Bool) → (a || false) ≡ a
or_none true = refl
or_none false = refl

selectors_then-push : (front : List Selector) (s : Selector) (ss : Selectors) → selectors_then (front ++ s ∷ []) ss ≡ selectors_then front (selector (selector_view s) ss)
selectors_then-push [] s ss = refl
selectors_then-push (f ∷ front) s ss = ap (λ x. selector (selector_view f) x) (selectors_then-push front s ss)

selectors_then-end : (front : List Selector) → selectors_then front no_selectors ≡ selectors_view front
selectors_then-end [] = refl
selectors_then-end (f ∷ front) = ap (λ x. selector (selector_view f) x) (selectors_then-end front)

pub joins : (make : Expressions → Expression) (e : Expression) (f : Expr) (rest : List Expr) → join_parts make e (expressions_view (f ∷ rest)) ≡ make (expression e (expressions_view (f ∷ rest)))
joins make e f rest = refl

module _ (inner : Text → Option (Expression × Bool × Text)) (read_argument : Text → Option (Operand × Bool × Text)) (front : List Selector) (left_out : Bool) (k i : ℕ) (rest : Text) (total : Option (Selectors × Bool × Text)) (so_far : before_selectors front left_out (read_more_selectors inner read_argument (k - i) rest) ≡ total) where
  selectors_opened : i < k → before_selectors front left_out (read_more_selectors inner read_argument (suc (k - (i + 1))) rest) ≡ total
  selectors_opened lt = let e : k - i ≡ suc (k - (i + 1)) = omega arith in ap (λ n. before_selectors front left_out (read_more_selectors inner read_argument n rest)) (sym e) ∙ so_far

  pub selectors_on : (s : Selector) (out : Bool) (next after : Text) → i < k → after_character 93 (skip rest) ≡ None → after_character 44 (skip rest) ≡ Some next → read_selector inner read_argument (skip next) ≡ Some (selector_view s, out, after)
      → before_selectors (front ++ s ∷ []) (left_out || out) (read_more_selectors inner read_argument (k - (i + 1)) after) ≡ total
  unfolding read_more_selectors
  selectors_on s out next after lt no_end comma is = regroup (read_more_selectors inner read_argument (k - (i + 1)) after) ∙ (rw (no_end, comma, is) at (selectors_opened lt))
    where
      regroup : (o : Option (Selectors × Bool × Text)) → before_selectors (front ++ s ∷ []) (left_out || out) o ≡ before_selectors front left_out (o >>= λ y. Some (selector (selector_view s) y.0, out || y.1, y.2))
      regroup None = refl
      regroup (Some y) = rw (selectors_then-push front s y.0, or_assoc left_out out y.1) refl

  pub selectors_done : (r : Text) → i < k → after_character 93 (skip rest) ≡ Some r → total ≡ Some (selectors_view front, left_out, r)
  unfolding read_more_selectors
  selectors_done r lt is = sym (rw is at (selectors_opened lt)) ∙ rw (selectors_then-end front, or_none left_out) refl

  pub selectors_refused : i < k → after_character 93 (skip rest) ≡ None → after_character 44 (skip rest) ≡ None → total ≡ None
  unfolding read_more_selectors
  selectors_refused lt no_end no_comma = sym (rw (no_end, no_comma) at (selectors_opened lt))

  pub selectors_stopped : (e : Stop) (next : Text) → i < k → after_character 93 (skip rest) ≡ None → after_character 44 (skip rest) ≡ Some next → Stops e (read_selector inner read_argument (skip next)) → Stops e total
  unfolding read_more_selectors
  selectors_stopped Memory next lt no_end comma is = tt
  selectors_stopped Syntax next lt no_end comma is = sym (rw (no_end, comma, is) at (selectors_opened lt))

  pub selectors_over : k ≤ i → total ≡ None
  unfolding read_more_selectors
  selectors_over le = let e : k - i ≡ 0 = omega arith in sym (rw e at so_far)

expressions_then-push : (front : List Expr) (e : Expr) (es : Expressions) → expressions_then (front ++ e ∷ []) es ≡ expressions_then front (expression (expression_view e) es)
expressions_then-push [] e es = refl
expressions_then-push (f ∷ front) e es = ap (λ x. expression (expression_view f) x) (expressions_then-push front e es)

expressions_then-end : (front : List Expr) → expressions_then front no_expressions ≡ expressions_view front
expressions_then-end [] = refl
expressions_then-end (f ∷ front) = ap (λ x. expression (expression_view f) x) (expressions_then-end front)

module _ (item : Text → Option (Expression × Bool × Text)) (separator : ℕ) (front : List Expr) (left_out : Bool) (k i : ℕ) (rest : Text) (total : Option (Expressions × Bool × Text)) (so_far : before_expressions front left_out (read_more_parts item separator (k - i) rest) ≡ total) where
  parts_opened : i < k → before_expressions front left_out (read_more_parts item separator (suc (k - (i + 1))) rest) ≡ total
  parts_opened lt = let e : k - i ≡ suc (k - (i + 1)) = omega arith in ap (λ n. before_expressions front left_out (read_more_parts item separator n rest)) (sym e) ∙ so_far

  pub parts_on : (e : Expr) (out : Bool) (next after : Text) → i < k → after_doubled separator (skip rest) ≡ Some next → item (skip next) ≡ Some (expression_view e, out, after)
      → before_expressions (front ++ e ∷ []) (left_out || out) (read_more_parts item separator (k - (i + 1)) after) ≡ total
  unfolding read_more_parts
  parts_on e out next after lt here is = regroup (read_more_parts item separator (k - (i + 1)) after) ∙ (rw (here, is) at (parts_opened lt))
    where
      regroup : (o : Option (Expressions × Bool × Text)) → before_expressions (front ++ e ∷ []) (left_out || out) o ≡ before_expressions front left_out (o >>= λ y. Some (expression (expression_view e) y.0, out || y.1, y.2))
      regroup None = refl
      regroup (Some y) = rw (expressions_then-push front e y.0, or_assoc left_out out y.1) refl

  pub parts_done : i < k → after_doubled separator (skip rest) ≡ None → total ≡ Some (expressions_view front, left_out, rest)
  unfolding read_more_parts
  parts_done lt is = sym (rw is at (parts_opened lt)) ∙ rw (expressions_then-end front, or_none left_out) refl

  pub parts_stopped : (e : Stop) (next : Text) → i < k → after_doubled separator (skip rest) ≡ Some next → Stops e (item (skip next)) → Stops e total
  unfolding read_more_parts
  parts_stopped Memory next lt here is = tt
  parts_stopped Syntax next lt here is = sym (rw (here, is) at (parts_opened lt))

  pub parts_over : k ≤ i → total ≡ None
  unfolding read_more_parts
  parts_over le = let e : k - i ≡ 0 = omega arith in sym (rw e at so_far)

segments_then-push : (front : List Segment) (s : Segment) (q : Segments) → segments_then (front ++ s ∷ []) q ≡ segments_then front (segment s.descend (selectors_view s.selectors.items) q)
segments_then-push [] s q = refl
segments_then-push (f ∷ front) s q = ap (λ x. segment f.descend (selectors_view f.selectors.items) x) (segments_then-push front s q)

segments_then-end : (front : List Segment) → segments_then front no_segments ≡ segments_view front
segments_then-end [] = refl
segments_then-end (f ∷ front) = ap (λ x. segment f.descend (selectors_view f.selectors.items) x) (segments_then-end front)

and_assoc : (a b c : Bool) → ((a && b) && c) ≡ (a && (b && c))
and_assoc true b c = refl
and_assoc false b c = refl

and_true : (a : Bool) → (a && true) ≡ a
and_true true = refl
and_true false = refl

module _ (inner : Text → Option (Expression × Bool × Text)) (read_argument : Text → Option (Operand × Bool × Text)) (front : List Segment) (singular left_out : Bool) (k i : ℕ) (rest : Text) (total : Option (Segments × Bool × Bool × Text)) (so_far : before_segments front singular left_out (read_segments inner read_argument (k - i) rest) ≡ total) where
  segments_opened : i < k → before_segments front singular left_out (read_segments inner read_argument (suc (k - (i + 1))) rest) ≡ total
  segments_opened lt = let e : k - i ≡ suc (k - (i + 1)) = omega arith in ap (λ n. before_segments front singular left_out (read_segments inner read_argument n rest)) (sym e) ∙ so_far

  pub segments_on : (s : Segment) (one out : Bool) (after : Text) → i < k → begins_segment (skip rest) ≡ true → read_segment inner read_argument (skip rest) ≡ Some (s.descend, selectors_view s.selectors.items, one, out, after)
      → before_segments (front ++ s ∷ []) (singular && one) (left_out || out) (read_segments inner read_argument (k - (i + 1)) after) ≡ total
  unfolding read_segments
  segments_on s one out after lt here is = regroup (read_segments inner read_argument (k - (i + 1)) after) ∙ (rw (here, is) at (segments_opened lt))
    where
      regroup : (o : Option (Segments × Bool × Bool × Text)) → before_segments (front ++ s ∷ []) (singular && one) (left_out || out) o ≡ before_segments front singular left_out (o >>= λ y. Some (segment s.descend (selectors_view s.selectors.items) y.0, one && y.1, out || y.2, y.3))
      regroup None = refl
      regroup (Some y) = rw (segments_then-push front s y.0, and_assoc singular one y.1, or_assoc left_out out y.2) refl

  pub segments_done : i < k → begins_segment (skip rest) ≡ false → total ≡ Some (segments_view front, singular, left_out, rest)
  unfolding read_segments
  segments_done lt here = sym (rw here at (segments_opened lt)) ∙ rw (segments_then-end front, and_true singular, or_none left_out) refl

  pub segments_stopped : (e : Stop) → i < k → begins_segment (skip rest) ≡ true → Stops e (read_segment inner read_argument (skip rest)) → Stops e total
  unfolding read_segments
  segments_stopped Memory lt here is = tt
  segments_stopped Syntax lt here is = sym (rw (here, is) at (segments_opened lt))

  pub segments_over : k ≤ i → total ≡ None
  unfolding read_segments
  segments_over le = let e : k - i ≡ 0 = omega arith in sym (rw e at so_far)
