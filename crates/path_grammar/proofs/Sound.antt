-- What is read is spelled so.
use Rattle.std.proofs.Common.{◌≡◌, ℕ, zero, suc, Bool, true, false, cond, eqb, ◌&&◌, ◌||◌, [], ◌∷◌, length, Option, Some, None, ◌⊎◌, refl, sym, ap, subst, ◌∙◌, ⊎_elim, arith}
use Rattle.std.proofs.lemmas.Bool.{eqb-true}
use Rattle.std.specs.Prelude.{codes}
use Rattle.path_grammar.specs.declared.compare_op.CompareOp.{CompareOp}
use Rattle.path_grammar.specs.Syntax.{Selector, name_selector, wildcard_selector, index_selector, filter_selector, slice_selector, Selectors, no_selectors, selector, Segments, no_segments, segment, Expression, logical_or, logical_and, logical_not, existence, comparison, match_of, search_of, Expressions, no_expressions, expression, Operand, literal, singular_query, length_of, count_of, value_of}
use Rattle.path_grammar.specs.Profile.{selector_left_out, selectors_left_out, segments_left_out, expression_left_out, expressions_left_out, operand_left_out}
use Rattle.path_grammar.specs.Kept.{selector_kept, selectors_kept, segments_kept, expression_kept, expressions_kept, operand_kept}
use Rattle.path_grammar.specs.Characters.{Text, is_blank, Blanks}
use Rattle.path_grammar.specs.Grammar.{SingularSelectorAt, a_name, DottedAt, dotted_wildcard, dotted_name, SegmentsAt, segments_end, segments_more, SegmentAt, child_bracketed, child_dotted, descendant_bracketed, descendant_dotted, BracketedAt, singular_bracket, any_bracket, MoreSelectorsAt, selectors_end, selectors_more, SelectorAt, a_singular, a_wildcard, a_filter, LogicalOrAt, one_conjunction, disjunction, MoreOrAt, last_disjunct, more_disjuncts, LogicalAndAt, one_basic_expression, conjunction, MoreAndAt, last_conjunct, more_conjuncts, BasicExpressionAt, a_test, negated_test, a_comparison, TestAt, parentheses, existence_test, match_call, search_call, FilterQueryAt, relative_query, absolute_query, ComparableAt, a_literal, a_singular_query, length_call, count_call, value_call, TwoArgumentsAt, two_arguments, Spells}
use Rattle.path_grammar.specs.Reading.{◌>>=◌, on, after_character, after_doubled, after_word, skip, read_shorthand, read_string, begins_string, read_literal, read_plain_selector, read_dotted, read_comparison_op, read_identifier, join_parts, read_more_parts, read_parts, begins_segment, starts_with_blank, is_singular_selector, after_singular, read_selector, read_more_selectors, read_bracketed, read_after_dots, read_segment, read_segments, read_query, read_filter_query, read_value_argument, read_nodes_argument, read_two_arguments, read_no_query, read_comparable, read_in_parentheses, read_test, read_comparison, read_from_query, begins_query, read_basic, read_logical_and, read_logical_or, read_expression, read_argument, read_whole}
use Rattle.path_grammar.proofs.Tools.{bind_some, on_cases, chosen, guarded, some_is, none_some, at_is, skip_blanks, word_is, skipped, doubled_is}
use Rattle.path_grammar.proofs.Words.{along, shorthand_sound, string_sound, number_sound, number_plain, literal_sound, comparison_op_sound, root_sound, Found, FoundSelector}

abbrev pub FoundOperand : Text → Operand × Bool × Text → Type 0
FoundOperand t x = Found operand_kept operand_left_out (λ o r. ComparableAt o t r) x

-- ---- parts between doubled separators

abbrev pub FoundExpression : Text → Expression × Bool × Text → Type 0
FoundExpression t x = Found expression_kept expression_left_out (λ e r. LogicalOrAt e t r) x

doubled : (c : ℕ) (t u : Text) → after_doubled c (skip t) ≡ Some u → Blanks t (c ∷ c ∷ u)
doubled c t u e = subst (Blanks t) (doubled_is c (skip t) u e) (skip_blanks t)

-- nothing more, or more parts
abbrev NoneOrSome : (Expressions → Text → Text → Type 0) → Expressions → Text → Text → Type 0
NoneOrSome More no_expressions t r = t ≡ r
NoneOrSome More (expression e es) t r = More (expression e es) t r

module _ (item : Text → Option (Expression × Bool × Text)) (separator : ℕ) (Item : Expression → Text → Text → Type 0) (More : Expressions → Text → Text → Type 0)
    (item_sound : (t : Text) (x : Expression × Bool × Text) → item t ≡ Some x → Found expression_kept expression_left_out (λ e r. Item e t r) x)
    (last : (e : Expression) (t u v r : Text) → Blanks t (separator ∷ separator ∷ u) → Blanks u v → Item e v r → More (expression e no_expressions) t r)
    (further : (e : Expression) (es : Expressions) (t u v w r : Text) → Blanks t (separator ∷ separator ∷ u) → Blanks u v → Item e v w → More es w r → More (expression e es) t r) where
  one_more : (e : Expression) (es : Expressions) (t u v w r : Text) → Blanks t (separator ∷ separator ∷ u) → Blanks u v → Item e v w → NoneOrSome More es w r → More (expression e es) t r
  one_more e no_expressions t u v w r p q i m = last e t u v r p q (subst (Item e v) m i)
  one_more e (expression f es) t u v w r p q i m = further e (expression f es) t u v w r p q i m

  abbrev FoundMore : Text → Expressions × Bool × Text → Type 0
  FoundMore t x = Found expressions_kept expressions_left_out (λ es r. NoneOrSome More es t r) x

  more_sound : (k : ℕ) (t : Text) (x : Expressions × Bool × Text) → read_more_parts item separator k t ≡ Some x → FoundMore t x
  unfolding read_more_parts
  more_sound zero t x e = none_some x e
  more_sound (suc k) t x e =
      let f : Text → Option (Expressions × Bool × Text) = λ u. item (skip u) >>= λ x. read_more_parts item separator k x.2 >>= λ y. Some (expression x.0 y.0, x.1 || y.1, y.2) in
      ⊎_elim
      (λ y.
      let a = bind_some (item (skip y.0)) (λ x. read_more_parts item separator k x.2 >>= λ y. Some (expression x.0 y.0, x.1 || y.1, y.2)) x y.2 in
      let b = bind_some (read_more_parts item separator k a.0.2) (λ y. Some (expression a.0.0 y.0, a.0.1 || y.1, y.2)) x a.2 in
      let i = item_sound (skip y.0) a.0 a.1 in
      let m = more_sound k a.0.2 b.0 b.1 in
      subst (FoundMore t) (some_is (expression a.0.0 b.0.0, a.0.1 || b.0.1, b.0.2) x b.2)
      (expression i.0 m.0, one_more i.0 m.0 t y.0 (skip y.0) a.0.2 b.0.2 (doubled separator t y.0 y.1) (skip_blanks y.0) i.1 m.1, rw (i.2, m.2) refl, rw (i.3, m.3) refl))
      (λ y. subst (FoundMore t) (some_is (no_expressions, false, t) x y.1) (no_expressions, refl, refl, refl))
      (on_cases (after_doubled separator (skip t)) f (Some (no_expressions, false, t)) (Some x) e)

  joined : (make : Expressions → Expression) (Whole : Expression → Text → Text → Type 0)
      → ((e : Expression) (t r : Text) → Item e t r → Whole e t r)
      → ((e : Expression) (es : Expressions) (t u r : Text) → Item e t u → More es u r → Whole (make (expression e es)) t r)
      → (e : Expression) (es : Expressions) (t u r : Text) → Item e t u → NoneOrSome More es u r → Whole (join_parts make e es) t r
  joined make Whole whole_one several e no_expressions t u r i m = subst (Whole e t) m (whole_one e t u i)
  joined make Whole whole_one several e (expression f es) t u r i m = several e (expression f es) t u r i m

  or_nothing : (b : Bool) → b ≡ (b || false)
  or_nothing true = refl
  or_nothing false = refl

  parts_sound : (make : Expressions → Expression) (Whole : Expression → Text → Text → Type 0)
      → ((e : Expression) (t r : Text) → Item e t r → Whole e t r)
      → ((e : Expression) (es : Expressions) (t u r : Text) → Item e t u → More es u r → Whole (make (expression e es)) t r)
      → ((es : Expressions) → expression_kept (make es) ≡ make (expressions_kept es)) → ((es : Expressions) → expression_left_out (make es) ≡ expressions_left_out es)
      → (t : Text) (x : Expression × Bool × Text) → read_parts item make separator t ≡ Some x → Found expression_kept expression_left_out (λ e r. Whole e t r) x
  unfolding read_parts
  parts_sound make Whole whole_one several keeps leaves t x e =
      let a = bind_some (item t) (λ x. read_more_parts item separator (suc (length x.2)) x.2 >>= λ y. Some (join_parts make x.0 y.0, x.1 || y.1, y.2)) x e in
      let b = bind_some (read_more_parts item separator (suc (length a.0.2)) a.0.2) (λ y. Some (join_parts make a.0.0 y.0, a.0.1 || y.1, y.2)) x a.2 in
      let i = item_sound t a.0 a.1 in
      let m = more_sound (suc (length a.0.2)) a.0.2 b.0 b.1 in
      subst (λ w. Found expression_kept expression_left_out (λ e r. Whole e t r) w) (some_is (join_parts make a.0.0 b.0.0, a.0.1 || b.0.1, b.0.2) x b.2)
      (join_parts make i.0 m.0, joined make Whole whole_one several i.0 m.0 t a.0.2 b.0.2 i.1 m.1, kept i.0 m.0 ∙ rw (i.2, m.2) refl, left i.0 m.0 ∙ rw (i.3, m.3) refl)
    where
      kept : (e : Expression) (es : Expressions) → expression_kept (join_parts make e es) ≡ join_parts make (expression_kept e) (expressions_kept es)
      kept e no_expressions = refl
      kept e (expression f es) = keeps (expression e (expression f es))

      left : (e : Expression) (es : Expressions) → expression_left_out (join_parts make e es) ≡ (expression_left_out e || expressions_left_out es)
      left e no_expressions = or_nothing (expression_left_out e)
      left e (expression f es) = leaves (expression e (expression f es))

-- ---- dots

abbrev FoundDotted : Text → Selectors × Bool × Bool × Text → Type 0
FoundDotted t x = DottedAt x.0 x.1 t x.3 × (selectors_kept x.0 ≡ x.0) × (selectors_left_out x.0 ≡ x.2)

dotted_sound : (t : Text) (x : Selectors × Bool × Bool × Text) → read_dotted t ≡ Some x → FoundDotted t x
unfolding read_dotted
dotted_sound t x e =
    ⊎_elim
    (λ y. along (λ u. FoundDotted u x) t _ (at_is 42 t y.0 y.1) (subst (FoundDotted (42 ∷ y.0)) (some_is (selector wildcard_selector no_selectors, false, false, y.0) x y.2) (dotted_wildcard, refl, refl)))
    (λ y.
    let a = bind_some (read_shorthand t) (λ x. Some (selector (name_selector x.0) no_selectors, true, false, x.1)) x y.1 in
    subst (FoundDotted t) (some_is (selector (name_selector a.0.0) no_selectors, true, false, a.0.1) x a.2) (dotted_name (shorthand_sound t a.0 a.1), refl, refl))
    (on_cases (after_character 42 t) _ _ (Some x) e)

plain_selector_sound : (t : Text) (x : Selector × Text) → read_plain_selector t ≡ Some x → SelectorAt x.0 t x.1 × (selector_kept x.0 ≡ x.0) × (selector_left_out x.0 ≡ false)
unfolding read_plain_selector
plain_selector_sound t x e =
    ⊎_elim
    (λ y.
    let a = bind_some (read_string t) (λ x. Some (name_selector x.0, x.1)) x y.1 in
    subst (λ (w : Selector × Text). SelectorAt w.0 t w.1 × (selector_kept w.0 ≡ w.0) × (selector_left_out w.0 ≡ false)) (some_is (name_selector a.0.0, a.0.1) x a.2) (a_singular (a_name (string_sound t a.0 a.1)), refl, refl))
    (λ y. let k = number_plain t x y.1 in (number_sound t x y.1, k.0, k.1))
    (chosen (begins_string t) _ _ (Some x) e)

module _ (inner : Text → Option (Expression × Bool × Text)) (read_argument : Text → Option (Operand × Bool × Text))
    (inner_sound : (t : Text) (x : Expression × Bool × Text) → inner t ≡ Some x → FoundExpression t x)
    (argument_sound : (t : Text) (x : Operand × Bool × Text) → read_argument t ≡ Some x → FoundOperand t x) where
  selector_sound : (t : Text) (x : Selector × Bool × Text) → read_selector inner read_argument t ≡ Some x → FoundSelector t x
  unfolding read_selector
  selector_sound t x e =
      ⊎_elim
      (λ z. along (λ u. FoundSelector u x) t _ (at_is 42 t z.0 z.1) (subst (FoundSelector _) (some_is (wildcard_selector, false, z.0) x z.2) (wildcard_selector, a_wildcard, refl, refl)))
      (λ y. ⊎_elim
      (λ z.
      let a = bind_some (inner (skip z.0)) (λ x. Some (filter_selector x.0, x.1, x.2)) x z.2 in
      let i = inner_sound (skip z.0) a.0 a.1 in
      along (λ u. FoundSelector u x) t _ (at_is 63 t z.0 z.1) (subst (FoundSelector _) (some_is (filter_selector a.0.0, a.0.1, a.0.2) x a.2) (filter_selector i.0, a_filter (skip_blanks z.0) i.1, rw i.2 refl, i.3)))
      (λ z.
      let a = bind_some (read_plain_selector t) (λ x. Some (x.0, false, x.1)) x z.1 in
      let s = plain_selector_sound t a.0 a.1 in
      subst (FoundSelector t) (some_is (a.0.0, false, a.0.1) x a.2) (a.0.0, s.0, s.1, s.2))
      (on_cases (after_character 63 t) _ _ (Some x) y.1))
      (on_cases (after_character 42 t) _ _ (Some x) e)

  abbrev FoundSelectors : Text → Selectors × Bool × Text → Type 0
  FoundSelectors t x = Found selectors_kept selectors_left_out (λ s r. MoreSelectorsAt s t r) x

  selectors_sound : (k : ℕ) (t : Text) (x : Selectors × Bool × Text) → read_more_selectors inner read_argument k t ≡ Some x → FoundSelectors t x
  unfolding read_more_selectors
  selectors_sound zero t x e = none_some x e
  selectors_sound (suc k) t x e =
      ⊎_elim
      (λ z. subst (FoundSelectors t) (some_is (no_selectors, false, z.0) x z.2) (no_selectors, selectors_end (skipped 93 t z.0 z.1), refl, refl))
      (λ y.
      let c = bind_some (after_character 44 (skip t)) (λ u. read_selector inner read_argument (skip u) >>= λ x. read_more_selectors inner read_argument k x.2 >>= λ y. Some (selector x.0 y.0, x.1 || y.1, y.2)) x y.1 in
      let a = bind_some (read_selector inner read_argument (skip c.0)) (λ x. read_more_selectors inner read_argument k x.2 >>= λ y. Some (selector x.0 y.0, x.1 || y.1, y.2)) x c.2 in
      let b = bind_some (read_more_selectors inner read_argument k a.0.2) (λ y. Some (selector a.0.0 y.0, a.0.1 || y.1, y.2)) x a.2 in
      let s = selector_sound (skip c.0) a.0 a.1 in
      let m = selectors_sound k a.0.2 b.0 b.1 in
      subst (FoundSelectors t) (some_is (selector a.0.0 b.0.0, a.0.1 || b.0.1, b.0.2) x b.2)
      (selector s.0 m.0, selectors_more (skipped 44 t c.0 c.1) (skip_blanks c.0) s.1 m.1, rw (s.2, m.2) refl, rw (s.3, m.3) refl))
      (on_cases (after_character 93 (skip t)) _ _ (Some x) e)

  -- with the flag of singular queries
  abbrev FoundBracket : Text → Selectors × Bool × Bool × Text → Type 0
  FoundBracket t x = (w : Selectors) × BracketedAt w x.1 t x.3 × (selectors_kept w ≡ x.0) × (selectors_left_out w ≡ x.2)

  lone_sound : (t : Text) (s s' : Selector) (u r : Text) → SelectorAt s t u → selector_kept s ≡ s' → after_singular t s' u ≡ Some r → SingularSelectorAt s t (93 ∷ r) × (selector_left_out s ≡ false)
  lone_sound t s s' u r x k e = go s s' x k (guarded_not (is_singular_selector s') (after_character 93 u) r (not_first (starts_with_blank t) _ r e))
    where
      not_first : (b : Bool) (o : Option Text) (r : Text) → cond b None o ≡ Some r → o ≡ Some r
      not_first true o r e = none_some r e
      not_first false o r e = e

      guarded_not : (b : Bool) (o : Option Text) (r : Text) → cond b o None ≡ Some r → (b ≡ true) × (o ≡ Some r)
      guarded_not b o r e = guarded b o r e

      go : (s s' : Selector) → SelectorAt s t u → selector_kept s ≡ s' → (is_singular_selector s' ≡ true) × (after_character 93 u ≡ Some r) → SingularSelectorAt s t (93 ∷ r) × (selector_left_out s ≡ false)
      go (name_selector n) s' (a_singular y) k g = (subst (SingularSelectorAt (name_selector n) t) (at_is 93 u r g.1) y, refl)
      go (index_selector z) s' (a_singular y) k g = (subst (SingularSelectorAt (index_selector z) t) (at_is 93 u r g.1) y, refl)
      go wildcard_selector s' y k g = let h = rw (sym k) at g.0 in absurd cc
      go (filter_selector f) s' y k g = let h = rw (sym k) at g.0 in absurd cc
      go (slice_selector a b c) s' y k g = let h = rw (sym k) at g.0 in absurd cc

  bracket_sound : (t : Text) (x : Selectors × Bool × Bool × Text) → read_bracketed inner read_argument t ≡ Some x → FoundBracket t x
  unfolding read_bracketed
  bracket_sound t x e =
      let a = bind_some (read_selector inner read_argument (skip t)) (λ x.
      on (after_singular t x.0 x.2) (λ r. Some (selector x.0 no_selectors, true, x.1, r))
      (read_more_selectors inner read_argument (suc (length x.2)) x.2 >>= λ y. Some (selector x.0 y.0, false, x.1 || y.1, y.2))) x e in
      let s = selector_sound (skip t) a.0 a.1 in
      ⊎_elim
      (λ y.
      let here : skip t ≡ t = no_blank_there t a.0.0 a.0.2 y.0 y.1 in
      let l = lone_sound t s.0 a.0.0 a.0.2 y.0 (subst (λ u. SelectorAt s.0 u a.0.2) here s.1) s.2 y.1 in
      subst (FoundBracket t) (some_is (selector a.0.0 no_selectors, true, a.0.1, y.0) x y.2)
      (selector s.0 no_selectors, singular_bracket l.0, ap (λ (w : Selector). selector w no_selectors) s.2, ap (λ (b : Bool). b || false) s.3 ∙ or_none a.0.1))
      (λ y.
      let b = bind_some (read_more_selectors inner read_argument (suc (length a.0.2)) a.0.2) (λ y. Some (selector a.0.0 y.0, false, a.0.1 || y.1, y.2)) x y.1 in
      let m = selectors_sound (suc (length a.0.2)) a.0.2 b.0 b.1 in
      subst (FoundBracket t) (some_is (selector a.0.0 b.0.0, false, a.0.1 || b.0.1, b.0.2) x b.2)
      (selector s.0 m.0, any_bracket (skip_blanks t) s.1 m.1, rw (s.2, m.2) refl, rw (s.3, m.3) refl))
      (on_cases (after_singular t a.0.0 a.0.2) _ _ (Some x) a.2)
    where
      or_none : (b : Bool) → (b || false) ≡ b
      or_none true = refl
      or_none false = refl

      no_blank_there : (t : Text) (s : Selector) (u r : Text) → after_singular t s u ≡ Some r → skip t ≡ t
      no_blank_there [] s u r e = refl
      no_blank_there (c ∷ t) s u r e = go (is_blank c) refl e
        where
          go : (b : Bool) → is_blank c ≡ b → cond b None (cond (is_singular_selector s) (after_character 93 u) None) ≡ Some r → cond b (skip t) (c ∷ t) ≡ c ∷ t
          go true is e = none_some r e
          go false is e = refl

  deep_sound : (t : Text) (x : Selectors × Bool × Bool × Text) → read_after_dots inner read_argument t ≡ Some x → (w : Selectors) × SegmentAt true w false (46 ∷ 46 ∷ t) x.3 × (selectors_kept w ≡ x.0) × (selectors_left_out w ≡ x.2)
  unfolding read_after_dots
  deep_sound t x e =
      ⊎_elim
      (λ y.
      let b = bracket_sound y.0 x y.2 in
      (b.0, along (λ u. SegmentAt true b.0 false (46 ∷ 46 ∷ u) x.3) t _ (at_is 91 t y.0 y.1) (descendant_bracketed b.1), b.2, b.3))
      (λ y.
      let d = dotted_sound t x y.1 in (x.0, descendant_dotted d.0, d.1, d.2))
      (on_cases (after_character 91 t) _ _ (Some x) e)

  abbrev FoundSegment : Text → Bool × Selectors × Bool × Bool × Text → Type 0
  FoundSegment t x = (w : Selectors) × SegmentAt x.0 w x.2 t x.4 × (selectors_kept w ≡ x.1) × (selectors_left_out w ≡ x.3)

  segment_sound : (t : Text) (x : Bool × Selectors × Bool × Bool × Text) → read_segment inner read_argument t ≡ Some x → FoundSegment t x
  unfolding read_segment
  segment_sound t x e =
      ⊎_elim
      (λ y.
      let a = bind_some (read_after_dots inner read_argument y.0) (λ x. Some (true, x.0, false, x.2, x.3)) x y.2 in
      let d = deep_sound y.0 a.0 a.1 in
      along (λ u. FoundSegment u x) t _ (doubled_is 46 t y.0 y.1) (subst (FoundSegment _) (some_is (true, a.0.0, false, a.0.2, a.0.3) x a.2) (d.0, d.1, d.2, d.3)))
      (λ y. ⊎_elim
      (λ z.
      let a = bind_some (read_dotted z.0) (λ x. Some (false, x.0, x.1, x.2, x.3)) x z.2 in
      let d = dotted_sound z.0 a.0 a.1 in
      along (λ u. FoundSegment u x) t _ (at_is 46 t z.0 z.1) (subst (FoundSegment _) (some_is (false, a.0.0, a.0.1, a.0.2, a.0.3) x a.2) (a.0.0, child_dotted d.0, d.1, d.2)))
      (λ z.
      let c = bind_some (after_character 91 t) (λ u. read_bracketed inner read_argument u >>= λ x. Some (false, x.0, x.1, x.2, x.3)) x z.1 in
      let a = bind_some (read_bracketed inner read_argument c.0) (λ x. Some (false, x.0, x.1, x.2, x.3)) x c.2 in
      let b = bracket_sound c.0 a.0 a.1 in
      along (λ u. FoundSegment u x) t _ (at_is 91 t c.0 c.1) (subst (FoundSegment _) (some_is (false, a.0.0, a.0.1, a.0.2, a.0.3) x a.2) (b.0, child_bracketed b.1, b.2, b.3)))
      (on_cases (after_character 46 t) _ _ (Some x) y.1))
      (on_cases (after_doubled 46 t) _ _ (Some x) e)

  abbrev FoundSegments : Text → Segments × Bool × Bool × Text → Type 0
  FoundSegments t x = (w : Segments) × SegmentsAt w x.1 t x.3 × (segments_kept w ≡ x.0) × (segments_left_out w ≡ x.2)

  segments_sound : (k : ℕ) (t : Text) (x : Segments × Bool × Bool × Text) → read_segments inner read_argument k t ≡ Some x → FoundSegments t x
  unfolding read_segments
  segments_sound zero t x e = none_some x e
  segments_sound (suc k) t x e =
      ⊎_elim
      (λ y.
      let a = bind_some (read_segment inner read_argument (skip t)) (λ x. read_segments inner read_argument k x.4 >>= λ y. Some (segment x.0 x.1 y.0, x.2 && y.1, x.3 || y.2, y.3)) x y.1 in
      let b = bind_some (read_segments inner read_argument k a.0.4) (λ y. Some (segment a.0.0 a.0.1 y.0, a.0.2 && y.1, a.0.3 || y.2, y.3)) x a.2 in
      let s = segment_sound (skip t) a.0 a.1 in
      let m = segments_sound k a.0.4 b.0 b.1 in
      subst (FoundSegments t) (some_is (segment a.0.0 a.0.1 b.0.0, a.0.2 && b.0.1, a.0.3 || b.0.2, b.0.3) x b.2)
      (segment a.0.0 s.0 m.0, segments_more (skip_blanks t) s.1 m.1, rw (s.2, m.2) refl, rw (s.3, m.3) refl))
      (λ y. subst (FoundSegments t) (some_is (no_segments, true, false, t) x y.1) (no_segments, segments_end, refl, refl))
      (chosen (begins_segment (skip t)) _ _ (Some x) e)

  filter_query_here : (root b : Bool) (q : Segments) (t u r : Text) → ((root ≡ false) × (t ≡ 64 ∷ u)) ⊎ ((root ≡ true) × (t ≡ 36 ∷ u)) → SegmentsAt q b u r → FilterQueryAt root q b t r
  filter_query_here root b q t u r way s =
      ⊎_elim
      (λ y. subst (λ c. FilterQueryAt c q b t r) (sym y.0) (along (λ w. FilterQueryAt false q b w r) t _ y.1 (relative_query s)))
      (λ y. subst (λ c. FilterQueryAt c q b t r) (sym y.0) (along (λ w. FilterQueryAt true q b w r) t _ y.1 (absolute_query s)))
      way

  abbrev FoundFilterQuery : Text → Bool × Segments × Bool × Bool × Text → Type 0
  FoundFilterQuery t x = (w : Segments) × FilterQueryAt x.0 w x.2 t x.4 × (segments_kept w ≡ x.1) × (segments_left_out w ≡ x.3)

  filter_query_sound : (t : Text) (x : Bool × Segments × Bool × Bool × Text) → read_filter_query inner read_argument t ≡ Some x → FoundFilterQuery t x
  unfolding read_filter_query
  filter_query_sound t x e =
      let r = bind_some (read_identifier t) (λ x. read_query inner read_argument x.1 >>= λ q. Some (x.0, q.0, q.1, q.2, q.3)) x e in
      let a = bind_some (read_query inner read_argument r.0.1) (λ q. Some (r.0.0, q.0, q.1, q.2, q.3)) x r.2 in
      let s = segments_sound _ r.0.1 a.0 a.1 in
      subst (FoundFilterQuery t) (some_is (r.0.0, a.0.0, a.0.1, a.0.2, a.0.3) x a.2)
      (s.0, filter_query_here r.0.0 a.0.1 s.0 t r.0.1 a.0.3 (root_sound t r.0 r.1) s.1, s.2, s.3)

  -- ---- calls and operands

  one_value_sound : (t : Text) (x : Operand × Bool × Text) → read_value_argument inner read_argument t ≡ Some x → FoundOperand (108 ∷ 101 ∷ 110 ∷ 103 ∷ 116 ∷ 104 ∷ 40 ∷ t) x
  unfolding read_value_argument
  one_value_sound t x e =
      let a = bind_some (read_argument (skip t)) (λ x. after_character 41 (skip x.2) >>= λ r. Some (length_of x.0, x.1, r)) x e in
      let b = bind_some (after_character 41 (skip a.0.2)) (λ r. Some (length_of a.0.0, a.0.1, r)) x a.2 in
      let o = argument_sound (skip t) a.0 a.1 in
      subst (FoundOperand _) (some_is (length_of a.0.0, a.0.1, b.0) x b.2)
      (length_of o.0, length_call (skip_blanks t) o.1 (skipped 41 a.0.2 b.0 b.1), rw o.2 refl, o.3)

  nodes_sound : (make : Bool → Segments → Operand) (t t' : Text) (x : Operand × Bool × Text)
      → ((root b : Bool) (q : Segments) (u v r : Text) → Blanks t u → FilterQueryAt root q b u v → Blanks v (41 ∷ r) → ComparableAt (make root q) t' r)
      → ((root : Bool) (q : Segments) → operand_kept (make root q) ≡ make root (segments_kept q)) → ((root : Bool) (q : Segments) → operand_left_out (make root q) ≡ segments_left_out q)
      → read_nodes_argument inner read_argument make t ≡ Some x → FoundOperand t' x
  unfolding read_nodes_argument
  nodes_sound make t t' x is keeps leaves e =
      let a = bind_some (read_filter_query inner read_argument (skip t)) (λ x. after_character 41 (skip x.4) >>= λ r. Some (make x.0 x.1, x.3, r)) x e in
      let b = bind_some (after_character 41 (skip a.0.4)) (λ r. Some (make a.0.0 a.0.1, a.0.3, r)) x a.2 in
      let q = filter_query_sound (skip t) a.0 a.1 in
      subst (FoundOperand t') (some_is (make a.0.0 a.0.1, a.0.3, b.0) x b.2)
      (make a.0.0 q.0, is a.0.0 a.0.2 q.0 (skip t) a.0.4 b.0 (skip_blanks t) q.1 (skipped 41 a.0.4 b.0 b.1), keeps a.0.0 q.0 ∙ ap (make a.0.0) q.2, leaves a.0.0 q.0 ∙ q.3)

  two_arguments_values_sound : (t : Text) (x : Expression × Bool × Text) → read_two_arguments inner read_argument t ≡ Some x → (a b : Operand) × TwoArgumentsAt a b t x.2 × (x.0 ≡ logical_or no_expressions) × (x.1 ≡ true)
  unfolding read_two_arguments
  two_arguments_values_sound t x e =
      let a = bind_some (read_argument (skip t)) (λ a. after_character 44 (skip a.2) >>= λ u. read_argument (skip u) >>= λ b. after_character 41 (skip b.2) >>= λ r. Some (logical_or no_expressions, true, r)) x e in
      let u = bind_some (after_character 44 (skip a.0.2)) (λ u. read_argument (skip u) >>= λ b. after_character 41 (skip b.2) >>= λ r. Some (logical_or no_expressions, true, r)) x a.2 in
      let b = bind_some (read_argument (skip u.0)) (λ b. after_character 41 (skip b.2) >>= λ r. Some (logical_or no_expressions, true, r)) x u.2 in
      let r = bind_some (after_character 41 (skip b.0.2)) (λ r. Some (logical_or no_expressions, true, r)) x b.2 in
      let o = argument_sound (skip t) a.0 a.1 in
      let p = argument_sound (skip u.0) b.0 b.1 in
      subst (λ (x : Expression × Bool × Text). (a b : Operand) × TwoArgumentsAt a b t x.2 × (x.0 ≡ logical_or no_expressions) × (x.1 ≡ true)) (some_is (logical_or no_expressions, true, r.0) x r.2)
      (o.0, p.0, two_arguments (skip_blanks t) o.1 (skipped 44 a.0.2 u.0 u.1) (skip_blanks u.0) p.1 (skipped 41 b.0.2 r.0 r.1), refl, refl)

  no_query_sound : (t : Text) (x : Operand × Bool × Text) → read_no_query inner read_argument t ≡ Some x → FoundOperand t x
  unfolding read_no_query
  no_query_sound t x e =
      ⊎_elim
      (λ z. along (λ u. FoundOperand u x) t _ (word_is (codes "length(") t z.0 z.1) (one_value_sound z.0 x z.2))
      (λ y. ⊎_elim
      (λ z. along (λ u. FoundOperand u x) t _ (word_is (codes "count(") t z.0 z.1) (nodes_sound count_of z.0 _ x (λ root b q u v r p s p'. count_call p s p') (λ root q. refl) (λ root q. refl) z.2))
      (λ y. ⊎_elim
      (λ z. along (λ u. FoundOperand u x) t _ (word_is (codes "value(") t z.0 z.1) (nodes_sound value_of z.0 _ x (λ root b q u v r p s p'. value_call p s p') (λ root q. refl) (λ root q. refl) z.2))
      (λ z.
      let a = bind_some (read_literal t) (λ x. Some (literal x.0, x.1, x.2)) x z.1 in
      let l = literal_sound t a.0 a.1 in
      subst (FoundOperand t) (some_is (literal a.0.0, a.0.1, a.0.2) x a.2) (literal l.0, a_literal l.1, ap literal l.2, l.3))
      (on_cases (after_word (codes "value(") t) _ _ (Some x) y.1))
      (on_cases (after_word (codes "count(") t) _ _ (Some x) y.1))
      (on_cases (after_word (codes "length(") t) _ _ (Some x) e)

  operand_sound : (t : Text) (x : Operand × Bool × Text) → read_comparable inner read_argument t ≡ Some x → FoundOperand t x
  unfolding read_comparable
  operand_sound t x e =
      ⊎_elim
      (λ y.
      let a = bind_some (read_query inner read_argument y.0.1) (λ q. cond q.1 (Some (singular_query y.0.0 q.0, q.2, q.3)) None) x y.2 in
      let g = guarded a.0.1 (Some (singular_query y.0.0 a.0.0, a.0.2, a.0.3)) x a.2 in
      let s = segments_sound _ y.0.1 a.0 a.1 in
      subst (FoundOperand t) (some_is (singular_query y.0.0 a.0.0, a.0.2, a.0.3) x g.1)
      (singular_query y.0.0 s.0, a_singular_query (filter_query_here y.0.0 true s.0 t y.0.1 a.0.3 (root_sound t y.0 y.1) (subst (λ b. SegmentsAt s.0 b y.0.1 a.0.3) g.0 s.1)), rw s.2 refl, s.3))
      (λ y. no_query_sound t x y.1)
      (on_cases (read_identifier t) _ _ (Some x) e)

  -- ---- tests and comparisons

  abbrev FoundTest : Text → Expression × Bool × Text → Type 0
  FoundTest t x = Found expression_kept expression_left_out (λ e r. TestAt e t r) x

  abbrev FoundBasic : Text → Expression × Bool × Text → Type 0
  FoundBasic t x = Found expression_kept expression_left_out (λ e r. BasicExpressionAt e t r) x

  parens_sound : (t : Text) (x : Expression × Bool × Text) → read_in_parentheses inner read_argument t ≡ Some x → FoundTest (40 ∷ t) x
  unfolding read_in_parentheses
  parens_sound t x e =
      let a = bind_some (inner (skip t)) (λ x. after_character 41 (skip x.2) >>= λ r. Some (x.0, x.1, r)) x e in
      let b = bind_some (after_character 41 (skip a.0.2)) (λ r. Some (a.0.0, a.0.1, r)) x a.2 in
      let i = inner_sound (skip t) a.0 a.1 in
      subst (FoundTest (40 ∷ t)) (some_is (a.0.0, a.0.1, b.0) x b.2)
      (i.0, parentheses (skip_blanks t) i.1 (skipped 41 a.0.2 b.0 b.1), i.2, i.3)

  match_sound : (t u : Text) (x : Expression × Bool × Text) → after_word (codes "match(") t ≡ Some u → read_two_arguments inner read_argument u ≡ Some x → FoundTest t x
  match_sound t u x w e =
      let a = two_arguments_values_sound u x e in
      along (λ u. FoundTest u x) t _ (word_is (codes "match(") t u w) (match_of a.0 a.1, match_call a.2, sym a.3, sym a.4)

  search_sound : (t u : Text) (x : Expression × Bool × Text) → after_word (codes "search(") t ≡ Some u → read_two_arguments inner read_argument u ≡ Some x → FoundTest t x
  search_sound t u x w e =
      let a = two_arguments_values_sound u x e in
      along (λ u. FoundTest u x) t _ (word_is (codes "search(") t u w) (search_of a.0 a.1, search_call a.2, sym a.3, sym a.4)

  test_sound : (t : Text) (x : Expression × Bool × Text) → read_test inner read_argument t ≡ Some x → FoundTest t x
  unfolding read_test
  test_sound t x e =
      ⊎_elim
      (λ z. along (λ u. FoundTest u x) t _ (at_is 40 t z.0 z.1) (parens_sound z.0 x z.2))
      (λ y. ⊎_elim
      (λ z. match_sound t z.0 x z.1 z.2)
      (λ y. ⊎_elim
      (λ z. search_sound t z.0 x z.1 z.2)
      (λ y.
      let r = bind_some (read_filter_query inner read_argument t) (λ x. Some (existence x.0 x.1, x.3, x.4)) x y.1 in
      let q = filter_query_sound t r.0 r.1 in
      subst (FoundTest t) (some_is (existence r.0.0 r.0.1, r.0.3, r.0.4) x r.2) (existence r.0.0 q.0, existence_test q.1, rw q.2 refl, q.3))
      (on_cases (after_word (codes "search(") t) _ _ (Some x) y.1))
      (on_cases (after_word (codes "match(") t) _ _ (Some x) y.1))
      (on_cases (after_character 40 t) _ _ (Some x) e)

  plainly : (t : Text) (x : Expression × Bool × Text) → FoundTest t x → FoundBasic t x
  plainly t x f = (f.0, a_test f.1, f.2, f.3)

  compare_sound : (left : Operand) (o : CompareOp × Text) (t u : Text) (x : Expression × Bool × Text) → ComparableAt left t u → read_comparison_op (skip u) ≡ Some o
      → read_comparison inner read_argument (operand_kept left) (operand_left_out left) o.0 o.1 ≡ Some x → FoundBasic t x
  unfolding read_comparison
  compare_sound left o t u x l is e =
      let a = bind_some (read_comparable inner read_argument (skip o.1)) (λ right. Some (comparison o.0 (operand_kept left) right.0, operand_left_out left || right.1, right.2)) x e in
      let r = operand_sound (skip o.1) a.0 a.1 in
      subst (FoundBasic t) (some_is (comparison o.0 (operand_kept left) a.0.0, operand_left_out left || a.0.1, a.0.2) x a.2)
      (comparison o.0 left r.0, a_comparison l (skip_blanks u) (comparison_op_sound (skip u) o is) (skip_blanks o.1) r.1, rw r.2 refl, rw r.3 refl)

  after_query_sound : (t : Text) (x : Expression × Bool × Text) → read_from_query inner read_argument t ≡ Some x → FoundBasic t x
  unfolding read_from_query
  after_query_sound t x e =
      let a = bind_some (read_filter_query inner read_argument t) (λ x.
      on (read_comparison_op (skip x.4))
      (λ o. cond x.2 (read_comparison inner read_argument (singular_query x.0 x.1) x.3 o.0 o.1) None)
      (Some (existence x.0 x.1, x.3, x.4))) x e in
      let q = filter_query_sound t a.0 a.1 in
      ⊎_elim
      (λ o.
      let g = guarded a.0.2 (read_comparison inner read_argument (singular_query a.0.0 a.0.1) a.0.3 o.0.0 o.0.1) x o.2 in
      compare_sound (singular_query a.0.0 q.0) o.0 t a.0.4 x (a_singular_query (subst (λ b. FilterQueryAt a.0.0 q.0 b t a.0.4) g.0 q.1)) o.1
      (subst (λ (p : Segments). read_comparison inner read_argument (singular_query a.0.0 p) (segments_left_out q.0) o.0.0 o.0.1 ≡ Some x) (sym q.2)
      (subst (λ (p : Bool). read_comparison inner read_argument (singular_query a.0.0 a.0.1) p o.0.0 o.0.1 ≡ Some x) (sym q.3) g.1)))
      (λ o. subst (FoundBasic t) (some_is (existence a.0.0 a.0.1, a.0.3, a.0.4) x o.1) (existence a.0.0 q.0, a_test (existence_test q.1), rw q.2 refl, q.3))
      (on_cases (read_comparison_op (skip a.0.4)) _ _ (Some x) a.2)

  basic_sound : (t : Text) (x : Expression × Bool × Text) → read_basic inner read_argument t ≡ Some x → FoundBasic t x
  unfolding read_basic
  basic_sound t x e =
      ⊎_elim
      (λ z.
      let a = bind_some (read_test inner read_argument (skip z.0)) (λ x. Some (logical_not x.0, x.1, x.2)) x z.2 in
      let i = test_sound (skip z.0) a.0 a.1 in
      along (λ u. FoundBasic u x) t _ (at_is 33 t z.0 z.1) (subst (FoundBasic _) (some_is (logical_not a.0.0, a.0.1, a.0.2) x a.2) (logical_not i.0, negated_test (skip_blanks z.0) i.1, rw i.2 refl, i.3)))
      (λ y. ⊎_elim
      (λ z. after_query_sound t x z.1)
      (λ y. ⊎_elim
      (λ z. along (λ u. FoundBasic u x) t _ (at_is 40 t z.0 z.1) (plainly _ x (parens_sound z.0 x z.2)))
      (λ y. ⊎_elim
      (λ z. plainly t x (match_sound t z.0 x z.1 z.2))
      (λ y. ⊎_elim
      (λ z. plainly t x (search_sound t z.0 x z.1 z.2))
      (λ z.
      let a = bind_some (read_no_query inner read_argument t) (λ x. read_comparison_op (skip x.2) >>= λ o. read_comparison inner read_argument x.0 x.1 o.0 o.1) x z.1 in
      let o = bind_some (read_comparison_op (skip a.0.2)) (λ o. read_comparison inner read_argument a.0.0 a.0.1 o.0 o.1) x a.2 in
      let l = no_query_sound t a.0 a.1 in
      compare_sound l.0 o.0 t a.0.2 x l.1 o.1
      (subst (λ (p : Operand). read_comparison inner read_argument p (operand_left_out l.0) o.0.0 o.0.1 ≡ Some x) (sym l.2)
      (subst (λ (p : Bool). read_comparison inner read_argument a.0.0 p o.0.0 o.0.1 ≡ Some x) (sym l.3) o.2)))
      (on_cases (after_word (codes "search(") t) _ _ (Some x) y.1))
      (on_cases (after_word (codes "match(") t) _ _ (Some x) y.1))
      (on_cases (after_character 40 t) _ _ (Some x) y.1))
      (chosen (begins_query t) _ _ (Some x) y.1))
      (on_cases (after_character 33 t) _ _ (Some x) e)

  and_sound : (t : Text) (x : Expression × Bool × Text) → read_logical_and inner read_argument t ≡ Some x → Found expression_kept expression_left_out (λ e r. LogicalAndAt e t r) x
  unfolding read_logical_and
  and_sound t x e = parts_sound (read_basic inner read_argument) 38 BasicExpressionAt MoreAndAt basic_sound (λ e t u v r p q i. last_conjunct p q i) (λ e es t u v w r p q i m. more_conjuncts p q i m) logical_and LogicalAndAt (λ e t r i. one_basic_expression i) (λ e es t u r i m. conjunction i m) (λ es. refl) (λ es. refl) t x e

  or_sound : (t : Text) (x : Expression × Bool × Text) → read_logical_or inner read_argument t ≡ Some x → FoundExpression t x
  unfolding read_logical_or
  or_sound t x e = parts_sound (read_logical_and inner read_argument) 124 LogicalAndAt MoreOrAt and_sound (λ e t u v r p q i. last_disjunct p q i) (λ e es t u v w r p q i m. more_disjuncts p q i m) logical_or LogicalOrAt (λ e t r i. one_conjunction i) (λ e es t u r i m. disjunction i m) (λ es. refl) (λ es. refl) t x e

mutual
  unfolding read_expression read_argument

  pub expression_sound : (n : ℕ) (t : Text) (x : Expression × Bool × Text) → read_expression n t ≡ Some x → FoundExpression t x
  expression_sound zero t x e = none_some x e
  expression_sound (suc n) t x e = or_sound (read_expression n) (read_argument n) (expression_sound n) (argument_sound n) t x e

  pub argument_sound : (n : ℕ) (t : Text) (x : Operand × Bool × Text) → read_argument n t ≡ Some x → FoundOperand t x
  argument_sound zero t x e = none_some x e
  argument_sound (suc n) t x e = operand_sound (read_expression n) (read_argument n) (expression_sound n) (argument_sound n) t x e

length_zero : (t : Text) → eqb (length t) 0 ≡ true → t ≡ []
length_zero [] e = refl
length_zero (c ∷ t) e = absurd (omega (arith, eqb-true _ _ e))

-- a query that is spelled so, of which this is kept
pub query_sound : (t : Text) (x : Segments × Bool) → read_whole t ≡ Some x → (w : Segments) × Spells w t × (segments_kept w ≡ x.0) × (segments_left_out w ≡ x.1)
unfolding read_whole
query_sound t x e =
    let n : ℕ = length t in
    let r = bind_some (after_character 36 t) (λ r. read_query (read_expression n) (read_argument n) r >>= λ q. cond (eqb (length q.3) 0) (Some (q.0, q.2)) None) x e in
    let a = bind_some (read_query (read_expression n) (read_argument n) r.0) (λ q. cond (eqb (length q.3) 0) (Some (q.0, q.2)) None) x r.2 in
    let g = guarded (eqb (length a.0.3) 0) (Some (a.0.0, a.0.2)) x a.2 in
    let s = segments_sound (read_expression n) (read_argument n) (expression_sound n) (argument_sound n) _ r.0 a.0 a.1 in
    let s' = subst (SegmentsAt s.0 a.0.1 r.0) (length_zero a.0.3 g.0) s.1 in
    subst (λ (x : Segments × Bool). (w : Segments) × Spells w t × (segments_kept w ≡ x.0) × (segments_left_out w ≡ x.1)) (some_is (a.0.0, a.0.2) x g.1)
    (s.0, (a.0.1, r.0, at_is 36 t r.0 r.1, s'), s.2, s.3)
