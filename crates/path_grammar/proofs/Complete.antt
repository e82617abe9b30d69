-- What is spelled so is read.
use Rattle.std.proofs.Common.{◌≡◌, ℕ, zero, suc, ◌≤◌, ◌<◌, Bool, true, false, cond, eqb, ◌==◌, ◌&&◌, ◌||◌, List, [], ◌∷◌, length, Option, Some, None, refl, sym, ap, ◌∙◌, ℤ, arith}
use Rattle.std.proofs.lemmas.Bool.{eq-eqb}
use Rattle.std.proofs.lemmas.Bool.Decides.{nat_tests}
use Rattle.path_grammar.specs.declared.compare_op.CompareOp.{CompareOp}
use Rattle.path_grammar.specs.Syntax.{Selector, name_selector, index_selector, slice_selector, Selectors, no_selectors, selector, Segments, Expression, logical_or, existence, comparison, Expressions, no_expressions, expression, Operand, singular_query, count_of, value_of}
use Rattle.path_grammar.specs.Profile.{selector_left_out, selectors_left_out, segments_left_out, expression_left_out, expressions_left_out, operand_left_out}
use Rattle.path_grammar.specs.Kept.{selector_kept, selectors_kept, segments_kept, expression_kept, expressions_kept, operand_kept}
use Rattle.path_grammar.specs.Characters.{Text, is_blank, is_digit, is_name_first, is_name_char, Blanks, no_blank, blank, Shorthand, shorthand}
use Rattle.path_grammar.specs.Strings.{StringLiteral, double_quoted, single_quoted}
use Rattle.path_grammar.specs.Grammar.{SingularSelectorAt, a_name, an_index, SliceBoundAt, no_bound, bound, SliceStepAt, no_step, empty_step, step, DottedAt, dotted_wildcard, dotted_name, ComparisonOpAt, equal, not_equal, less_equal, greater_equal, less, greater, SegmentsAt, segments_end, segments_more, SegmentAt, child_bracketed, child_dotted, descendant_bracketed, descendant_dotted, BracketedAt, singular_bracket, any_bracket, MoreSelectorsAt, selectors_end, selectors_more, SelectorAt, a_singular, a_wildcard, a_slice, a_filter, LogicalOrAt, one_conjunction, disjunction, MoreOrAt, last_disjunct, more_disjuncts, LogicalAndAt, one_basic_expression, conjunction, MoreAndAt, last_conjunct, more_conjuncts, BasicExpressionAt, a_test, negated_test, a_comparison, TestAt, parentheses, existence_test, match_call, search_call, FilterQueryAt, relative_query, absolute_query, ComparableAt, a_literal, a_singular_query, length_call, count_call, value_call, TwoArgumentsAt, two_arguments, Spells}
use Rattle.path_grammar.specs.Reading.{begins, ◌>>=◌, on, after_character, after_doubled, skip, read_slice_bound, read_slice_step, read_slice_from, read_index_or_slice, read_plain_selector, read_dotted, read_comparison_op, read_identifier, read_more_parts, read_parts, begins_segment, starts_with_blank, is_singular_selector, after_singular, read_selector, read_more_selectors, read_bracketed, read_after_dots, read_segment, read_segments, read_query, read_filter_query, read_value_argument, read_nodes_argument, read_two_arguments, read_no_query, read_comparable, read_in_parentheses, read_test, read_comparison, read_from_query, begins_query, read_basic, read_logical_and, read_logical_or, read_expression, read_argument, read_whole}
use Rattle.path_grammar.proofs.Tools.{guarded, none_some, at_is, skip_blanks}
use Rattle.path_grammar.proofs.Lengths.{blanks_le, comparison_op_le, segment_le, selector_le, and_le, basic_le, comparable_le, filter_query_le}
use Rattle.path_grammar.proofs.Follow.{Follow, ends_or, stop0, stop1, stop2, stop3, stop4, stop0-1, stop1-2, stop2-3, stop3-4, not_at, not_at_start, begins_not, excludes_digit, excludes_part, skip_is, skip_to, skip_twice, shorthand_complete, int_complete, int_start, int_begins, int_stays, int_not_at, begins_int-is, follow_along, follow_no_int, string_complete, int_no_string, literal_start, literal_begins, literal_stays, literal_not_at, literal_complete}

stop0-4 : (t : Text) → Follow stop0 t → Follow stop4 t
stop0-4 t f = stop3-4 t (stop2-3 t (stop1-2 t (stop0-1 t f)))

no_digit_after : (t : Text) → Follow stop4 t → begins is_digit t ≡ false
no_digit_after t f = begins_not stop4 is_digit t excludes_digit f

-- ---- slices

step_follow : {c : Option ℤ} {w r : Text} → SliceStepAt c w r → Follow stop0 r → Follow stop4 w
step_follow {r = r} no_step f = stop0-4 r f
step_follow empty_step f = record { ends = refl }
step_follow (step b i) f = record { ends = refl }

step_complete : {c : Option ℤ} {w r : Text} → SliceStepAt c w r → Follow stop0 r → (r' : Text) × (read_slice_step (skip w) ≡ Some (c, r')) × (skip r' ≡ skip r)
unfolding read_slice_step
step_complete {r = r} no_step f = (skip r, rw (not_at stop0 58 (skip r) refl f.ends) refl, skip_twice r)
step_complete {r = r} empty_step f = (r, rw (follow_no_int r (stop0-4 r f)) refl, refl)
step_complete {r = r} (step {t = u} {u = v} b i) f =
    let here : skip u ≡ v = skip_to b (int_stays i) in
    (r, rw (here, begins_int-is v, int_begins i, int_complete i (no_digit_after r (stop0-4 r f))) refl, refl)

slice_complete : {b c : Option ℤ} {u v w r : Text} (a : Option ℤ) → Blanks u v → SliceBoundAt b v w → SliceStepAt c w r → Follow stop0 r
    → (r' : Text) × (read_slice_from a u ≡ Some (slice_selector a b c, r')) × (skip r' ≡ skip r)
unfolding read_slice_from read_slice_bound
slice_complete {u = u} {v = v} a blanks no_bound s f =
    let t = step_complete s f in
    (t.0, rw (skip_is blanks, follow_no_int v (step_follow s f), t.1) refl, t.2)
slice_complete {u = u} {v = v} {w = w} a blanks (bound {u = x} i after) s f =
    let t = step_complete s f in
    let here : skip u ≡ v = skip_to blanks (int_stays i) in
    let next : Follow stop4 x = follow_along stop4 x w (skip_is after) (step_follow s f) in
    (t.0, rw (here, begins_int-is v, int_begins i, int_complete i (no_digit_after x next), skip_is after, t.1) refl, t.2)

-- ---- operators

comparison_op_complete : {o : CompareOp} {t r : Text} → ComparisonOpAt o t r → after_character 61 r ≡ None → read_comparison_op t ≡ Some (o, r)
unfolding read_comparison_op
comparison_op_complete equal h = refl
comparison_op_complete not_equal h = refl
comparison_op_complete less_equal h = refl
comparison_op_complete greater_equal h = refl
comparison_op_complete less h = rw h refl
comparison_op_complete greater h = rw h refl

comparison_op_stays : {o : CompareOp} {t r : Text} → ComparisonOpAt o t r → (skip t ≡ t) × (ends_or stop3 t ≡ true)
comparison_op_stays equal = (refl, refl)
comparison_op_stays not_equal = (refl, refl)
comparison_op_stays less_equal = (refl, refl)
comparison_op_stays greater_equal = (refl, refl)
comparison_op_stays less = (refl, refl)
comparison_op_stays greater = (refl, refl)

no_op : (t : Text) → Follow stop2 t → read_comparison_op (skip t) ≡ None
unfolding read_comparison_op
no_op t f =
    let h = f.ends in
    rw (not_at stop2 61 (skip t) refl h, not_at stop2 33 (skip t) refl h, not_at stop2 60 (skip t) refl h, not_at stop2 62 (skip t) refl h) refl

-- ---- where each begins

filter_query_stays : {root b : Bool} {q : Segments} {t r : Text} → FilterQueryAt root q b t r → skip t ≡ t
filter_query_stays (relative_query s) = refl
filter_query_stays (absolute_query s) = refl

comparable_stays : {o : Operand} {t r : Text} → ComparableAt o t r → skip t ≡ t
comparable_stays (a_literal l) = literal_stays l
comparable_stays (a_singular_query q) = filter_query_stays q
comparable_stays (length_call a o b) = refl
comparable_stays (count_call a q b) = refl
comparable_stays (value_call a q b) = refl

-- of a comparable: what a literal begins with, `@`, `$`, and the first letters of functions
abbrev comparable_start : ℕ → Bool
comparable_start c = literal_start c || ((c == 64) || ((c == 36) || ((c == 108) || ((c == 99) || (c == 118)))))

literal_is_opd : (t : Text) → begins literal_start t ≡ true → begins comparable_start t ≡ true
literal_is_opd [] e = e
literal_is_opd (c ∷ t) e = rw e refl

comparable_begins : {o : Operand} {t r : Text} → ComparableAt o t r → begins comparable_start t ≡ true
comparable_begins {t = t} (a_literal l) = literal_is_opd t (literal_begins l)
comparable_begins (a_singular_query (relative_query s)) = refl
comparable_begins (a_singular_query (absolute_query s)) = refl
comparable_begins (length_call a o b) = refl
comparable_begins (count_call a q b) = refl
comparable_begins (value_call a q b) = refl

comparable_not_at : {o : Operand} {t r : Text} (c : ℕ) → comparable_start c ≡ false → ComparableAt o t r → after_character c t ≡ None
comparable_not_at {t = t} c h o = not_at_start comparable_start c t h (comparable_begins o)

test_stays : {e : Expression} {t r : Text} → TestAt e t r → skip t ≡ t
test_stays (parentheses a e b) = refl
test_stays (existence_test q) = filter_query_stays q
test_stays (match_call m) = refl
test_stays (search_call m) = refl

basic_stays : {e : Expression} {t r : Text} → BasicExpressionAt e t r → skip t ≡ t
basic_stays (a_test e) = test_stays e
basic_stays (negated_test a e) = refl
basic_stays (a_comparison l a o b r) = comparable_stays l

and_stays : {e : Expression} {t r : Text} → LogicalAndAt e t r → skip t ≡ t
and_stays (one_basic_expression e) = basic_stays e
and_stays (conjunction e m) = basic_stays e

or_stays : {e : Expression} {t r : Text} → LogicalOrAt e t r → skip t ≡ t
or_stays (one_conjunction e) = and_stays e
or_stays (disjunction e m) = and_stays e

string_stays : {s : List ℕ} {t r : Text} → StringLiteral s t r → skip t ≡ t
string_stays (double_quoted m) = refl
string_stays (single_quoted m) = refl

bound_stays : {a : Option ℤ} {t u : Text} → SliceBoundAt a t (58 ∷ u) → skip t ≡ t
bound_stays no_bound = refl
bound_stays (bound i b) = int_stays i

selector_stays : {s : Selector} {t r : Text} → SelectorAt s t r → skip t ≡ t
selector_stays a_wildcard = refl
selector_stays (a_singular (a_name s)) = string_stays s
selector_stays (a_singular (an_index i)) = int_stays i
selector_stays (a_slice a b c d) = bound_stays a
selector_stays (a_filter a e) = refl

segment_stays : {d b : Bool} {s : Selectors} {t r : Text} → SegmentAt d s b t r → (skip t ≡ t) × (begins_segment t ≡ true)
segment_stays (child_dotted d) = (refl, refl)
segment_stays (child_bracketed s) = (refl, refl)
segment_stays (descendant_dotted d) = (refl, refl)
segment_stays (descendant_bracketed s) = (refl, refl)

abbrev segment_start : ℕ → Bool
segment_start c = (c == 46) || (c == 91)

starts : (u : Text) → begins_segment u ≡ true → ends_or segment_start u ≡ true
starts [] h = refl
starts (c ∷ u) h = h

excludes_start : (c : ℕ) → is_name_char c ≡ true → (is_blank c ≡ false) × (segment_start c ≡ false)
excludes_start c e = (grind (arith, nat_tests), grind (arith, nat_tests))

-- no name goes on after segments have begun, or at what follows
begins_more : (t u : Text) → Blanks t u → skip u ≡ u → begins_segment u ≡ true → begins is_name_char t ≡ false
begins_more t u b e h = begins_not segment_start is_name_char t excludes_start (record { ends = ap (ends_or segment_start) (skip_to b e) ∙ starts u h })

segments_no_part : {q : Segments} {b : Bool} {t r : Text} → SegmentsAt q b t r → Follow stop3 r → begins is_name_char t ≡ false
segments_no_part {r = r} segments_end f = begins_not stop3 is_name_char r excludes_part f
segments_no_part {t = t} (segments_more {u = u} a s m) f = begins_more t u a (segment_stays s).0 (segment_stays s).1

no_segment : (t : Text) → Follow stop3 t → begins_segment (skip t) ≡ false
no_segment t f = go (skip t) f.ends
  where
    go : (u : Text) → ends_or stop3 u ≡ true → begins_segment u ≡ false
    go [] e = refl
    go (c ∷ u) e = grind (arith, nat_tests)

more_selectors_follow : {ss : Selectors} {t r : Text} → MoreSelectorsAt ss t r → Follow stop0 t
more_selectors_follow (selectors_end b) = record { ends = rw (skip_is b) refl }
more_selectors_follow (selectors_more b b' s m) = record { ends = rw (skip_is b) refl }

at_self : (c : ℕ) (t : Text) → after_character c (c ∷ t) ≡ Some t
at_self c t = let e : eqb c c ≡ true = eq-eqb c c refl in rw e refl

-- ---- parts between doubled separators

parts_follow : (separator : ℕ) (p : ℕ → Bool) {t u : Text} → Blanks t (separator ∷ separator ∷ u) → is_blank separator ≡ false → p separator ≡ true → Follow p t
parts_follow separator p b h e = record { ends = rw (skip_is b, h) e }

module _ (item : Text → Option (Expression × Bool × Text)) (separator n : ℕ) (inside outside : ℕ → Bool) (Item : Expression → Text → Text → Type 0) (More : Expressions → Text → Text → Type 0)
    (solid : is_blank separator ≡ false) (goes_on : inside separator ≡ true) (ends_before : outside separator ≡ false)
    (item_stays : (e : Expression) (t r : Text) → Item e t r → skip t ≡ t)
    (item_le : (e : Expression) (t r : Text) → Item e t r → length r ≤ length t)
    (item_complete : (e : Expression) (t r : Text) → Item e t r → Follow inside r → length t ≤ n → item t ≡ Some (expression_kept e, expression_left_out e, r))
    (weaker : (t : Text) → Follow outside t → Follow inside t) where
  no_more : (k : ℕ) (t : Text) → Follow outside t → read_more_parts item separator (suc k) t ≡ Some (no_expressions, false, t)
  unfolding read_more_parts
  no_more k t f = rw (not_at outside separator (skip t) ends_before f.ends) refl

  found : (t u : Text) → Blanks t (separator ∷ separator ∷ u) → after_doubled separator (skip t) ≡ Some u
  found t u b = rw (skip_is b, solid, at_self separator (separator ∷ u)) (at_self separator u)

  one_part : (k : ℕ) (e : Expression) (es : Expressions) (t u v w r : Text) → Blanks t (separator ∷ separator ∷ u) → Blanks u v → Item e v w → Follow inside w → length t ≤ n
      → read_more_parts item separator k w ≡ Some (expressions_kept es, expressions_left_out es, r) → read_more_parts item separator (suc k) t ≡ Some (expressions_kept (expression e es), expressions_left_out (expression e es), r)
  unfolding read_more_parts
  one_part k e es t u v w r b b' i f le rest =
      let bound : length v ≤ n = omega (arith, blanks_le b, blanks_le b') in
      rw (found t u b, skip_to b' (item_stays e v w i), item_complete e v w i f bound, rest) refl

skip_le : (t : Text) → length (skip t) ≤ length t
skip_le t = blanks_le (skip_blanks t)

first_apart : (c : ℕ) → is_name_first c ≡ true → (eqb c 42 ≡ false) × (eqb c 46 ≡ false) × (eqb c 91 ≡ false)
first_apart c e = (grind (arith, nat_tests), grind (arith, nat_tests), grind (arith, nat_tests))

shorthand_not : {n : List ℕ} {t r : Text} → Shorthand n t r → (after_character 42 t ≡ None) × (after_character 46 t ≡ None) × (after_character 91 t ≡ None)
shorthand_not (shorthand {c = c} h p) = let a = first_apart c h in (rw a.0 refl, rw a.1 refl, rw a.2 refl)

dotted_complete : {ss : Selectors} {b : Bool} {t r : Text} → DottedAt ss b t r → begins is_name_char r ≡ false
    → (read_dotted t ≡ Some (selectors_kept ss, b, selectors_left_out ss, r)) × (after_character 46 t ≡ None) × (after_character 91 t ≡ None)
unfolding read_dotted
dotted_complete dotted_wildcard e = (refl, refl, refl)
dotted_complete (dotted_name s) e = let a = shorthand_not s in (rw (a.0, shorthand_complete s e) refl, a.1, a.2)

blank_no_equals : (c : ℕ) → is_blank c ≡ true → eqb c 61 ≡ false
blank_no_equals c e = grind (arith, nat_tests)

-- the operator is not longer
no_equals : {o : Operand} {w x r : Text} → Blanks w x → ComparableAt o x r → after_character 61 w ≡ None
no_equals no_blank y = comparable_not_at 61 refl y
no_equals (blank {c = c} h b) y = let d = blank_no_equals c h in rw d refl

int_apart : (t : Text) → begins int_start t ≡ true → starts_with_blank t ≡ false
int_apart [] e = refl
int_apart (c ∷ t) e = grind (arith, nat_tests)

-- a name or an index leaves the very rest
singular_selector_complete : {s : Selector} {t r : Text} → SingularSelectorAt s t r → begins is_digit r ≡ false → after_character 58 (skip r) ≡ None
    → (read_plain_selector t ≡ Some (s, r)) × (starts_with_blank t ≡ false) × (after_character 42 t ≡ None) × (after_character 63 t ≡ None) × (is_singular_selector s ≡ true) × (selector_kept s ≡ s) × (selector_left_out s ≡ false)
unfolding read_plain_selector read_index_or_slice
singular_selector_complete (a_name (double_quoted m)) e h = (rw (string_complete (double_quoted m)) refl, refl, refl, refl, refl, refl, refl)
singular_selector_complete (a_name (single_quoted m)) e h = (rw (string_complete (single_quoted m)) refl, refl, refl, refl, refl, refl, refl)
singular_selector_complete {t = t} (an_index i) e h =
    (rw (int_no_string t (int_begins i), int_not_at 58 refl i, int_complete i e, h) refl, int_apart t (int_begins i), int_not_at 42 refl i, int_not_at 63 refl i, refl, refl, refl)

plain_slice_complete : {a b c : Option ℤ} {t u v w r : Text} → SliceBoundAt a t (58 ∷ u) → Blanks u v → SliceBoundAt b v w → SliceStepAt c w r → Follow stop0 r
    → (r' : Text) × (read_plain_selector t ≡ Some (slice_selector a b c, r')) × (skip r' ≡ skip r) × (after_character 42 t ≡ None) × (after_character 63 t ≡ None)
unfolding read_plain_selector read_index_or_slice
plain_slice_complete no_bound b c d f =
    let s = slice_complete None b c d f in
    (s.0, rw s.1 refl, s.2, refl, refl)
plain_slice_complete {t = t} (bound {z = z} {u = x} i after) b c d f =
    let s = slice_complete (Some z) b c d f in
    let next : Follow stop4 x = record { ends = rw (skip_is after) refl } in
    (s.0, rw (int_no_string t (int_begins i), int_not_at 58 refl i, int_complete i (no_digit_after x next), skip_is after, s.1) refl, s.2, int_not_at 42 refl i, int_not_at 63 refl i)

or_nothing : (b : Bool) → b ≡ (b || false)
or_nothing true = refl
or_nothing false = refl

both_true : (a b a' b' : Bool) → (a ≡ true → a' ≡ true) → (b ≡ true → b' ≡ true) → (a && b) ≡ true → (a' && b') ≡ true
both_true true true a' b' f g e = rw (f refl, g refl) refl
both_true true false a' b' f g e = absurd cc
both_true false b a' b' f g e = absurd cc

apart_signs : (t u : Text) → 93 ∷ t ≡ 44 ∷ u → ⊥
apart_signs t u e = let h : true ≡ false = ap (λ (w : Text). begins (λ c. eqb c 93) w) e in absurd cc

none_of_ors : {A : Type 0} {t r : Text} → MoreOrAt no_expressions t r → A
none_of_ors i = elim i [ ]

none_of_ands : {A : Type 0} {t r : Text} → MoreAndAt no_expressions t r → A
none_of_ands i = elim i [ ]

module _ (inner : Text → Option (Expression × Bool × Text)) (read_argument : Text → Option (Operand × Bool × Text)) (n : ℕ)
    (inner_complete : (e : Expression) (t r : Text) → LogicalOrAt e t r → Follow stop0 r → length t < n → inner t ≡ Some (expression_kept e, expression_left_out e, r))
    (argument_complete : (o : Operand) (t r : Text) → ComparableAt o t r → Follow stop3 r → length t < n → read_argument t ≡ Some (operand_kept o, operand_left_out o, r)) where
  selector_complete : {s : Selector} {t r : Text} → SelectorAt s t r → Follow stop0 r → length t ≤ n
      → (r' : Text) × (read_selector inner read_argument t ≡ Some (selector_kept s, selector_left_out s, r')) × (skip r' ≡ skip r)
  unfolding read_selector
  selector_complete {r = r} a_wildcard f le = (r, refl, refl)
  selector_complete {r = r} (a_singular (a_name a)) f le =
      let x = singular_selector_complete (a_name a) (no_digit_after r (stop0-4 r f)) (not_at stop0 58 (skip r) refl f.ends) in
      (r, rw (x.2, x.3, x.0) refl, refl)
  selector_complete {r = r} (a_singular (an_index a)) f le =
      let x = singular_selector_complete (an_index a) (no_digit_after r (stop0-4 r f)) (not_at stop0 58 (skip r) refl f.ends) in
      (r, rw (x.2, x.3, x.0) refl, refl)
  selector_complete (a_slice a b c d) f le =
      let s = plain_slice_complete a b c d f in
      (s.0, rw (s.3, s.4, s.1) refl, s.2)
  selector_complete {r = r} (a_filter {e = e} {u = u} b x) f le =
      let limit : length u < n = omega (arith, blanks_le b) in
      (r, rw (skip_to b (or_stays x), inner_complete e u r x f limit) refl, refl)

  selectors_complete : {ss : Selectors} {t r : Text} (k : ℕ) (t' : Text) → MoreSelectorsAt ss t r → skip t' ≡ skip t → length t ≤ n → length (skip t) < k
      → read_more_selectors inner read_argument k t' ≡ Some (selectors_kept ss, selectors_left_out ss, r)
  unfolding read_more_selectors
  selectors_complete zero t' s e le lt = absurd (omega arith)
  selectors_complete (suc k) t' (selectors_end b) e le lt = rw (e, skip_is b) refl
  selectors_complete (suc k) t' (selectors_more {v = v} {w = w} b b' s m) e le lt =
      let limit : length v ≤ n = omega (arith, blanks_le b, blanks_le b') in
      let x = selector_complete s (more_selectors_follow m) limit in
      let rest = selectors_complete k x.0 m x.2 (omega (arith, blanks_le b, blanks_le b', selector_le s)) (omega (arith, ap length (skip_is b), skip_le w, blanks_le b', selector_le s)) in
      rw (e, skip_is b, skip_to b' (selector_stays s), x.1, rest) refl

  lone_ends : (t : Text) (s : Selector) (u r' : Text) → after_singular t s u ≡ Some r' → u ≡ 93 ∷ r'
  lone_ends t s u r' e = first (starts_with_blank t) (is_singular_selector s) e
    where
      first : (b c : Bool) → cond b None (cond c (after_character 93 u) None) ≡ Some r' → u ≡ 93 ∷ r'
      first true c e = none_some r' e
      first false c e = let g = guarded c (after_character 93 u) r' e in at_is 93 u r' g.1

  last_one : {ss : Selectors} {v r : Text} (r' : Text) → MoreSelectorsAt ss v r → skip v ≡ 93 ∷ r' → (ss ≡ no_selectors) × (r' ≡ r)
  last_one r' (selectors_end {r = r} c) e = (refl, rest_same r' r (sym e ∙ skip_is c))
    where
      rest_same : (r' r : Text) → 93 ∷ r' ≡ 93 ∷ r → r' ≡ r
      rest_same r' r e = cc
  last_one r' (selectors_more {u = u} c c' a m) e = absurd (apart_signs r' u (sym e ∙ skip_is c))

  bracket_end : {ss : Selectors} {v r : Text} (s : Selector) (t u : Text) → MoreSelectorsAt ss v r → skip u ≡ skip v
      → read_more_selectors inner read_argument (suc (length u)) u ≡ Some (selectors_kept ss, selectors_left_out ss, r) → (o : Option Text) → after_singular t (selector_kept s) u ≡ o
      → (b' : Bool) × (on {B = Option (Selectors × Bool × Bool × Text)} o (λ r. Some (selector (selector_kept s) no_selectors, true, selector_left_out s, r))
      (read_more_selectors inner read_argument (suc (length u)) u >>= λ y. Some (selector (selector_kept s) y.0, false, selector_left_out s || y.1, y.2)) ≡ Some (selectors_kept (selector s ss), b', selectors_left_out (selector s ss), r))
  bracket_end s t u m f rest None e = (false, rw rest refl)
  bracket_end {ss = ss} {r = r} s t u m f rest (Some r') e =
      let i = lone_ends t (selector_kept s) u r' e in
      let l = last_one r' m (sym f ∙ ap skip i) in (
        true,
        ap (λ (b : Bool). Some (selector (selector_kept s) no_selectors, true, b, r')) (or_nothing (selector_left_out s))
            ∙ (ap (λ (w : Selectors). Some (selector (selector_kept s) (selectors_kept w), true, selector_left_out s || selectors_left_out w, r')) (sym l.0)
            ∙ ap (λ (x : Text). Some (selectors_kept (selector s ss), true, selectors_left_out (selector s ss), x)) l.1),
      )

  bracket_complete : {ss : Selectors} {b : Bool} {t r : Text} → BracketedAt ss b t r → length t ≤ n
      → (b' : Bool) × (read_bracketed inner read_argument t ≡ Some (selectors_kept ss, b', selectors_left_out ss, r)) × (b ≡ true → b' ≡ true)
  unfolding read_bracketed read_selector
  bracket_complete {t = t} {r = r} (singular_bracket (a_name {s = m} a)) le =
      let x = singular_selector_complete (a_name a) refl refl in
      let e : after_singular t (name_selector m) (93 ∷ r) ≡ Some r = rw x.1 refl in
      (true, rw (string_stays a, x.2, x.3, x.0, e) refl, λ e. refl)
  bracket_complete {t = t} {r = r} (singular_bracket (an_index {z = z} a)) le =
      let x = singular_selector_complete (an_index a) refl refl in
      let e : after_singular t (index_selector z) (93 ∷ r) ≡ Some r = rw x.1 refl in
      (true, rw (int_stays a, x.2, x.3, x.0, e) refl, λ e. refl)
  bracket_complete {t = t} {r = r} (any_bracket {s = s} {ss = ss} {v = v} b a m) le =
      let x = selector_complete a (more_selectors_follow m) (omega (arith, blanks_le b)) in
      let rest = selectors_complete (suc (length x.0)) x.0 m x.2 (omega (arith, blanks_le b, selector_le a)) (omega (arith, ap length x.2, skip_le x.0)) in
      let o = bracket_end s t x.0 m x.2 rest (after_singular t (selector_kept s) x.0) refl in
      (o.0, rw (skip_to b (selector_stays a), x.1) o.1, λ e. absurd cc)

  deep_complete : {b : Bool} {ss : Selectors} {t r : Text} → SegmentAt true ss b (46 ∷ 46 ∷ t) r → begins is_name_char r ≡ false → length t ≤ n
      → (b' : Bool) × (read_after_dots inner read_argument t ≡ Some (selectors_kept ss, b', selectors_left_out ss, r))
  unfolding read_after_dots
  deep_complete (descendant_dotted {b = b} d) e le = let x = dotted_complete d e in (b, rw (x.2, x.0) refl)
  deep_complete (descendant_bracketed s) e le = let x = bracket_complete s (omega arith) in (x.0, rw x.1 refl)

  segment_complete : {d b : Bool} {ss : Selectors} {t r : Text} → SegmentAt d ss b t r → begins is_name_char r ≡ false → length t ≤ n
      → (b' : Bool) × (read_segment inner read_argument t ≡ Some (d, selectors_kept ss, b', selectors_left_out ss, r)) × (b ≡ true → b' ≡ true)
  unfolding read_segment
  segment_complete (child_dotted {b = b} d) e le = let x = dotted_complete d e in (b, rw (x.1, x.0) refl, λ e. e)
  segment_complete (child_bracketed s) e le = let x = bracket_complete s (omega arith) in (x.0, rw x.1 refl, x.2)
  segment_complete (descendant_dotted d) e le = let x = deep_complete (descendant_dotted d) e (omega arith) in (false, rw x.1 refl, λ e. e)
  segment_complete (descendant_bracketed s) e le = let x = deep_complete (descendant_bracketed s) e (omega arith) in (false, rw x.1 refl, λ e. e)

  segments_complete : {q : Segments} {b : Bool} {t r : Text} (k : ℕ) → SegmentsAt q b t r → Follow stop3 r → length t ≤ n → length t < k
      → (b' : Bool) × (read_segments inner read_argument k t ≡ Some (segments_kept q, b', segments_left_out q, r)) × (b ≡ true → b' ≡ true)
  unfolding read_segments
  segments_complete zero s f le lt = absurd (omega arith)
  segments_complete (suc k) (segments_end {t = t}) f le lt = (true, rw (no_segment t f) refl, λ e. e)
  segments_complete {r = r} (suc k) (segments_more {a = a} {b = b} {u = u} {v = v} x s m) f le lt =
      let here = segment_stays s in
      let y = segment_complete s (segments_no_part m f) (omega (arith, blanks_le x)) in
      let z = segments_complete k m f (omega (arith, blanks_le x, segment_le s)) (omega (arith, blanks_le x, segment_le s)) in
      (y.0 && z.0, rw (skip_to x here.0, here.1, y.1, z.1) refl, both_true a b y.0 z.0 y.2 z.2)

  query_complete : {q : Segments} {b : Bool} {t r : Text} → SegmentsAt q b t r → Follow stop3 r → length t ≤ n
      → (b' : Bool) × (read_query inner read_argument t ≡ Some (segments_kept q, b', segments_left_out q, r)) × (b ≡ true → b' ≡ true)
  query_complete {t = t} s f le = segments_complete (suc (length t)) s f le (omega arith)

  filter_query_complete : {root b : Bool} {q : Segments} {t r : Text} → FilterQueryAt root q b t r → Follow stop3 r → length t ≤ n
      → (b' : Bool) × (read_filter_query inner read_argument t ≡ Some (root, segments_kept q, b', segments_left_out q, r)) × (b ≡ true → b' ≡ true)
  unfolding read_filter_query
  filter_query_complete (relative_query s) f le = let x = query_complete s f (omega arith) in (x.0, rw x.1 refl, x.2)
  filter_query_complete (absolute_query s) f le = let x = query_complete s f (omega arith) in (x.0, rw x.1 refl, x.2)

  single_complete : {q : Segments} {t r : Text} → SegmentsAt q true t r → Follow stop3 r → length t ≤ n → read_query inner read_argument t ≡ Some (segments_kept q, true, segments_left_out q, r)
  single_complete s f le = let x = query_complete s f le in rw (x.2 refl) at x.1

  -- ---- calls and operands

  closes : {v r : Text} → Blanks v (41 ∷ r) → Follow stop0 v
  closes b = record { ends = rw (skip_is b) refl }

  to_stop3 : {t : Text} → Follow stop0 t → Follow stop3 t
  to_stop3 {t = t} f = stop2-3 t (stop1-2 t (stop0-1 t f))

  nodes_complete : {root b : Bool} {q : Segments} {t u v r : Text} (make : Bool → Segments → Operand) → Blanks t u → FilterQueryAt root q b u v → Blanks v (41 ∷ r) → length t ≤ n
      → read_nodes_argument inner read_argument make t ≡ Some (make root (segments_kept q), segments_left_out q, r)
  unfolding read_nodes_argument
  nodes_complete make b q b' le =
      let x = filter_query_complete q (to_stop3 (closes b')) (omega (arith, blanks_le b)) in
      rw (skip_to b (filter_query_stays q), x.1, skip_is b') refl

  no_query_complete : {o : Operand} {t r : Text} → ComparableAt o t r → read_identifier t ≡ None → Follow stop3 r → length t ≤ n → read_no_query inner read_argument t ≡ Some (operand_kept o, operand_left_out o, r)
  unfolding read_no_query read_value_argument
  no_query_complete {t = t} (a_literal l) h f le =
      rw (literal_not_at 108 refl l, literal_not_at 99 refl l, literal_not_at 118 refl l, literal_complete l f) refl
  no_query_complete (a_singular_query (relative_query s)) h f le = none_some _ (sym h)
  no_query_complete (a_singular_query (absolute_query s)) h f le = none_some _ (sym h)
  no_query_complete (length_call {o = o} {u = u} {v = v} b x b') h f le =
      rw (skip_to b (comparable_stays x), argument_complete o u v x (to_stop3 (closes b')) (omega (arith, blanks_le b)), skip_is b') refl
  no_query_complete (count_call b q b') h f le = nodes_complete count_of b q b' (omega arith)
  no_query_complete (value_call b q b') h f le = nodes_complete value_of b q b' (omega arith)

  operand_complete : {o : Operand} {t r : Text} → ComparableAt o t r → Follow stop3 r → length t ≤ n → read_comparable inner read_argument t ≡ Some (operand_kept o, operand_left_out o, r)
  unfolding read_comparable
  operand_complete (a_singular_query (relative_query s)) f le = rw (single_complete s f (omega arith)) refl
  operand_complete (a_singular_query (absolute_query s)) f le = rw (single_complete s f (omega arith)) refl
  operand_complete (a_literal l) f le = rw (literal_not_at 64 refl l, literal_not_at 36 refl l, no_query_complete (a_literal l) (rw (literal_not_at 64 refl l, literal_not_at 36 refl l) refl) f le) refl
  operand_complete (length_call b x b') f le = no_query_complete (length_call b x b') refl f le
  operand_complete (count_call b x b') f le = no_query_complete (count_call b x b') refl f le
  operand_complete (value_call b x b') f le = no_query_complete (value_call b x b') refl f le

  two_arguments_complete : {a b : Operand} {t r : Text} → TwoArgumentsAt a b t r → length t < n → read_two_arguments inner read_argument t ≡ Some (logical_or no_expressions, true, r)
  unfolding read_two_arguments
  two_arguments_complete (two_arguments {a = a} {b = b} {u = u} {v = v} {x = x} {y = y} p o p' c o' c') le =
      let f : Follow stop0 v = record { ends = rw (skip_is p') refl } in
      let first = argument_complete a u v o (to_stop3 f) (omega (arith, blanks_le p)) in
      let second = argument_complete b x y o' (to_stop3 (closes c')) (omega (arith, blanks_le p, comparable_le o, blanks_le p', blanks_le c)) in
      rw (skip_to p (comparable_stays o), first, skip_is p', skip_to c (comparable_stays o'), second, skip_is c') refl

  parens_complete : {e : Expression} {t u v r : Text} → Blanks t u → LogicalOrAt e u v → Blanks v (41 ∷ r) → length t < n → read_in_parentheses inner read_argument t ≡ Some (expression_kept e, expression_left_out e, r)
  unfolding read_in_parentheses
  parens_complete {e = e} {u = u} {v = v} b x b' le =
      let limit : length u < n = omega (arith, blanks_le b) in
      rw (skip_to b (or_stays x), inner_complete e u v x (closes b') limit, skip_is b') refl

  test_complete : {e : Expression} {t r : Text} → TestAt e t r → Follow stop2 r → length t ≤ n → read_test inner read_argument t ≡ Some (expression_kept e, expression_left_out e, r)
  unfolding read_test
  test_complete (parentheses b x b') f le = parens_complete b x b' (omega arith)
  test_complete {r = r} (existence_test (relative_query s)) f le = let x = filter_query_complete (relative_query s) (stop2-3 r f) le in rw x.1 refl
  test_complete {r = r} (existence_test (absolute_query s)) f le = let x = filter_query_complete (absolute_query s) (stop2-3 r f) le in rw x.1 refl
  test_complete (match_call m) f le = two_arguments_complete m (omega arith)
  test_complete (search_call m) f le = two_arguments_complete m (omega arith)

  -- the right side of a comparison
  compare_complete : {op : CompareOp} {b : Operand} {v w x r : Text} (a : Operand) → ComparisonOpAt op v w → Blanks w x → ComparableAt b x r → Follow stop2 r → length w ≤ n
      → (read_comparison_op v ≡ Some (op, w)) × (read_comparison inner read_argument (operand_kept a) (operand_left_out a) op w ≡ Some (expression_kept (comparison op a b), expression_left_out (comparison op a b), r))
  unfolding read_comparison
  compare_complete {r = r} a o b' y f le =
      let right = operand_complete y (stop2-3 r f) (omega (arith, blanks_le b')) in
      (comparison_op_complete o (no_equals b' y), rw (skip_to b' (comparable_stays y), right) refl)

  comparison_op_next : {op : CompareOp} {u v w : Text} → Blanks u v → ComparisonOpAt op v w → (skip u ≡ v) × Follow stop3 u
  comparison_op_next {u = u} b o =
      let s = comparison_op_stays o in
      let at_op : skip u ≡ _ = skip_to b s.0 in
      (at_op, record { ends = ap (ends_or stop3) at_op ∙ s.1 })

  begins_no_query : (t : Text) → read_identifier t ≡ None → begins_query t ≡ false
  begins_no_query [] h = refl
  begins_no_query (c ∷ t) h = go (eqb c 64) (eqb c 36) h
    where
      go : (a b : Bool) → on {B = Option (Bool × Text)} (cond a (Some t) None) (λ r. Some (false, r)) (on {B = Option (Bool × Text)} (cond b (Some t) None) (λ r. Some (true, r)) None) ≡ None → (a || b) ≡ false
      go false false h = refl
      go true b h = none_some _ (sym h)
      go false true h = none_some _ (sym h)

  other_compares : {op : CompareOp} {a b : Operand} {t u v w x r : Text} → ComparableAt a t u → read_identifier t ≡ None → Blanks u v → ComparisonOpAt op v w → Blanks w x → ComparableAt b x r → Follow stop2 r → length t ≤ n
      → read_basic inner read_argument t ≡ Some (expression_kept (comparison op a b), expression_left_out (comparison op a b), r)
  unfolding read_basic
  other_compares {a = a} {t = t} l h b o b' y f le =
      let p = comparison_op_next b o in
      let c = compare_complete a o b' y f (omega (arith, comparable_le l, blanks_le b, comparison_op_le o)) in
      rw (comparable_not_at 33 refl l, begins_no_query t h, comparable_not_at 40 refl l, comparable_not_at 109 refl l, comparable_not_at 115 refl l, no_query_complete l h p.1 le, p.0, c.0) c.1

  query_compares : {root : Bool} {q : Segments} {op : CompareOp} {b : Operand} {t u v w x r : Text} → FilterQueryAt root q true t u → Blanks u v → ComparisonOpAt op v w → Blanks w x → ComparableAt b x r → Follow stop2 r → length t ≤ n
      → read_from_query inner read_argument t ≡ Some (expression_kept (comparison op (singular_query root q) b), expression_left_out (comparison op (singular_query root q) b), r)
  unfolding read_from_query
  query_compares {root = root} {q = q} s b o b' y f le =
      let p = comparison_op_next b o in
      let c = compare_complete (singular_query root q) o b' y f (omega (arith, filter_query_le s, blanks_le b, comparison_op_le o)) in
      let z = filter_query_complete s p.1 le in
      rw (z.1, p.0, c.0, z.2 refl) c.1

  query_exists : {root b : Bool} {q : Segments} {t r : Text} → FilterQueryAt root q b t r → Follow stop2 r → length t ≤ n → read_from_query inner read_argument t ≡ Some (existence root (segments_kept q), segments_left_out q, r)
  unfolding read_from_query
  query_exists {r = r} s f le = let z = filter_query_complete s (stop2-3 r f) le in rw (z.1, no_op r f) refl

  basic_complete : {e : Expression} {t r : Text} → BasicExpressionAt e t r → Follow stop2 r → length t ≤ n → read_basic inner read_argument t ≡ Some (expression_kept e, expression_left_out e, r)
  unfolding read_basic
  basic_complete (a_test (parentheses b x b')) f le = parens_complete b x b' (omega arith)
  basic_complete (a_test (existence_test (relative_query s))) f le = query_exists (relative_query s) f le
  basic_complete (a_test (existence_test (absolute_query s))) f le = query_exists (absolute_query s) f le
  basic_complete (a_test (match_call m)) f le = two_arguments_complete m (omega arith)
  basic_complete (a_test (search_call m)) f le = two_arguments_complete m (omega arith)
  basic_complete (negated_test b x) f le = rw (skip_to b (test_stays x), test_complete x f (omega (arith, blanks_le b))) refl
  basic_complete (a_comparison (a_singular_query (relative_query s)) b o b' y) f le = query_compares (relative_query s) b o b' y f le
  basic_complete (a_comparison (a_singular_query (absolute_query s)) b o b' y) f le = query_compares (absolute_query s) b o b' y f le
  basic_complete (a_comparison (a_literal l) b o b' y) f le = other_compares (a_literal l) (rw (literal_not_at 64 refl l, literal_not_at 36 refl l) refl) b o b' y f le
  basic_complete (a_comparison (length_call p z p') b o b' y) f le = other_compares (length_call p z p') refl b o b' y f le
  basic_complete (a_comparison (count_call p z p') b o b' y) f le = other_compares (count_call p z p') refl b o b' y f le
  basic_complete (a_comparison (value_call p z p') b o b' y) f le = other_compares (value_call p z p') refl b o b' y f le

  and_follow : {es : Expressions} {t r : Text} → MoreAndAt es t r → Follow stop2 t
  and_follow (last_conjunct b b' x) = parts_follow 38 stop2 b refl refl
  and_follow (more_conjuncts b b' x m) = parts_follow 38 stop2 b refl refl

  ands_complete : {es : Expressions} {t r : Text} (k : ℕ) → MoreAndAt es t r → Follow stop1 r → length t ≤ n → length t < k → read_more_parts (read_basic inner read_argument) 38 k t ≡ Some (expressions_kept es, expressions_left_out es, r)
  ands_complete zero m f le lt = absurd (omega arith)
  ands_complete (suc zero) (last_conjunct b b' x) f le lt = absurd (omega (arith, ap length (skip_is b), blanks_le b))
  ands_complete (suc (suc k)) (last_conjunct {e = e} {t = t} {u = u} {v = v} {r = r} b b' x) f le lt =
      one_part (read_basic inner read_argument) 38 n stop2 stop1 BasicExpressionAt MoreAndAt refl refl refl (λ e t r. basic_stays) (λ e t r. basic_le) (λ e t r. basic_complete) stop1-2 (suc k) e no_expressions t u v r r b b' x (stop1-2 r f) le
      (no_more (read_basic inner read_argument) 38 n stop2 stop1 BasicExpressionAt MoreAndAt refl refl refl (λ e t r. basic_stays) (λ e t r. basic_le) (λ e t r. basic_complete) stop1-2 k r f)
  ands_complete (suc k) (more_conjuncts {e = e} {es = es} {t = t} {u = u} {v = v} {w = w} {r = r} b b' x m) f le lt =
      one_part (read_basic inner read_argument) 38 n stop2 stop1 BasicExpressionAt MoreAndAt refl refl refl (λ e t r. basic_stays) (λ e t r. basic_le) (λ e t r. basic_complete) stop1-2 k e es t u v w r b b' x (and_follow m) le
      (ands_complete k m f (omega (arith, blanks_le b, blanks_le b', basic_le x)) (omega (arith, blanks_le b, blanks_le b', basic_le x)))

  and_complete : {e : Expression} {t r : Text} → LogicalAndAt e t r → Follow stop1 r → length t ≤ n → read_logical_and inner read_argument t ≡ Some (expression_kept e, expression_left_out e, r)
  unfolding read_logical_and read_parts
  and_complete {e = e} {r = r} (one_basic_expression x) f le =
      let rest = no_more (read_basic inner read_argument) 38 n stop2 stop1 BasicExpressionAt MoreAndAt refl refl refl (λ e t r. basic_stays) (λ e t r. basic_le) (λ e t r. basic_complete) stop1-2 (length r) r f in
      rw (basic_complete x (stop1-2 r f) le, rest) (ap (λ (b : Bool). Some (expression_kept e, b, r)) (sym (or_nothing (expression_left_out e))))
  and_complete (conjunction {es = expression e es} {u = u} x m) f le = rw (basic_complete x (and_follow m) le, ands_complete (suc (length u)) m f (omega (arith, basic_le x)) (omega arith)) refl
  and_complete (conjunction {es = no_expressions} x m) f le = none_of_ands m

  or_follow : {es : Expressions} {t r : Text} → MoreOrAt es t r → Follow stop1 t
  or_follow (last_disjunct b b' x) = parts_follow 124 stop1 b refl refl
  or_follow (more_disjuncts b b' x m) = parts_follow 124 stop1 b refl refl

  ors_complete : {es : Expressions} {t r : Text} (k : ℕ) → MoreOrAt es t r → Follow stop0 r → length t ≤ n → length t < k → read_more_parts (read_logical_and inner read_argument) 124 k t ≡ Some (expressions_kept es, expressions_left_out es, r)
  ors_complete zero m f le lt = absurd (omega arith)
  ors_complete (suc zero) (last_disjunct b b' x) f le lt = absurd (omega (arith, ap length (skip_is b), blanks_le b))
  ors_complete (suc (suc k)) (last_disjunct {e = e} {t = t} {u = u} {v = v} {r = r} b b' x) f le lt =
      one_part (read_logical_and inner read_argument) 124 n stop1 stop0 LogicalAndAt MoreOrAt refl refl refl (λ e t r. and_stays) (λ e t r. and_le) (λ e t r. and_complete) stop0-1 (suc k) e no_expressions t u v r r b b' x (stop0-1 r f) le
      (no_more (read_logical_and inner read_argument) 124 n stop1 stop0 LogicalAndAt MoreOrAt refl refl refl (λ e t r. and_stays) (λ e t r. and_le) (λ e t r. and_complete) stop0-1 k r f)
  ors_complete (suc k) (more_disjuncts {e = e} {es = es} {t = t} {u = u} {v = v} {w = w} {r = r} b b' x m) f le lt =
      one_part (read_logical_and inner read_argument) 124 n stop1 stop0 LogicalAndAt MoreOrAt refl refl refl (λ e t r. and_stays) (λ e t r. and_le) (λ e t r. and_complete) stop0-1 k e es t u v w r b b' x (or_follow m) le
      (ors_complete k m f (omega (arith, blanks_le b, blanks_le b', and_le x)) (omega (arith, blanks_le b, blanks_le b', and_le x)))

  or_complete : {e : Expression} {t r : Text} → LogicalOrAt e t r → Follow stop0 r → length t ≤ n → read_logical_or inner read_argument t ≡ Some (expression_kept e, expression_left_out e, r)
  unfolding read_logical_or read_parts
  or_complete {e = e} {r = r} (one_conjunction x) f le =
      let rest = no_more (read_logical_and inner read_argument) 124 n stop1 stop0 LogicalAndAt MoreOrAt refl refl refl (λ e t r. and_stays) (λ e t r. and_le) (λ e t r. and_complete) stop0-1 (length r) r f in
      rw (and_complete x (stop0-1 r f) le, rest) (ap (λ (b : Bool). Some (expression_kept e, b, r)) (sym (or_nothing (expression_left_out e))))
  or_complete (disjunction {es = expression e es} {u = u} x m) f le = rw (and_complete x (or_follow m) le, ors_complete (suc (length u)) m f (omega (arith, and_le x)) (omega arith)) refl
  or_complete (disjunction {es = no_expressions} x m) f le = none_of_ors m

mutual
  unfolding read_expression read_argument

  pub expression_complete : {e : Expression} {t r : Text} (n : ℕ) → LogicalOrAt e t r → Follow stop0 r → length t < n → read_expression n t ≡ Some (expression_kept e, expression_left_out e, r)
  expression_complete zero x f lt = absurd (omega arith)
  expression_complete (suc n) x f lt = or_complete (read_expression n) (read_argument n) n (λ e t r y g l. expression_complete n y g l) (λ o t r y g l. argument_complete n y g l) x f (omega arith)

  pub argument_complete : {o : Operand} {t r : Text} (n : ℕ) → ComparableAt o t r → Follow stop3 r → length t < n → read_argument n t ≡ Some (operand_kept o, operand_left_out o, r)
  argument_complete zero x f lt = absurd (omega arith)
  argument_complete (suc n) x f lt = operand_complete (read_expression n) (read_argument n) n (λ e t r y g l. expression_complete n y g l) (λ o t r y g l. argument_complete n y g l) x f (omega arith)

pub query_complete_whole : (w : Segments) (t : Text) → Spells w t → read_whole t ≡ Some (segments_kept w, segments_left_out w)
unfolding read_whole
query_complete_whole w t s =
    let e : t ≡ 36 ∷ s.1 = s.2 in
    let x = query_complete (read_expression (length t)) (read_argument (length t)) (length t) (λ e t r y g l. expression_complete _ y g l) (λ o t r y g l. argument_complete _ y g l) s.3 (record { ends = refl }) (omega (arith, ap length e)) in
    rw (ap (after_character 36) e, x.1) refl
