-- What is read of words, strings, numbers and slices is spelled so.
use Rattle.std.proofs.Common.{◌≡◌, ℕ, zero, suc, ◌+◌, ◌*◌, ◌-◌, Bool, true, false, cond, List, [], ◌∷◌, length, Option, Some, None, ◌⊎◌, inl, inr, refl, sym, ap, subst, ◌∙◌, ⊎_elim, ℤ, pos, neg_ℤ, encode_utf8_all}
use Rattle.std.specs.Prelude.{codes}
use Rattle.path_grammar.specs.declared.compare_op.CompareOp.{CompareOp}
use Rattle.path_grammar.specs.declared.compare_op.CompareOp.TheVariants.{Equal, NotEqual, Less, LessEqual, Greater, GreaterEqual}
use Rattle.path_grammar.specs.Syntax.{Literal, json, Selector, index_selector, slice_selector}
use Rattle.doc_tree.specs.Doc.{null, boolean, text}
use Rattle.path_grammar.specs.Profile.{literal_left_out, selector_left_out}
use Rattle.path_grammar.specs.Kept.{literal_kept, selector_kept}
use Rattle.path_grammar.specs.Characters.{Text, is_digit, is_nonzero_digit, is_name_first, is_name_char, Blanks, Run, run_end, run_on, Shorthand, shorthand}
use Rattle.path_grammar.specs.Strings.{is_hex_digit, hex_value, is_high_surrogate, is_low_surrogate, surrogate_pair, is_unescaped, escapable, HexDigit, hex_digit, FourHexDigits, four_hex_digits, Escaped, short_escape, hex_escape, pair_escape, Quoted, closed, unescaped, escaped, StringLiteral, double_quoted, single_quoted}
use Rattle.path_grammar.specs.Numbers.{Digits, no_digit, digit, Positive, positive, is_exact, Int, zero_int, positive_int, negative_int, Magnitude, zero_magnitude, positive_magnitude, Signed, unsigned, minus, Fraction, no_fraction, fraction, Natural, natural, is_e, Exponent, no_exponent, bare_exponent, plus_exponent, minus_exponent, number_of, Number, number}
use Rattle.path_grammar.specs.Grammar.{an_index, SliceBoundAt, no_bound, bound, SliceStepAt, no_step, empty_step, step, LiteralAt, a_number, a_string, a_true, a_false, a_null, ComparisonOpAt, equal, not_equal, less_equal, greater_equal, less, greater, SelectorAt, a_singular, a_slice}
use Rattle.path_grammar.specs.Reading.{◌>>=◌, on, after_character, after_word, skip, read_run, read_shorthand, read_hex_digit, read_four_hex_digits, read_low_surrogate, read_hex_escape, read_short_escape, read_escaped, read_unescaped, read_character, read_characters, read_quoted, read_string, begins_string, read_digits, read_positive, read_int, read_magnitude, read_signed, read_fraction_digits, read_fraction, read_natural, read_exponent, read_number, read_literal, begins_int, read_slice_bound, read_slice_step, read_slice_from, read_index_or_slice, read_with_equals, read_comparison_op, read_identifier}
use Rattle.path_grammar.proofs.Tools.{bind_some, on_cases, chosen, guarded, some_is, none_some, at_is, skip_blanks, word_is}

-- a text that is another one
pub along : (P : Text → Type 0) (t u : Text) → t ≡ u → P u → P t
along P t u e p = subst P (sym e) p

run_step : (p : ℕ → Bool) (c : ℕ) (t : Text) (b : Bool) → p c ≡ b → Run p (read_run p t).0 t (read_run p t).1
    → Run p (cond {A = List ℕ × Text} b (c ∷ (read_run p t).0, (read_run p t).1) ([], c ∷ t)).0 (c ∷ t) (cond {A = List ℕ × Text} b (c ∷ (read_run p t).0, (read_run p t).1) ([], c ∷ t)).1
run_step p c t true e more = run_on e more
run_step p c t false e more = run_end

pub run_sound : (p : ℕ → Bool) (t : Text) → Run p (read_run p t).0 t (read_run p t).1
run_sound p [] = run_end
run_sound p (c ∷ t) = run_step p c t (p c) refl (run_sound p t)

pub shorthand_sound : (t : Text) (x : List ℕ × Text) → read_shorthand t ≡ Some x → Shorthand x.0 t x.1
shorthand_sound [] x e = absurd cc
shorthand_sound (c ∷ t) x e =
    let g = guarded (is_name_first c) (Some (encode_utf8_all (c ∷ (read_run is_name_char t).0), (read_run is_name_char t).1)) x e in
    subst (λ y. Shorthand y.0 (c ∷ t) y.1) (some_is _ x g.1) (shorthand g.0 (run_sound is_name_char t))

digits_step : (n c : ℕ) (t : Text) (b : Bool) → is_digit c ≡ b → Digits (n * 10 + (c - 48)) (read_digits (n * 10 + (c - 48)) t).0 t (read_digits (n * 10 + (c - 48)) t).1
    → Digits n (cond b (read_digits (n * 10 + (c - 48)) t) (n, c ∷ t)).0 (c ∷ t) (cond b (read_digits (n * 10 + (c - 48)) t) (n, c ∷ t)).1
digits_step n c t true e more = digit e more
digits_step n c t false e more = no_digit

pub digits_sound : (n : ℕ) (t : Text) → Digits n (read_digits n t).0 t (read_digits n t).1
digits_sound n [] = no_digit
digits_sound n (c ∷ t) = digits_step n c t (is_digit c) refl (digits_sound (n * 10 + (c - 48)) t)

pub positive_sound : (t : Text) (x : ℕ × Text) → read_positive t ≡ Some x → Positive x.0 t x.1
positive_sound [] x e = absurd cc
positive_sound (c ∷ t) x e =
    let g = guarded (is_nonzero_digit c) (Some (read_digits (c - 48) t)) x e in
    subst (λ y. Positive y.0 (c ∷ t) y.1) (some_is _ x g.1) (positive g.0 (digits_sound (c - 48) t))

pub int_sound : (t : Text) (x : ℤ × Text) → read_int t ≡ Some x → Int x.0 t x.1
unfolding read_int
int_sound t x e =
    ⊎_elim
    (λ z. along (λ u. Int x.0 u x.1) t _ (at_is 48 t z.0 z.1) (subst (λ y. Int y.0 (48 ∷ z.0) y.1) (some_is (pos 0, z.0) x z.2) zero_int))
    (λ y. ⊎_elim
    (λ z.
    let b = bind_some (read_positive z.0) (λ x. cond (is_exact x.0) (Some (neg_ℤ (pos x.0), x.1)) None) x z.2 in
    let g = guarded (is_exact b.0.0) (Some (neg_ℤ (pos b.0.0), b.0.1)) x b.2 in
    along (λ u. Int x.0 u x.1) t _ (at_is 45 t z.0 z.1) (subst (λ y. Int y.0 (45 ∷ z.0) y.1) (some_is _ x g.1) (negative_int g.0 (positive_sound z.0 b.0 b.1))))
    (λ z.
    let b = bind_some (read_positive t) (λ x. cond (is_exact x.0) (Some (pos x.0, x.1)) None) x z.1 in
    let g = guarded (is_exact b.0.0) (Some (pos b.0.0, b.0.1)) x b.2 in
    subst (λ y. Int y.0 t y.1) (some_is _ x g.1) (positive_int g.0 (positive_sound t b.0 b.1)))
    (on_cases (after_character 45 t) _ _ (Some x) y.1))
    (on_cases (after_character 48 t) _ _ (Some x) e)

pub bound_sound : (t : Text) (x : Option ℤ × Text) → read_slice_bound t ≡ Some x → SliceBoundAt x.0 t x.1
unfolding read_slice_bound
bound_sound t x e =
    ⊎_elim
    (λ y.
    let b = bind_some (read_int t) (λ x. Some (Some x.0, skip x.1)) x y.1 in
    subst (λ z. SliceBoundAt z.0 t z.1) (some_is (Some b.0.0, skip b.0.1) x b.2) (bound (int_sound t b.0 b.1) (skip_blanks b.0.1)))
    (λ y. subst (λ z. SliceBoundAt z.0 t z.1) (some_is (None, t) x y.1) no_bound)
    (chosen (begins_int t) _ _ (Some x) e)

-- a step after blanks that were skipped
pub step_sound : (t : Text) (x : Option ℤ × Text) → read_slice_step t ≡ Some x → SliceStepAt x.0 t x.1
unfolding read_slice_step
step_sound t x e =
    ⊎_elim
    (λ y. along (λ u. SliceStepAt x.0 u x.1) t _ (at_is 58 t y.0 y.1) (⊎_elim
    (λ z.
    let b = bind_some (read_int (skip y.0)) (λ x. Some (Some x.0, x.1)) x z.1 in
    subst (λ w. SliceStepAt w.0 (58 ∷ y.0) w.1) (some_is (Some b.0.0, b.0.1) x b.2) (step (skip_blanks y.0) (int_sound (skip y.0) b.0 b.1)))
    (λ z. subst (λ w. SliceStepAt w.0 (58 ∷ y.0) w.1) (some_is (None, y.0) x z.1) empty_step)
    (chosen (begins_int (skip y.0)) _ _ (Some x) y.2)))
    (λ y. subst (λ w. SliceStepAt w.0 t w.1) (some_is (None, t) x y.1) no_step)
    (on_cases (after_character 58 t) _ _ (Some x) e)

pub slice_sound : (a : Option ℤ) (t u : Text) (x : Selector × Text) → SliceBoundAt a t (58 ∷ u) → read_slice_from a u ≡ Some x → SelectorAt x.0 t x.1
unfolding read_slice_from
slice_sound a t u x start e =
    let b = bind_some (read_slice_bound (skip u)) (λ b. read_slice_step b.1 >>= λ c. Some (slice_selector a b.0 c.0, c.1)) x e in
    let c = bind_some (read_slice_step b.0.1) (λ c. Some (slice_selector a b.0.0 c.0, c.1)) x b.2 in
    subst (λ w. SelectorAt w.0 t w.1) (some_is (slice_selector a b.0.0 c.0.0, c.0.1) x c.2)
    (a_slice start (skip_blanks u) (bound_sound (skip u) b.0 b.1) (step_sound b.0.1 c.0 c.1))

pub number_sound : (t : Text) (x : Selector × Text) → read_index_or_slice t ≡ Some x → SelectorAt x.0 t x.1
unfolding read_index_or_slice
number_sound t x e =
    ⊎_elim
    (λ y. slice_sound None t y.0 x (along (λ u. SliceBoundAt None u (58 ∷ y.0)) t _ (at_is 58 t y.0 y.1) no_bound) y.2)
    (λ y.
    let b = bind_some (read_int t) (λ x. on (after_character 58 (skip x.1)) (read_slice_from (Some x.0)) (Some (index_selector x.0, x.1))) x y.1 in
    let small = int_sound t b.0 b.1 in
    ⊎_elim
    (λ z. slice_sound (Some b.0.0) t z.0 x (bound small (subst (Blanks b.0.1) (at_is 58 (skip b.0.1) z.0 z.1) (skip_blanks b.0.1))) z.2)
    (λ z. subst (λ w. SelectorAt w.0 t w.1) (some_is (index_selector b.0.0, b.0.1) x z.1) (a_singular (an_index small)))
    (on_cases (after_character 58 (skip b.0.1)) _ _ (Some x) b.2))
    (on_cases (after_character 58 t) _ _ (Some x) e)

equals_sound : (both alone : CompareOp) (c : ℕ) (r : Text) (x : CompareOp × Text) → ((w : Text) → ComparisonOpAt both (c ∷ 61 ∷ w) w) → ((w : Text) → ComparisonOpAt alone (c ∷ w) w)
    → read_with_equals both alone r ≡ Some x → ComparisonOpAt x.0 (c ∷ r) x.1
equals_sound both alone c r x p q e =
    ⊎_elim
    (λ z. along (λ u. ComparisonOpAt x.0 (c ∷ u) x.1) r _ (at_is 61 r z.0 z.1) (subst (λ w. ComparisonOpAt w.0 (c ∷ 61 ∷ z.0) w.1) (some_is (both, z.0) x z.2) (p z.0)))
    (λ z. subst (λ w. ComparisonOpAt w.0 (c ∷ r) w.1) (some_is (alone, r) x z.1) (q r))
    (on_cases (after_character 61 r) _ _ (Some x) e)

both_sound : (o : CompareOp) (c : ℕ) (r : Text) (x : CompareOp × Text) → ((w : Text) → ComparisonOpAt o (c ∷ 61 ∷ w) w)
    → (after_character 61 r >>= λ w. Some (o, w)) ≡ Some x → ComparisonOpAt x.0 (c ∷ r) x.1
both_sound o c r x p e =
    let b = bind_some (after_character 61 r) (λ w. Some (o, w)) x e in
    along (λ u. ComparisonOpAt x.0 (c ∷ u) x.1) r _ (at_is 61 r b.0 b.1) (subst (λ w. ComparisonOpAt w.0 (c ∷ 61 ∷ b.0) w.1) (some_is (o, b.0) x b.2) (p b.0))

pub comparison_op_sound : (t : Text) (x : CompareOp × Text) → read_comparison_op t ≡ Some x → ComparisonOpAt x.0 t x.1
unfolding read_comparison_op
comparison_op_sound t x e =
    let P : Text → Type 0 = λ u. ComparisonOpAt x.0 u x.1 in
    ⊎_elim
    (λ z. along P t _ (at_is 61 t z.0 z.1) (both_sound Equal 61 z.0 x (λ w. equal) z.2))
    (λ y. ⊎_elim
    (λ z. along P t _ (at_is 33 t z.0 z.1) (both_sound NotEqual 33 z.0 x (λ w. not_equal) z.2))
    (λ y. ⊎_elim
    (λ z. along P t _ (at_is 60 t z.0 z.1) (equals_sound LessEqual Less 60 z.0 x (λ w. less_equal) (λ w. less) z.2))
    (λ y. ⊎_elim
    (λ z. along P t _ (at_is 62 t z.0 z.1) (equals_sound GreaterEqual Greater 62 z.0 x (λ w. greater_equal) (λ w. greater) z.2))
    (λ y. none_some x y.1)
    (on_cases (after_character 62 t) _ _ (Some x) y.1))
    (on_cases (after_character 60 t) _ _ (Some x) y.1))
    (on_cases (after_character 33 t) _ _ (Some x) y.1))
    (on_cases (after_character 61 t) _ _ (Some x) e)

pub root_sound : (t : Text) (x : Bool × Text) → read_identifier t ≡ Some x → ((x.0 ≡ false) × (t ≡ 64 ∷ x.1)) ⊎ ((x.0 ≡ true) × (t ≡ 36 ∷ x.1))
root_sound t x e =
    ⊎_elim
    (λ y. let s = at_is 64 t y.0 y.1 in let i = some_is (false, y.0) x y.2 in inl (sym (ap (λ p. p.0) i), s ∙ ap (λ p. 64 ∷ p.1) i))
    (λ y. ⊎_elim
    (λ z. let s = at_is 36 t z.0 z.1 in let i = some_is (true, z.0) x z.2 in inr (sym (ap (λ p. p.0) i), s ∙ ap (λ p. 36 ∷ p.1) i))
    (λ z. none_some x z.1)
    (on_cases (after_character 36 t) _ _ (Some x) y.1))
    (on_cases (after_character 64 t) _ _ (Some x) e)

-- ---- strings

hex_digit_sound : (n : ℕ) (t : Text) (x : ℕ × Text) → read_hex_digit n t ≡ Some x → HexDigit n x.0 t x.1
hex_digit_sound n [] x e = none_some x e
hex_digit_sound n (c ∷ t) x e =
    let g = guarded (is_hex_digit c) (Some (n * 16 + hex_value c, t)) x e in
    subst (λ (y : ℕ × Text). HexDigit n y.0 (c ∷ t) y.1) (some_is (n * 16 + hex_value c, t) x g.1) (hex_digit g.0)

four_hex_digits_sound : (t : Text) (x : ℕ × Text) → read_four_hex_digits t ≡ Some x → FourHexDigits x.0 t x.1
unfolding read_four_hex_digits
four_hex_digits_sound t x e =
    let a = bind_some (read_hex_digit 0 t) (λ a. read_hex_digit a.0 a.1 >>= λ b. read_hex_digit b.0 b.1 >>= λ c. read_hex_digit c.0 c.1) x e in
    let b = bind_some (read_hex_digit a.0.0 a.0.1) (λ b. read_hex_digit b.0 b.1 >>= λ c. read_hex_digit c.0 c.1) x a.2 in
    let c = bind_some (read_hex_digit b.0.0 b.0.1) (λ c. read_hex_digit c.0 c.1) x b.2 in
    four_hex_digits (hex_digit_sound 0 t a.0 a.1) (hex_digit_sound a.0.0 a.0.1 b.0 b.1) (hex_digit_sound b.0.0 b.0.1 c.0 c.1) (hex_digit_sound c.0.0 c.0.1 x c.2)

low_sound : (q h : ℕ) (t u : Text) (x : ℕ × Text) → FourHexDigits h t u → is_high_surrogate h ≡ true → read_low_surrogate h u ≡ Some x → Escaped q x.0 (117 ∷ t) x.1
unfolding read_low_surrogate
low_sound q h t u x f high e =
    let a = bind_some (after_character 92 u) (λ u. after_character 117 u >>= λ v. read_four_hex_digits v >>= λ l. cond (is_low_surrogate l.0) (Some (surrogate_pair h l.0, l.1)) None) x e in
    let b = bind_some (after_character 117 a.0) (λ v. read_four_hex_digits v >>= λ l. cond (is_low_surrogate l.0) (Some (surrogate_pair h l.0, l.1)) None) x a.2 in
    let c = bind_some (read_four_hex_digits b.0) (λ l. cond (is_low_surrogate l.0) (Some (surrogate_pair h l.0, l.1)) None) x b.2 in
    let g = guarded (is_low_surrogate c.0.0) (Some (surrogate_pair h c.0.0, c.0.1)) x c.2 in
    let is : u ≡ 92 ∷ 117 ∷ b.0 = at_is 92 u a.0 a.1 ∙ ap (λ w. 92 ∷ w) (at_is 117 a.0 b.0 b.1) in
    subst (λ (y : ℕ × Text). Escaped q y.0 (117 ∷ t) y.1) (some_is (surrogate_pair h c.0.0, c.0.1) x g.1)
    (pair_escape (subst (FourHexDigits h t) is f) high (four_hex_digits_sound b.0 c.0 c.1) g.0)

code_sound : (q : ℕ) (t : Text) (x : ℕ × Text) → read_hex_escape t ≡ Some x → Escaped q x.0 (117 ∷ t) x.1
unfolding read_hex_escape
code_sound q t x e =
    let a = bind_some (read_four_hex_digits t) (λ n. cond (is_high_surrogate n.0) (read_low_surrogate n.0 n.1) (cond (is_low_surrogate n.0) None (Some (n.0, n.1)))) x e in
    let f = four_hex_digits_sound t a.0 a.1 in
    ⊎_elim
    (λ y. low_sound q a.0.0 t a.0.1 x f y.0 y.1)
    (λ y. ⊎_elim
    (λ z. none_some x z.1)
    (λ z. subst (λ (w : ℕ × Text). Escaped q w.0 (117 ∷ t) w.1) (some_is (a.0.0, a.0.1) x z.1) (hex_escape f y.0 z.0))
    (chosen (is_low_surrogate a.0.0) None (Some (a.0.0, a.0.1)) (Some x) y.1))
    (chosen (is_high_surrogate a.0.0) (read_low_surrogate a.0.0 a.0.1) _ (Some x) a.2)

escape_sound : (q : ℕ) (t : Text) (x : ℕ × Text) → read_escaped q t ≡ Some x → Escaped q x.0 t x.1
unfolding read_escaped
escape_sound q t x e =
    ⊎_elim
    (λ y. along (λ u. Escaped q x.0 u x.1) t _ (at_is 117 t y.0 y.1) (code_sound q y.0 x y.2))
    (λ y. go t y.1)
    (on_cases (after_character 117 t) read_hex_escape _ (Some x) e)
  where
    go : (t : Text) → read_short_escape q t ≡ Some x → Escaped q x.0 t x.1
    go [] e = none_some x e
    go (d ∷ t) e =
        ⊎_elim
        (λ y. subst (λ (w : ℕ × Text). Escaped q w.0 (d ∷ t) w.1) (some_is (y.0, t) x y.2) (short_escape y.1))
        (λ y. none_some x y.1)
        (on_cases (escapable q d) (λ c. Some (c, t)) None (Some x) e)

chars_sound : (q k : ℕ) (t : Text) (x : List ℕ × Text) → read_characters q k t ≡ Some x → Quoted q x.0 t x.1
unfolding read_characters read_character
chars_sound q zero t x e = none_some x e
chars_sound q (suc k) t x e =
    ⊎_elim
    (λ y. along (λ u. Quoted q x.0 u x.1) t _ (at_is q t y.0 y.1) (subst (λ (w : List ℕ × Text). Quoted q w.0 (q ∷ y.0) w.1) (some_is ([], y.0) x y.2) closed))
    (λ y.
    let a = bind_some (read_character q t) (λ x. read_characters q k x.1 >>= λ y. Some (x.0 ∷ y.0, y.1)) x y.1 in
    let b = bind_some (read_characters q k a.0.1) (λ y. Some (a.0.0 ∷ y.0, y.1)) x a.2 in
    subst (λ (w : List ℕ × Text). Quoted q w.0 t w.1) (some_is (a.0.0 ∷ b.0.0, b.0.1) x b.2)
    (one a.0 b.0.0 b.0.1 a.1 (chars_sound q k a.0.1 b.0 b.1)))
    (on_cases (after_character q t) _ _ (Some x) e)
  where
    a_test : (t : Text) (y : ℕ × Text) (cs : List ℕ) (r : Text) → read_unescaped q t ≡ Some y → Quoted q cs y.1 r → Quoted q (y.0 ∷ cs) t r
    a_test [] y cs r e m = none_some y e
    a_test (c ∷ t) y cs r e m =
        let g = guarded (is_unescaped q c) (Some (c, t)) y e in
        let is = some_is (c, t) y g.1 in
        subst (λ (w : ℕ × Text). Quoted q (w.0 ∷ cs) (c ∷ t) r) is (unescaped g.0 (subst (λ (w : ℕ × Text). Quoted q cs w.1 r) (sym is) m))

    one : (y : ℕ × Text) (cs : List ℕ) (r : Text) → on (after_character 92 t) (read_escaped q) (read_unescaped q t) ≡ Some y → Quoted q cs y.1 r → Quoted q (y.0 ∷ cs) t r
    one y cs r e m =
        ⊎_elim
        (λ z. along (λ u. Quoted q (y.0 ∷ cs) u r) t _ (at_is 92 t z.0 z.1) (escaped (escape_sound q z.0 y z.2) m))
        (λ z. a_test t y cs r z.1 m)
        (on_cases (after_character 92 t) _ _ (Some y) e)

pub string_sound : (t : Text) (x : List ℕ × Text) → read_string t ≡ Some x → StringLiteral x.0 t x.1
unfolding read_string read_quoted
string_sound t x e =
    ⊎_elim
    (λ y.
    let a = bind_some (read_characters 34 (suc (length y.0)) y.0) (λ x. Some (encode_utf8_all x.0, x.1)) x y.2 in
    along (λ u. StringLiteral x.0 u x.1) t _ (at_is 34 t y.0 y.1) (subst (λ (w : List ℕ × Text). StringLiteral w.0 (34 ∷ y.0) w.1) (some_is (encode_utf8_all a.0.0, a.0.1) x a.2) (double_quoted (chars_sound 34 _ y.0 a.0 a.1))))
    (λ y.
    let b = bind_some (after_character 39 t) (read_quoted 39) x y.1 in
    let a = bind_some (read_characters 39 (suc (length b.0)) b.0) (λ x. Some (encode_utf8_all x.0, x.1)) x b.2 in
    along (λ u. StringLiteral x.0 u x.1) t _ (at_is 39 t b.0 b.1) (subst (λ (w : List ℕ × Text). StringLiteral w.0 (39 ∷ b.0) w.1) (some_is (encode_utf8_all a.0.0, a.0.1) x a.2) (single_quoted (chars_sound 39 _ b.0 a.0 a.1))))
    (on_cases (after_character 34 t) (read_quoted 34) _ (Some x) e)

-- ---- number literals

magnitude_sound : (t : Text) (x : ℕ × Text) → read_magnitude t ≡ Some x → Magnitude x.0 t x.1
unfolding read_magnitude
magnitude_sound t x e =
    ⊎_elim
    (λ y. along (λ u. Magnitude x.0 u x.1) t _ (at_is 48 t y.0 y.1) (subst (λ (w : ℕ × Text). Magnitude w.0 (48 ∷ y.0) w.1) (some_is (0, y.0) x y.2) zero_magnitude))
    (λ y. positive_magnitude (positive_sound t x y.1))
    (on_cases (after_character 48 t) _ _ (Some x) e)

signed_sound : (t : Text) (x : Bool × ℕ × Text) → read_signed t ≡ Some x → Signed x.0 x.1 t x.2
unfolding read_signed
signed_sound t x e =
    ⊎_elim
    (λ y.
    let a = bind_some (read_magnitude y.0) (λ x. Some (true, x.0, x.1)) x y.2 in
    along (λ u. Signed x.0 x.1 u x.2) t _ (at_is 45 t y.0 y.1) (subst (λ (w : Bool × ℕ × Text). Signed w.0 w.1 (45 ∷ y.0) w.2) (some_is (true, a.0.0, a.0.1) x a.2) (minus (magnitude_sound y.0 a.0 a.1))))
    (λ y.
    let a = bind_some (read_magnitude t) (λ x. Some (false, x.0, x.1)) x y.1 in
    subst (λ (w : Bool × ℕ × Text). Signed w.0 w.1 t w.2) (some_is (false, a.0.0, a.0.1) x a.2) (unsigned (magnitude_sound t a.0 a.1)))
    (on_cases (after_character 45 t) _ _ (Some x) e)

fraction_sound : (t : Text) (x : List ℕ × Text) → read_fraction t ≡ Some x → Fraction x.0 t x.1
unfolding read_fraction
fraction_sound t x e =
    ⊎_elim
    (λ y. along (λ u. Fraction x.0 u x.1) t _ (at_is 46 t y.0 y.1) (go y.0 y.2))
    (λ y. subst (λ (w : List ℕ × Text). Fraction w.0 t w.1) (some_is ([], t) x y.1) no_fraction)
    (on_cases (after_character 46 t) _ _ (Some x) e)
  where
    go : (u : Text) → read_fraction_digits u ≡ Some x → Fraction x.0 (46 ∷ u) x.1
    go [] e = none_some x e
    go (c ∷ u) e =
        let g = guarded (is_digit c) (Some (c ∷ (read_run is_digit u).0, (read_run is_digit u).1)) x e in
        subst (λ (w : List ℕ × Text). Fraction w.0 (46 ∷ c ∷ u) w.1) (some_is (c ∷ (read_run is_digit u).0, (read_run is_digit u).1) x g.1) (fraction g.0 (run_sound is_digit u))

natural_sound : (t : Text) (x : ℕ × Text) → read_natural t ≡ Some x → Natural x.0 t x.1
natural_sound [] x e = none_some x e
natural_sound (c ∷ t) x e =
    let g = guarded (is_digit c) (Some (read_digits (c - 48) t)) x e in
    subst (λ y. Natural y.0 (c ∷ t) y.1) (some_is _ x g.1) (natural g.0 (digits_sound (c - 48) t))

exponent_sound : (t : Text) (x : Option ℤ × Text) → read_exponent t ≡ Some x → Exponent x.0 t x.1
unfolding read_exponent
exponent_sound [] x e = subst (λ (w : Option ℤ × Text). Exponent w.0 [] w.1) (some_is (None, []) x e) no_exponent
exponent_sound (c ∷ t) x e = go (is_e c) refl e
  where
    after : Option (Option ℤ × Text)
    after = on (after_character 43 t)
        (λ u. read_natural u >>= λ x. Some (Some (pos x.0), x.1))
        (on (after_character 45 t)
        (λ u. read_natural u >>= λ x. Some (Some (neg_ℤ (pos x.0)), x.1))
        (read_natural t >>= λ x. Some (Some (pos x.0), x.1)))

    found : is_e c ≡ true → after ≡ Some x → Exponent x.0 (c ∷ t) x.1
    found is e =
        ⊎_elim
        (λ y.
        let a = bind_some (read_natural y.0) (λ x. Some (Some (pos x.0), x.1)) x y.2 in
        along (λ u. Exponent x.0 (c ∷ u) x.1) t _ (at_is 43 t y.0 y.1) (subst (λ (w : Option ℤ × Text). Exponent w.0 (c ∷ 43 ∷ y.0) w.1) (some_is (Some (pos a.0.0), a.0.1) x a.2) (plus_exponent is (natural_sound y.0 a.0 a.1))))
        (λ y. ⊎_elim
        (λ z.
        let a = bind_some (read_natural z.0) (λ x. Some (Some (neg_ℤ (pos x.0)), x.1)) x z.2 in
        along (λ u. Exponent x.0 (c ∷ u) x.1) t _ (at_is 45 t z.0 z.1) (subst (λ (w : Option ℤ × Text). Exponent w.0 (c ∷ 45 ∷ z.0) w.1) (some_is (Some (neg_ℤ (pos a.0.0)), a.0.1) x a.2) (minus_exponent is (natural_sound z.0 a.0 a.1))))
        (λ z.
        let a = bind_some (read_natural t) (λ x. Some (Some (pos x.0), x.1)) x z.1 in
        subst (λ (w : Option ℤ × Text). Exponent w.0 (c ∷ t) w.1) (some_is (Some (pos a.0.0), a.0.1) x a.2) (bare_exponent is (natural_sound t a.0 a.1)))
        (on_cases (after_character 45 t) _ _ (Some x) y.1))
        (on_cases (after_character 43 t) _ _ (Some x) e)

    go : (b : Bool) → is_e c ≡ b → on (cond b (Some t) None) (λ r. on (after_character 43 r)
        (λ u. read_natural u >>= λ x. Some (Some (pos x.0), x.1))
        (on (after_character 45 r)
        (λ u. read_natural u >>= λ x. Some (Some (neg_ℤ (pos x.0)), x.1))
        (read_natural r >>= λ x. Some (Some (pos x.0), x.1)))) (Some (None, c ∷ t)) ≡ Some x → Exponent x.0 (c ∷ t) x.1
    go true is e = found is e
    go false is e = subst (λ (w : Option ℤ × Text). Exponent w.0 (c ∷ t) w.1) (some_is (None, c ∷ t) x e) no_exponent

-- the value that is spelled, of which this is kept
abbrev pub Found : {W : Type 0} → (W → W) → (W → Bool) → (W → Text → Type 0) → W × Bool × Text → Type 0
Found kept left X x = (w : _) × X w x.2 × (kept w ≡ x.0) × (left w ≡ x.1)

abbrev pub FoundLiteral : Text → Literal × Bool × Text → Type 0
FoundLiteral t x = Found literal_kept literal_left_out (λ l r. LiteralAt l t r) x

pub number_sound_alone : (t : Text) (x : Literal × Bool × Text) → read_number t ≡ Some x → Found literal_kept literal_left_out (λ l r. Number l t r) x
unfolding read_number
number_sound_alone t x e =
    let a = bind_some (read_signed t) (λ a. read_fraction a.2 >>= λ b. read_exponent b.1 >>= λ c. Some (literal_kept (number_of a.0 a.1 b.0 c.0), literal_left_out (number_of a.0 a.1 b.0 c.0), c.1)) x e in
    let b = bind_some (read_fraction a.0.2) (λ b. read_exponent b.1 >>= λ c. Some (literal_kept (number_of a.0.0 a.0.1 b.0 c.0), literal_left_out (number_of a.0.0 a.0.1 b.0 c.0), c.1)) x a.2 in
    let c = bind_some (read_exponent b.0.1) (λ c. Some (literal_kept (number_of a.0.0 a.0.1 b.0.0 c.0), literal_left_out (number_of a.0.0 a.0.1 b.0.0 c.0), c.1)) x b.2 in
    let n : Literal = number_of a.0.0 a.0.1 b.0.0 c.0.0 in
    subst (Found literal_kept literal_left_out (λ l r. Number l t r)) (some_is (literal_kept n, literal_left_out n, c.0.1) x c.2)
    (n, number (signed_sound t a.0 a.1) (fraction_sound a.0.2 b.0 b.1) (exponent_sound b.0.1 c.0 c.1), refl, refl)

number_literal_sound : (t : Text) (x : Literal × Bool × Text) → read_number t ≡ Some x → FoundLiteral t x
number_literal_sound t x e = let n = number_sound_alone t x e in (n.0, a_number n.1, n.2, n.3)

pub literal_sound : (t : Text) (x : Literal × Bool × Text) → read_literal t ≡ Some x → FoundLiteral t x
unfolding read_literal
literal_sound t x e =
    ⊎_elim
    (λ y.
    let a = bind_some (read_string t) (λ x. Some (json (text x.0), false, x.1)) x y.1 in
    subst (FoundLiteral t) (some_is (json (text a.0.0), false, a.0.1) x a.2) (json (text a.0.0), a_string (string_sound t a.0 a.1), refl, refl))
    (λ y. ⊎_elim
    (λ z. along (λ u. FoundLiteral u x) t _ (word_is (codes "true") t z.0 z.1) (subst (FoundLiteral _) (some_is (json (boolean true), false, z.0) x z.2) (json (boolean true), a_true, refl, refl)))
    (λ y. ⊎_elim
    (λ z. along (λ u. FoundLiteral u x) t _ (word_is (codes "false") t z.0 z.1) (subst (FoundLiteral _) (some_is (json (boolean false), false, z.0) x z.2) (json (boolean false), a_false, refl, refl)))
    (λ y. ⊎_elim
    (λ z. along (λ u. FoundLiteral u x) t _ (word_is (codes "null") t z.0 z.1) (subst (FoundLiteral _) (some_is (json null, false, z.0) x z.2) (json null, a_null, refl, refl)))
    (λ z. number_literal_sound t x z.1)
    (on_cases (after_word (codes "null") t) _ _ (Some x) y.1))
    (on_cases (after_word (codes "false") t) _ _ (Some x) y.1))
    (on_cases (after_word (codes "true") t) _ _ (Some x) y.1))
    (chosen (begins_string t) _ _ (Some x) e)

-- ---- selectors and dots

abbrev pub FoundSelector : Text → Selector × Bool × Text → Type 0
FoundSelector t x = Found selector_kept selector_left_out (λ s r. SelectorAt s t r) x

-- an index or a slice leaves nothing out
slice_plain : (a : Option ℤ) (u : Text) (x : Selector × Text) → read_slice_from a u ≡ Some x → (selector_kept x.0 ≡ x.0) × (selector_left_out x.0 ≡ false)
unfolding read_slice_from
slice_plain a u x e =
    let b = bind_some (read_slice_bound (skip u)) (λ b. read_slice_step b.1 >>= λ c. Some (slice_selector a b.0 c.0, c.1)) x e in
    let c = bind_some (read_slice_step b.0.1) (λ c. Some (slice_selector a b.0.0 c.0, c.1)) x b.2 in
    subst (λ (w : Selector × Text). (selector_kept w.0 ≡ w.0) × (selector_left_out w.0 ≡ false)) (some_is (slice_selector a b.0.0 c.0.0, c.0.1) x c.2) (refl, refl)

pub number_plain : (t : Text) (x : Selector × Text) → read_index_or_slice t ≡ Some x → (selector_kept x.0 ≡ x.0) × (selector_left_out x.0 ≡ false)
unfolding read_index_or_slice
number_plain t x e =
    ⊎_elim
    (λ y. slice_plain None y.0 x y.2)
    (λ y.
    let b = bind_some (read_int t) (λ x. on (after_character 58 (skip x.1)) (read_slice_from (Some x.0)) (Some (index_selector x.0, x.1))) x y.1 in
    ⊎_elim
    (λ z. slice_plain (Some b.0.0) z.0 x z.2)
    (λ z. subst (λ (w : Selector × Text). (selector_kept w.0 ≡ w.0) × (selector_left_out w.0 ≡ false)) (some_is (index_selector b.0.0, b.0.1) x z.1) (refl, refl))
    (on_cases (after_character 58 (skip b.0.1)) _ _ (Some x) b.2))
    (on_cases (after_character 58 t) _ _ (Some x) e)
