-- What may follow, and that a longer reading is then impossible.
use Rattle.std.proofs.Common.{◌≡◌, ℕ, zero, suc, ◌≤◌, ◌<◌, Bool, true, false, cond, eqb, leb, ◌==◌, ◌&&◌, ◌||◌, not, List, [], ◌∷◌, length, Option, Some, None, refl, sym, ap, ◌∙◌, ℤ, arith}
use Rattle.std.proofs.lemmas.Bool.{eqb-true}
use Rattle.std.proofs.lemmas.Bool.Decides.{nat_tests}
use Rattle.path_grammar.specs.Syntax.{Literal}
use Rattle.path_grammar.specs.Profile.{literal_left_out}
use Rattle.path_grammar.specs.Kept.{literal_kept}
use Rattle.path_grammar.specs.Characters.{Text, is_blank, is_digit, is_nonzero_digit, is_name_char, Blanks, no_blank, blank, Run, run_end, run_on, Shorthand, shorthand}
use Rattle.path_grammar.specs.Strings.{is_unescaped, escapable, HexDigit, hex_digit, FourHexDigits, four_hex_digits, Escaped, short_escape, hex_escape, pair_escape, Quoted, closed, unescaped, escaped, StringLiteral, double_quoted, single_quoted}
use Rattle.path_grammar.specs.Numbers.{Digits, no_digit, digit, Positive, positive, Int, zero_int, positive_int, negative_int, Magnitude, zero_magnitude, positive_magnitude, Signed, unsigned, minus, Fraction, no_fraction, fraction, Natural, natural, is_e, Exponent, no_exponent, bare_exponent, plus_exponent, minus_exponent, Number, number}
use Rattle.path_grammar.specs.Grammar.{LiteralAt, a_number, a_string, a_true, a_false, a_null}
use Rattle.path_grammar.specs.Reading.{after_character, after_word, skip, begins, read_run, read_shorthand, read_hex_digit, read_four_hex_digits, read_low_surrogate, read_hex_escape, read_escaped, read_character, read_characters, read_quoted, read_string, begins_string, read_digits, read_positive, read_int, read_magnitude, read_signed, read_fraction, read_natural, after_e, read_exponent, goes_on_number, read_number, read_literal, begins_int}
use Rattle.path_grammar.proofs.Tools.{none_is}

-- the first character passes the test, or there is none
abbrev pub ends_or : (ℕ → Bool) → Text → Bool
ends_or p [] = true
ends_or p (c ∷ t) = p c

-- after the blanks the text ends, or goes on with a character that passes the test
pub record Follow (p : ℕ → Bool) (t : Text) : Type 0 where
  pub ends : ends_or p (skip t) ≡ true

-- `]`, `,`, `)`
abbrev pub stop0 : ℕ → Bool
stop0 c = (c == 93) || ((c == 44) || (c == 41))

-- and `|`
abbrev pub stop1 : ℕ → Bool
stop1 c = (c == 124) || stop0 c

-- and `&`
abbrev pub stop2 : ℕ → Bool
stop2 c = (c == 38) || stop1 c

-- and the first characters of operators
abbrev pub stop3 : ℕ → Bool
stop3 c = ((c == 61) || ((c == 33) || ((c == 60) || (c == 62)))) || stop2 c

-- and `:`
abbrev pub stop4 : ℕ → Bool
stop4 c = (c == 58) || stop3 c

abbrev Excludes : (ℕ → Bool) → (ℕ → Bool) → Type 0
Excludes p q = (c : ℕ) → q c ≡ true → (is_blank c ≡ false) × (p c ≡ false)

pub wider : (p q : ℕ → Bool) (t : Text) → ((c : ℕ) → p c ≡ true → q c ≡ true) → Follow p t → Follow q t
wider p q t w f = record { ends = go (skip t) f.ends }
  where
    go : (u : Text) → ends_or p u ≡ true → ends_or q u ≡ true
    go [] e = refl
    go (c ∷ u) e = w c e

or_right : (a b : Bool) → b ≡ true → (a || b) ≡ true
or_right true b e = refl
or_right false b e = e

pub stop0-1 : (t : Text) → Follow stop0 t → Follow stop1 t
stop0-1 t = wider stop0 stop1 t (λ c. or_right (eqb c 124) (stop0 c))

pub stop1-2 : (t : Text) → Follow stop1 t → Follow stop2 t
stop1-2 t = wider stop1 stop2 t (λ c. or_right (eqb c 38) (stop1 c))

pub stop2-3 : (t : Text) → Follow stop2 t → Follow stop3 t
stop2-3 t = wider stop2 stop3 t (λ c. or_right _ (stop2 c))

pub stop3-4 : (t : Text) → Follow stop3 t → Follow stop4 t
stop3-4 t = wider stop3 stop4 t (λ c. or_right (eqb c 58) (stop3 c))

pub not_at : (p : ℕ → Bool) (c : ℕ) (t : Text) → p c ≡ false → ends_or p t ≡ true → after_character c t ≡ None
not_at p c [] h e = refl
not_at p c (d ∷ t) h e = go (eqb d c) refl
  where
    go : (b : Bool) → eqb d c ≡ b → cond b (Some t) None ≡ None
    go true is = let same = eqb-true d c is in cc
    go false is = refl

both_ways : {A : Type 0} (a b : Bool) → a ≡ true → a ≡ false → A
both_ways a b e f = absurd cc

pub begins_not : (p q : ℕ → Bool) (t : Text) → Excludes p q → Follow p t → begins q t ≡ false
begins_not p q [] apart f = refl
begins_not p q (c ∷ t) apart f = go (q c) refl
  where
    go : (b : Bool) → q c ≡ b → b ≡ false
    go false is = refl
    go true is =
        let h = apart c is in
        let e : ends_or p (cond (is_blank c) (skip t) (c ∷ t)) ≡ true = f.ends in
        let e' : p c ≡ true = rw h.0 at e in
        both_ways (p c) true e' h.1

pub excludes_digit : Excludes stop4 is_digit
excludes_digit c e = (grind (arith, nat_tests), grind (arith, nat_tests))

pub excludes_part : Excludes stop3 is_name_char
excludes_part c e = (grind (arith, nat_tests), grind (arith, nat_tests))

-- ---- blanks

pub skip_is : {t u : Text} → Blanks t u → skip t ≡ skip u
skip_is no_blank = refl
skip_is (blank h b) = rw h (skip_is b)

pub skip_to : {t u : Text} → Blanks t u → skip u ≡ u → skip t ≡ u
skip_to b e = skip_is b ∙ e

-- ---- names and numbers

pub run_complete : {p : ℕ → Bool} {cs : List ℕ} {t r : Text} → Run p cs t r → begins p r ≡ false → read_run p t ≡ (cs, r)
run_complete (run_end {t = []}) e = refl
run_complete (run_end {t = c ∷ t}) e = rw e refl
run_complete (run_on {c = c} h p) e = rw (h, run_complete p e) refl

pub shorthand_complete : {n : List ℕ} {t r : Text} → Shorthand n t r → begins is_name_char r ≡ false → read_shorthand t ≡ Some (n, r)
shorthand_complete (shorthand h p) e = rw (h, run_complete p e) refl

pub digits_complete : {n m : ℕ} {t r : Text} → Digits n m t r → begins is_digit r ≡ false → read_digits n t ≡ (m, r)
digits_complete (no_digit {t = []}) e = refl
digits_complete (no_digit {t = c ∷ t}) e = rw e refl
digits_complete (digit h p) e = rw h (digits_complete p e)

pub positive_complete : {m : ℕ} {t r : Text} → Positive m t r → begins is_digit r ≡ false → read_positive t ≡ Some (m, r)
positive_complete (positive h p) e = rw (h, digits_complete p e) refl

digit_is_not : (c : ℕ) → is_nonzero_digit c ≡ true → (eqb c 48 ≡ false) × (eqb c 45 ≡ false)
digit_is_not c e = (grind (arith, nat_tests), grind (arith, nat_tests))

pub positive_begins : {m : ℕ} {t r : Text} → Positive m t r → (after_character 48 t ≡ None) × (after_character 45 t ≡ None)
positive_begins (positive {c = c} h p) = let d = digit_is_not c h in (rw d.0 refl, rw d.1 refl)

pub int_complete : {z : ℤ} {t r : Text} → Int z t r → begins is_digit r ≡ false → read_int t ≡ Some (z, r)
unfolding read_int
int_complete zero_int e = refl
int_complete (positive_int h p) e = let b = positive_begins p in rw (b.0, b.1, positive_complete p e, h) refl
int_complete (negative_int h p) e = rw (positive_complete p e, h) refl

pub not_at_start : (q : ℕ → Bool) (c : ℕ) (t : Text) → q c ≡ false → begins q t ≡ true → after_character c t ≡ None
not_at_start q c [] h e = refl
not_at_start q c (d ∷ t) h e = go (eqb d c) refl
  where
    go : (b : Bool) → eqb d c ≡ b → cond b (Some t) None ≡ None
    go true is = let same = eqb-true d c is in cc
    go false is = refl

pub skip_start : (q : ℕ → Bool) (t : Text) → ((c : ℕ) → q c ≡ true → is_blank c ≡ false) → begins q t ≡ true → skip t ≡ t
skip_start q [] h e = refl
skip_start q (c ∷ t) h e = rw (h c e) refl

skip_twice_step : (c : ℕ) (t : Text) (b : Bool) → is_blank c ≡ b → skip (skip t) ≡ skip t → skip (cond b (skip t) (c ∷ t)) ≡ cond b (skip t) (c ∷ t)
skip_twice_step c t true is more = more
skip_twice_step c t false is more = rw is refl

pub skip_twice : (t : Text) → skip (skip t) ≡ skip t
skip_twice [] = refl
skip_twice (c ∷ t) = skip_twice_step c t (is_blank c) refl (skip_twice t)

abbrev pub int_start : ℕ → Bool
int_start c = (c == 45) || is_digit c

pub begins_int-is : (t : Text) → begins_int t ≡ begins int_start t
begins_int-is [] = refl
begins_int-is (c ∷ t) = refl

pub int_begins : {z : ℤ} {t r : Text} → Int z t r → begins int_start t ≡ true
int_begins zero_int = refl
int_begins (positive_int h (positive {c = c} d p)) = let e = d in grind (arith, nat_tests)
int_begins (negative_int h p) = refl

int_not_blank : (c : ℕ) → int_start c ≡ true → is_blank c ≡ false
int_not_blank c e = grind (arith, nat_tests)

pub int_stays : {z : ℤ} {t r : Text} → Int z t r → skip t ≡ t
int_stays {t = t} i = skip_start int_start t int_not_blank (int_begins i)

pub int_not_at : {z : ℤ} {t r : Text} (c : ℕ) → int_start c ≡ false → Int z t r → after_character c t ≡ None
int_not_at {t = t} c h i = not_at_start int_start c t h (int_begins i)

pub follow_along : (p : ℕ → Bool) (t u : Text) → skip t ≡ skip u → Follow p u → Follow p t
follow_along p t u e f = record { ends = ap (ends_or p) e ∙ f.ends }

pub follow_no_int : (t : Text) → Follow stop4 t → begins_int (skip t) ≡ false
follow_no_int t f = begins_int-is (skip t) ∙ go (skip t) f.ends
  where
    go : (u : Text) → ends_or stop4 u ≡ true → begins int_start u ≡ false
    go [] e = refl
    go (c ∷ u) e = grind (arith, nat_tests)

-- ---- what does not follow

pub not_next : (p : ℕ → Bool) (c : ℕ) (t : Text) → is_blank c ≡ false → p c ≡ false → Follow p t → after_character c t ≡ None
not_next p c [] nb np f = refl
not_next p c (d ∷ t) nb np f = go (eqb d c) refl
  where
    go : (b : Bool) → eqb d c ≡ b → cond b (Some t) None ≡ None
    go false is = refl
    go true is =
        let same : d ≡ c = eqb-true d c is in
        let e : ends_or p (cond (is_blank d) (skip t) (d ∷ t)) ≡ true = f.ends in
        let nb' : is_blank d ≡ false = ap is_blank same ∙ nb in
        let e' : p d ≡ true = rw nb' at e in
        both_ways (p d) true e' (ap p same ∙ np)

pub excludes_e : Excludes stop3 is_e
excludes_e c e = (grind (arith, nat_tests), grind (arith, nat_tests))

pub not_e : (t : Text) → begins is_e t ≡ false → after_e t ≡ None
not_e [] h = refl
not_e (c ∷ t) h = rw h refl

-- ---- strings

pub hex_digit_complete : {n m : ℕ} {t r : Text} → HexDigit n m t r → read_hex_digit n t ≡ Some (m, r)
hex_digit_complete (hex_digit h) = rw h refl

pub four_hex_digits_complete : {m : ℕ} {t r : Text} → FourHexDigits m t r → read_four_hex_digits t ≡ Some (m, r)
unfolding read_four_hex_digits
four_hex_digits_complete (four_hex_digits a b c d) = rw (hex_digit_complete a, hex_digit_complete b, hex_digit_complete c, hex_digit_complete d) refl

pub hex_digit_le : {n m : ℕ} {t r : Text} → HexDigit n m t r → length r ≤ length t
hex_digit_le (hex_digit h) = omega arith

pub four_hex_digits_le : {m : ℕ} {t r : Text} → FourHexDigits m t r → length r ≤ length t
four_hex_digits_le (four_hex_digits a b c d) = omega (arith, hex_digit_le a, hex_digit_le b, hex_digit_le c, hex_digit_le d)

pub escape_le : {q c : ℕ} {t r : Text} → Escaped q c t r → length r ≤ length t
escape_le (short_escape h) = omega arith
escape_le (hex_escape f a b) = omega (arith, four_hex_digits_le f)
escape_le (pair_escape f a g b) = omega (arith, four_hex_digits_le f, four_hex_digits_le g)

pub chars_le : {q : ℕ} {cs : List ℕ} {t r : Text} → Quoted q cs t r → length r ≤ length t
chars_le closed = omega arith
chars_le (unescaped h m) = omega (arith, chars_le m)
chars_le (escaped e m) = omega (arith, escape_le e, chars_le m)

plain_apart : (q c : ℕ) → is_unescaped q c ≡ true → (eqb c q ≡ false) × (eqb c 92 ≡ false) × (leb 32 c ≡ true)
plain_apart q c h = go (leb 32 c) (eqb c q) (eqb c 92) h
  where
    go : (a b d : Bool) → (a && (not b && not d)) ≡ true → (b ≡ false) × (d ≡ false) × (a ≡ true)
    go true false false h = (refl, refl, refl)
    go true true d h = absurd cc
    go true false true h = absurd cc
    go false b d h = absurd cc

module _ (q : ℕ) (itself : eqb q q ≡ true) (apart : eqb 92 q ≡ false) (no_u : escapable q 117 ≡ None) where
  escape_complete : {c : ℕ} {t r : Text} → Escaped q c t r → read_escaped q t ≡ Some (c, r)
  unfolding read_escaped read_hex_escape read_low_surrogate
  escape_complete {c = c} (short_escape {d = d} {r = r} h) = rw (go (eqb d 117) refl, h) refl
    where
      go : (b : Bool) → eqb d 117 ≡ b → cond b (Some r) None ≡ None
      go false is = refl
      go true is =
          let same : d ≡ 117 = eqb-true d 117 is in
          let e : Some c ≡ None = sym h ∙ (ap (escapable q) same ∙ no_u) in
          none_is c e
  escape_complete (hex_escape f nh nl) = rw (four_hex_digits_complete f, nh, nl) refl
  escape_complete (pair_escape f high g low) = rw (four_hex_digits_complete f, high, four_hex_digits_complete g, low) refl

  chars_complete : {cs : List ℕ} {t r : Text} (k : ℕ) → Quoted q cs t r → length t < k → read_characters q k t ≡ Some (cs, r)
  unfolding read_characters read_character
  chars_complete zero m lt = absurd (omega arith)
  chars_complete (suc k) closed lt = rw itself refl
  chars_complete (suc k) (unescaped {c = c} h m) lt =
      let a = plain_apart q c h in
      rw (a.0, a.1, a.2, chars_complete k m (omega arith)) refl
  chars_complete (suc k) (escaped e m) lt = rw (apart, escape_complete e, chars_complete k m (omega (arith, escape_le e))) refl

pub string_complete : {s : List ℕ} {t r : Text} → StringLiteral s t r → read_string t ≡ Some (s, r)
unfolding read_string read_quoted
string_complete (double_quoted {t = t} m) = rw (chars_complete 34 refl refl refl (suc (length t)) m (omega arith)) refl
string_complete (single_quoted {t = t} m) = rw (chars_complete 39 refl refl refl (suc (length t)) m (omega arith)) refl

pub string_begins : {s : List ℕ} {t r : Text} → StringLiteral s t r → begins_string t ≡ true
string_begins (double_quoted m) = refl
string_begins (single_quoted m) = refl

-- ---- number literals

magnitude_complete : {m : ℕ} {t r : Text} → Magnitude m t r → begins is_digit r ≡ false → read_magnitude t ≡ Some (m, r)
unfolding read_magnitude
magnitude_complete zero_magnitude e = refl
magnitude_complete (positive_magnitude p) e = let b = positive_begins p in rw (b.0, positive_complete p e) refl

magnitude_begins : {m : ℕ} {t r : Text} → Magnitude m t r → after_character 45 t ≡ None
magnitude_begins zero_magnitude = refl
magnitude_begins (positive_magnitude p) = let b = positive_begins p in b.1

signed_complete : {s : Bool} {m : ℕ} {t r : Text} → Signed s m t r → begins is_digit r ≡ false → read_signed t ≡ Some (s, m, r)
unfolding read_signed
signed_complete (unsigned p) e = rw (magnitude_begins p, magnitude_complete p e) refl
signed_complete (minus p) e = rw (magnitude_complete p e) refl

signed_begins : {s : Bool} {m : ℕ} {t r : Text} → Signed s m t r → begins int_start t ≡ true
signed_begins (unsigned zero_magnitude) = refl
signed_begins (unsigned (positive_magnitude (positive {c = c} d p))) = let e = d in grind (arith, nat_tests)
signed_begins (minus p) = refl

fraction_complete : {f : List ℕ} {t r : Text} → Fraction f t r → after_character 46 r ≡ None → begins is_digit r ≡ false → read_fraction t ≡ Some (f, r)
unfolding read_fraction
fraction_complete no_fraction e h = rw e refl
fraction_complete (fraction d p) e h = rw (d, run_complete p h) refl

fraction_starts : {f : List ℕ} {t r : Text} → Fraction f t r → begins is_digit r ≡ false → begins is_digit t ≡ false
fraction_starts no_fraction h = h
fraction_starts (fraction d p) h = refl

natural_complete : {m : ℕ} {t r : Text} → Natural m t r → begins is_digit r ≡ false → read_natural t ≡ Some (m, r)
natural_complete (natural h p) e = rw (h, digits_complete p e) refl

digit_no_sign : (c : ℕ) → is_digit c ≡ true → (eqb c 43 ≡ false) × (eqb c 45 ≡ false)
digit_no_sign c e = (grind (arith, nat_tests), grind (arith, nat_tests))

natural_begins : {m : ℕ} {t r : Text} → Natural m t r → (after_character 43 t ≡ None) × (after_character 45 t ≡ None)
natural_begins (natural {c = c} h p) = let d = digit_no_sign c h in (rw d.0 refl, rw d.1 refl)

exponent_complete : {z : Option ℤ} {t r : Text} → Exponent z t r → begins is_e r ≡ false → begins is_digit r ≡ false → read_exponent t ≡ Some (z, r)
unfolding read_exponent
exponent_complete {t = t} no_exponent e h = rw (not_e t e) refl
exponent_complete (bare_exponent x n) e h = let b = natural_begins n in rw (x, b.0, b.1, natural_complete n h) refl
exponent_complete (plus_exponent x n) e h = rw (x, natural_complete n h) refl
exponent_complete (minus_exponent x n) e h = rw (x, natural_complete n h) refl

e_is_not : (c : ℕ) → is_e c ≡ true → (eqb c 46 ≡ false) × (is_digit c ≡ false)
e_is_not c e = (grind (arith, nat_tests), grind (arith, nat_tests))

exponent_starts : {z : Option ℤ} {t r : Text} → Exponent z t r → after_character 46 r ≡ None → begins is_digit r ≡ false → (after_character 46 t ≡ None) × (begins is_digit t ≡ false)
exponent_starts no_exponent no_point none = (no_point, none)
exponent_starts (bare_exponent {c = c} x n) no_point none = let d = e_is_not c x in (rw d.0 refl, d.1)
exponent_starts (plus_exponent {c = c} x n) no_point none = let d = e_is_not c x in (rw d.0 refl, d.1)
exponent_starts (minus_exponent {c = c} x n) no_point none = let d = e_is_not c x in (rw d.0 refl, d.1)

neither : (a b : Bool) → (a || b) ≡ false → (a ≡ false) × (b ≡ false)
neither false b e = (refl, e)
neither true b e = absurd (cc)

ends_number : (t : Text) → begins goes_on_number t ≡ false → (after_character 46 t ≡ None) × (begins is_digit t ≡ false) × (begins is_e t ≡ false)
ends_number [] e = (refl, refl, refl)
ends_number (c ∷ t) e =
    let d = neither (is_digit c) _ e in
    let p = neither (eqb c 46) _ d.1 in
    (rw p.0 refl, d.0, p.1)

pub number_complete : {l : Literal} {t r : Text} → Number l t r → begins goes_on_number r ≡ false → read_number t ≡ Some (literal_kept l, literal_left_out l, r)
unfolding read_number
number_complete {r = r} (number s f e) h =
    let n = ends_number r h in
    let x = exponent_starts e n.0 n.1 in
    rw (signed_complete s (fraction_starts f x.1), fraction_complete f x.0 x.1, exponent_complete e n.2 n.1) refl

-- ---- literals

abbrev pub literal_start : ℕ → Bool
literal_start c = int_start c || ((c == 34) || ((c == 39) || ((c == 116) || ((c == 102) || (c == 110)))))

int_is_lit : (t : Text) → begins int_start t ≡ true → begins literal_start t ≡ true
int_is_lit [] e = e
int_is_lit (c ∷ t) e = rw e refl

pub literal_begins : {l : Literal} {t r : Text} → LiteralAt l t r → begins literal_start t ≡ true
literal_begins (a_string (double_quoted m)) = refl
literal_begins (a_string (single_quoted m)) = refl
literal_begins a_true = refl
literal_begins a_false = refl
literal_begins a_null = refl
literal_begins {t = t} (a_number (number s f e)) = int_is_lit t (signed_begins s)

literal_not_blank : (c : ℕ) → literal_start c ≡ true → is_blank c ≡ false
literal_not_blank c e = grind (arith, nat_tests)

pub literal_stays : {l : Literal} {t r : Text} → LiteralAt l t r → skip t ≡ t
literal_stays {t = t} l = skip_start literal_start t literal_not_blank (literal_begins l)

pub literal_not_at : {l : Literal} {t r : Text} (c : ℕ) → literal_start c ≡ false → LiteralAt l t r → after_character c t ≡ None
literal_not_at {t = t} c h l = not_at_start literal_start c t h (literal_begins l)

pub int_no_string : (t : Text) → begins int_start t ≡ true → begins_string t ≡ false
int_no_string [] e = refl
int_no_string (c ∷ t) e = grind (arith, nat_tests)

pub not_word : (c : ℕ) (w : List ℕ) (t : Text) → after_character c t ≡ None → after_word (c ∷ w) t ≡ None
not_word c [] t e = e
not_word c (d ∷ w) t e = rw e refl

pub literal_complete : {l : Literal} {t r : Text} → LiteralAt l t r → Follow stop3 r → read_literal t ≡ Some (literal_kept l, literal_left_out l, r)
unfolding read_literal read_number
literal_complete (a_string s) f = rw (string_begins s, string_complete s) refl
literal_complete a_true f = refl
literal_complete a_false f = refl
literal_complete a_null f = refl
literal_complete {t = t} {r = r} (a_number (number {v = v} s f e)) g =
    let b = signed_begins s in
    let no_e : begins is_e r ≡ false = begins_not stop3 is_e r excludes_e g in
    let none_after : begins is_digit r ≡ false = begins_not stop4 is_digit r excludes_digit (stop3-4 r g) in
    let x = exponent_starts e (not_next stop3 46 r refl refl g) none_after in
    rw (
      int_no_string t b,
      not_at_start int_start 116 t refl b,
      not_at_start int_start 102 t refl b,
      not_at_start int_start 110 t refl b,
      signed_complete s (fraction_starts f x.1),
      fraction_complete f x.0 x.1,
      exponent_complete e no_e none_after,
    ) refl
