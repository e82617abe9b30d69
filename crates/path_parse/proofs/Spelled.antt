-- A normalized path spells its query.
use Rattle.std.proofs.Common.{◌≡◌, ℕ, zero, suc, ◌+◌, ◌*◌, ◌-◌, ◌/◌, ◌%◌, ◌<◌, ◌^◌, Bool, true, false, cond, List, [], ◌∷◌, ◌++◌, map, get_or, Option, Some, pos, refl, sym, ap, subst, ◌∙◌, append_assoc, arith, eqb-true, lt-ltb, decimal, flat_map, IsUtf8}
use Rattle.std.specs.Prelude.{codes, chars, nat_lt, ◌==◌, unwrap_or}
use Rattle.std.specs.List.{AllByRecursion}
use Rattle.std.specs.Int.Digits.{digits_of, number_from_digits_after, AllBelowBase}
use Rattle.std.proofs.lemmas.Int.Digits.{all_below_base_digits_of, first_digits_of, number_digits_of}
use Rattle.std.proofs.lemmas.Fmt.{decimal_digit, decimal-digits_of}
use Rattle.std.proofs.lemmas.Str.{encodes-chars}
use Rattle.std.proofs.lemmas.Bool.Decides.{nat_tests}
use Rattle.doc_tree.specs.Doc.{Place, name, index}
use Rattle.path_grammar.specs.Characters.{Text, is_digit, is_nonzero_digit, no_blank}
use Rattle.path_grammar.specs.Strings.{is_hex_digit, hex_value, is_high_surrogate, is_low_surrogate, is_unescaped, escapable, hex_digit as hex_digit_is, FourHexDigits, four_hex_digits, short_escape as short_escape_is, hex_escape, Quoted, closed, unescaped, escaped, StringLiteral, single_quoted}
use Rattle.path_grammar.specs.Numbers.{Digits, no_digit, digit, Positive, positive, Int, zero_int, positive_int}
use Rattle.path_grammar.specs.Grammar.{Spells, SegmentsAt, segments_end, segments_more, SegmentAt, child_bracketed, singular_bracket, a_name, an_index}
use Rattle.path_grammar.specs.Profile.{InProfile, selector_left_out}
use Rattle.path_grammar.specs.Syntax.{selector, no_selectors}
use Rattle.path_parse.specs.NormalPath.{hex_digit, four_digits, normal_character, normal_step, normal_path}
use Rattle.path_parse.specs.QueryOf.{selector_of, query_of, HasUtf8Name, HasExactIndex}

-- ---- characters

pick : {A : Type 0} (P : A → Type 0) (b : Bool) (x y : A) → (b ≡ true → P x) → (b ≡ false → P y) → P (cond b x y)
pick P true x y f g = f refl
pick P false x y f g = g refl

hex_digit-is_hex_digit : (n : ℕ) → n < 16 → is_hex_digit (hex_digit n) ≡ true
hex_digit-is_hex_digit n small = grind (arith, nat_tests)

hex_value-hex_digit : (n : ℕ) → n < 16 → hex_value (hex_digit n) ≡ n
hex_value-hex_digit n small = grind (arith, nat_tests)

four_digits_are : (c : ℕ) (t : Text) → c < 32 → FourHexDigits c (four_digits c ++ t) t
four_digits_are c t small =
    let high : c / 16 < 16 = omega arith in
    let low : c % 16 < 16 = omega arith in
    let value : (0 + hex_value (hex_digit (c / 16))) * 16 + hex_value (hex_digit (c % 16)) ≡ c = rw (hex_value-hex_digit (c / 16) high, hex_value-hex_digit (c % 16) low) (omega arith) in
    subst (λ n. FourHexDigits n (four_digits c ++ t) t) value
    (four_hex_digits (hex_digit_is refl) (hex_digit_is refl) (hex_digit_is (hex_digit-is_hex_digit (c / 16) high)) (hex_digit_is (hex_digit-is_hex_digit (c % 16) low)))

not_high : (c : ℕ) → c < 32 → is_high_surrogate c ≡ false
not_high c small = grind (arith, nat_tests)

not_low : (c : ℕ) → c < 32 → is_low_surrogate c ≡ false
not_low c small = grind (arith, nat_tests)

stands_for_itself : (c : ℕ) → nat_lt c 32 ≡ false → (c == 39) ≡ false → (c == 92) ≡ false → is_unescaped 39 c ≡ true
stands_for_itself c large no_quote no_backslash = rw (no_quote, no_backslash) (grind (arith, nat_tests))

module _ (c : ℕ) (cs : List ℕ) (t r : Text) (more : Quoted 39 cs t r) where
  abbrev Stands : Text → Type 0
  Stands e = Quoted 39 (c ∷ cs) (e ++ t) r

  letter : (d v : ℕ) → escapable 39 d ≡ Some v → (c == v) ≡ true → Stands (92 ∷ d ∷ [])
  letter d v is e = escaped (short_escape_is (is ∙ ap Some (sym (eqb-true c v e)))) more

  plain : (c == 39) ≡ false → (c == 92) ≡ false → Stands (cond (nat_lt c 32) (codes "\\u" ++ four_digits c) (c ∷ []))
  plain no_quote no_backslash =
      pick Stands (nat_lt c 32) _ _
      (λ small. let below : c < 32 = grind (arith, nat_tests) in escaped (hex_escape (four_digits_are c t below) (not_high c below) (not_low c below)) more)
      (λ large. unescaped (stands_for_itself c large no_quote no_backslash) more)

  pub one_character : Stands (normal_character c)
  one_character =
      pick P (c == 8) _ _ (letter 98 8 refl)
      (λ _. pick P (c == 9) _ _ (letter 116 9 refl)
      (λ _. pick P (c == 10) _ _ (letter 110 10 refl)
      (λ _. pick P (c == 12) _ _ (letter 102 12 refl)
      (λ _. pick P (c == 13) _ _ (letter 114 13 refl)
      (λ _. pick P (c == 39) _ _ (letter 39 39 refl)
      (λ no_quote. pick P (c == 92) _ _ (letter 92 92 refl) (λ no_backslash. plain no_quote no_backslash)))))))
    where
      P : Option Text → Type 0
      P o = Stands (unwrap_or o (cond (nat_lt c 32) (codes "\\u" ++ four_digits c) (c ∷ [])))

-- a name up to its closing quote
characters_quoted : (cs : List ℕ) (r : Text) → Quoted 39 cs (flat_map normal_character cs ++ 39 ∷ r) r
characters_quoted [] r = closed
characters_quoted (c ∷ cs) r = rw (append_assoc (normal_character c) (flat_map normal_character cs) (39 ∷ r)) (one_character c cs _ r (characters_quoted cs r))

name_is : (k : List ℕ) (r : Text) → IsUtf8 k → StringLiteral k (39 ∷ (flat_map normal_character (chars k) ++ 39 ∷ r)) r
name_is k r utf8 = subst (λ s. StringLiteral s (39 ∷ (flat_map normal_character (chars k) ++ 39 ∷ r)) r) (encodes-chars k utf8) (single_quoted (characters_quoted (chars k) r))

-- ---- indexes

digit_is : (d : ℕ) → d < 10 → is_digit (48 + d) ≡ true
digit_is d small = grind (arith, nat_tests)

nonzero_is : (d : ℕ) → d < 10 → 0 < d → is_nonzero_digit (48 + d) ≡ true
nonzero_is d small some = grind (arith, nat_tests)

digits_are : (a : ℕ) (ds : List ℕ) (r : Text) → AllBelowBase 10 ds → Digits a (number_from_digits_after 10 a ds) (map (λ d. 48 + d) ds ++ r) r
digits_are a [] r below = no_digit
digits_are a (d ∷ ds) r below =
    let back : a * 10 + (48 + d - 48) ≡ a * 10 + d = omega arith in
    digit (digit_is d below.0) (subst (λ n. Digits n (number_from_digits_after 10 (a * 10 + d) ds) (map (λ d. 48 + d) ds ++ r) r) (sym back) (digits_are (a * 10 + d) ds r below.1))

positive_are : (ds : List ℕ) (r : Text) → AllBelowBase 10 ds → 0 < get_or ds 0 0 → Positive (number_from_digits_after 10 0 ds) (map (λ d. 48 + d) ds ++ r) r
positive_are [] r below first = absurd (omega (arith, first))
positive_are (d ∷ ds) r below first =
    let back : 48 + d - 48 ≡ 0 * 10 + d = omega arith in
    positive (nonzero_is d below.0 first) (subst (λ n. Digits n (number_from_digits_after 10 (0 * 10 + d) ds) (map (λ d. 48 + d) ds ++ r) r) (sym back) (digits_are (0 * 10 + d) ds r below.1))

index_is : (n : ℕ) (r : Text) → n < 2 ^ 53 → Int (pos n) (decimal n ++ r) r
index_is zero r small = rw (decimal_digit 0 (omega arith)) zero_int
index_is (suc n) r small =
    rw (decimal-digits_of (suc n) (omega arith) (omega arith))
    (positive_int (lt-ltb (suc n) (2 ^ 53) small)
    (subst (λ m. Positive m (map (λ d. 48 + d) (digits_of 10 (suc n)) ++ r) r) (number_digits_of 10 (suc n) (omega arith))
    (positive_are (digits_of 10 (suc n)) r (all_below_base_digits_of 10 (suc n) (omega arith)) (first_digits_of 10 (suc n) (omega arith) (omega arith)))))

-- ---- steps

step_selected : (p : Place) (r : Text) → HasUtf8Name p → HasExactIndex p → SegmentAt false (selector (selector_of p) no_selectors) true (normal_step p ++ r) r
step_selected (name k) r utf8 exact = rw (append_assoc (flat_map normal_character (chars k)) (codes "']") r) (child_bracketed (singular_bracket (a_name (name_is k (93 ∷ r) utf8))))
step_selected (index n) r utf8 exact = rw (append_assoc (decimal n) (codes "]") r) (child_bracketed (singular_bracket (an_index (index_is n (93 ∷ r) exact))))

steps_selected : (ps : List Place) → AllByRecursion HasUtf8Name ps → AllByRecursion HasExactIndex ps → SegmentsAt (query_of ps) true (flat_map normal_step ps) []
steps_selected [] utf8 exact = segments_end
steps_selected (p ∷ ps) utf8 exact = segments_more no_blank (step_selected p (flat_map normal_step ps) utf8.0 exact.0) (steps_selected ps utf8.1 exact.1)

pub path_spelled : (ps : List Place) → AllByRecursion HasUtf8Name ps → AllByRecursion HasExactIndex ps → Spells (query_of ps) (normal_path ps)
path_spelled ps utf8 exact = (true, flat_map normal_step ps, refl, steps_selected ps utf8 exact)

one_in_profile : (p : Place) → selector_left_out (selector_of p) ≡ false
one_in_profile (name k) = refl
one_in_profile (index n) = refl

pub query_in_profile : (ps : List Place) → InProfile (query_of ps)
query_in_profile [] = refl
query_in_profile (p ∷ ps) = rw (one_in_profile p) (query_in_profile ps)

-- ---- the query tells steps apart

step_from_selector : (p s : Place) → selector_of p ≡ selector_of s → p ≡ s
step_from_selector (name k) (name l) e = cc
step_from_selector (name k) (index n) e = cc
step_from_selector (index m) (name l) e = cc
step_from_selector (index m) (index n) e = cc

pub steps_from_query : (ps ss : List Place) → query_of ps ≡ query_of ss → ps ≡ ss
steps_from_query [] [] e = refl
steps_from_query [] (s ∷ ss) e = cc
steps_from_query (p ∷ ps) [] e = cc
steps_from_query (p ∷ ps) (s ∷ ss) e =
    let first : selector_of p ≡ selector_of s = cc in
    let rest : query_of ps ≡ query_of ss = cc in
    let same = step_from_selector p s first in
    let others = steps_from_query ps ss rest in
    cc
