-- Bytes that come one by one, and whether they are UTF-8.
use Rattle.std.proofs.Common.{◌≡◌, ◌⊎◌, inl, inr, ℕ, zero, suc, ◌+◌, ◌<◌, ◌≤◌, ◌==◌, List, [], ◌∷◌, ◌++◌, length, take, Bool, true, false, ◌&&◌, IsUtf8, append-nil, append_assoc, refl, sym, ap, subst, ◌∙◌, arith, ne_eqb, Result, Ok, Err, MatchResult}
use Rattle.std.specs.Prelude.{is_ok}
use Rattle.std.specs.Char.{IsScalar, encode_utf8, len_utf8}
use Rattle.std.specs.Str.{is_utf8, encode_utf8_all, all_scalars}
use Rattle.std.proofs.lemmas.List.{take_all, take_at, take-append-le, drop_at, length-append, length-take-le, nil_from_length}
use Rattle.std.proofs.lemmas.Str.{IsUtf8-nil, IsUtf8-append, IsUtf8-drop, IsUtf8-encode, IsUtf8-from_is_utf8, is_utf8-from_IsUtf8, IsCharBoundary-from_take, length-encode, len_utf8_bounds}

-- no front of the bytes is a text, but the empty one
abbrev pub NoneWhole : List ℕ → Type 0
NoneWhole begun = (n : ℕ) → 0 < n → n ≤ length begun → IsUtf8 (take n begun) → ⊥

-- Of all bytes the first were whole characters, then these came, and the rest is still to come.
pub record Pending (begun rest all : List ℕ) : Type 0 where
  pub onward : IsUtf8 all → IsUtf8 (begun ++ rest)
  pub back : IsUtf8 (begun ++ rest) → IsUtf8 all
  pub none : NoneWhole begun

pub nothing_begun : (begun all : List ℕ) → begun ≡ [] → Pending begun all all
nothing_begun begun all e = subst (λ b. Pending b all all) (sym e) (record { onward = λ u. u; back = λ u. u; none = λ n more less u. omega (arith, more, less) })

-- ---- the first of four

pub counted : (xs : List ℕ) (n : ℕ) → length xs ≡ 4 → n ≤ 4 → length (take n xs) ≡ n
counted xs n four less = length-take-le n xs (omega (arith, four, less))

-- ---- by a test

pub whole_if : {A E : Type 0} (P : A → Type 0) (Q : E → Type 0) (bytes : List ℕ) (r : Result A E) → MatchResult r (λ s. P s × IsUtf8 bytes) (λ e. (IsUtf8 bytes → ⊥) × Q e) → is_ok r ≡ true → IsUtf8 bytes
whole_if P Q bytes (Ok s) h e = h.1
whole_if P Q bytes (Err x) h e = absurd cc

pub cut_if : {A E : Type 0} (P : A → Type 0) (Q : E → Type 0) (bytes : List ℕ) (r : Result A E) → MatchResult r (λ s. P s × IsUtf8 bytes) (λ e. (IsUtf8 bytes → ⊥) × Q e) → is_ok r ≡ false → IsUtf8 bytes → ⊥
cut_if P Q bytes (Ok s) h e = absurd cc
cut_if P Q bytes (Err x) h e = h.0

-- ---- a byte more

module _ (begun rest all more left : List ℕ) (byte : ℕ) (p : Pending begun rest all) (next : rest ≡ byte ∷ left) (is : more ≡ begun ++ byte ∷ []) where
  same : more ++ left ≡ begun ++ rest
  same = ap (λ l. l ++ left) is ∙ append_assoc begun (byte ∷ []) left ∙ sym (ap (λ l. begun ++ l) next)

  -- it ends a character
  pub ends : (b : List ℕ) → b ≡ [] → IsUtf8 more → Pending b left all
  ends b e u =
      let here = take_at more left (length more) refl in
      subst (λ x. Pending x left all) (sym e) (record {
        onward = λ v.
            let whole : IsUtf8 (more ++ left) = subst IsUtf8 (sym same) (p.onward v) in
            subst IsUtf8 (drop_at more left (length more) refl) (IsUtf8-drop (more ++ left) (length more) whole (IsCharBoundary-from_take (more ++ left) (length more) whole (let l = length-append more left in omega (arith, l)) (subst IsUtf8 (sym here) u)));
        back = λ v. p.back (subst IsUtf8 same (IsUtf8-append more left u v));
        none = λ n some less w. omega (arith, some, less);
      })

  -- it ends none
  pub goes_on : (IsUtf8 more → ⊥) → Pending more left all
  goes_on not_whole = record {
    onward = λ v. subst IsUtf8 (sym same) (p.onward v);
    back = λ v. p.back (subst IsUtf8 same v);
    none = λ n some less u. by_length n some u (short n less);
  }
    where
      short : (n : ℕ) → n ≤ length more → (n ≤ length begun) ⊎ (length more ≤ n)
      short n less = let l : length more ≡ length begun + 1 = ap length is ∙ length-append begun (byte ∷ []) in grind (arith, l, less)

      by_length : (n : ℕ) → 0 < n → IsUtf8 (take n more) → (n ≤ length begun) ⊎ (length more ≤ n) → ⊥
      by_length n some u (inl less) = p.none n some less (subst IsUtf8 (ap (take n) is ∙ take-append-le n begun (byte ∷ []) less) u)
      by_length n some u (inr all) = not_whole (subst IsUtf8 (take_all n more all) u)

-- ---- the answers

none_of : (all : List ℕ) → (IsUtf8 all → ⊥) → false ≡ is_utf8 all
none_of all no_text = by_test (is_utf8 all) refl
  where
    by_test : (b : Bool) → is_utf8 all ≡ b → false ≡ b
    by_test true t = absurd (no_text (IsUtf8-from_is_utf8 all t))
    by_test false t = refl

first_true : (a b : Bool) → (a && b) ≡ true → a ≡ true
first_true true b e = refl
first_true false b e = absurd cc

-- a character has at most four bytes
opened : (begun rest : List ℕ) → length begun ≡ 4 → NoneWhole begun → IsUtf8 (begun ++ rest) → ⊥
opened begun rest four none u = by_first u.0 u.1.0 u.1.1
  where
    by_first : (cs : List ℕ) → all_scalars cs ≡ true → encode_utf8_all cs ≡ begun ++ rest → ⊥
    by_first [] s e = let l : 0 ≡ length begun + length rest = ap length e ∙ length-append begun rest in omega (arith, l, four)
    by_first (c ∷ cs) s e =
        let bounds = len_utf8_bounds c in
        let n = len_utf8 c in
        let first : IsScalar c = first_true _ (all_scalars cs) s in
        none n bounds.0 (let m = bounds.1 in omega (arith, m, four))
        (subst IsUtf8 (sym (take_at (encode_utf8 c) (encode_utf8_all cs) n (length-encode c)) ∙ ap (take n) e ∙ take-append-le n begun rest (let m = bounds.1 in omega (arith, m, four))) (IsUtf8-encode c first))

pub too_long : (begun rest all : List ℕ) → length begun ≡ 4 → Pending begun rest all → false ≡ is_utf8 all
too_long begun rest all four p = none_of all (λ u. opened begun rest four p.none (p.onward u))

pub at_end : (begun rest all : List ℕ) (len : ℕ) → length begun ≡ len → rest ≡ [] → Pending begun rest all → (len == 0) ≡ is_utf8 all
at_end begun rest all len count e p = by_length len count
  where
    whole : Pending begun [] all
    whole = subst (λ l. Pending begun l all) e p

    by_length : (n : ℕ) → length begun ≡ n → (n == 0) ≡ is_utf8 all
    by_length zero none = sym (is_utf8-from_IsUtf8 all (whole.back (subst IsUtf8 (sym (ap (λ l. l ++ []) (nil_from_length begun none))) IsUtf8-nil)))
    by_length (suc n) some = ne_eqb (suc n) 0 (λ e. omega (arith, e)) ∙ none_of all (λ u. whole.none (length begun) (omega (arith, some)) (omega arith) (subst IsUtf8 (append-nil begun ∙ sym (take_all (length begun) begun (omega arith))) (whole.onward u)))
