-- The capped reading of number literals is the reading.
use Rattle.std.proofs.Common.{◌≡◌, ℕ, ◌+◌, ◌*◌, ◌-◌, ◌^◌, ◌≤◌, Bool, true, false, cond, ◌||◌, not, ltb, List, [], ◌∷◌, Option, Some, None, ◌⊎◌, inl, inr, refl, sym, ap, ◌∙◌, ⊎_elim, ℤ, pos, neg_ℤ, zero, suc, arith}
use Rattle.std.proofs.lemmas.Bool.Decides.{nat_tests}
use Rattle.doc_tree.specs.Doc.{null, int}
use Rattle.path_grammar.specs.Syntax.{Literal, json}
use Rattle.path_grammar.specs.Profile.{literal_left_out, is_64_bit}
use Rattle.path_grammar.specs.Kept.{literal_kept}
use Rattle.path_grammar.specs.Characters.{Text, is_digit, is_nonzero_digit}
use Rattle.path_grammar.specs.Numbers.{number_of}
use Rattle.path_grammar.specs.Reading.{◌>>=◌, on, after_character, after_e, read_run, read_digits, read_fraction_digits, read_fraction, read_natural, read_exponent, read_positive, read_magnitude, read_signed, read_number}
use Rattle.path_words.specs.CappedNumbers.{IsCapped, passed, pass_fraction, pass_exponent, read_capped_digits, read_capped_positive, read_capped_magnitude, read_capped_signed, signed_of, number_within, kept_number, read_capped_number}
use Rattle.path_words.proofs.Capped.{capped_law}

digits_rest : (n : ℕ) (t : Text) → (read_digits n t).1 ≡ (read_run is_digit t).1
digits_rest n [] = refl
digits_rest n (c ∷ t) = go (is_digit c) (digits_rest (n * 10 + (c - 48)) t)
  where
    go : (b : Bool) → (read_digits (n * 10 + (c - 48)) t).1 ≡ (read_run is_digit t).1
        → (cond {A = ℕ × Text} b (read_digits (n * 10 + (c - 48)) t) (n, c ∷ t)).1 ≡ (cond {A = List ℕ × Text} b (c ∷ (read_run is_digit t).0, (read_run is_digit t).1) ([], c ∷ t)).1
    go true more = more
    go false more = refl

abbrev has : List ℕ → Bool
has [] = false
has (c ∷ t) = true

abbrev is_there : Option ℤ → Bool
is_there None = false
is_there (Some z) = true

abbrev of_fraction : List ℕ × Text → Option (Bool × Text)
of_fraction f = Some (has f.0, f.1)

abbrev of_exponent : Option ℤ × Text → Option (Bool × Text)
of_exponent z = Some (is_there z.0, z.1)

abbrev with_power : (ℕ → ℤ) → ℕ × Text → Option (Option ℤ × Text)
with_power make x = Some (Some (make x.0), x.1)

abbrev powered : (ℕ → ℤ) → Text → Option (Option ℤ × Text)
powered make u = read_natural u >>= with_power make

fraction_law : (t : Text) → pass_fraction t ≡ (read_fraction t >>= of_fraction)
unfolding pass_fraction read_fraction
fraction_law t = go (after_character 46 t)
  where
    one : (r : Text) → passed r ≡ (read_fraction_digits r >>= of_fraction)
    one [] = refl
    one (c ∷ r) = step (is_digit c)
      where
        step : (b : Bool) → (cond {A = Option Text} b (Some (read_run is_digit r).1) None >>= λ u. Some (true, u)) ≡ (cond {A = Option (List ℕ × Text)} b (Some (c ∷ (read_run is_digit r).0, (read_run is_digit r).1)) None >>= of_fraction)
        step true = refl
        step false = refl

    go : (o : Option Text) → on o passed (Some (false, t)) ≡ (on {B = Option (List ℕ × Text)} o read_fraction_digits (Some ([], t)) >>= of_fraction)
    go None = refl
    go (Some r) = one r

exponent_law : (t : Text) → pass_exponent t ≡ (read_exponent t >>= of_exponent)
unfolding pass_exponent read_exponent
exponent_law t = go (after_e t)
  where
    one : (make : ℕ → ℤ) (r : Text) → passed r ≡ (powered make r >>= of_exponent)
    one make [] = refl
    one make (c ∷ r) = step (is_digit c)
      where
        step : (b : Bool) → (cond {A = Option Text} b (Some (read_run is_digit r).1) None >>= λ u. Some (true, u)) ≡ ((cond {A = Option (ℕ × Text)} b (Some (read_digits (c - 48) r)) None >>= with_power make) >>= of_exponent)
        step true = ap (λ (u : Text). Some (true, u)) (sym (digits_rest (c - 48) r))
        step false = refl

    minus : (r : Text) (o : Option Text) → on o passed (passed r) ≡ (on {B = Option (Option ℤ × Text)} o (powered (λ n. neg_ℤ (pos n))) (powered (λ n. pos n) r) >>= of_exponent)
    minus r None = one (λ n. pos n) r
    minus r (Some u) = one (λ n. neg_ℤ (pos n)) u

    plus : (r : Text) (o : Option Text) → on o passed (on (after_character 45 r) passed (passed r)) ≡ (on {B = Option (Option ℤ × Text)} o (powered (λ n. pos n)) (on {B = Option (Option ℤ × Text)} (after_character 45 r) (powered (λ n. neg_ℤ (pos n))) (powered (λ n. pos n) r)) >>= of_exponent)
    plus r None = minus r (after_character 45 r)
    plus r (Some u) = one (λ n. pos n) u

    go : (o : Option Text) → on o (λ r. on (after_character 43 r) passed (on (after_character 45 r) passed (passed r))) (Some (false, t))
        ≡ (on {B = Option (Option ℤ × Text)} o (λ r. on {B = Option (Option ℤ × Text)} (after_character 43 r) (powered (λ n. pos n)) (on {B = Option (Option ℤ × Text)} (after_character 45 r) (powered (λ n. neg_ℤ (pos n))) (powered (λ n. pos n) r))) (Some (None, t)) >>= of_exponent)
    go None = refl
    go (Some r) = plus r (after_character 43 r)

positive_law : (t : Text) → (read_positive t ≡ None) × (read_capped_positive t ≡ None) ⊎ ((m n : ℕ) × (r : Text) × (read_positive t ≡ Some (m, r)) × (read_capped_positive t ≡ Some (n, r)) × IsCapped n m)
positive_law [] = inl (refl, refl)
positive_law (c ∷ t) = go (is_nonzero_digit c)
  where
    law : IsCapped (read_capped_digits (c - 48) t).0 (read_digits (c - 48) t).0 × ((read_capped_digits (c - 48) t).1 ≡ (read_digits (c - 48) t).1)
    law = capped_law (c - 48) (c - 48) t (inl refl)

    go : (b : Bool) → (cond b (Some (read_digits (c - 48) t)) None ≡ None) × (cond b (Some (read_capped_digits (c - 48) t)) None ≡ None)
        ⊎ ((m n : ℕ) × (r : Text) × (cond b (Some (read_digits (c - 48) t)) None ≡ Some (m, r)) × (cond b (Some (read_capped_digits (c - 48) t)) None ≡ Some (n, r)) × IsCapped n m)
    go false = inl (refl, refl)
    go true = inr ((read_digits (c - 48) t).0, (read_capped_digits (c - 48) t).0, (read_digits (c - 48) t).1, refl, ap (λ (r : Text). Some ((read_capped_digits (c - 48) t).0, r)) law.1, law.0)

abbrev Both : Option (ℕ × Text) → Option (ℕ × Text) → Type 0
Both o p = ((o ≡ None) × (p ≡ None)) ⊎ ((m n : ℕ) × (r : Text) × (o ≡ Some (m, r)) × (p ≡ Some (n, r)) × IsCapped n m)

magnitude_law : (t : Text) → Both (read_magnitude t) (read_capped_magnitude t)
unfolding read_magnitude read_capped_magnitude
magnitude_law t = go (after_character 48 t)
  where
    go : (o : Option Text) → Both (on o (λ r. Some (0, r)) (read_positive t)) (on o (λ r. Some (0, r)) (read_capped_positive t))
    go None = positive_law t
    go (Some r) = inr (0, 0, r, refl, refl, inl refl)

abbrev Signs : Option (Bool × ℕ × Text) → Option (Bool × ℕ × Text) → Type 0
Signs o p = ((o ≡ None) × (p ≡ None)) ⊎ ((s : Bool) × (m n : ℕ) × (r : Text) × (o ≡ Some (s, m, r)) × (p ≡ Some (s, n, r)) × IsCapped n m)

abbrev signs : Bool → ℕ × Text → Option (Bool × ℕ × Text)
signs s x = Some (s, x.0, x.1)

signed_law : (t : Text) → Signs (read_signed t) (read_capped_signed t)
unfolding read_signed read_capped_signed
signed_law t = go (after_character 45 t)
  where
    with : (s : Bool) (o p : Option (ℕ × Text)) → Both o p → Signs (o >>= signs s) (p >>= signs s)
    with s o p b =
        ⊎_elim
        (λ e. inl (rw e.0 refl, rw e.1 refl))
        (λ e. inr (s, e.0, e.1, e.2, rw e.3 refl, rw e.4 refl, e.5))
        b

    go : (o : Option Text) → Signs (on {B = Option (Bool × ℕ × Text)} o (λ r. read_magnitude r >>= signs true) (read_magnitude t >>= signs false))
        (on {B = Option (Bool × ℕ × Text)} o (λ r. read_capped_magnitude r >>= signs true) (read_capped_magnitude t >>= signs false))
    go None = with false (read_magnitude t) (read_capped_magnitude t) (magnitude_law t)
    go (Some r) = with true (read_magnitude r) (read_capped_magnitude r) (magnitude_law r)

not_below : (n : ℕ) → 2 ^ 63 ≤ n → ltb n (2 ^ 63) ≡ false
not_below n le = grind (arith, nat_tests)

too_big : (s : Bool) (n : ℕ) → 2 ^ 64 ≤ n → is_64_bit (signed_of s n) ≡ false
too_big false n le = not_below n (omega arith)
too_big true zero le = absurd (omega arith)
too_big true (suc k) le = not_below k (omega arith)

abbrev literal_of : ℤ → Literal × Bool
literal_of z = (literal_kept (json (int z)), literal_left_out (json (int z)))

whole_law : (z : ℤ) → kept_number (cond (is_64_bit z) (Some z) None) ≡ literal_of z
whole_law z = go (is_64_bit z)
  where
    go : (b : Bool) → kept_number (cond b (Some z) None) ≡ (cond (not b) (json null) (json (int z)), not b)
    go true = refl
    go false = refl

value_law : (s : Bool) (m n : ℕ) (f : List ℕ) (z : Option ℤ) → IsCapped n m
    → kept_number (number_within (has f || is_there z) s n) ≡ (literal_kept (number_of s m f z), literal_left_out (number_of s m f z))
value_law s m n (c ∷ f) z h = refl
value_law s m n [] (Some z) h = refl
value_law s m n [] None h =
    whole_law (signed_of s n) ∙
    ⊎_elim
    (λ e. ap (λ (x : ℕ). literal_of (signed_of s x)) e)
    (λ big. let a = too_big s n big.0 in let b = too_big s m big.1 in rw (a, b) refl)
    h

abbrev capped_end : Bool → Bool → ℕ → Bool × Text → Option (Literal × Bool × Text)
capped_end more s n c = Some ((kept_number (number_within (more || c.0) s n)).0, (kept_number (number_within (more || c.0) s n)).1, c.1)

abbrev full_end : Bool → ℕ → List ℕ → Option ℤ × Text → Option (Literal × Bool × Text)
full_end s m f c = Some (literal_kept (number_of s m f c.0), literal_left_out (number_of s m f c.0), c.1)

abbrev capped_rest : Bool → ℕ → Bool × Text → Option (Literal × Bool × Text)
capped_rest s n b = pass_exponent b.1 >>= capped_end b.0 s n

abbrev full_rest : Bool → ℕ → List ℕ × Text → Option (Literal × Bool × Text)
full_rest s m b = read_exponent b.1 >>= full_end s m b.0

last : (s : Bool) (m n : ℕ) (f : List ℕ) → IsCapped n m → (o : Option (Option ℤ × Text)) → ((o >>= of_exponent) >>= capped_end (has f) s n) ≡ (o >>= full_end s m f)
last s m n f h None = refl
last s m n f h (Some c) = ap (λ (x : Literal × Bool). Some (x.0, x.1, c.1)) (value_law s m n f c.0 h)

next : (s : Bool) (m n : ℕ) → IsCapped n m → (o : Option (List ℕ × Text)) → ((o >>= of_fraction) >>= capped_rest s n) ≡ (o >>= full_rest s m)
next s m n h None = refl
next s m n h (Some f) = rw (exponent_law f.1) (last s m n f.0 h (read_exponent f.1))

after : (s : Bool) (m n : ℕ) (r : Text) → IsCapped n m → (pass_fraction r >>= capped_rest s n) ≡ (read_fraction r >>= full_rest s m)
after s m n r h = rw (fraction_law r) (next s m n h (read_fraction r))

pub number_law : (t : Text) → read_capped_number t ≡ read_number t
unfolding read_capped_number read_number
number_law t =
    ⊎_elim
    (λ e. rw (e.0, e.1) refl)
    (λ e. rw (e.4, e.5) (after e.0 e.1 e.2 e.3 e.6))
    (signed_law t)
