-- Digits that are read up to 2^64 alone.
use Rattle.std.proofs.Common.{◌≡◌, ℕ, ◌+◌, ◌*◌, ◌-◌, ◌^◌, Bool, true, false, cond, ltb, [], ◌∷◌, inl, inr, refl, ⊎_elim, arith}
use Rattle.std.proofs.lemmas.Bool.{ltb-true, ltb-false}
use Rattle.path_grammar.specs.Characters.{Text, is_digit}
use Rattle.path_grammar.specs.Reading.{read_digits}
use Rattle.path_words.specs.CappedNumbers.{IsCapped, read_capped_digits}

next_capped : (n m d : ℕ) (b : Bool) → ltb n (2 ^ 64) ≡ b → IsCapped n m → IsCapped (cond b (n * 10 + d) n) (m * 10 + d)
next_capped n m d true e h = ⊎_elim (λ (is : n ≡ m). inl (omega arith)) (λ big. let lt = ltb-true n (2 ^ 64) e in inr (omega arith, omega arith)) h
next_capped n m d false e h = let le = ltb-false n (2 ^ 64) e in ⊎_elim (λ (is : n ≡ m). inr (le, omega arith)) (λ big. inr (le, omega (arith, big.1))) h

pub capped_law : (n m : ℕ) (t : Text) → IsCapped n m → IsCapped (read_capped_digits n t).0 (read_digits m t).0 × ((read_capped_digits n t).1 ≡ (read_digits m t).1)
capped_law n m [] h = (h, refl)
capped_law n m (c ∷ t) h = go (is_digit c) (capped_law (cond (ltb n (2 ^ 64)) (n * 10 + (c - 48)) n) (m * 10 + (c - 48)) t (next_capped n m (c - 48) (ltb n (2 ^ 64)) refl h))
  where
    next : ℕ
    next = cond (ltb n (2 ^ 64)) (n * 10 + (c - 48)) n

    go : (b : Bool) → IsCapped (read_capped_digits next t).0 (read_digits (m * 10 + (c - 48)) t).0 × ((read_capped_digits next t).1 ≡ (read_digits (m * 10 + (c - 48)) t).1)
        → IsCapped (cond {A = ℕ × Text} b (read_capped_digits next t) (n, c ∷ t)).0 (cond {A = ℕ × Text} b (read_digits (m * 10 + (c - 48)) t) (m, c ∷ t)).0
        × ((cond {A = ℕ × Text} b (read_capped_digits next t) (n, c ∷ t)).1 ≡ (cond {A = ℕ × Text} b (read_digits (m * 10 + (c - 48)) t) (m, c ∷ t)).1)
    go true more = more
    go false more = (h, refl)
