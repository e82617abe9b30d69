-- More pigeons than holes.
use Rattle.std.proofs.Common.{◌≡◌, ◌≢◌, ℕ, zero, suc, ◌-◌, ◌<◌, ◌⊎◌, inl, inr, cond, ltb, sym, subst, ⊎_elim, arith}
use Rattle.std.proofs.lemmas.Bool.Decides.{nat_tests}

-- some index below m has the value, or none
find : (f : ℕ → ℕ) (v m : ℕ) → ((i : ℕ) × (i < m) × (f i ≡ v)) ⊎ ((i : ℕ) → i < m → f i ≢ v)
find f v zero = inr (λ i lt. absurd (omega arith))
find f v (suc m) = ⊎_elim (λ h. inl (h.0, omega (arith, h.1), h.2)) (λ none. here none (same (f m) v)) (find f v m)
  where
    same : (a b : ℕ) → (a ≡ b) ⊎ (a ≢ b)
    same a b = grind arith

    here : ((i : ℕ) → i < m → f i ≢ v) → (f m ≡ v) ⊎ (f m ≢ v) → ((i : ℕ) × (i < suc m) × (f i ≡ v)) ⊎ ((i : ℕ) → i < suc m → f i ≢ v)
    here none (inl e) = inl (m, omega arith, e)
    here none (inr ne) = inr (λ i lt. ⊎_elim (λ (e : i ≡ m). subst (λ k. f k ≢ v) (sym e) ne) (λ other. none i (omega arith)) (same i m))

-- the numbers without v, drawn together
without : ℕ → ℕ → ℕ
without v a = cond (ltb a v) a (a - 1)

without-below : (v a n : ℕ) → a ≢ v → a < suc n → v < suc n → without v a < n
unfolding without
without-below v a n ne lt lt' = grind (arith, nat_tests)

without-same : (v a b : ℕ) → a ≢ v → b ≢ v → without v a ≡ without v b → a ≡ b
unfolding without
without-same v a b ne ne' e = grind (arith, nat_tests)

pub pigeons : (n : ℕ) (f : ℕ → ℕ) → ((i : ℕ) → i < suc n → f i < n) → (i : ℕ) × (j : ℕ) × (i < j) × (j < suc n) × (f i ≡ f j)
pigeons zero f h = absurd (omega (arith, h 0 (omega arith)))
pigeons (suc n) f h = ⊎_elim
    (λ w. (w.0, suc n, w.1, omega arith, w.2))
    (λ none.
    let v = f (suc n) in
    let p = pigeons n (λ i. without v (f i)) (λ i lt. without-below v (f i) n (none i lt) (h i (omega (arith, lt))) (h (suc n) (omega arith))) in
    (p.0, p.1, p.2, omega (arith, p.3), without-same v (f p.0) (f p.1) (none p.0 (omega (arith, p.2, p.3))) (none p.1 p.3) p.4))
    (find f (f (suc n)) (suc n))
