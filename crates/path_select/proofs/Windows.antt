-- What is taken of counted indexes between two bounds.
use Rattle.std.proofs.Common.{◌≡◌, ℕ, zero, suc, ◌+◌, ◌-◌, ◌<◌, ◌≤◌, Bool, true, false, cond, List, [], ◌∷◌, ◌++◌, reverse, filter, append-nil, refl, sym, ap, ◌∙◌, inl, inr, arith}
use Rattle.std.proofs.lemmas.Bool.Decides.{leb_tells}
use Rattle.std.proofs.lemmas.List.{reverse-append}
use Rattle.std.proofs.lemmas.List.Elements.{filter-append}
use Rattle.path_select.specs.Selectors.{counting}

pub counting-append : (a k m : ℕ) → counting a (k + m) ≡ counting a k ++ counting (a + k) m
counting-append a zero m = let e : a + 0 ≡ a = omega arith in let z : 0 + m ≡ m = omega arith in rw (e, z) refl
counting-append a (suc k) m = let e : suc a + k ≡ a + suc k = omega arith in let f : suc k + m ≡ suc (k + m) = omega arith in rw f (ap (λ r. a ∷ r) (counting-append (suc a) k m ∙ ap (λ b. counting (suc a) k ++ counting b m) e))

-- a test that fails everywhere takes nothing
pub takes_none : (p : ℕ → Bool) (a k : ℕ) → ((i : ℕ) → a ≤ i → i < a + k → p i ≡ false) → filter p (counting a k) ≡ []
takes_none p a zero none = refl
takes_none p a (suc k) none = rw (none a (omega arith) (omega arith)) (takes_none p (suc a) k (λ i low high. none i (omega (arith, low)) (omega (arith, high))))

-- tests that agree take the same
pub takes_same : (p q : ℕ → Bool) (a k : ℕ) → ((i : ℕ) → a ≤ i → i < a + k → p i ≡ q i) → filter p (counting a k) ≡ filter q (counting a k)
takes_same p q a zero same = refl
takes_same p q a (suc k) same =
    let rest = takes_same p q (suc a) k (λ i low high. same i (omega (arith, low)) (omega (arith, high))) in
    ap (λ b. cond b (a ∷ filter p (counting (suc a) k)) (filter p (counting (suc a) k))) (same a (omega arith) (omega arith))
    ∙ ap (λ r. cond (q a) (a ∷ r) r) rest

-- of n indexes those from l on and below u
pub window : (p q : ℕ → Bool) (l u n : ℕ) → u ≤ n → ((i : ℕ) → i < l → p i ≡ false) → ((i : ℕ) → u ≤ i → p i ≡ false) → ((i : ℕ) → l ≤ i → i < u → p i ≡ q i)
    → filter p (counting 0 n) ≡ filter q (counting l (u - l))
window p q l u n within low high same = elim (leb_tells l u) [
  | inl w ↦
      let whole : n ≡ l + ((u - l) + (n - u)) = omega (arith, within, w.1) in
      let start : 0 + l ≡ l = omega arith in
      let front = takes_none p 0 l (λ i _ h. low i (omega (arith, h))) in
      let middle = takes_same p q l (u - l) (λ i h k. same i h (omega (arith, k, w.1))) in
      let back = takes_none p (l + (u - l)) (n - u) (λ i h _. high i (omega (arith, h, w.1))) in
      ap (λ m. filter p (counting 0 m)) whole
      ∙ ap (filter p) (counting-append 0 l ((u - l) + (n - u)))
      ∙ ap (λ a. filter p (counting 0 l ++ counting a ((u - l) + (n - u)))) start
      ∙ filter-append p (counting 0 l) (counting l ((u - l) + (n - u)))
      ∙ ap (λ r. r ++ filter p (counting l ((u - l) + (n - u)))) front
      ∙ ap (filter p) (counting-append l (u - l) (n - u))
      ∙ filter-append p (counting l (u - l)) (counting (l + (u - l)) (n - u))
      ∙ ap (λ r. filter p (counting l (u - l)) ++ r) back
      ∙ append-nil _
      ∙ middle
  | inr w ↦
      let none : u - l ≡ 0 = omega (arith, w.1) in
      let all : (i : ℕ) → 0 ≤ i → i < 0 + n → p i ≡ false = (λ i _ _. elim (leb_tells u i) [
        | inl h ↦ high i h.1
        | inr h ↦ low i (omega (arith, h.1, w.1))
      ]) in
      takes_none p 0 n all ∙ sym (ap (λ m. filter q (counting l m)) none)
]

pub filter-reverse : {X : Type 0} (p : X → Bool) (xs : List X) → filter p (reverse xs) ≡ reverse (filter p xs)
filter-reverse p [] = refl
filter-reverse p (x ∷ xs) =
    ap (filter p) (reverse-append (x ∷ []) xs) ∙ filter-append p (reverse xs) (x ∷ []) ∙ ap (λ ys. ys ++ filter p (x ∷ [])) (filter-reverse p xs) ∙ go (p x)
  where
    go : (b : Bool) → reverse (filter p xs) ++ cond b (x ∷ []) [] ≡ reverse (cond b (x ∷ filter p xs) (filter p xs))
    go true = sym (reverse-append (x ∷ []) (filter p xs))
    go false = append-nil _
