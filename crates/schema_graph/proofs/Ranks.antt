-- Where no walk comes back, the longest walk from a place falls along each edge.
use Rattle.std.proofs.Common.{◌≡◌, ◌≢◌, ℕ, zero, suc, ◌+◌, ◌-◌, ◌<◌, ◌≤◌, ◌⊎◌, Bool, true, false, cond, List, [], ◌∷◌, length, refl, sym, ap, subst, ◌∙◌, ⊎_elim, arith, zero-add}
use Rattle.std.specs.Bool.{Decides}
use Rattle.schema_graph.specs.Walks.{In, first, later, Walk, IsLooped, over, depth}
use Rattle.schema_graph.proofs.Among.{none_in}
use Rattle.schema_graph.proofs.Pigeons.{pigeons}

pub over_edge : {A : Type 0} (f : A → ℕ) (row : List A) (p : A) → In p row → suc (f p) ≤ over f row
over_edge f [] p i = none_in p i
over_edge f (q ∷ qs) _ first = omega arith
over_edge f (q ∷ qs) p (later i) = omega (arith, over_edge f qs p i)

by_edge : {A : Type 0} (f : A → ℕ) (row : List A) (d : ℕ) → over f row ≡ suc d → (p : A) × In p row × (f p ≡ d)
by_edge f [] d e = absurd (omega arith)
by_edge f (q ∷ qs) d e = ⊎_elim (λ (h : f q ≡ d). (q, first, h)) (λ ne. let r = by_edge f qs d (omega arith) in (r.0, later r.1, r.2)) (same (f q) d)
  where
    same : (a b : ℕ) → (a ≡ b) ⊎ (a ≢ b)
    same a b = grind arith

same_over : {A : Type 0} (f h : A → ℕ) (row : List A) (n : ℕ) → over h row ≤ suc n → ((q : A) → h q ≤ n → f q ≡ h q) → over f row ≡ over h row
same_over f h [] n le same = refl
same_over f h (q ∷ qs) n le same = let e = same q (omega arith) in let e' = same_over f h qs n (omega arith) same in rw (e, e') refl

-- a walk that comes back, of at most as many edges as there are places
abbrev pub ShortLoop : {A : Type 0} → (A → List A) → List A → Type 0
ShortLoop next places = (a : _) × In a places × (n : ℕ) × (n < length places) × Walk next a a (suc n)

pub any_length : {A : Type 0} (next : A → List A) (places : List A) → ShortLoop next places → IsLooped next places
any_length next places l = (l.0, l.1, l.2, l.4)

-- the index of the first that is the same
index_of : {A : Type 0} → (A → A → Bool) → A → List A → ℕ
index_of same x [] = 0
index_of same x (y ∷ ys) = cond (same x y) 0 (suc (index_of same x ys))

module _ {A : Type 0} (same : A → A → Bool) (decides : (a b : A) → Decides (same a b) (a ≡ b)) where
  below_by : (x y : A) (ys : List A) (b : Bool) (n : ℕ) → same x y ≡ b → (In x ys → n < length ys) → In x (y ∷ ys) → cond b 0 (suc n) < suc (length ys)
  below_by x y ys true n e h i = omega arith
  below_by x _ ys false n e h first = let s = (decides x x).1 refl in absurd (cc)
  below_by x y ys false n e h (later i) = omega (arith, h i)

  index_below : (x : A) (xs : List A) → In x xs → index_of same x xs < length xs
  unfolding index_of
  index_below x [] i = none_in x i
  index_below x (y ∷ ys) i = below_by x y ys (same x y) (index_of same x ys) refl (index_below x ys) i

  in_tail : (x y : A) (ys : List A) → same x y ≡ false → In x (y ∷ ys) → In x ys
  in_tail x _ ys e first = let s = (decides x x).1 refl in absurd (cc)
  in_tail x y ys e (later i) = i

  same_by : (x y z : A) (zs : List A) (a b : Bool) (n m : ℕ) → same x z ≡ a → same y z ≡ b → cond a 0 (suc n) ≡ cond b 0 (suc m) → (n ≡ m → In x zs → In y zs → x ≡ y) → In x (z ∷ zs) → In y (z ∷ zs) → x ≡ y
  same_by x y z zs true true n m ea eb e h i j = (decides x z).0 ea ∙ sym ((decides y z).0 eb)
  same_by x y z zs true false n m ea eb e h i j = absurd (omega (arith, e))
  same_by x y z zs false true n m ea eb e h i j = absurd (omega (arith, e))
  same_by x y z zs false false n m ea eb e h i j = h (omega (arith, e)) (in_tail x z zs ea i) (in_tail y z zs eb j)

  index_same : (x y : A) (xs : List A) → In x xs → In y xs → index_of same x xs ≡ index_of same y xs → x ≡ y
  unfolding index_of
  index_same x y [] i j e = none_in x i
  index_same x y (z ∷ zs) i j e = same_by x y z zs (same x z) (same y z) _ _ refl refl e (λ f p q. index_same x y zs p q f) i j

module _ {A : Type 0} (next : A → List A) where
  pub node_at : (a b : A) (n : ℕ) → Walk next a b n → ℕ → A
  node_at a b zero w i = a
  node_at a b (suc n) w zero = a
  node_at a b (suc n) w (suc i) = node_at w.0 b n w.2 i

  node_at-zero : (a b : A) (n : ℕ) (w : Walk next a b n) → node_at a b n w 0 ≡ a
  unfolding node_at
  node_at-zero a b zero w = refl
  node_at-zero a b (suc n) w = refl

  pub front : (a b : A) (n i : ℕ) (w : Walk next a b n) → i ≤ n → Walk next a (node_at a b n w i) i
  unfolding node_at
  front a b zero zero w le = refl
  front a b zero (suc i) w le = absurd (omega arith)
  front a b (suc n) zero w le = refl
  front a b (suc n) (suc i) w le = (w.0, w.1, front w.0 b n i w.2 (omega arith))

  between : (a b : A) (n i k : ℕ) (w : Walk next a b n) → i + k ≤ n → Walk next (node_at a b n w i) (node_at a b n w (i + k)) k
  unfolding node_at
  between a b n zero k w le = rw (zero-add, node_at-zero a b n w) (front a b n k w (omega arith))
  between a b zero (suc i) k w le = absurd (omega arith)
  between a b (suc n) (suc i) k w le = let e : suc i + k ≡ suc (i + k) = omega arith in rw e (between w.0 b n i k w.2 (omega arith))

  pub walk_of : (k : ℕ) (q : A) (d : ℕ) → depth next k q ≡ d → (b : A) × Walk next q b d
  unfolding depth
  walk_of zero q d e = (q, subst (λ n. Walk next q q n) e refl)
  walk_of (suc k) q zero e = (q, refl)
  walk_of (suc k) q (suc d) e =
      let r = by_edge (depth next k) (next q) d e in
      let w = walk_of k r.0 d r.2 in
      (w.0, (r.0, r.1, w.1))

  pub same_depth : (k : ℕ) (q : A) → depth next (suc k) q ≤ k → depth next k q ≡ depth next (suc k) q
  unfolding depth
  same_depth zero q le = omega arith
  same_depth (suc k) q le = same_over (depth next k) (depth next (suc k)) (next q) k le (λ p l. same_depth k p l)

  module _ (same : A → A → Bool) (decides : (a b : A) → Decides (same a b) (a ≡ b)) (places : List A) (closed : (a b : A) → In a places → In b (next a) → In b places) where
    node_in : (a b : A) (n i : ℕ) (w : Walk next a b n) → In a places → In (node_at a b n w i) places
    unfolding node_at
    node_in a b zero i w h = h
    node_in a b (suc n) zero w h = h
    node_in a b (suc n) (suc i) w h = node_in w.0 b n i w.2 (closed a w.0 h w.1)

    -- a walk of as many edges as there are places comes back somewhere within them
    pub long_walk : (a b : A) → In a places → Walk next a b (length places) → ShortLoop next places
    long_walk a b h w =
        let n = length places in
        let at : ℕ → A = node_at a b n w in
        let p = pigeons n (λ i. index_of same (at i) places) (λ i _. index_below same decides (at i) places (node_in a b n i w h)) in
        let m = p.1 - suc p.0 in
        let e : p.0 + suc m ≡ p.1 = omega (arith, p.2) in
        let part = between a b n p.0 (suc m) w (omega (arith, p.3, e)) in
        let back : at p.0 ≡ at p.1 = index_same same decides (at p.0) (at p.1) places (node_in a b n p.0 w h) (node_in a b n p.1 w h) p.4 in
        (at p.0, node_in a b n p.0 w h, m, omega (arith, e, p.3), subst (λ x. Walk next (at p.0) x (suc m)) (ap at e ∙ sym back) part)

    pub short : (k : ℕ) (q : A) → (IsLooped next places → ⊥) → In q places → depth next k q < length places
    short k q none h = ⊎_elim (λ (lt : depth next k q < length places). lt) (λ (le : length places ≤ depth next k q).
        let w = walk_of k q (depth next k q) refl in
        absurd (none (any_length next places (long_walk q (node_at q w.0 (depth next k q) w.1 (length places)) h (front q w.0 (depth next k q) (length places) w.1 le))))) (cases (depth next k q) (length places))
      where
        cases : (a b : ℕ) → (a < b) ⊎ (b ≤ a)
        cases a b = grind arith

    -- so the longest walk falls along each edge
    pub rank_falls : (q p : A) → (IsLooped next places → ⊥) → In q places → In p (next q) → depth next (length places) p < depth next (length places) q
    unfolding depth
    rank_falls q p none h i =
        let n = length places in
        let bound = short (suc n) q none h in
        let same = same_depth n q (omega (arith, bound)) in
        let more : suc (depth next n p) ≤ depth next (suc n) q = over_edge (depth next n) (next q) p i in
        omega (arith, same, more)
