-- Walks in a graph, which is given by the list of places that each place leads to.
use Rattle.std.specs.Prelude.{◌≡◌, ℕ, zero, suc, max, List, [], ◌∷◌}

-- one of the elements
pub data In {A : Type 0} (x : A) : List A → Type 0 where
  first : {xs : List A} → In x (x ∷ xs)
  later : {y : A} {xs : List A} → In x xs → In x (y ∷ xs)

-- a walk of n edges
abbrev pub Walk : {A : Type 0} → (A → List A) → A → A → ℕ → Type 0
Walk next a b zero = a ≡ b
Walk next a b (suc n) = (c : _) × In c (next a) × Walk next c b n

-- some walk of one edge or more, from one of the places, comes back to where it began
abbrev pub IsLooped : {A : Type 0} → (A → List A) → List A → Type 0
IsLooped next places = (a : _) × In a places × (n : ℕ) × Walk next a a (suc n)

-- one more than the most that f gives, 0 without elements
abbrev pub over : {A : Type 0} → (A → ℕ) → List A → ℕ
over f [] = 0
over f (q ∷ qs) = max (suc (f q)) (over f qs)

-- the longest walk from a place, up to k edges
unfoldable pub depth : {A : Type 0} → (A → List A) → ℕ → A → ℕ
depth next zero a = 0
depth next (suc k) a = over (depth next k) (next a)
