-- The places of a numbered graph.
use Rattle.std.proofs.Common.{eqb, ◌≡◌, ◌≢◌, ℕ, zero, suc, ◌+◌, ◌<◌, ◌≤◌, ◌⊎◌, List, [], ◌∷◌, length, get_or, Vec, Global, refl, sym, ap, subst, ⊎_elim, arith}
use Rattle.std.specs.Bool.{Decides}
use Rattle.std.proofs.lemmas.Bool.Decides.{Decides-eqb}
use Rattle.schema_graph.specs.Walks.{In, first, later}
use Rattle.schema_graph.specs.Numbered.{Graph, row_at, numbers_from, numbers_of, IsClosed}
use Rattle.schema_graph.proofs.Among.{none_in}

pub same_or_not : (a b : ℕ) → (a ≡ b) ⊎ (a ≢ b)
same_or_not a b = grind arith

in_numbers_from : (a n x : ℕ) → a ≤ x → x < a + n → In x (numbers_from a n)
in_numbers_from a zero x le lt = absurd (omega arith)
in_numbers_from a (suc n) x le lt = ⊎_elim
    (λ (e : x ≡ a). subst (λ y. In y (numbers_from a (suc n))) (sym e) first)
    (λ ne. later (in_numbers_from (suc a) n x (omega arith) (omega arith)))
    (same_or_not x a)

below_numbers_from : (a n x : ℕ) → In x (numbers_from a n) → x < a + n
below_numbers_from a zero x i = none_in x i
below_numbers_from a (suc n) _ first = omega arith
below_numbers_from a (suc n) x (later i) = omega (arith, below_numbers_from (suc a) n x i)

pub in_numbers : (g : Graph) (x : ℕ) → x < length g → In x (numbers_of g)
in_numbers g x lt = in_numbers_from 0 (length g) x (omega arith) (omega arith)

pub below_numbers : (g : Graph) (x : ℕ) → In x (numbers_of g) → x < length g
below_numbers g x i = omega (arith, below_numbers_from 0 (length g) x i)

numbers_from_length : (a n : ℕ) → length (numbers_from a n) ≡ n
numbers_from_length a zero = refl
numbers_from_length a (suc n) = ap suc (numbers_from_length (suc a) n)

pub numbers_length : (g : Graph) → length (numbers_of g) ≡ length g
numbers_length g = numbers_from_length 0 (length g)

pub closed_numbers : (g : Graph) → IsClosed g → (a b : ℕ) → In a (numbers_of g) → In b (row_at g a) → In b (numbers_of g)
closed_numbers g h a b i j = in_numbers g b (h a b j)

pub row_is : (g : Graph) (v : ℕ) (d : Vec ℕ Global) → v < length g → row_at g v ≡ (get_or g v d).items
row_is [] v d lt = absurd (omega arith)
row_is (r ∷ g) zero d lt = refl
row_is (r ∷ g) (suc v) d lt = row_is g v d (omega arith)

-- only a place leads somewhere
pub leads_within : (g : Graph) (a b : ℕ) → In b (row_at g a) → a < length g
leads_within [] a b i = none_in b i
leads_within (r ∷ g) zero b i = omega arith
leads_within (r ∷ g) (suc a) b i = let lt = leads_within g a b i in omega arith

-- the element at an index
pub at_index : (row : List ℕ) (k : ℕ) → k < length row → In (get_or row k 0) row
at_index [] k lt = absurd (omega arith)
at_index (b ∷ row) zero lt = first
at_index (b ∷ row) (suc k) lt = later (at_index row k (omega arith))

-- and each element is at some
pub index_of : (row : List ℕ) (b : ℕ) → In b row → (k : ℕ) × (k < length row) × (get_or row k 0 ≡ b)
index_of [] b i = none_in b i
index_of (_ ∷ row) b first = (0, omega arith, refl)
index_of (c ∷ row) b (later i) = let r = index_of row b i in (suc r.0, omega (arith, r.1), r.2)

pub same_number : (a b : ℕ) → Decides (eqb a b) (a ≡ b)
same_number = Decides-eqb
