-- The elements of a mapped list.
use Rattle.std.proofs.Common.{◌≡◌, ◌⊎◌, inl, inr, ⊎_elim, List, [], ◌∷◌, map, refl}
use Rattle.schema_graph.specs.Walks.{In, first, later}
use Rattle.schema_graph.proofs.Among.{none_in}

pub In-map : {A B : Type 0} (f : A → B) (x : A) (xs : List A) → In x xs → In (f x) (map f xs)
In-map f x [] i = none_in x i
In-map f x (_ ∷ xs) first = first
In-map f x (y ∷ xs) (later i) = later (In-map f x xs i)

here_or_later : {A : Type 0} (y z : A) (zs : List A) → In y (z ∷ zs) → (z ≡ y) ⊎ In y zs
here_or_later y _ zs first = inl refl
here_or_later y z zs (later i) = inr i

pub of_map : {A B : Type 0} (f : A → B) (y : B) (xs : List A) → In y (map f xs) → (x : A) × In x xs × (f x ≡ y)
of_map f y [] i = none_in y i
of_map f y (x ∷ xs) i = ⊎_elim
    (λ e. (x, first, e))
    (λ j. let r = of_map f y xs j in (r.0, later r.1, r.2))
    (here_or_later y (f x) (map f xs) i)
