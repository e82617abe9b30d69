-- What is among the elements of a list.
use Rattle.std.proofs.Common.{◌⊎◌, inl, inr, ⊎_elim, List, [], ◌∷◌, ◌++◌}
use Rattle.schema_graph.specs.Walks.{In, first, later}

pub In-left : {A : Type 0} (x : A) (xs ys : List A) → In x xs → In x (xs ++ ys)
In-left x [] ys i = elim i [ ]
In-left x (y ∷ xs) ys first = first
In-left x (y ∷ xs) ys (later i) = later (In-left x xs ys i)

pub In-right : {A : Type 0} (x : A) (xs ys : List A) → In x ys → In x (xs ++ ys)
In-right x [] ys i = i
In-right x (y ∷ xs) ys i = later (In-right x xs ys i)

pub In-parts : {A : Type 0} (x : A) (xs ys : List A) → In x (xs ++ ys) → In x xs ⊎ In x ys
In-parts x [] ys i = inr i
In-parts x (y ∷ xs) ys first = inl first
In-parts x (y ∷ xs) ys (later i) = ⊎_elim (λ h. inl (later h)) (λ h. inr h) (In-parts x xs ys i)

pub none_in : {A : Type 0} {P : Type 0} (x : A) → In x [] → P
none_in x i = elim i [ ]
