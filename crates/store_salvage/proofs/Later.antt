-- What holds of all from a place on.
use Rattle.std.proofs.Common.{◌+◌, ℕ, zero, suc, List, [], ◌∷◌, drop, add-one, subst, sym}
use Rattle.std.specs.List.{AllByRecursion}

on : {T : Type 0} (P : T → Type 0) (xs : List T) (i : ℕ) → AllByRecursion P (drop i xs) → AllByRecursion P (drop (suc i) xs)
on P [] i all = tt
on P (x ∷ xs) zero all = all.1
on P (x ∷ xs) (suc i) all = on P xs i all

-- it holds of all behind that place
pub all_later : {T : Type 0} (P : T → Type 0) (xs : List T) (i : ℕ) → AllByRecursion P (drop i xs) → AllByRecursion P (drop (i + 1) xs)
all_later P xs i all = subst (λ (n : ℕ). AllByRecursion P (drop n xs)) (sym (add-one i)) (on P xs i all)
