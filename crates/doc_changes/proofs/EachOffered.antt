-- Documents, one after another.
use Rattle.std.proofs.Common.{◌≡◌, ℕ, zero, suc, ◌≤◌, List, [], ◌∷◌, Some, sym, subst, length, drop, slice_get, arith, add-one, ◌+◌}
use Rattle.std.specs.List.{AllByRecursion}
use Rattle.doc_changes.specs.State.{Document}

-- what holds of a document and of those behind it
more : (P : Document → Type 0) (ds : List Document) (i : ℕ) (d : Document) → slice_get ds i ≡ Some d → P d → AllByRecursion P (drop (suc i) ds) → AllByRecursion P (drop i ds)
more P [] i d at h rest = absurd (cc at)
more P (x ∷ xs) zero d at h rest = let same : x ≡ d = cc in (subst P (sym same) h, rest)
more P (x ∷ xs) (suc i) d at h rest = more P xs i d at h rest

pub all_more : (P : Document → Type 0) (ds : List Document) (i : ℕ) (d : Document) → slice_get ds i ≡ Some d → P d → AllByRecursion P (drop (i + 1) ds) → AllByRecursion P (drop i ds)
all_more P ds i d at h rest = more P ds i d at h (subst (λ (n : ℕ). AllByRecursion P (drop n ds)) (add-one i) rest)

-- behind the last there is none
pub all_end : (P : Document → Type 0) (ds : List Document) (i : ℕ) → length ds ≤ i → AllByRecursion P (drop i ds)
all_end P [] zero low = tt
all_end P [] (suc i) low = tt
all_end P (x ∷ xs) zero low = absurd (omega (arith, low))
all_end P (x ∷ xs) (suc i) low = all_end P xs i (omega (arith, low))

pub all_at : (P : Document → Type 0) (ds : List Document) (i : ℕ) (d : Document) → slice_get ds i ≡ Some d → AllByRecursion P ds → P d
all_at P [] i d at all = absurd (cc at)
all_at P (x ∷ xs) zero d at all = let same : x ≡ d = cc in subst P same all.0
all_at P (x ∷ xs) (suc i) d at all = all_at P xs i d at all.1
