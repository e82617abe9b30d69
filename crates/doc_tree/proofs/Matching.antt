-- From a vector's mask to bytes that are the same.
use Rattle.std.proofs.Common.{◌≡◌, ℕ, ◌+◌, ◌-◌, ◌*◌, ◌%◌, ◌^◌, ◌≤◌, Bool, true, false, not, cond, eqb, ◌==◌, List, [], ◌∷◌, map, length, get_or, refl, sym, ap, ap₂, ◌∙◌, arith}
use Rattle.std.proofs.lemmas.Bool.{eqb-true}
use Rattle.std.proofs.lemmas.List.{ext_get_or}
use Rattle.std.proofs.lemmas.Simd.{length-chunk, length-zip2, get_or-chunk, tops_compared, mask_l-mod}
use Rattle.std.specs.Bool.{OnTrue}
use lib.Lanes.{chunk, mask_l, zip2, top}
use mir.Syntax.{w8}
use Rattle.doc_tree.specs.Spans.{SameBetween}

abbrev differ : ℕ → ℕ → Bool
differ x y = not (eqb x y)

first_same : (b : Bool) (m : ℕ) → cond (not b) 1 0 + 2 * m ≡ 0 → (b ≡ true) × (m ≡ 0)
first_same true m e = (refl, omega arith)
first_same false m e = absurd (omega arith)

same_lanes : (xs ys : List ℕ) → length xs ≡ length ys → mask_l (zip2 differ xs ys) ≡ 0 → xs ≡ ys
same_lanes [] [] long none = refl
same_lanes [] (y ∷ ys) long none = absurd (omega arith)
same_lanes (x ∷ xs) [] long none = absurd (omega arith)
same_lanes (x ∷ xs) (y ∷ ys) long none =
    let both = first_same (eqb x y) (mask_l (zip2 differ xs ys)) none in
    ap₂ (λ z zs. z ∷ zs) (eqb-true x y both.0) (same_lanes xs ys (omega arith) both.1)

from_mask : (a b : List ℕ) (i n : ℕ) → i + n ≤ length a → i + n ≤ length b → mask_l (zip2 differ (chunk i n a) (chunk i n b)) ≡ 0 → SameBetween a b i (i + n)
from_mask a b i n room there none k p q =
    let back : i + (k - i) ≡ k = omega arith in
    let same = same_lanes (chunk i n a) (chunk i n b) (length-chunk i n a room ∙ sym (length-chunk i n b there)) none in
    ap (λ j. get_or a j 0) (sym back) ∙ sym (get_or-chunk i n a (k - i) 0 (omega arith)) ∙ ap (λ xs. get_or xs (k - i) 0) same
    ∙ get_or-chunk i n b (k - i) 0 (omega arith) ∙ ap (λ j. get_or b j 0) back

on_true : (b : Bool) (P : Type 0) → (b ≡ true → P) → OnTrue b P
on_true true P f = f refl
on_true false P f = tt

-- the comparison of two vectors of n lanes, as the code makes it
pub same_from_lanes : (a b : List ℕ) (i n : ℕ) → i + n ≤ length a → i + n ≤ length b → n ≤ 64
    → OnTrue (mask_l (map (top 7) (zip2 (λ x y. cond (not (eqb x y)) 255 0) (chunk i n a) (chunk i n b))) % 2 ^ 64 == 0) (SameBetween a b i (i + n))
same_from_lanes a b i n room there few =
    let xs = chunk i n a in
    let ys = chunk i n b in
    let long = length-chunk i n a room ∙ sym (length-chunk i n b there) in
    let short = length-zip2 differ xs ys long ∙ length-chunk i n a room in
    let mask = ap (λ ms. mask_l ms % 2 ^ 64) (tops_compared w8 differ xs ys) ∙ mask_l-mod (zip2 differ xs ys) 64 (omega (arith, short)) in
    on_true _ _ (λ e. from_mask a b i n room there (sym mask ∙ eqb-true _ 0 e))

pub same_on_true : (r : Bool) (a b : List ℕ) → length a ≡ length b → OnTrue r (SameBetween a b 0 (length a)) → OnTrue r (a ≡ b)
same_on_true true a b long h = ext_get_or 0 a b long (λ i l. h i (omega arith) l)
same_on_true false a b long h = tt
