-- A line goes on by some bytes.
use Rattle.std.proofs.Common.{◌≡◌, ℕ, ◌<◌, ◌≤◌, ◌+◌, Bool, true, false, List, [], ◌∷◌, ◌++◌, refl, ap, ◌∙◌, length, length-append, arith, cond, Result, Ok}
use Rattle.std.specs.Result.{is_ok}
use Rattle.protocol.specs.Lines.{HasNoBreak}
use Rattle.protocol.specs.declared.limits.TheConstants.{LINE_BYTES}

pub HasNoBreak-append : (xs ys : List ℕ) → HasNoBreak xs → HasNoBreak ys → HasNoBreak (xs ++ ys)
HasNoBreak-append [] ys h k = k
HasNoBreak-append (x ∷ xs) ys h k = (h.0, HasNoBreak-append xs ys h.1 k)

-- a line that was long stays so, and one within the limit is long where the bytes don't fit
pub longer : (xs ys items : List ℕ) (long : Bool) → (long ≡ false → (items ≡ xs) × (length xs ≤ LINE_BYTES)) → (long ≡ true → LINE_BYTES < length xs)
    → (long ≡ false → LINE_BYTES < length items + length ys) → LINE_BYTES < length (xs ++ ys)
longer xs ys items true s l h = let over = l refl in omega (arith, length-append xs ys)
longer xs ys items false s l h = let over = h refl in let same = ap length (s refl).0 in omega (arith, length-append xs ys)

-- what a call leaves where it is known to succeed
pub if_done : {A E X : Type 0} (r : Result A E) (a : A) (x y z : X) → r ≡ Ok a → z ≡ cond (is_ok r) x y → z ≡ x
if_done r a x y z e h = h ∙ ap (λ b. cond b x y) (ap is_ok e)
