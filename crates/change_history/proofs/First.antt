-- The first of transactions, as many as have no more bytes.
use Rattle.std.proofs.Common.{◌≡◌, ℕ, zero, suc, ◌+◌, ◌-◌, ◌<◌, ◌≤◌, max, Bool, true, false, if◌then◌else◌, nat_le, List, [], ◌∷◌, ◌++◌, length, take, drop, refl, sym, ap, subst, ◌∙◌, append_assoc, add-one, arith}
use Rattle.std.proofs.lemmas.Bool.{le-leb, leb-true, leb-false, lt-leb}
use Rattle.change_history.specs.History.{Told, bytes_of, within, first_within}
use Rattle.change_history.specs.Follows.{IsFirst}
use Rattle.change_history.proofs.Trimmed.{bytes-append}

-- ---- a step, by what its test says

pub one_fits : (most : ℕ) (t : Told) (ts : List Told) → length t.frames ≤ most → within most (t ∷ ts) ≡ t ∷ within (most - length t.frames) ts
one_fits most t ts fit = ap (λ b. if b then t ∷ within (most - length t.frames) ts else []) (le-leb (length t.frames) most fit)

pub none_fits : (most : ℕ) (t : Told) (ts : List Told) → most < length t.frames → within most (t ∷ ts) ≡ []
none_fits most t ts over = ap (λ b. if b then t ∷ within (most - length t.frames) ts else []) (lt-leb (length t.frames) most over)

-- ---- as many as fit

record IsWithin (most : ℕ) (told first : List Told) : Type 0 where
  rest : List Told
  whole : told ≡ first ++ rest
  fits : bytes_of first ≤ most
  longest : (t : Told) (ts : List Told) → rest ≡ t ∷ ts → most < bytes_of first + length t.frames

within_by : (most : ℕ) (t : Told) (ts : List Told) (b : Bool) → nat_le (length t.frames) most ≡ b → IsWithin (most - length t.frames) ts (within (most - length t.frames) ts)
    → IsWithin most (t ∷ ts) (if b then t ∷ within (most - length t.frames) ts else [])
within_by most t ts true e w = record {
  rest = w.rest;
  whole = ap (λ l. t ∷ l) w.whole;
  fits = let fit = leb-true _ _ e in let others = w.fits in omega (arith, fit, others);
  longest = λ s ss is. let over = w.longest s ss is in omega (arith, over);
}
within_by most t ts false e w = record {
  rest = t ∷ ts;
  whole = refl;
  fits = omega arith;
  longest = λ s ss is. let same : t ≡ s = cc in subst (λ (x : Told). most < 0 + length x.frames) same (let over = leb-false _ _ e in omega (arith, over));
}

is_within : (most : ℕ) (told : List Told) → IsWithin most told (within most told)
is_within most [] = record { rest = []; whole = refl; fits = omega arith; longest = λ t ts is. absurd (cc) }
is_within most (t ∷ ts) = within_by most t ts (nat_le (length t.frames) most) refl (is_within (most - length t.frames) ts)

pub is_first : (most : ℕ) (told : List Told) → IsFirst most told (first_within most told)
is_first most [] = record {
  rest = [];
  whole = refl;
  one = λ e. refl;
  fits = λ t ts is. absurd (cc);
  longest = λ t ts is. absurd (cc);
}
is_first most (t ∷ ts) =
    let w = is_within (most - length t.frames) ts in
    let some = within (most - length t.frames) ts in
    let fit : bytes_of some ≤ most - length t.frames = w.fits in record {
      rest = w.rest;
      whole = ap (λ l. t ∷ l) w.whole;
      one = λ e. absurd (cc);
      fits = λ s ss is. let same : t ≡ s = cc in subst (λ (x : Told). bytes_of (t ∷ some) ≤ max most (length x.frames)) same (omega (arith, fit));
      longest = λ s ss is. let over = w.longest s ss is in let e = bytes-append some (s ∷ []) in omega (arith, over, e);
    }

-- ---- all, if all fit

all_within : (most : ℕ) (told : List Told) → bytes_of told ≤ most → within most told ≡ told
all_within most [] fit = refl
all_within most (t ∷ ts) fit = one_fits most t ts (omega (arith, fit)) ∙ ap (λ l. t ∷ l) (all_within (most - length t.frames) ts (omega (arith, fit)))

pub all_first : (most : ℕ) (told : List Told) → bytes_of told ≤ most → first_within most told ≡ told
all_first most [] fit = refl
all_first most (t ∷ ts) fit = ap (λ l. t ∷ l) (all_within (most - length t.frames) ts (omega (arith, fit)))

-- ---- one after another

pub drop_one : {X : Type 0} (all : List X) (k : ℕ) (t : X) (rest : List X) → drop k all ≡ t ∷ rest → drop (suc k) all ≡ rest
drop_one [] zero t rest e = absurd (cc)
drop_one [] (suc k) t rest e = absurd (cc)
drop_one (x ∷ all) zero t rest e = cc
drop_one (x ∷ all) (suc k) t rest e = drop_one all k t rest e

pub take_one : {X : Type 0} (all : List X) (k : ℕ) (t : X) (rest : List X) → drop k all ≡ t ∷ rest → take (suc k) all ≡ take k all ++ t ∷ []
take_one [] zero t rest e = absurd (cc)
take_one [] (suc k) t rest e = absurd (cc)
take_one (x ∷ all) zero t rest e = cc
take_one (x ∷ all) (suc k) t rest e = ap (λ l. x ∷ l) (take_one all k t rest e)

pub first_more : (most left count bytes : ℕ) (all : List Told) (t : Told) (rest more : List Told)
    → first_within most all ≡ take count all ++ within left rest → drop count all ≡ rest → rest ≡ t ∷ more → bytes ≡ length t.frames → bytes ≤ left
    → first_within most all ≡ take (count + 1) all ++ within (left - bytes) more
first_more most left count bytes all t rest more first left_over step size fit =
    let taken : take (count + 1) all ≡ take count all ++ t ∷ [] = rw add-one (take_one all count t more (left_over ∙ step)) in
    first
    ∙ ap (λ r. take count all ++ within left r) step
    ∙ ap (λ w. take count all ++ w) (one_fits left t more (subst (λ n. n ≤ left) size fit))
    ∙ sym (append_assoc (take count all) (t ∷ []) (within (left - length t.frames) more))
    ∙ ap (λ l. l ++ within (left - length t.frames) more) (sym taken)
    ∙ ap (λ n. take (count + 1) all ++ within (left - n) more) (sym size)
