-- The standard's slices are those that the code counts.
use Rattle.std.proofs.Common.{◌≡◌, ℕ, zero, suc, ◌+◌, ◌-◌, ◌%◌, ◌==◌, ◌<◌, ◌≤◌, min, Bool, true, false, leb, ltb, ◌&&◌, ℤ, pos, negsuc, nat_abs, neg_ℤ, ◌-ℤ◌, reverse, Option, Some, None, int_lt, int_le, refl, sym, ap, ◌∙◌, inl, inr, arith, true≢false, []}
use Rattle.std.proofs.lemmas.Bool.Decides.{leb_tells}
use Rattle.std.specs.Int.{int_max, int_min}
use Rattle.std.specs.Option.{unwrap_or}
use Rattle.path_select.specs.Selectors as standard
use Rattle.path_select.specs.Slicing as counted
use Rattle.path_select.specs.Selectors.{counting, is_multiple}
use Rattle.path_select.proofs.Windows.{window, filter-reverse}

is_below : (a b : ℕ) → a < b → ltb a b ≡ true
is_below a b h = elim (leb_tells (suc a) b) [ inl w ↦ w.0 | inr w ↦ absurd (omega (arith, w.1, h)) ]

not_below : (a b : ℕ) → b ≤ a → ltb a b ≡ false
not_below a b h = elim (leb_tells (suc a) b) [ inl w ↦ absurd (omega (arith, w.1, h)) | inr w ↦ w.0 ]

is_within : (a b : ℕ) → a ≤ b → leb a b ≡ true
is_within a b h = elim (leb_tells a b) [ inl w ↦ w.0 | inr w ↦ absurd (omega (arith, w.1, h)) ]

not_within : (a b : ℕ) → b < a → leb a b ≡ false
not_within a b h = elim (leb_tells a b) [ inl w ↦ absurd (omega (arith, w.1, h)) | inr w ↦ w.0 ]

-- ---- up

no_less : (i : ℕ) → int_max (pos i) (pos 0) ≡ pos i
no_less zero = refl
no_less (suc i) = rw (is_below 0 (suc i) (omega arith)) refl

lesser : (a n : ℕ) → int_min (pos a) (pos n) ≡ pos (min a n)
lesser a n = elim (leb_tells (suc n) a) [
  | inl w ↦ let e : min a n ≡ n = omega (arith, w.1) in rw (w.0, e) refl
  | inr w ↦ let e : min a n ≡ a = omega (arith, w.1) in rw (w.0, e) refl
]

from_front : (n i : ℕ) → standard.normalize n (pos i) ≡ pos i
from_front n i = rw (not_below i 0 (omega arith)) refl

up : (n : ℕ) (z : ℤ) → standard.bound_up n z ≡ pos (counted.bound_up n z)
up n (pos i) = ap (standard.bounded (pos 0) (pos n)) (from_front n i) ∙ ap (λ z. int_min z (pos n)) (no_less i) ∙ lesser i n
up n (negsuc i) = elim (leb_tells (suc n) (suc i)) [
  | inl w ↦ let e : min 0 n ≡ n - suc i = omega (arith, w.1) in rw w.0 (lesser 0 n ∙ ap pos e)
  | inr w ↦ let e : min (n - suc i) n ≡ n - suc i = omega arith in rw w.0 (ap (λ z. int_min z (pos n)) (no_less (n - suc i)) ∙ lesser (n - suc i) n ∙ ap pos e)
]

-- ---- down

-- the number before it
abbrev before : ℕ → ℤ
before zero = negsuc 0
before (suc m) = pos m

last : (n : ℕ) → pos n -ℤ pos 1 ≡ before n
last zero = refl
last (suc n) = let e : suc n - 1 ≡ n = omega arith in rw (not_below (suc n) 1 (omega arith), e) refl

no_less_down : (a : ℕ) → int_max (before a) (negsuc 0) ≡ before a
no_less_down zero = refl
no_less_down (suc a) = refl

lesser_down : (a n : ℕ) → int_min (before a) (before n) ≡ before (min a n)
lesser_down zero zero = refl
lesser_down zero (suc n) = let e : min 0 (suc n) ≡ 0 = omega arith in rw e refl
lesser_down (suc a) zero = let e : min (suc a) 0 ≡ 0 = omega arith in rw e refl
lesser_down (suc a) (suc n) = elim (leb_tells (suc n) a) [
  | inl w ↦ let e : min (suc a) (suc n) ≡ suc n = omega (arith, w.1) in rw (w.0, e) refl
  | inr w ↦ let e : min (suc a) (suc n) ≡ suc a = omega (arith, w.1) in rw (w.0, e) refl
]

bounded_down : (a n : ℕ) → standard.bounded (neg_ℤ (pos 1)) (pos n -ℤ pos 1) (before a) ≡ before (min a n)
bounded_down a n = ap (λ z. standard.bounded (neg_ℤ (pos 1)) z (before a)) (last n) ∙ ap (λ z. int_min z (before n)) (no_less_down a) ∙ lesser_down a n

down : (n : ℕ) (z : ℤ) → standard.bound_down n z ≡ before (counted.bound_down n z)
down n (pos i) = ap (standard.bounded (neg_ℤ (pos 1)) (pos n -ℤ pos 1)) (from_front n i) ∙ bounded_down (suc i) n
down n (negsuc i) = elim (leb_tells (suc n) (suc i)) [
  | inl w ↦ let e : min 0 n ≡ n - i = omega (arith, w.1) in rw w.0 (lowest ∙ bounded_down 0 n ∙ ap before e)
  | inr w ↦ let e : min (suc (n - suc i)) n ≡ n - i = omega (arith, w.1) in rw w.0 (bounded_down (suc (n - suc i)) n ∙ ap before e)
]
  where
    lowest : standard.bounded (neg_ℤ (pos 1)) (pos n -ℤ pos 1) (negsuc (suc i - suc n)) ≡ standard.bounded (neg_ℤ (pos 1)) (pos n -ℤ pos 1) (before 0)
    lowest = rw (not_below (suc i - suc n) 0 (omega arith)) refl

-- ---- the bounds with their defaults

lower_up : (n : ℕ) (start : Option ℤ) → standard.bound_up n (unwrap_or start (pos 0)) ≡ pos (counted.given_or (counted.bound_up n) start 0)
lower_up n None = let e : min 0 n ≡ 0 = omega arith in up n (pos 0) ∙ ap pos e
lower_up n (Some i) = up n i

upper_up : (n : ℕ) (stop : Option ℤ) → standard.bound_up n (unwrap_or stop (pos n)) ≡ pos (counted.given_or (counted.bound_up n) stop n)
upper_up n None = let e : min n n ≡ n = omega arith in up n (pos n) ∙ ap pos e
upper_up n (Some i) = up n i

up_within : (n : ℕ) (z : ℤ) → counted.bound_up n z ≤ n
up_within n (pos i) = omega arith
up_within n (negsuc i) = omega arith

upper_within : (n : ℕ) (stop : Option ℤ) → counted.given_or (counted.bound_up n) stop n ≤ n
upper_within n None = omega arith
upper_within n (Some i) = up_within n i

first_down : (n : ℕ) → neg_ℤ (pos n) -ℤ pos 1 ≡ negsuc n
first_down zero = refl
first_down (suc n) = let e : n + 0 ≡ n = omega arith in ap (λ m. negsuc (suc m)) e

lower_down : (n : ℕ) (stop : Option ℤ) → standard.bound_down n (unwrap_or stop (neg_ℤ (pos n) -ℤ pos 1)) ≡ before (counted.given_or (counted.bound_down n) stop 0)
lower_down n None = let e : n - n ≡ 0 = omega arith in ap (standard.bound_down n) (first_down n) ∙ down n (negsuc n) ∙ ap before e
lower_down n (Some i) = down n i

upper_down : (n : ℕ) (start : Option ℤ) → standard.bound_down n (unwrap_or start (pos n -ℤ pos 1)) ≡ before (counted.given_or (counted.bound_down n) start n)
upper_down n None = ap (standard.bound_down n) (last n) ∙ down n (before n) ∙ ap before (top n)
  where
    top : (m : ℕ) → counted.bound_down m (before m) ≡ m
    top zero = refl
    top (suc m) = omega arith
upper_down n (Some i) = down n i

down_within : (n : ℕ) (z : ℤ) → counted.bound_down n z ≤ n
down_within n (pos i) = omega arith
down_within n (negsuc i) = omega arith

first_within : (n : ℕ) (start : Option ℤ) → counted.given_or (counted.bound_down n) start n ≤ n
first_within n None = omega arith
first_within n (Some i) = down_within n i

-- ---- what lies between them

distance : (i l : ℕ) → l ≤ i → nat_abs (pos i -ℤ pos l) ≡ i - l
distance i zero h = omega arith
distance i (suc l) h = rw (not_below i (suc l) h) refl

past : (a b : Bool) → ((a && false) && b) ≡ false
past true b = refl
past false b = refl

ascends : (n step l u : ℕ) → u ≤ n → standard.ascending n step (pos l) (pos u) ≡ counted.upward step l u
ascends n step l u within = window _ (λ i. (i - l) % step == 0) l u n within
    (λ i h. rw (not_within l i h) refl)
    (λ i h. rw (not_below i u h) (past (leb l i) _))
    (λ i h k. rw (is_within l i h, is_below i u k, distance i l h) refl)

drop : (l u i : ℕ) → l ≤ i → i < u → nat_abs (before u -ℤ pos i) ≡ u - suc i
drop l zero i h k = absurd (omega (arith, k))
drop l (suc u) i h k = let e : u - i ≡ suc u - suc i = omega arith in distance u i (omega (arith, k)) ∙ e

under : (l i : ℕ) → int_lt (before l) (pos i) ≡ leb l i
under zero i = sym (is_within 0 i (omega arith))
under (suc l) i = refl

over : (u i : ℕ) → int_le (pos i) (before u) ≡ ltb i u
over zero i = sym (not_below i 0 (omega arith))
over (suc u) i = elim (leb_tells i u) [
  | inl w ↦ rw w.0 (sym (is_below i (suc u) (omega (arith, w.1))))
  | inr w ↦ rw w.0 (sym (not_below i (suc u) (omega (arith, w.1))))
]

descends : (n step l u : ℕ) → u ≤ n → standard.descending n step (before l) (before u) ≡ counted.downward step l u
descends n step l u within =
    filter-reverse _ (counting 0 n)
    ∙ ap reverse (window _ (λ i. (u - suc i) % step == 0) l u n within
    (λ i h. rw (under l i, not_within l i h) refl)
    (λ i h. rw (over u i, not_below i u h) (past (int_lt (before l) (pos i)) _))
    (λ i h k. rw (under l i, over u i, is_within l i h, is_below i u k, drop l u i h k) refl))
    ∙ sym (filter-reverse (λ i. (u - suc i) % step == 0) (counting l (u - l)))

pub slices : (n : ℕ) (start stop : Option ℤ) (step : ℤ) → standard.slice_indexes n start stop step ≡ counted.counted_slice n start stop step
slices n start stop (pos zero) = refl
slices n start stop (pos (suc k)) =
    ap (λ l. standard.ascending n (suc k) l (standard.bound_up n (unwrap_or stop (pos n)))) (lower_up n start)
    ∙ ap (standard.ascending n (suc k) (pos (counted.given_or (counted.bound_up n) start 0))) (upper_up n stop)
    ∙ ascends n (suc k) _ _ (upper_within n stop)
slices n start stop (negsuc k) =
    ap (λ l. standard.descending n (suc k) l (standard.bound_down n (unwrap_or start (pos n -ℤ pos 1)))) (lower_down n stop)
    ∙ ap (standard.descending n (suc k) (before (counted.given_or (counted.bound_down n) stop 0))) (upper_down n start)
    ∙ descends n (suc k) _ _ (first_within n start)

-- ---- by the sign of the step

pub slice_indexes-up : (n : ℕ) (start stop : Option ℤ) (z : ℤ) → int_lt (pos 0) z ≡ true → standard.slice_indexes n start stop z ≡ counted.upward (nat_abs z) (counted.given_or (counted.bound_up n) start 0) (counted.given_or (counted.bound_up n) stop n)
slice_indexes-up n start stop (pos zero) h = absurd (cc)
slice_indexes-up n start stop (pos (suc k)) h = slices n start stop (pos (suc k))
slice_indexes-up n start stop (negsuc k) h = absurd (cc)

pub slice_indexes-down : (n : ℕ) (start stop : Option ℤ) (z : ℤ) → int_lt z (pos 0) ≡ true → standard.slice_indexes n start stop z ≡ counted.downward (nat_abs z) (counted.given_or (counted.bound_down n) stop 0) (counted.given_or (counted.bound_down n) start n)
slice_indexes-down n start stop (pos k) h = absurd (true≢false (sym h ∙ not_below k 0 (omega arith)))
slice_indexes-down n start stop (negsuc k) h = slices n start stop (negsuc k)

pub slice_indexes-none : (n : ℕ) (start stop : Option ℤ) (z : ℤ) → int_lt (pos 0) z ≡ false → int_lt z (pos 0) ≡ false → standard.slice_indexes n start stop z ≡ []
slice_indexes-none n start stop (pos zero) h k = refl
slice_indexes-none n start stop (pos (suc i)) h k = absurd (true≢false (sym (is_below 0 (suc i) (omega arith)) ∙ h))
slice_indexes-none n start stop (negsuc i) h k = absurd (cc)
