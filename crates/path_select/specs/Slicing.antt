-- For the clauses within the crate: no definition of slices, but the indexes of a slice by numbers from 0 on. There a
-- bound of a slice that goes down is one more than the standard's. That it is the standard's slice is `slices` in the
-- proofs.
use Rattle.std.specs.Prelude.{ℕ, zero, suc, ◌-◌, ◌%◌, ◌==◌, min, ℤ, pos, negsuc, List, [], reverse, filter, Option, Some, None}
use Rattle.path_select.specs.Selectors.{counting}

-- the indexes from `lower` on and below `upper`, in ascending order
abbrev pub between : ℕ → ℕ → List ℕ
between lower upper = counting lower (upper - lower)

-- those that are a multiple of the step above the lowest: lower, lower + step, .. below upper
abbrev pub upward : ℕ → ℕ → ℕ → List ℕ
upward step lower upper = filter (λ i. (i - lower) % step == 0) (between lower upper)

-- those that are a multiple of the step under the highest, which comes first: upper - 1, upper - 1 - step, .. from lower on
abbrev pub downward : ℕ → ℕ → ℕ → List ℕ
downward step lower upper = filter (λ i. (upper - suc i) % step == 0) (reverse (between lower upper))

-- a bound of a slice that goes up through n elements: a negative one counts from the end, and then it is moved to the
-- nearest from 0 to n
abbrev pub bound_up : ℕ → ℤ → ℕ
bound_up n (pos i) = min i n
bound_up n (negsuc i) = n - suc i

-- one more than a bound of a slice that goes down, which is moved to the nearest from -1 to n - 1
abbrev pub bound_down : ℕ → ℤ → ℕ
bound_down n (pos i) = min (suc i) n
bound_down n (negsuc i) = n - i

-- the bound if one is given, else the number
abbrev pub given_or : (ℤ → ℕ) → Option ℤ → ℕ → ℕ
given_or bound None absent = absent
given_or bound (Some i) absent = bound i

-- the indexes that a slice selects of n elements, in order, by its step
abbrev pub counted_slice : ℕ → Option ℤ → Option ℤ → ℤ → List ℕ
counted_slice n start stop (pos zero) = []
counted_slice n start stop (pos (suc k)) = upward (suc k) (given_or (bound_up n) start 0) (given_or (bound_up n) stop n)
counted_slice n start stop (negsuc k) = downward (suc k) (given_or (bound_down n) stop 0) (given_or (bound_down n) start n)
