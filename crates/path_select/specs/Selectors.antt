-- The values that selectors without a filter select of a value (RFC 9535, sections 2.3.1 to 2.3.4).
use Rattle.std.specs.Prelude.{ℕ, zero, suc, ◌-◌, ◌%◌, ◌==◌, ◌&&◌, Bool, nat_lt, ℤ, pos, negsuc, neg_ℤ, ◌+ℤ◌, ◌-ℤ◌, nat_abs, int_lt, int_le, List, [], ◌∷◌, reverse, filter, flat_map, Option, Some, None, if◌then◌else◌}
use Rattle.std.specs.Int.{int_max, int_min}
use Rattle.std.specs.Option.{unwrap_or}
use Rattle.doc_tree.specs.Doc.{Doc, list, Elements, no_elements, element, Place, name, index, child}
use Rattle.path_select.specs.Nodes.{Child}

-- the child at that step, if there is one
abbrev pub found : Place → Option Doc → List Child
found s None = []
found s (Some d) = (s, d) ∷ []

-- the member of that name (section 2.3.1)
abbrev pub named : List ℕ → Doc → List Child
named k d = found (name k) (child (name k) d)

-- the element at that index, counted from 0
abbrev pub item : ℕ → Doc → List Child
item i d = found (index i) (child (index i) d)

-- how many elements there are
abbrev pub elements_count : Elements → ℕ
elements_count no_elements = 0
elements_count (element d ds) = suc (elements_count ds)

-- how many elements a list has; 0 for any other value
abbrev pub item_count : Doc → ℕ
item_count (list ds) = elements_count ds
item_count _ = 0

-- ---- index (section 2.3.3)

-- the index counted from the front of n elements: a negative one counts from the end, as -1 is the last
abbrev pub from_front : ℕ → ℤ → Option ℕ
from_front n (pos i) = Some i
from_front n (negsuc i) = if nat_lt i n then Some (n - suc i) else None

abbrev pub item_if : Option ℕ → Doc → List Child
item_if None d = []
item_if (Some i) d = item i d

-- the element at that index
abbrev pub indexed : ℤ → Doc → List Child
indexed i d = item_if (from_front (item_count d) i) d

-- ---- slices (section 2.3.4)

-- `Normalize`: a negative number counts from the end of n elements
abbrev pub normalize : ℕ → ℤ → ℤ
normalize n i = if int_lt i (pos 0) then pos n +ℤ i else i

-- `MIN(MAX(i, low), high)`
abbrev pub bounded : ℤ → ℤ → ℤ → ℤ
bounded low high i = int_min (int_max i low) high

-- `Bounds`: a bound of a slice that goes up through n elements
abbrev pub bound_up : ℕ → ℤ → ℤ
bound_up n i = bounded (pos 0) (pos n) (normalize n i)

-- `Bounds`: a bound of a slice that goes down through n elements
abbrev pub bound_down : ℕ → ℤ → ℤ
bound_down n i = bounded (neg_ℤ (pos 1)) (pos n -ℤ pos 1) (normalize n i)

-- n indexes from `first` on
abbrev pub counting : ℕ → ℕ → List ℕ
counting first zero = []
counting first (suc n) = first ∷ counting (suc first) n

-- the distance is a multiple of the step
abbrev pub is_multiple : ℕ → ℤ → Bool
is_multiple step distance = nat_abs distance % step == 0

-- of n indexes: lower, lower + step and so on, below upper
abbrev pub ascending : ℕ → ℕ → ℤ → ℤ → List ℕ
ascending n step lower upper = filter (λ i. (int_le lower (pos i) && int_lt (pos i) upper) && is_multiple step (pos i -ℤ lower)) (counting 0 n)

-- of n indexes: upper, upper - step and so on, above lower
abbrev pub descending : ℕ → ℕ → ℤ → ℤ → List ℕ
descending n step lower upper = filter (λ i. (int_lt lower (pos i) && int_le (pos i) upper) && is_multiple step (upper -ℤ pos i)) (reverse (counting 0 n))

-- the indexes that a slice selects of n elements, in order, by its step; the defaults of start and end are the standard's
abbrev pub slice_indexes : ℕ → Option ℤ → Option ℤ → ℤ → List ℕ
slice_indexes n start stop (pos zero) = []
slice_indexes n start stop (pos (suc k)) = ascending n (suc k) (bound_up n (unwrap_or start (pos 0))) (bound_up n (unwrap_or stop (pos n)))
slice_indexes n start stop (negsuc k) = descending n (suc k) (bound_down n (unwrap_or stop (neg_ℤ (pos n) -ℤ pos 1))) (bound_down n (unwrap_or start (pos n -ℤ pos 1)))

-- the elements that the slice selects, by step 1 if none is given
abbrev pub sliced : Option ℤ → Option ℤ → Option ℤ → Doc → List Child
sliced start stop step d = flat_map (λ i. item i d) (slice_indexes (item_count d) start stop (unwrap_or step (pos 1)))
