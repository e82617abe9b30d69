-- A slice goes on from one index to the next.
use Rattle.std.proofs.Common.{◌≡◌, ℕ, zero, suc, ◌+◌, ◌-◌, ◌%◌, ◌==◌, ◌<◌, ◌≤◌, min, Bool, cond, true, false, List, [], ◌∷◌, ◌++◌, reverse, filter, flat_map, append_assoc, append-nil, refl, sym, ap, ◌∙◌, inl, inr, arith}
use Rattle.std.proofs.lemmas.Bool.{ne_eqb}
use Rattle.std.proofs.lemmas.Bool.Decides.{leb_tells}
use Rattle.std.proofs.lemmas.List.{reverse-append}
use Rattle.path_select.specs.Selectors.{counting}
use Rattle.path_select.specs.Slicing.{upward, downward}
use Rattle.std.proofs.Math.Nat.{add-mod_left, mod-eq_of_lt}

-- whether the distance is a multiple of the step
abbrev fits : ℕ → ℕ → Bool
fits step distance = distance % step == 0

not_zero : (n : ℕ) → 0 < n → (n == 0) ≡ false
not_zero n h = ne_eqb n 0 (λ e. absurd (omega arith))

inside : (step k : ℕ) → 0 < k → k < step → fits step k ≡ false
inside step k pos h = ap (λ n. n == 0) (mod-eq_of_lt h) ∙ not_zero k pos

around : (step k : ℕ) → fits step (step + k) ≡ fits step k
around step k = ap (λ n. n == 0) (add-mod_left step k)

begins : (step : ℕ) → 0 < step → fits step 0 ≡ true
begins step pos = ap (λ n. n == 0) (mod-eq_of_lt pos)

left_out : {A : Type 0} (b : Bool) (x y : A) → b ≡ false → cond b x y ≡ y
left_out b x y e = ap (λ c. cond c x y) e

taken : {A : Type 0} (b : Bool) (x y : A) → b ≡ true → cond b x y ≡ x
taken b x y e = ap (λ c. cond c x y) e

-- ---- up

-- between two multiples nothing is taken
skip : (step i d k n : ℕ) → 0 < k → k + d ≡ step → filter (λ j. fits step (j - i)) (counting (i + k) n) ≡ filter (λ j. fits step (j - i)) (counting (i + step) (n - d))
skip step i zero k n pos h = let e : k ≡ step = omega arith in let none : n - 0 ≡ n = omega arith in rw (e, none) refl
skip step i (suc d) k zero pos h = let none : 0 - suc d ≡ 0 = omega arith in rw none refl
skip step i (suc d) k (suc m) pos h =
    let here : (i + k) - i ≡ k = omega arith in
    let next : suc (i + k) ≡ i + suc k = omega arith in
    let less : suc m - suc d ≡ m - d = omega arith in
    rw less (left_out (fits step ((i + k) - i)) _ _ (ap (fits step) here ∙ inside step k pos (omega arith))
    ∙ ap (λ a. filter (λ j. fits step (j - i)) (counting a m)) next ∙ skip step i d (suc k) m (omega arith) (omega arith))

-- from the next multiple on it is the same to count from there
moved : (step i k n : ℕ) → filter (λ j. fits step (j - i)) (counting (i + step + k) n) ≡ filter (λ j. fits step (j - (i + step))) (counting (i + step + k) n)
moved step i k zero = refl
moved step i k (suc n) =
    let near : (i + step + k) - (i + step) ≡ k = omega arith in
    let far : (i + step + k) - i ≡ step + k = omega arith in
    let next : suc (i + step + k) ≡ i + step + suc k = omega arith in
    let rest = ap (λ a. filter (λ j. fits step (j - i)) (counting a n)) next ∙ moved step i (suc k) n ∙ ap (λ a. filter (λ j. fits step (j - (i + step))) (counting a n)) (sym next) in
    let head : fits step ((i + step + k) - i) ≡ fits step ((i + step + k) - (i + step)) = ap (fits step) far ∙ around step k ∙ ap (fits step) (sym near) in
    ap (λ b. cond b ((i + step + k) ∷ filter (λ j. fits step (j - i)) (counting (suc (i + step + k)) n)) (filter (λ j. fits step (j - i)) (counting (suc (i + step + k)) n))) head
    ∙ ap (λ r. cond (fits step ((i + step + k) - (i + step))) ((i + step + k) ∷ r) r) rest

pub upward-none : (step lower upper : ℕ) → upper ≤ lower → upward step lower upper ≡ []
upward-none step lower upper h = let e : upper - lower ≡ 0 = omega arith in rw e refl

pub upward-first : (step lower upper : ℕ) → 0 < step → lower < upper → upward step lower upper ≡ lower ∷ upward step (lower + step) upper
upward-first step lower upper pos h =
    let n = upper - lower - 1 in
    let count : upper - lower ≡ suc n = omega arith in
    let left : n - (step - 1) ≡ upper - (lower + step) = omega arith in
    let one : suc lower ≡ lower + 1 = omega arith in
    let none : lower - lower ≡ 0 = omega arith in
    let start : lower + step ≡ lower + step + 0 = omega arith in
    let rest : filter (λ j. fits step (j - lower)) (counting (suc lower) n) ≡ upward step (lower + step) upper =
    ap (λ a. filter (λ j. fits step (j - lower)) (counting a n)) one ∙ skip step lower (step - 1) 1 n (omega arith) (omega arith)
    ∙ ap (λ m. filter (λ j. fits step (j - lower)) (counting (lower + step) m)) left
    ∙ ap (λ a. filter (λ j. fits step (j - lower)) (counting a (upper - (lower + step)))) start ∙ moved step lower 0 (upper - (lower + step))
    ∙ ap (λ a. filter (λ j. fits step (j - (lower + step))) (counting a (upper - (lower + step)))) (sym start) in
    ap (λ m. filter (λ j. fits step (j - lower)) (counting lower m)) count
    ∙ taken (fits step (lower - lower)) _ _ (ap (fits step) none ∙ begins step pos)
    ∙ ap (λ r. lower ∷ r) rest

-- a sum that is cut off past the highest index is past it too
pub upward-cut : (step i j upper most : ℕ) → j ≡ min (i + step) most → upper ≤ most → upward step j upper ≡ upward step (i + step) upper
upward-cut step i j upper most is h = elim (leb_tells (i + step) most) [
  | inl w ↦ let e : j ≡ i + step = omega (arith, w.1) in rw e refl
  | inr w ↦ upward-none step j upper (omega (arith, w.1)) ∙ sym (upward-none step (i + step) upper (omega (arith, w.1)))
]

-- ---- down

counting-last : (first n : ℕ) → counting first (suc n) ≡ counting first n ++ (first + n) ∷ []
counting-last first zero = let e : first ≡ first + 0 = omega arith in ap (λ a. a ∷ []) e
counting-last first (suc n) = let e : suc first + n ≡ first + suc n = omega arith in ap (λ r. first ∷ r) (counting-last (suc first) n ∙ ap (λ a. counting (suc first) n ++ a ∷ []) e)

-- n indexes from first on, the last one first
abbrev falling : ℕ → ℕ → List ℕ
falling first n = reverse (counting first n)

falling-first : (first n : ℕ) → falling first (suc n) ≡ (first + n) ∷ falling first n
falling-first first n = ap reverse (counting-last first n) ∙ reverse-append (counting first n) ((first + n) ∷ [])

skip_down : (step upper first d k n : ℕ) → 0 < k → k + d ≡ step → first + n + k ≡ upper → filter (λ j. fits step (upper - suc j)) (falling first n) ≡ filter (λ j. fits step (upper - suc j)) (falling first (n - d))
skip_down step upper first zero k n pos h at = let e : n - 0 ≡ n = omega arith in rw e refl
skip_down step upper first (suc d) k zero pos h at = let none : 0 - suc d ≡ 0 = omega arith in rw none refl
skip_down step upper first (suc d) k (suc m) pos h at =
    let here : upper - suc (first + m) ≡ k = omega arith in
    let less : suc m - suc d ≡ m - d = omega arith in
    rw less (ap (filter (λ j. fits step (upper - suc j))) (falling-first first m)
    ∙ left_out (fits step (upper - suc (first + m))) _ _ (ap (fits step) here ∙ inside step k pos (omega arith))
    ∙ skip_down step upper first d (suc k) m (omega arith) (omega arith) (omega arith))

moved_down : (step upper first n : ℕ) → first + n + step ≤ upper → filter (λ j. fits step (upper - suc j)) (falling first n) ≡ filter (λ j. fits step ((upper - step) - suc j)) (falling first n)
moved_down step upper first zero h = refl
moved_down step upper first (suc n) h =
    let far : upper - suc (first + n) ≡ step + ((upper - step) - suc (first + n)) = omega arith in
    let rest = moved_down step upper first n (omega arith) in
    let head : fits step (upper - suc (first + n)) ≡ fits step ((upper - step) - suc (first + n)) = ap (fits step) far ∙ around step _ in
    ap (filter (λ j. fits step (upper - suc j))) (falling-first first n)
    ∙ ap (λ b. cond b ((first + n) ∷ filter (λ j. fits step (upper - suc j)) (falling first n)) (filter (λ j. fits step (upper - suc j)) (falling first n))) head
    ∙ ap (λ r. cond (fits step ((upper - step) - suc (first + n))) ((first + n) ∷ r) r) rest
    ∙ ap (filter (λ j. fits step ((upper - step) - suc j))) (sym (falling-first first n))

pub downward-none : (step lower upper : ℕ) → upper ≤ lower → downward step lower upper ≡ []
downward-none step lower upper h = let e : upper - lower ≡ 0 = omega arith in rw e refl

-- so many are left below the next multiple, if any
after_step : (step lower upper m : ℕ) → 0 < step → suc m ≡ upper - lower → lower < upper → filter (λ j. fits step (upper - suc j)) (falling lower (m - (step - 1))) ≡ downward step lower (upper - step)
after_step step lower upper m pos h le =
    let left : m - (step - 1) ≡ (upper - step) - lower = omega arith in
    cases _ refl left
  where
    cases : (n : ℕ) → m - (step - 1) ≡ n → n ≡ (upper - step) - lower → filter (λ j. fits step (upper - suc j)) (falling lower (m - (step - 1))) ≡ downward step lower (upper - step)
    cases zero e f = rw (e, sym f) refl
    cases (suc n) e f = rw (e, sym f) (moved_down step upper lower (suc n) (omega arith))

pub downward-first : (step lower upper : ℕ) → 0 < step → lower < upper → downward step lower upper ≡ (upper - 1) ∷ downward step lower (upper - step)
downward-first step lower upper pos h =
    let m = upper - lower - 1 in
    let count : upper - lower ≡ suc m = omega arith in
    let top : lower + m ≡ upper - 1 = omega arith in
    let none : upper - suc (lower + m) ≡ 0 = omega arith in
    ap (λ n. filter (λ j. fits step (upper - suc j)) (falling lower n)) count
    ∙ ap (filter (λ j. fits step (upper - suc j))) (falling-first lower m)
    ∙ taken (fits step (upper - suc (lower + m))) _ _ (ap (fits step) none ∙ begins step pos)
    ∙ ap (λ r. (lower + m) ∷ r) (skip_down step upper lower (step - 1) 1 m (omega arith) (omega arith) (omega arith) ∙ after_step step lower upper m pos (sym count) h)
    ∙ ap (λ a. a ∷ downward step lower (upper - step)) top

-- ---- what is found so far, beside what is left

module _ {A : Type 0} (f : ℕ → List A) (found total : List A) (step lower upper : ℕ) (pos : 0 < step) where
  pub up_on : (i j most : ℕ) (more : List A) → found ++ flat_map f (upward step i upper) ≡ total → i < upper → j ≡ min (i + step) most → upper ≤ most → more ≡ found ++ f i
      → more ++ flat_map f (upward step j upper) ≡ total
  up_on i j most more so_far h is within new =
      let first = ap (λ js. found ++ flat_map f js) (upward-first step i upper pos h) in
      rw (new, upward-cut step i j upper most is within) (append_assoc found (f i) _ ∙ sym first ∙ so_far)

  pub up_end : (i : ℕ) → found ++ flat_map f (upward step i upper) ≡ total → upper ≤ i → found ≡ total
  up_end i so_far h = sym (append-nil found) ∙ sym (ap (λ js. found ++ flat_map f js) (upward-none step i upper h)) ∙ so_far

  pub down_on : (above j : ℕ) (more : List A) → found ++ flat_map f (downward step lower above) ≡ total → lower < above → j ≡ above - step → more ≡ found ++ f (above - 1)
      → more ++ flat_map f (downward step lower j) ≡ total
  down_on above j more so_far h is new =
      let first = ap (λ js. found ++ flat_map f js) (downward-first step lower above pos h) in
      rw (new, is) (append_assoc found (f (above - 1)) _ ∙ sym first ∙ so_far)

  pub down_end : (above : ℕ) → found ++ flat_map f (downward step lower above) ≡ total → above ≤ lower → found ≡ total
  down_end above so_far h = sym (append-nil found) ∙ sym (ap (λ js. found ++ flat_map f js) (downward-none step lower above h)) ∙ so_far
