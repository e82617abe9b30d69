-- The first number of a set from one on.
use Rattle.std.proofs.Common.{◌≡◌, ℕ, zero, suc, ◌+◌, ◌*◌, ◌/◌, ◌%◌, ◌^◌, ◌-◌, ◌<◌, ◌≤◌, ◌⊎◌, ⊎_elim, List, [], ◌∷◌, false, nat_eq, length, get_or, slice_index_or, refl, sym, ap, subst, ◌∙◌, arith, pow-suc}
use Rattle.std.specs.Int.{bit_at, w64, trailing_zeros}
use Rattle.std.specs.Int.Count.{count_leading_zeros}
use Rattle.std.proofs.Math.Nat.{mod-add-div', mod-lt, mod-eq_of_lt, mod-le, div-le_self}
use Rattle.std.proofs.Math.Pow.{pow-lt}
use Rattle.std.proofs.lemmas.Nat.{pow_pos, leading_top}
use Rattle.std.proofs.lemmas.Nat.Bits.{bit_at-zero, bit_at_cat_high, bit_at_cat_low, bit_at_above, bit_at-trailing_zeros}
use Rattle.schema_graph.proofs.Numbers.{same_or_not}
use Rattle.schema_levels.specs.Bits.{bit, IsLast, IsLastIn}

shifted : (w s i : ℕ) → s ≤ i → bit_at w i ≡ bit_at (w / 2 ^ s) (i - s)
shifted w s i le =
    let e : w / 2 ^ s * 2 ^ s + w % 2 ^ s ≡ w = omega (arith, mod-add-div' w (2 ^ s)) in
    sym (ap (λ n. bit_at n i) e) ∙ bit_at_cat_high (w / 2 ^ s) s (w % 2 ^ s) i (mod-lt w (pow_pos s)) le

pub none_left : (w s k : ℕ) → w / 2 ^ s ≡ 0 → s ≤ k → bit_at w k ≡ 0
none_left w s k e le = shifted w s k le ∙ ap (λ n. bit_at n (k - s)) e ∙ bit_at-zero (k - s)

module _ (w s : ℕ) (low : w < 2 ^ 64) (some : 0 < w / 2 ^ s) where
  left_low : w / 2 ^ s < 2 ^ 64
  left_low = omega (arith, low, div-le_self w (2 ^ s))

  pub first_within : s + trailing_zeros w64 (w / 2 ^ s) ≤ 64
  first_within =
      let n = trailing_zeros w64 (w / 2 ^ s) in
      let is : bit_at (w / 2 ^ s) n ≡ 1 = (bit_at-trailing_zeros w64 (w / 2 ^ s) some left_low).1 in
      ⊎_elim (λ (le : s + n ≤ 64). le) (λ (over : 64 < s + n).
      let z : bit_at w (s + n) ≡ 0 = bit_at_above w 64 (s + n) low (omega arith) in
      let back : s + n - s ≡ n = omega arith in
      let o : bit_at w (s + n) ≡ 1 = shifted w s (s + n) (omega arith) ∙ ap (bit_at (w / 2 ^ s)) back ∙ is in
      absurd (omega (arith, z, o))) (cases (s + n) 64)
    where
      cases : (a b : ℕ) → (a ≤ b) ⊎ (b < a)
      cases a b = grind arith

  pub first_none : (k : ℕ) → s ≤ k → k < s + trailing_zeros w64 (w / 2 ^ s) → bit_at w k ≡ 0
  first_none k le lt = shifted w s k le ∙ (bit_at-trailing_zeros w64 (w / 2 ^ s) some left_low).2 (k - s) (omega arith)

-- a number whose place in its word has a 0
pub in_word : (ws : List ℕ) (at j w : ℕ) → at < length ws → w ≡ get_or ws at w → j / 64 ≡ at → bit_at w (j % 64) ≡ 0 → bit ws j ≡ false
in_word ws at j w lt is e z =
    ap (λ n. nat_eq (bit_at (slice_index_or ws n 0) (j % 64)) 1) e ∙ ap (λ v. nat_eq (bit_at v (j % 64)) 1) (default ws at w lt ∙ sym is) ∙ ap (λ b. nat_eq b 1) z
  where
    default : (ws : List ℕ) (i w : ℕ) → i < length ws → get_or ws i 0 ≡ get_or ws i w
    default [] i w lt = absurd (omega arith)
    default (v ∷ ws) zero w lt = refl
    default (v ∷ ws) (suc i) w lt = default ws i w (omega arith)

-- ---- the last 1

-- a number that is not 0 has its highest 1 there
module _ (v : ℕ) (low : v < 2 ^ 64) (some : 0 < v) where
  top : ℕ
  top = 63 - count_leading_zeros 64 v

  top_is : (j : ℕ) × (top ≡ j) × (2 ^ j ≤ v) × (v < 2 ^ suc j)
  unfolding top
  top_is = let t = leading_top 64 v some low in (t.0, omega (arith, t.1), t.2, t.3)

  pub top_one : bit_at v (63 - count_leading_zeros 64 v) ≡ 1
  unfolding top
  top_one =
      let t = top_is in
      let j = t.0 in
      let twice : 2 ^ suc j ≡ 2 ^ j * 2 = pow-suc 2 j in
      let less : v - 2 ^ j < 2 ^ j = omega (arith, t.2, t.3, twice) in
      let split : 1 * 2 ^ j + (v - 2 ^ j) ≡ v = omega (arith, t.2) in
      let zero_is : j - j ≡ 0 = omega arith in
      ap (bit_at v) t.1 ∙ sym (ap (λ n. bit_at n j) split) ∙ bit_at_cat_high 1 j (v - 2 ^ j) j less (omega arith) ∙ ap (bit_at 1) zero_is

  pub top_none : (k : ℕ) → 63 - count_leading_zeros 64 v < k → bit_at v k ≡ 0
  unfolding top
  top_none k lt = let t = top_is in bit_at_above v (suc t.0) k t.3 (omega (arith, t.1, lt))

  pub top_below : (u : ℕ) → v < 2 ^ u → 63 - count_leading_zeros 64 v < u
  unfolding top
  top_below u lt = ⊎_elim (λ (h : 63 - count_leading_zeros 64 v < u). h) (λ (le : u ≤ 63 - count_leading_zeros 64 v).
      let z : bit_at v (63 - count_leading_zeros 64 v) ≡ 0 = bit_at_above v u (63 - count_leading_zeros 64 v) lt le in
      absurd (let o = top_one in omega (arith, z, o))) (either (63 - count_leading_zeros 64 v) u)
    where
      either : (a b : ℕ) → (a < b) ⊎ (b ≤ a)
      either a b = grind arith

mask_is : (u : ℕ) → u < 64 → 1 * 2 ^ u % 2 ^ 64 ≡ 2 ^ u
mask_is u lt = let one : 1 * 2 ^ u ≡ 2 ^ u = omega arith in ap (λ n. n % 2 ^ 64) one ∙ mod-eq_of_lt (pow_below u lt)
  where
    pow_below : (u : ℕ) → u < 64 → 2 ^ u < 2 ^ 64
    pow_below u lt = pow-lt lt

low_same : (w u k : ℕ) → k < u → bit_at (w % 2 ^ u) k ≡ bit_at w k
low_same w u k lt =
    let e : w / 2 ^ u * 2 ^ u + w % 2 ^ u ≡ w = omega (arith, mod-add-div' w (2 ^ u)) in
    sym (bit_at_cat_low (w / 2 ^ u) u (w % 2 ^ u) k lt) ∙ ap (λ n. bit_at n k) e

pub none_low : (w u k : ℕ) → u < 64 → w % (1 * 2 ^ u % 2 ^ 64) ≡ 0 → k < u → bit_at w k ≡ 0
none_low w u k small e lt = sym (low_same w u k lt) ∙ ap (λ n. bit_at n k) (sym (ap (λ m. w % m) (mask_is u small)) ∙ e) ∙ bit_at-zero k

pub last_below : (w u : ℕ) → w < 2 ^ 64 → u < 64 → 0 < w % (1 * 2 ^ u % 2 ^ 64) → IsLastIn w u (63 - count_leading_zeros 64 (w % (1 * 2 ^ u % 2 ^ 64)))
last_below w u low small some = subst (λ m. 0 < w % m → IsLastIn w u (63 - count_leading_zeros 64 (w % m))) (sym (mask_is u small)) (by_low (w % 2 ^ u) refl) some
  where
    by_low : (v : ℕ) → v ≡ w % 2 ^ u → 0 < w % 2 ^ u → IsLastIn w u (63 - count_leading_zeros 64 (w % 2 ^ u))
    by_low v e some =
        let v_low : w % 2 ^ u < 2 ^ 64 = omega (arith, low, mod-le w (2 ^ u)) in
        let below = top_below (w % 2 ^ u) v_low some u (mod-lt w (pow_pos u)) in
        record {
          below = below;
          is_one = sym (low_same w u (63 - count_leading_zeros 64 (w % 2 ^ u)) below) ∙ top_one (w % 2 ^ u) v_low some;
          none = λ k lt lt'. sym (low_same w u k lt') ∙ top_none (w % 2 ^ u) v_low some k lt;
        }

-- the last number in the words before one, where the word has a 1
pub last_of_word : (ws : List ℕ) (at upto : ℕ) → at < upto → slice_index_or ws at 0 < 2 ^ 64 → 0 < slice_index_or ws at 0 → ((j : ℕ) → 64 * (at + 1) ≤ j → j < 64 * upto → bit ws j ≡ false)
    → IsLast ws (64 * upto) (at * 64 + (63 - count_leading_zeros 64 (slice_index_or ws at 0)))
last_of_word ws at upto lt low some none =
    let w = slice_index_or ws at 0 in
    let k = 63 - count_leading_zeros 64 w in
    let small : k < 64 = omega arith in
    let word : (at * 64 + k) / 64 ≡ at = omega (arith, small) in
    let place : (at * 64 + k) % 64 ≡ k = omega (arith, small) in
    record {
      below = omega (arith, small, lt);
      is_in = ap (λ n. nat_eq (bit_at (slice_index_or ws n 0) ((at * 64 + k) % 64)) 1) word ∙ ap (λ n. nat_eq (bit_at w n) 1) place ∙ ap (λ b. nat_eq b 1) (top_one w low some);
      none = λ j above less. ⊎_elim
          (λ (same : j / 64 ≡ at). ap (λ n. nat_eq (bit_at (slice_index_or ws n 0) (j % 64)) 1) same ∙ ap (λ b. nat_eq b 1) (top_none w low some (j % 64) (omega (arith, same, above, small))))
          (λ other. none j (omega (arith, other, above, small)) less)
          (same_or_not (j / 64) at);
    }
