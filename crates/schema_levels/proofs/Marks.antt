-- What stays and what is new in a set of numbers.
use Rattle.std.proofs.Common.{◌≡◌, ◌≢◌, ℕ, zero, suc, ◌/◌, ◌%◌, ◌<◌, ◌≤◌, ◌⊎◌, inl, inr, ⊎_elim, List, [], ◌∷◌, ◌++◌, Bool, true, false, nat_eq, slice_index_or, length, set, refl, sym, ap, subst, ◌∙◌, arith, get_or-set_same, get_or-set_other, length-set}
use Rattle.std.specs.Int.{bit_at, w64}
use Rattle.std.proofs.lemmas.Nat.Bits.{bit_at_set_same, bit_at_set_other, bit_at_clear_same, bit_at_clear_other}
use Rattle.schema_graph.specs.Walks.{In, first, later}
use Rattle.schema_graph.proofs.Among.{none_in}
use Rattle.schema_graph.proofs.Numbers.{same_or_not}
use Rattle.schema_levels.specs.Bits.{bit, mark_all, put, size, with_bit}

-- ---- one word

with_same : (b : Bool) (w k : ℕ) → k < 64 → nat_eq (bit_at (with_bit b w k) k) 1 ≡ b
with_same true w k lt = ap (λ n. nat_eq n 1) (bit_at_set_same w64 w k lt)
with_same false w k lt = ap (λ n. nat_eq n 1) (bit_at_clear_same w64 w k lt)

with_other : (b : Bool) (w k j : ℕ) → k < 64 → j < 64 → j ≢ k → bit_at (with_bit b w k) j ≡ bit_at w j
with_other true w k j lt lt' ne = bit_at_set_other w64 w k lt j ne
with_other false w k j lt lt' ne = bit_at_clear_other w64 w k lt j lt' ne

set_past : (ws : List ℕ) (i v : ℕ) → length ws ≤ i → set ws i v ≡ ws
set_past [] i v le = refl
set_past (w ∷ ws) zero v le = absurd (omega arith)
set_past (w ∷ ws) (suc i) v le = ap (λ l. w ∷ l) (set_past ws i v (omega arith))

below_64 : (i : ℕ) → i % 64 < 64
below_64 i = omega arith

apart : (i j : ℕ) → j ≢ i → j / 64 ≡ i / 64 → j % 64 ≢ i % 64
apart i j ne e h = ne (omega (arith, e, h))

-- ---- words

pub bit_same : (ws : List ℕ) (i : ℕ) (b : Bool) → i < size ws → bit (put ws i b) i ≡ b
unfolding put
bit_same ws i b lt =
    let within : i / 64 < length ws = omega (arith, lt) in
    ap (λ w. nat_eq (bit_at w (i % 64)) 1) (get_or-set_same ws (i / 64) (with_bit b (slice_index_or ws (i / 64) 0) (i % 64)) 0 within) ∙ with_same b (slice_index_or ws (i / 64) 0) (i % 64) (below_64 i)

pub bit_other : (ws : List ℕ) (i j : ℕ) (b : Bool) → j ≢ i → bit (put ws i b) j ≡ bit ws j
unfolding put
bit_other ws i j b ne = ⊎_elim
    (λ (e : j / 64 ≡ i / 64). same_word e (cases (i / 64) (length ws)))
    (λ far. ap (λ w. nat_eq (bit_at w (j % 64)) 1) (get_or-set_other ws (i / 64) (j / 64) (with_bit b (slice_index_or ws (i / 64) 0) (i % 64)) 0 far))
    (same_or_not (j / 64) (i / 64))
  where
    cases : (a b : ℕ) → (a < b) ⊎ (b ≤ a)
    cases a b = grind arith

    same_word : j / 64 ≡ i / 64 → (i / 64 < length ws) ⊎ (length ws ≤ i / 64) → bit (set ws (i / 64) (with_bit b (slice_index_or ws (i / 64) 0) (i % 64))) j ≡ bit ws j
    same_word e (inl within) =
        let word = with_bit b (slice_index_or ws (i / 64) 0) (i % 64) in
        ap (λ n. nat_eq (bit_at (slice_index_or (set ws (i / 64) word) n 0) (j % 64)) 1) e
        ∙ ap (λ w. nat_eq (bit_at w (j % 64)) 1) (get_or-set_same ws (i / 64) word 0 within)
        ∙ ap (λ n. nat_eq n 1) (with_other b (slice_index_or ws (i / 64) 0) (i % 64) (j % 64) (below_64 i) (below_64 j) (apart i j ne e))
        ∙ sym (ap (λ n. nat_eq (bit_at (slice_index_or ws n 0) (j % 64)) 1) e)
    same_word e (inr past) = ap (λ l. bit l j) (set_past ws (i / 64) (with_bit b (slice_index_or ws (i / 64) 0) (i % 64)) past)

pub set_len : (ws : List ℕ) (i : ℕ) (b : Bool) → length (put ws i b) ≡ length ws
unfolding put
set_len ws i b = length-set ws (i / 64) (with_bit b (slice_index_or ws (i / 64) 0) (i % 64))

-- what is in stays in
pub stays : (bs : List ℕ) (i j : ℕ) → bit bs j ≡ true → j < size bs → bit (put bs i true) j ≡ true
stays bs i j h lt = ⊎_elim (λ (e : j ≡ i). subst (λ k. bit (put bs i true) k ≡ true) (sym e) (bit_same bs i true (subst (λ k. k < size bs) e lt))) (λ ne. bit_other bs i j true ne ∙ h) (same_or_not j i)

pub mark_len : (is : List ℕ) (bs : List ℕ) → length (mark_all is bs) ≡ length bs
mark_len [] bs = refl
mark_len (i ∷ is) bs = mark_len is (put bs i true) ∙ set_len bs i true

pub mark_stays : (is : List ℕ) (bs : List ℕ) (j : ℕ) → bit bs j ≡ true → j < size bs → bit (mark_all is bs) j ≡ true
mark_stays [] bs j h lt = h
mark_stays (i ∷ is) bs j h lt = mark_stays is (put bs i true) j (stays bs i j h lt) (rw (set_len bs i true) lt)

pub mark_in : (is : List ℕ) (bs : List ℕ) (j : ℕ) → In j is → j < size bs → bit (mark_all is bs) j ≡ true
mark_in [] bs j i lt = none_in j i
mark_in (_ ∷ is) bs j first lt = mark_stays is (put bs j true) j (bit_same bs j true lt) (rw (set_len bs j true) lt)
mark_in (k ∷ is) bs j (later i) lt = mark_in is (put bs k true) j i (rw (set_len bs k true) lt)

-- numbers that aren't among them are as they were
pub mark_other : (is : List ℕ) (bs : List ℕ) (j : ℕ) → (In j is → ⊥) → bit (mark_all is bs) j ≡ bit bs j
mark_other [] bs j none = refl
mark_other (i ∷ is) bs j none = mark_other is (put bs i true) j (λ x. none (later x)) ∙ bit_other bs i j true (λ e. none (subst (λ k. In j (k ∷ is)) e first))

pub mark_append : (is js : List ℕ) (bs : List ℕ) → mark_all (is ++ js) bs ≡ mark_all js (mark_all is bs)
mark_append [] js bs = refl
mark_append (i ∷ is) js bs = mark_append is js (put bs i true)
