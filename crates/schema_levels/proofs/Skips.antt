-- Numbers that aren't in the set may be passed over.
use Rattle.std.proofs.Common.{◌≡◌, ℕ, zero, suc, ◌+◌, ◌-◌, ◌<◌, ◌≤◌, ◌⊎◌, ⊎_elim, List, [], ◌∷◌, false, length, drop, drop-cons, get_or, refl, sym, ap, ◌∙◌, if◌then◌else◌, arith}
use Rattle.schema_levels.specs.Bits.{bit}
use Rattle.schema_levels.specs.EachInSet.{walk}
use Rattle.schema_levels.specs.declared.node.Node.{Node}

cases : (a b : ℕ) → (a < b) ⊎ (b ≤ a)
cases a b = grind arith

drop_past : (nodes : List Node) (i : ℕ) → length nodes ≤ i → drop i nodes ≡ []
drop_past [] zero le = refl
drop_past [] (suc i) le = refl
drop_past (x ∷ xs) zero le = absurd (omega arith)
drop_past (x ∷ xs) (suc i) le = drop_past xs i (omega arith)

drop_next : (nodes : List Node) (i : ℕ) → i < length nodes → (x : Node) × (drop i nodes ≡ x ∷ drop (suc i) nodes)
drop_next [] i lt = absurd (omega arith)
drop_next (x ∷ xs) zero lt = (x, refl)
drop_next (x ∷ xs) (suc i) lt = drop_next xs i (omega arith)

module _ (each : ℕ → Node → List ℕ → List ℕ) (asked : List ℕ) (nodes : List Node) where
  one_off : (i : ℕ) (bs : List ℕ) → bit asked i ≡ false → walk each asked i (drop i nodes) bs ≡ walk each asked (suc i) (drop (suc i) nodes) bs
  one_off i bs off = ⊎_elim
      (λ lt. let x = drop_next nodes i lt in ap (λ l. walk each asked i l bs) x.1 ∙ ap (λ b. walk each asked (suc i) (drop (suc i) nodes) (if b then each i x.0 bs else bs)) off)
      (λ (past : length nodes ≤ i). ap (λ l. walk each asked i l bs) (drop_past nodes i past) ∙ sym (ap (λ l. walk each asked (suc i) l bs) (drop_past nodes (suc i) (omega arith))))
      (cases i (length nodes))

  skip_by : (d i : ℕ) (bs : List ℕ) → ((k : ℕ) → i ≤ k → k < i + d → bit asked k ≡ false) → walk each asked i (drop i nodes) bs ≡ walk each asked (i + d) (drop (i + d) nodes) bs
  skip_by zero i bs none = let e : i ≡ i + 0 = omega arith in ap (λ n. walk each asked n (drop n nodes) bs) e
  skip_by (suc d) i bs none =
      let e : suc i + d ≡ i + suc d = omega arith in
      one_off i bs (none i (omega arith) (omega arith)) ∙ skip_by d (suc i) bs (λ k le lt. none k (omega arith) (omega arith)) ∙ ap (λ n. walk each asked n (drop n nodes) bs) e

  pub skip : (i j : ℕ) (bs : List ℕ) → i ≤ j → ((k : ℕ) → i ≤ k → k < j → bit asked k ≡ false) → walk each asked i (drop i nodes) bs ≡ walk each asked j (drop j nodes) bs
  skip i j bs le none = let e : i + (j - i) ≡ j = omega arith in skip_by (j - i) i bs (λ k l lt. none k l (omega arith)) ∙ ap (λ n. walk each asked n (drop n nodes) bs) e

  pub begins : (j : ℕ) (bs : List ℕ) → ((k : ℕ) → 0 ≤ k → k < j → bit asked k ≡ false) → walk each asked j (drop j nodes) bs ≡ walk each asked 0 nodes bs
  begins j bs none = sym (skip 0 j bs (omega arith) none)

  pub steps : (i j : ℕ) (x : Node) (bs bs' whole : List ℕ) → i < length nodes → x ≡ get_or nodes i x → bs' ≡ (if bit asked i then each i x bs else bs) → i + 1 ≤ j → ((k : ℕ) → i + 1 ≤ k → k < j → bit asked k ≡ false)
      → walk each asked i (drop i nodes) bs ≡ whole → walk each asked j (drop j nodes) bs' ≡ whole
  steps i j x bs bs' whole lt at is le none h =
      let e : i + 1 ≡ suc i = omega arith in
      sym (skip (i + 1) j bs' le none) ∙ ap (λ n. walk each asked n (drop n nodes) bs') e ∙ ap (walk each asked (suc i) (drop (suc i) nodes)) (is ∙ ap (λ y. if bit asked i then each i y bs else bs) at) ∙ sym (ap (λ l. walk each asked i l bs) (drop-cons nodes i x lt)) ∙ h
