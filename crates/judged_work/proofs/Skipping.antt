-- Nodes that aren't in the set weigh nothing, so they may be passed over.
use Rattle.std.proofs.Common.{◌≡◌, ℕ, zero, suc, ◌+◌, ◌-◌, ◌<◌, ◌≤◌, ◌⊎◌, ⊎_elim, List, [], ◌∷◌, false, length, drop, drop-cons, get_or, refl, sym, ap, ◌∙◌, if◌then◌else◌, zero-add, arith}
use Rattle.doc_tree.specs.Doc.{Doc}
use Rattle.schema_levels.specs.Bits.{bit}
use Rattle.schema_levels.specs.declared.node.Node.{Node}
use Rattle.judged_work.specs.Work.{node_weight, weight_from}

cases : (a b : ℕ) → (a < b) ⊎ (b ≤ a)
cases a b = grind arith

drop_past : (nodes : List Node) (i : ℕ) → length nodes ≤ i → drop i nodes ≡ []
drop_past [] zero le = refl
drop_past [] (suc i) le = refl
drop_past (x ∷ xs) zero le = absurd (omega arith)
drop_past (x ∷ xs) (suc i) le = drop_past xs i (omega arith)

drop_next : (nodes : List Node) (i : ℕ) → i < length nodes → (x : Node) × (drop i nodes ≡ x ∷ drop (suc i) nodes)
drop_next [] i lt = absurd (omega arith)
drop_next (x ∷ xs) zero lt = (x, refl)
drop_next (x ∷ xs) (suc i) lt = drop_next xs i (omega arith)

-- what those from that number on weigh
abbrev pub rest : List ℕ → List Node → Doc → ℕ → ℕ
rest asked nodes t i = weight_from asked i (drop i nodes) t

-- what the node weighs if it is in the set
abbrev pub one : List ℕ → Doc → ℕ → Node → ℕ
one asked t i x = if bit asked i then node_weight (length asked) x t else 0

module _ (asked : List ℕ) (nodes : List Node) (t : Doc) where
  one_off : (i : ℕ) → bit asked i ≡ false → rest asked nodes t i ≡ rest asked nodes t (suc i)
  one_off i off = ⊎_elim
      (λ lt. let x = drop_next nodes i lt in ap (λ l. weight_from asked i l t) x.1 ∙ ap (λ b. (if b then node_weight (length asked) x.0 t else 0) + rest asked nodes t (suc i)) off ∙ zero-add (rest asked nodes t (suc i)))
      (λ (past : length nodes ≤ i). ap (λ l. weight_from asked i l t) (drop_past nodes i past) ∙ sym (ap (λ l. weight_from asked (suc i) l t) (drop_past nodes (suc i) (omega arith))))
      (cases i (length nodes))

  skip_by : (d i : ℕ) → ((k : ℕ) → i ≤ k → k < i + d → bit asked k ≡ false) → rest asked nodes t i ≡ rest asked nodes t (i + d)
  skip_by zero i none = let e : i ≡ i + 0 = omega arith in ap (rest asked nodes t) e
  skip_by (suc d) i none =
      let e : suc i + d ≡ i + suc d = omega arith in
      one_off i (none i (omega arith) (omega arith)) ∙ skip_by d (suc i) (λ k le lt. none k (omega arith) (omega arith)) ∙ ap (rest asked nodes t) e

  pub skip : (i j : ℕ) → i ≤ j → ((k : ℕ) → i ≤ k → k < j → bit asked k ≡ false) → rest asked nodes t i ≡ rest asked nodes t j
  skip i j le none = let e : i + (j - i) ≡ j = omega arith in skip_by (j - i) i (λ k l lt. none k l (omega arith)) ∙ ap (rest asked nodes t) e

  pub begins : (j : ℕ) → ((k : ℕ) → 0 ≤ k → k < j → bit asked k ≡ false) → weight_from asked 0 nodes t ≡ rest asked nodes t j
  begins j none = skip 0 j (omega arith) none

  pub here : (i : ℕ) (x : Node) → i < length nodes → x ≡ get_or nodes i x → rest asked nodes t i ≡ one asked t i x + rest asked nodes t (i + 1)
  here i x lt is =
      let e : suc i ≡ i + 1 = omega arith in
      ap (λ l. weight_from asked i l t) (drop-cons nodes i x lt) ∙ sym (ap (λ y. one asked t i y + rest asked nodes t (suc i)) is) ∙ ap (λ n. one asked t i x + rest asked nodes t n) e

  pub steps : (i j : ℕ) (x : Node) → i < length nodes → x ≡ get_or nodes i x → i + 1 ≤ j → ((k : ℕ) → i + 1 ≤ k → k < j → bit asked k ≡ false) → rest asked nodes t i ≡ one asked t i x + rest asked nodes t j
  steps i j x lt is le none = here i x lt is ∙ ap (λ n. one asked t i x + n) (skip (i + 1) j le none)

  pub past : (i : ℕ) → length nodes ≤ i → rest asked nodes t i ≡ 0
  past i le = ap (λ l. weight_from asked i l t) (drop_past nodes i le)

-- what is left, and what is still to be weighed
pub shift : (left left' all before one rest rest' : ℕ) → left + all ≡ before + rest → rest ≡ one + rest' → left' + one ≡ left → left' + all ≡ before + rest'
shift left left' all before one rest rest' h e s = omega arith
