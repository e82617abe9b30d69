-- Nodes that hold, up to the next one of a set.
use Rattle.std.proofs.Common.{◌≡◌, ◌⊎◌, ⊎_elim, ℕ, ◌+◌, ◌<◌, ◌≤◌, List, Bool, true, false, Some, length, get_or, sym, ap, subst, ◌∙◌, arith}
use Rattle.schema_levels.specs.Bits.{bit}
use Rattle.schema_levels.specs.Nodes.{node_get}
use Rattle.schema_levels.specs.declared.node.Node.{Node}
use Rattle.schema_changes.proofs.Skipping.{node_at}

pub node_is : (nodes : List Node) (n : ℕ) (x : Node) → n < length nodes → x ≡ get_or nodes n x → node_get nodes n ≡ Some x
node_is nodes n x lt is = node_at nodes n x lt ∙ ap (λ y. Some y) (sym is)

same_node : (x y : Node) → Some x ≡ Some y → x ≡ y
same_node x y e = cc

module _ (nodes : List Node) (asked : List ℕ) (holds : ℕ → Node → Bool) where
  abbrev pub Upto : ℕ → Type 0
  Upto n = (i : ℕ) (x : Node) → i < n → node_get nodes i ≡ Some x → bit asked i ≡ true → holds i x ≡ true

  cases : (i n : ℕ) → (i < n) ⊎ ((i ≡ n) ⊎ (n + 1 ≤ i))
  cases i n = grind arith

  -- the one with that number holds, if it is in the set, and none after it is
  pub upto_next : (n m : ℕ) (y : Node) → node_get nodes n ≡ Some y → Upto n → (bit asked n ≡ true → holds n y ≡ true) → ((j : ℕ) → n + 1 ≤ j → j < m → bit asked j ≡ false) → Upto m
  upto_next n m y at h here none i x lt get on = ⊎_elim
      (λ less. h i x less get on)
      (λ r. ⊎_elim
      (λ (same : i ≡ n). let this : y ≡ x = same_node y x (sym at ∙ subst (λ k. node_get nodes k ≡ Some x) same get) in
      subst (λ k. holds k x ≡ true) (sym same) (subst (λ z. holds n z ≡ true) this (here (subst (λ k. bit asked k ≡ true) same on))))
      (λ after. let off : true ≡ false = sym on ∙ none i after lt in absurd cc)
      r)
      (cases i n)
