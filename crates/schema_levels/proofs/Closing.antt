-- The closed set: what was asked is in it, and so is each number to which one in it leads.
use Rattle.std.proofs.Common.{◌≡◌, ℕ, zero, suc, ◌<◌, ◌≤◌, ⊎_elim, List, [], ◌∷◌, Bool, true, false, length, refl, sym, ap, subst, ◌∙◌, if◌then◌else◌, arith}
use Rattle.schema_graph.specs.Walks.{In}
use Rattle.schema_graph.proofs.Among.{none_in}
use Rattle.schema_graph.proofs.Numbers.{same_or_not}
use Rattle.schema_levels.specs.Bits.{bit, mark_all, size}
use Rattle.schema_levels.specs.Closure.{rules_at, here, mark_rules, close}
use Rattle.schema_levels.specs.Nodes.{asked_here}
use Rattle.schema_levels.specs.declared.node.Node.{Node}
use Rattle.schema_levels.specs.declared.node.Rule.{Rule}
use Rattle.schema_levels.proofs.Marks.{mark_len, mark_stays, mark_in, mark_other, mark_append}

pub mark_rules_is : (rs : List Rule) (bs : List ℕ) → mark_rules rs bs ≡ mark_all (asked_here rs) bs
mark_rules_is [] bs = refl
mark_rules_is (r ∷ rs) bs = mark_rules_is rs (mark_all (here r) bs) ∙ sym (mark_append (here r) (asked_here rs) bs)

-- each number that the number leads to is in the set
abbrev pub LeadsIn : List Node → List ℕ → ℕ → Type 0
LeadsIn nodes bs i = bit bs i ≡ true → (j : ℕ) → In j (asked_here (rules_at nodes i)) → bit bs j ≡ true

-- what a number leads to is less, and has a place
abbrev pub Falls : List Node → List ℕ → Type 0
Falls nodes bs = (i j : ℕ) → In j (asked_here (rules_at nodes i)) → (j < i) × (j < size bs)

module _ (nodes : List Node) where
  step : ℕ → List ℕ → List ℕ
  step i bs = if bit bs i then mark_rules (rules_at nodes i) bs else bs

  step_by : (b : Bool) (i : ℕ) (bs : List ℕ) → length (if b then mark_rules (rules_at nodes i) bs else bs) ≡ length bs
  step_by true i bs = ap length (mark_rules_is (rules_at nodes i) bs) ∙ mark_len (asked_here (rules_at nodes i)) bs
  step_by false i bs = refl

  pub close_len : (n : ℕ) (bs : List ℕ) → length (close nodes n bs) ≡ length bs
  close_len zero bs = refl
  close_len (suc i) bs = close_len i (if bit bs i then mark_rules (rules_at nodes i) bs else bs) ∙ step_by (bit bs i) i bs

  keeps_by : (b : Bool) (i j : ℕ) (bs : List ℕ) → bit bs j ≡ true → j < size bs → bit (if b then mark_rules (rules_at nodes i) bs else bs) j ≡ true
  keeps_by true i j bs h lt = ap (λ x. bit x j) (mark_rules_is (rules_at nodes i) bs) ∙ mark_stays (asked_here (rules_at nodes i)) bs j h lt
  keeps_by false i j bs h lt = h

  -- what was asked is asked
  pub close_keeps : (n j : ℕ) (bs : List ℕ) → bit bs j ≡ true → j < size bs → bit (close nodes n bs) j ≡ true
  close_keeps zero j bs h lt = h
  close_keeps (suc i) j bs h lt = close_keeps i j (if bit bs i then mark_rules (rules_at nodes i) bs else bs) (keeps_by (bit bs i) i j bs h lt) (rw (step_by (bit bs i) i bs) lt)

  -- one step of the way down
  leads_by : (b : Bool) (i : ℕ) (bs : List ℕ) → bit bs i ≡ b → Falls nodes bs → ((k : ℕ) → suc i ≤ k → LeadsIn nodes bs k) → (k : ℕ) → i ≤ k → LeadsIn nodes (if b then mark_rules (rules_at nodes i) bs else bs) k
  leads_by false i bs e f h k le on j at = ⊎_elim
      (λ (same : k ≡ i). absurd (let e' = ap (bit bs) (sym same) in cc))
      (λ ne. h k (omega arith) on j at)
      (same_or_not k i)
  leads_by true i bs e f h k le on j at =
      let is = mark_rules_is (rules_at nodes i) bs in
      let js = asked_here (rules_at nodes i) in
      let lt = f k j at in
      let was : bit bs k ≡ true = sym (mark_other js bs k (λ x. absurd (let less = f i k x in omega (arith, less.0)))) ∙ sym (ap (λ x. bit x k) is) ∙ on in
      ap (λ x. bit x j) is ∙ ⊎_elim
      (λ (same : k ≡ i). mark_in js bs j (subst (λ m. In j (asked_here (rules_at nodes m))) same at) lt.1)
      (λ ne. mark_stays js bs j (h k (omega arith) was j at) lt.1)
      (same_or_not k i)

  leads_down : (n : ℕ) (bs : List ℕ) → Falls nodes bs → ((k : ℕ) → n ≤ k → LeadsIn nodes bs k) → (k : ℕ) → LeadsIn nodes (close nodes n bs) k
  leads_down zero bs f h k = h k (omega arith)
  leads_down (suc i) bs f h k =
      leads_down i (if bit bs i then mark_rules (rules_at nodes i) bs else bs)
      (λ a j at. ((f a j at).0, rw (step_by (bit bs i) i bs) (f a j at).1))
      (leads_by (bit bs i) i bs refl f h) k

  past : (xs : List Node) (i : ℕ) → length xs ≤ i → rules_at xs i ≡ []
  past [] i le = refl
  past (x ∷ xs) zero le = absurd (omega arith)
  past (x ∷ xs) (suc i) le = past xs i (omega arith)

  -- all that asked numbers lead to is asked
  pub close_leads : (bs : List ℕ) → Falls nodes bs → (k : ℕ) → LeadsIn nodes (close nodes (length nodes) bs) k
  close_leads bs f = leads_down (length nodes) bs f (λ k le on j at. none_in j (subst (λ rs. In j (asked_here rs)) (past nodes k le) at))
