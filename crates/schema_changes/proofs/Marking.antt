-- What is in a set after nodes have marked what they ask for, and what isn't.
use Rattle.std.proofs.Common.{◌≡◌, ℕ, zero, suc, ◌+◌, ◌<◌, ◌≤◌, ◌⊎◌, inl, inr, ⊎_elim, List, [], ◌∷◌, ◌++◌, Bool, true, false, length, Some, refl, sym, ap, subst, ◌∙◌, if◌then◌else◌, arith}
use Rattle.std.specs.Option.{option_to_list}
use Rattle.schema_graph.specs.Walks.{In, first, later}
use Rattle.schema_graph.proofs.Among.{none_in}
use Rattle.schema_graph.proofs.Numbers.{same_or_not}
use Rattle.schema_levels.specs.Bits.{bit, mark_all, put, size}
use Rattle.schema_levels.specs.Closure.{rules_at}
use Rattle.schema_levels.specs.Nodes.{node_get}
use Rattle.schema_levels.specs.PlaceInValue.{PlaceInValue}
use Rattle.schema_levels.specs.EachInSet.{walk}
use Rattle.schema_levels.specs.declared.node.Node.{Node}
use Rattle.schema_levels.specs.declared.node.Rule.{Rule}
use Rattle.schema_levels.proofs.Marks.{bit_other, mark_append, mark_in, mark_len, mark_other, mark_stays}
use Rattle.schema_changes.specs.Again.{anew_here, close_must, mark_anew_rules, mark_must, mark_must_below, must_all_below, must_all_here, must_below, must_here}

-- a number in the set was in it before, or is one of those that were marked
pub mark_out : (is bs : List ℕ) (j : ℕ) → bit (mark_all is bs) j ≡ true → (bit bs j ≡ true) ⊎ In j is
mark_out [] bs j on = inl on
mark_out (i ∷ is) bs j on = ⊎_elim
    (λ (put_on : bit (put bs i true) j ≡ true). ⊎_elim
    (λ (e : j ≡ i). inr (subst (λ k. In j (k ∷ is)) e first))
    (λ ne. inl (sym (bit_other bs i j true ne) ∙ put_on))
    (same_or_not j i))
    (λ at. inr (later at))
    (mark_out is (put bs i true) j on)

-- ---- the rules of a node

pub mark_must_is : (rs : List Rule) (bs : List ℕ) → mark_must rs bs ≡ mark_all (must_all_here rs) bs
mark_must_is [] bs = refl
mark_must_is (r ∷ rs) bs = mark_must_is rs (mark_all (must_here r) bs) ∙ sym (mark_append (must_here r) (must_all_here rs) bs)

pub mark_must_below_is : (x : Node) (p : PlaceInValue) (rs : List Rule) (bs : List ℕ) → mark_must_below x p rs bs ≡ mark_all (must_all_below x p rs) bs
mark_must_below_is x p [] bs = refl
mark_must_below_is x p (r ∷ rs) bs =
    mark_must_below_is x p rs (mark_all (option_to_list (must_below x r p)) bs) ∙ sym (mark_append (option_to_list (must_below x r p)) (must_all_below x p rs) bs)

abbrev pub anew_all_here : List Rule → List ℕ
anew_all_here [] = []
anew_all_here (r ∷ rs) = anew_here r ++ anew_all_here rs

pub mark_anew_rules_is : (rs : List Rule) (bs : List ℕ) → mark_anew_rules rs bs ≡ mark_all (anew_all_here rs) bs
mark_anew_rules_is [] bs = refl
mark_anew_rules_is (r ∷ rs) bs = mark_anew_rules_is rs (mark_all (anew_here r) bs) ∙ sym (mark_append (anew_here r) (anew_all_here rs) bs)

-- ---- all nodes of a set

module _ (each : ℕ → Node → List ℕ → List ℕ) (asks : ℕ → Node → List ℕ) (is : (n : ℕ) (x : Node) (bs : List ℕ) → each n x bs ≡ mark_all (asks n x) bs) (asked : List ℕ) where
  one_len : (b : Bool) (i : ℕ) (x : Node) (bs : List ℕ) → length (if b then each i x bs else bs) ≡ length bs
  one_len true i x bs = ap length (is i x bs) ∙ mark_len (asks i x) bs
  one_len false i x bs = refl

  one_stays : (b : Bool) (i : ℕ) (x : Node) (bs : List ℕ) (j : ℕ) → bit bs j ≡ true → j < size bs → bit (if b then each i x bs else bs) j ≡ true
  one_stays true i x bs j h lt = ap (λ l. bit l j) (is i x bs) ∙ mark_stays (asks i x) bs j h lt
  one_stays false i x bs j h lt = h

  one_in : (b : Bool) (i : ℕ) (x : Node) (bs : List ℕ) (j : ℕ) → b ≡ true → In j (asks i x) → j < size bs → bit (if b then each i x bs else bs) j ≡ true
  one_in true i x bs j e at lt = ap (λ l. bit l j) (is i x bs) ∙ mark_in (asks i x) bs j at lt
  one_in false i x bs j e at lt = absurd cc

  one_out : (b : Bool) (i : ℕ) (x : Node) (bs : List ℕ) (j : ℕ) → bit (if b then each i x bs else bs) j ≡ true → (bit bs j ≡ true) ⊎ ((b ≡ true) × In j (asks i x))
  one_out true i x bs j on = ⊎_elim (λ h. inl h) (λ at. inr (refl, at)) (mark_out (asks i x) bs j (sym (ap (λ l. bit l j) (is i x bs)) ∙ on))
  one_out false i x bs j on = inl on

  pub walk_len : (i : ℕ) (xs : List Node) (bs : List ℕ) → length (walk each asked i xs bs) ≡ length bs
  walk_len i [] bs = refl
  walk_len i (x ∷ xs) bs = walk_len (suc i) xs (if bit asked i then each i x bs else bs) ∙ one_len (bit asked i) i x bs

  pub walk_stays : (i : ℕ) (xs : List Node) (bs : List ℕ) (j : ℕ) → bit bs j ≡ true → j < size bs → bit (walk each asked i xs bs) j ≡ true
  walk_stays i [] bs j h lt = h
  walk_stays i (x ∷ xs) bs j h lt = walk_stays (suc i) xs (if bit asked i then each i x bs else bs) j (one_stays (bit asked i) i x bs j h lt) (rw (one_len (bit asked i) i x bs) lt)

  -- what a node of the set asks for is marked
  pub walk_in : (i k j : ℕ) (x : Node) (xs : List Node) (bs : List ℕ) → node_get xs k ≡ Some x → bit asked (i + k) ≡ true → In j (asks (i + k) x) → j < size bs → bit (walk each asked i xs bs) j ≡ true
  walk_in i k j x [] bs g on at lt = absurd cc
  walk_in i zero j x (y ∷ ys) bs g on at lt =
      let e : i + zero ≡ i = omega arith in
      let same : y ≡ x = cc in
      let on' : bit asked i ≡ true = subst (λ n. bit asked n ≡ true) e on in
      let at' : In j (asks i y) = subst (λ z. In j (asks i z)) (sym same) (subst (λ n. In j (asks n x)) e at) in
      walk_stays (suc i) ys (if bit asked i then each i y bs else bs) j (one_in (bit asked i) i y bs j on' at' lt) (rw (one_len (bit asked i) i y bs) lt)
  walk_in i (suc k) j x (y ∷ ys) bs g on at lt =
      let e : i + suc k ≡ suc i + k = omega arith in
      walk_in (suc i) k j x ys (if bit asked i then each i y bs else bs) g (subst (λ n. bit asked n ≡ true) e on) (subst (λ n. In j (asks n x)) e at) (rw (one_len (bit asked i) i y bs) lt)

  -- and nothing else is
  pub walk_out : (P : Type 0) (j i : ℕ) (xs : List Node) (bs : List ℕ) → (bit bs j ≡ true → P) → ((k : ℕ) (x : Node) → node_get xs k ≡ Some x → bit asked (i + k) ≡ true → In j (asks (i + k) x) → P)
      → bit (walk each asked i xs bs) j ≡ true → P
  walk_out P j i [] bs was asks-j on = was on
  walk_out P j i (x ∷ xs) bs was asks-j on =
      let zero_is : i ≡ i + zero = omega arith in
      walk_out P j (suc i) xs (if bit asked i then each i x bs else bs)
      (λ h. ⊎_elim was (λ (h' : (bit asked i ≡ true) × In j (asks i x)). asks-j zero x refl (subst (λ n. bit asked n ≡ true) zero_is h'.0) (subst (λ n. In j (asks n x)) zero_is h'.1)) (one_out (bit asked i) i x bs j h))
      (λ k y g on' at. let s : suc i + k ≡ i + suc k = omega arith in asks-j (suc k) y g (subst (λ n. bit asked n ≡ true) s on') (subst (λ n. In j (asks n y)) s at))
      on

-- ---- the closed set

-- each number that must pass where this one does is in the set
abbrev pub LeadsIn : List Node → List ℕ → ℕ → Type 0
LeadsIn nodes bs i = bit bs i ≡ true → (j : ℕ) → In j (must_all_here (rules_at nodes i)) → bit bs j ≡ true

abbrev pub Falls : List Node → List ℕ → Type 0
Falls nodes bs = (i j : ℕ) → In j (must_all_here (rules_at nodes i)) → (j < i) × (j < size bs)

module _ (nodes : List Node) where
  step_len : (b : Bool) (i : ℕ) (bs : List ℕ) → length (if b then mark_must (rules_at nodes i) bs else bs) ≡ length bs
  step_len true i bs = ap length (mark_must_is (rules_at nodes i) bs) ∙ mark_len (must_all_here (rules_at nodes i)) bs
  step_len false i bs = refl

  pub close_len : (n : ℕ) (bs : List ℕ) → length (close_must nodes n bs) ≡ length bs
  close_len zero bs = refl
  close_len (suc i) bs = close_len i (if bit bs i then mark_must (rules_at nodes i) bs else bs) ∙ step_len (bit bs i) i bs

  keeps_by : (b : Bool) (i j : ℕ) (bs : List ℕ) → bit bs j ≡ true → j < size bs → bit (if b then mark_must (rules_at nodes i) bs else bs) j ≡ true
  keeps_by true i j bs h lt = ap (λ x. bit x j) (mark_must_is (rules_at nodes i) bs) ∙ mark_stays (must_all_here (rules_at nodes i)) bs j h lt
  keeps_by false i j bs h lt = h

  pub close_keeps : (n j : ℕ) (bs : List ℕ) → bit bs j ≡ true → j < size bs → bit (close_must nodes n bs) j ≡ true
  close_keeps zero j bs h lt = h
  close_keeps (suc i) j bs h lt = close_keeps i j (if bit bs i then mark_must (rules_at nodes i) bs else bs) (keeps_by (bit bs i) i j bs h lt) (rw (step_len (bit bs i) i bs) lt)

  -- what holds of each number in the set, and of each that must pass where one does, holds of the closed set
  out_by : (P : ℕ → Bool) → ((i j : ℕ) → In j (must_all_here (rules_at nodes i)) → P i ≡ true → P j ≡ true)
      → (b : Bool) (i : ℕ) (bs : List ℕ) → bit bs i ≡ b → ((j : ℕ) → bit bs j ≡ true → P j ≡ true) → (j : ℕ) → bit (if b then mark_must (rules_at nodes i) bs else bs) j ≡ true → P j ≡ true
  out_by P leads true i bs e h j on = ⊎_elim (h j) (λ at. leads i j at (h i e)) (mark_out (must_all_here (rules_at nodes i)) bs j (sym (ap (λ x. bit x j) (mark_must_is (rules_at nodes i) bs)) ∙ on))
  out_by P leads false i bs e h j on = h j on

  pub close_out : (P : ℕ → Bool) → ((i j : ℕ) → In j (must_all_here (rules_at nodes i)) → P i ≡ true → P j ≡ true) → (n : ℕ) (bs : List ℕ) → ((j : ℕ) → bit bs j ≡ true → P j ≡ true)
      → (j : ℕ) → bit (close_must nodes n bs) j ≡ true → P j ≡ true
  close_out P leads zero bs h j on = h j on
  close_out P leads (suc i) bs h j on = close_out P leads i (if bit bs i then mark_must (rules_at nodes i) bs else bs) (out_by P leads (bit bs i) i bs refl h) j on

  leads_by : (b : Bool) (i : ℕ) (bs : List ℕ) → bit bs i ≡ b → Falls nodes bs → ((k : ℕ) → suc i ≤ k → LeadsIn nodes bs k) → (k : ℕ) → i ≤ k → LeadsIn nodes (if b then mark_must (rules_at nodes i) bs else bs) k
  leads_by false i bs e f h k le on j at = ⊎_elim
      (λ (same : k ≡ i). absurd (let e' = ap (bit bs) (sym same) in cc))
      (λ ne. h k (omega arith) on j at)
      (same_or_not k i)
  leads_by true i bs e f h k le on j at =
      let is = mark_must_is (rules_at nodes i) bs in
      let js = must_all_here (rules_at nodes i) in
      let lt = f k j at in
      let was : bit bs k ≡ true = sym (mark_other js bs k (λ x. absurd (let less = f i k x in omega (arith, less.0)))) ∙ sym (ap (λ x. bit x k) is) ∙ on in
      ap (λ x. bit x j) is ∙ ⊎_elim
      (λ (same : k ≡ i). mark_in js bs j (subst (λ m. In j (must_all_here (rules_at nodes m))) same at) lt.1)
      (λ ne. mark_stays js bs j (h k (omega arith) was j at) lt.1)
      (same_or_not k i)

  leads_down : (n : ℕ) (bs : List ℕ) → Falls nodes bs → ((k : ℕ) → n ≤ k → LeadsIn nodes bs k) → (k : ℕ) → LeadsIn nodes (close_must nodes n bs) k
  leads_down zero bs f h k = h k (omega arith)
  leads_down (suc i) bs f h k =
      leads_down i (if bit bs i then mark_must (rules_at nodes i) bs else bs)
      (λ a j at. ((f a j at).0, rw (step_len (bit bs i) i bs) (f a j at).1))
      (leads_by (bit bs i) i bs refl f h) k

  past : (xs : List Node) (i : ℕ) → length xs ≤ i → rules_at xs i ≡ []
  past [] i le = refl
  past (x ∷ xs) zero le = absurd (omega arith)
  past (x ∷ xs) (suc i) le = past xs i (omega arith)

  pub close_leads : (bs : List ℕ) → Falls nodes bs → (k : ℕ) → LeadsIn nodes (close_must nodes (length nodes) bs) k
  close_leads bs f = leads_down (length nodes) bs f (λ k le on j at. none_in j (subst (λ rs. In j (must_all_here rs)) (past nodes k le) at))
