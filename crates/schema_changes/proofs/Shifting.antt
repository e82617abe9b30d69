-- Where an element came to a list, or went from it, what holds again along the way there makes the whole pass.
use Rattle.std.proofs.Common.{◌≡◌, ◌≢◌, ℕ, zero, suc, ◌<◌, ◌≤◌, ◌⊎◌, inl, inr, ⊎_elim, List, [], ◌∷◌, ◌++◌, Bool, true, false, length, Option, Some, None, nat_le, nat_lt, refl, sym, ap, ap₂, subst, ◌∙◌, arith}
use Rattle.std.proofs.lemmas.Bool.Decides.{nat_tests}
use Rattle.std.proofs.lemmas.Option.{slice_get_past}
use Rattle.std.specs.Option.{option_to_list}
use Rattle.doc_tree.specs.Doc.{Doc, list, Place, name, index, child}
use Rattle.schema_graph.specs.Walks.{In}
use Rattle.schema_levels.specs.Below.{unless}
use Rattle.schema_levels.specs.Bits.{size}
use Rattle.schema_levels.specs.Nodes.{AreOrdered}
use Rattle.schema_levels.specs.Table.{IsTable}
use Rattle.schema_levels.specs.declared.node.Node.{Node}
use Rattle.schema_levels.specs.declared.node.Rule.{Rule}
use Rattle.schema_levels.specs.declared.node.Rule.TheVariants.{Says, Asserts, Matches, All, Any, One, Not, Then, Else, Dependent, Refers, Properties, Matching, Others, Names, ByPlace, Rest, Contains, AtLeast, AtMost}
use Rattle.schema_changes.specs.Agree.{AgreeBeside, AgreeButShifted, AtBoth, HasOneMore, IsShifted}
use Rattle.schema_changes.specs.Again.{AllPass, AreSteady, HoldsAlong, HoldsShifted, IsSteadyAt, PassBelow, all_steady, asked_at, closed, is_steady, must_all_below, must_below, site_of}
use Rattle.schema_changes.proofs.Children.{left_true, right_true, same_place}
use Rattle.schema_changes.proofs.Location.{below_len, from_below, from_closed, leads, to_below, to_closed}
use Rattle.schema_changes.proofs.Marking.{close_len}
use Rattle.schema_changes.proofs.Values.{all_hold, pass_below}

-- ---- behind the index all are asked the same

is_at_most : (a b : ℕ) → nat_le a b ≡ true → a ≤ b
is_at_most a b e = grind (arith, nat_tests)

not_below : (a b : ℕ) → b ≤ a → nat_lt a b ≡ false
not_below a b le = grind (arith, nat_tests)

same_rule : (n k m : ℕ) (x : Node) (r : Rule) → is_steady n x r ≡ true → n ≤ k → n ≤ m → must_below x r (site_of (index k)) ≡ must_below x r (site_of (index m))
same_rule n k m x (ByPlace v) e le le' = let most = is_at_most (length v.items) n e in slice_get_past v.items k (omega (arith, most)) ∙ sym (slice_get_past v.items m (omega (arith, most)))
same_rule n k m x (Rest j) e le le' = let most = is_at_most x.prefix n e in ap (λ b. unless b j) (not_below k x.prefix (omega (arith, most)) ∙ sym (not_below m x.prefix (omega (arith, most))))
same_rule n k m x (Says b) e le le' = refl
same_rule n k m x (Asserts a) e le le' = refl
same_rule n k m x (Matches a v) e le le' = refl
same_rule n k m x (All v) e le le' = refl
same_rule n k m x (Any v) e le le' = refl
same_rule n k m x (One v) e le le' = refl
same_rule n k m x (Not j) e le le' = refl
same_rule n k m x (Then c j) e le le' = refl
same_rule n k m x (Else c j) e le le' = refl
same_rule n k m x (Dependent ns v) e le le' = refl
same_rule n k m x (Refers j) e le le' = refl
same_rule n k m x Properties e le le' = refl
same_rule n k m x (Matching q j) e le le' = refl
same_rule n k m x (Others qs j) e le le' = refl
same_rule n k m x (Names j) e le le' = refl
same_rule n k m x (Contains j) e le le' = refl
same_rule n k m x (AtLeast j v) e le le' = refl
same_rule n k m x (AtMost j v) e le le' = refl

same_rules : (n k m : ℕ) (x : Node) (rs : List Rule) → all_steady n x rs ≡ true → n ≤ k → n ≤ m → must_all_below x (site_of (index k)) rs ≡ must_all_below x (site_of (index m)) rs
same_rules n k m x [] e le le' = refl
same_rules n k m x (r ∷ rs) e le le' =
    ap₂ (λ o js. option_to_list o ++ js) (same_rule n k m x r (left_true (is_steady n x r) (all_steady n x rs) e) le le') (same_rules n k m x rs (right_true (is_steady n x r) (all_steady n x rs) e) le le')

behind : (known : ℕ → Doc → Bool) (nodes : List Node) (asked : List ℕ) (n k m : ℕ) (d : Doc) → AreSteady n nodes asked → n ≤ k → n ≤ m → PassBelow known nodes asked (index k) d → PassBelow known nodes asked (index m) d
behind known nodes asked n k m d steady le le' h = record {
  value = λ i j x at on must. h.value i j x at on (subst (In j) (same_rules n m k x x.rules.items (steady i x at on) le' le) must);
  named = λ s is. absurd cc;
}

-- ---- the list

split : (k n : ℕ) → (k < n) ⊎ (n ≤ k)
split k n = grind arith

after_it : (k n : ℕ) → n ≤ k → (k ≡ n) ⊎ ((m : ℕ) × (k ≡ suc m) × (n ≤ m))
after_it zero n le = inl (omega arith)
after_it (suc m) n le = by_split (split m n)
  where
    by_split : (m < n) ⊎ (n ≤ m) → (suc m ≡ n) ⊎ ((l : ℕ) × (suc m ≡ suc l) × (n ≤ l))
    by_split (inl lt) = inl (omega arith)
    by_split (inr le') = inr (m, refl, le')

module _ (nodes : List Node) (order : AreOrdered nodes) (known : ℕ → Doc → Bool) (table : IsTable nodes known) (asked : List ℕ) (room : length nodes ≤ size asked) (old new : Doc) (all : AllPass known asked old) where
  was : (q : Place) (d : Doc) → child q old ≡ Some d → PassBelow known nodes (closed nodes asked) q d
  was q d at = pass_below nodes known table (closed nodes asked) old q d (to_closed nodes order known table asked (closed nodes asked) room refl old all) at

  room' : length nodes ≤ size (closed nodes asked)
  room' = let len = close_len nodes (length nodes) asked in omega (arith, len, room)

  module _ (n : ℕ) (steady : AreSteady n nodes (closed nodes asked)) (holds : HoldsAlong known nodes asked (index n ∷ []) new) where
    at_it : (d : Doc) → child (index n) new ≡ Some d → PassBelow known nodes (closed nodes asked) (index n) d
    at_it d at = let h = holds.1 d at in record { value = from_below nodes order known (closed nodes asked) room' (index n) d h.1; named = h.0 }

    came : HasOneMore n new old → (k : ℕ) (d : Doc) → child (index k) new ≡ Some d → (k < n) ⊎ (n ≤ k) → PassBelow known nodes (closed nodes asked) (index k) d
    came more k d at (inl lt) = was (index k) d (sym (more.0 k lt) ∙ at)
    came more k d at (inr le) = ⊎_elim
        (λ (e : k ≡ n). subst (λ i. PassBelow known nodes (closed nodes asked) (index i) d) (sym e) (at_it d (subst (λ i. child (index i) new ≡ Some d) e at)))
        (λ (h : (m : ℕ) × (k ≡ suc m) × (n ≤ m)).
        let le' = h.2 in
        let there : child (index h.0) old ≡ Some d = sym (more.1 h.0 h.2) ∙ subst (λ i. child (index i) new ≡ Some d) h.1 at in
        behind known nodes (closed nodes asked) n h.0 k d steady le' le (was (index h.0) d there))
        (after_it k n le)

    went : HasOneMore n old new → (k : ℕ) (d : Doc) → child (index k) new ≡ Some d → (k < n) ⊎ (n ≤ k) → PassBelow known nodes (closed nodes asked) (index k) d
    went more k d at (inl lt) = was (index k) d (more.0 k lt ∙ at)
    went more k d at (inr le) = behind known nodes (closed nodes asked) n (suc k) k d steady (omega arith) le (was (index (suc k)) d (more.1 k le ∙ at))

-- ---- along the location

module _ (nodes : List Node) (order : AreOrdered nodes) (known : ℕ → Doc → Bool) (table : IsTable nodes known) where
  at_list : (p : Place) (asked : List ℕ) (old new : Doc) → length nodes ≤ size asked → AllPass known asked old → IsShifted p old new → IsSteadyAt true p [] nodes (closed nodes asked) → HoldsAlong known nodes asked (p ∷ []) new
      → (q : Place) (d : Doc) → child q new ≡ Some d → PassBelow known nodes (closed nodes asked) q d
  at_list (index n) asked (list ds) (list es) room all (inl more) steady holds (index k) d at = came nodes order known table asked room (list ds) (list es) all n steady holds more k d at (split k n)
  at_list (index n) asked (list ds) (list es) room all (inr more) steady holds (index k) d at = went nodes order known table asked room (list ds) (list es) all n steady holds more k d at (split k n)
  at_list (index n) asked (list ds) (list es) room all shifted steady holds (name k) d at = absurd cc
  at_list _ asked _ _ room all shifted steady holds q d at = absurd shifted

  below : (asked : List ℕ) (p q : Place) (ps : List Place) (old new : Doc) → length nodes ≤ size asked → AllPass known asked old → AgreeBeside p old new
      → ((d : Doc) → child p new ≡ Some d → (o : Option Doc) → child p old ≡ o → PassBelow known nodes (closed nodes asked) p d) → (d : Doc) → child q new ≡ Some d → (q ≡ p) ⊎ (q ≢ p) → PassBelow known nodes (closed nodes asked) q d
  below asked p q ps old new room all beside here d at (inl e) = subst (λ r. PassBelow known nodes (closed nodes asked) r d) (sym e) (here d (subst (λ r. child r new ≡ Some d) e at) (child p old) refl)
  below asked p q ps old new room all beside here d at (inr ne) = was nodes order known table asked room old new all q d (beside q ne ∙ at)

  child_after : (p q : Place) (ps : List Place) (asked : List ℕ) (old new : Doc) → length nodes ≤ size asked → AllPass known asked old → AtBoth (AgreeButShifted (q ∷ ps)) (child p old) (child p new)
      → ((c e : Doc) → length nodes ≤ size (asked_at nodes (closed nodes asked) p) → AllPass known (asked_at nodes (closed nodes asked) p) c → AgreeButShifted (q ∷ ps) c e → HoldsShifted known nodes (asked_at nodes (closed nodes asked) p) (q ∷ ps) e
      → AllPass known (asked_at nodes (closed nodes asked) p) e)
      → HoldsShifted known nodes asked (p ∷ q ∷ ps) new → (e : Doc) → child p new ≡ Some e → (o : Option Doc) → child p old ≡ o → PassBelow known nodes (closed nodes asked) p e
  child_after p q ps asked old new room all agree shorter holds e there None is = absurd (subst (λ o. AtBoth (AgreeButShifted (q ∷ ps)) o (Some e)) is (subst (λ o. AtBoth (AgreeButShifted (q ∷ ps)) (child p old) o) there agree))
  child_after p q ps asked old new room all agree shorter holds e there (Some c) is =
      let agree' : AgreeButShifted (q ∷ ps) c e = subst (λ o. AtBoth (AgreeButShifted (q ∷ ps)) o (Some e)) is (subst (λ o. AtBoth (AgreeButShifted (q ∷ ps)) (child p old) o) there agree) in
      let enough : length nodes ≤ size (closed nodes asked) = room' nodes order known table asked room old new all in
      let enough' : length nodes ≤ size (asked_at nodes (closed nodes asked) p) = (let len = below_len nodes (closed nodes asked) p in omega (arith, len, enough)) in
      let before = was nodes order known table asked room old new all p c is in
      let now = shorter c e enough' (to_below nodes order known (closed nodes asked) enough p c before.value) agree' (holds.1 e there).1 in
      record { value = from_below nodes order known (closed nodes asked) enough p e now; named = before.named }

  pub shifted_passes : (ps : List Place) (asked : List ℕ) (old new : Doc) → length nodes ≤ size asked → AllPass known asked old → AgreeButShifted ps old new → HoldsShifted known nodes asked ps new → AllPass known asked new
  shifted_passes [] asked old new room all agree holds = holds
  shifted_passes (p ∷ []) asked old new room all agree (inl h) = h
  shifted_passes (p ∷ []) asked old new room all agree (inr h) =
      from_closed nodes order known table asked (closed nodes asked) room refl new
      (all_hold nodes known table order (closed nodes asked) new (leads nodes order known table asked (closed nodes asked) room refl) h.1.0 (at_list p asked old new room all agree h.0 h.1))
  shifted_passes (p ∷ q ∷ ps) asked old new room all (inl same) holds = subst (AllPass known asked) same all
  shifted_passes (p ∷ q ∷ ps) asked old new room all (inr agree) holds =
      from_closed nodes order known table asked (closed nodes asked) room refl new
      (all_hold nodes known table order (closed nodes asked) new (leads nodes order known table asked (closed nodes asked) room refl) holds.0
      (λ r d at. below asked p r (q ∷ ps) old new room all agree.0 (child_after p q ps asked old new room all agree.1 (λ c e. shifted_passes (q ∷ ps) (asked_at nodes (closed nodes asked) p) c e) holds) d at (same_place r p)))
