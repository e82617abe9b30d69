-- What the nodes say together of a value and of its children.
use Rattle.std.proofs.Common.{◌≡◌, ◌≢◌, ℕ, zero, suc, ◌+◌, ◌==◌, ◌<◌, ◌≤◌, ⊎_elim, List, [], ◌∷◌, ◌++◌, map, string_bytes, Bool, true, false, not, ◌&&◌, length, Option, Some, None, refl, sym, ap, ap₂, subst, ◌∙◌, if◌then◌else◌, arith}
use Rattle.doc_tree.specs.Doc.{Doc, null, boolean, int, text, list, object, Elements, no_elements, element}
use Rattle.doc_tree.specs.Lists.{elements_list}
use Rattle.doc_tree.specs.TreeView.{view}
use Rattle.doc_tree.specs.declared.tree.Tree.{Tree}
use Rattle.schema_rules.specs.Assertions.{at_least, at_most}
use Rattle.schema_levels.specs.PlaceInValue.{PlaceInValue, index}
use Rattle.schema_levels.specs.Counters.{rule_says}
use Rattle.schema_graph.specs.Walks.{In}
use Rattle.schema_graph.proofs.Numbers.{same_or_not}
use Rattle.schema_rules.specs.Rules.{every, some, how_many, where_true, where_false, where_present}
use Rattle.schema_levels.specs.Bits.{bit, put, size}
use Rattle.schema_levels.specs.Closure.{here, rules_at}
use Rattle.schema_levels.specs.Below.{below, found_passes, rule_below, rules_below, collect, fold}
use Rattle.schema_levels.specs.Conclude.{rule_here, rules_here, conclude}
use Rattle.schema_levels.specs.Nodes.{node_get, asked_here, AreOrdered}
use Rattle.schema_levels.specs.Table.{Child, children, ask_found, ask_children, ask_here, joined_by, rule_of, told_by, rules_pass, node_passes, passes_at, IsTable, items_from, rules_lower, rules_together, lower, said}
use Rattle.schema_levels.specs.declared.node.Node.{Node}
use Rattle.schema_levels.specs.declared.node.Rule.{Rule}
use Rattle.schema_levels.specs.declared.node.Rule.TheVariants.{Says, Asserts, Matches, All, Any, One, Not, Then, Else, Dependent, Refers, Properties, Matching, Others, Names, ByPlace, Rest, Contains, AtLeast, AtMost}
use Rattle.schema_levels.proofs.Sweeps.{one_len, one_other, one_same, sweep_at, collect_in, here_agrees, below_agrees}
use Rattle.schema_levels.proofs.Closing.{LeadsIn}

-- ---- truth values

pub and_true : (a : Bool) → (a && true) ≡ a
and_true true = refl
and_true false = refl

and_swap : (a b c d : Bool) → ((a && b) && (c && d)) ≡ ((a && c) && (b && d))
and_swap false b c d = refl
and_swap true false false d = refl
and_swap true false true d = refl
and_swap true true c d = refl

and_comm : (a b : Bool) → (a && b) ≡ (b && a)
and_comm true true = refl
and_comm true false = refl
and_comm false true = refl
and_comm false false = refl

pub and_assoc : (a b c : Bool) → ((a && b) && c) ≡ (a && (b && c))
and_assoc true b c = refl
and_assoc false b c = refl

append_nil : {A : Type 0} (xs : List A) → xs ++ [] ≡ xs
append_nil [] = refl
append_nil (x ∷ xs) = ap (λ l. x ∷ l) (append_nil xs)

-- ---- what is said of children, rule by rule and child by child

abbrev pub rule_lower : (ℕ → Doc → Bool) → Node → Rule → List Child → Bool
rule_lower known x r [] = true
rule_lower known x r (c ∷ cs) = rule_below (λ j. known j c.value) x r c.place && rule_lower known x r cs

-- what one rule says of the elements together
abbrev pub rule_together : (ℕ → Doc → Bool) → Rule → Doc → Bool
rule_together known r (list ds) = rule_says (λ j. some (map (known j) (elements_list ds))) (λ j. how_many (map (known j) (elements_list ds))) r
rule_together known r _ = true

module _ (known : ℕ → Doc → Bool) (x : Node) where
  lower_none : (cs : List Child) → rules_lower known x [] cs ≡ true
  lower_none [] = refl
  lower_none (c ∷ cs) = lower_none cs

  lower_rule : (r : Rule) (rs : List Rule) (cs : List Child) → rules_lower known x (r ∷ rs) cs ≡ (rule_lower known x r cs && rules_lower known x rs cs)
  lower_rule r rs [] = refl
  lower_rule r rs (c ∷ cs) =
      let f = rule_below (λ j. known j c.value) x r c.place in
      let g = rules_below (λ j. known j c.value) x c.place rs in
      ap (λ b. (f && g) && b) (lower_rule r rs cs) ∙ and_swap f g (rule_lower known x r cs) (rules_lower known x rs cs)

  every_found : (o : Option ℕ) (d : Doc) (rest : List (ℕ × Doc)) → every (told_by known (ask_found o d rest)) ≡ (found_passes (λ j. known j d) o && every (told_by known rest))
  every_found None d rest = refl
  every_found (Some j) d rest = refl

  every_lower : (r : Rule) → ((f : ℕ → Bool) (p : PlaceInValue) → rule_below f x r p ≡ found_passes f (below x r p)) → (cs : List Child) → every (told_by known (ask_children x r cs)) ≡ rule_lower known x r cs
  every_lower r h [] = refl
  every_lower r h (c ∷ cs) =
      every_found (below x r c.place) c.value (ask_children x r cs) ∙ ap (λ b. found_passes (λ j. known j c.value) (below x r c.place) && b) (every_lower r h cs)
      ∙ ap (λ b. b && rule_lower known x r cs) (sym (h (λ j. known j c.value) c.place))

  -- a rule that speaks of the value itself alone
  asks_none : (r : Rule) → ((p : PlaceInValue) → below x r p ≡ None) → (cs : List Child) → ask_children x r cs ≡ []
  asks_none r h [] = refl
  asks_none r h (c ∷ cs) = ap (λ o. ask_found o c.value (ask_children x r cs)) (h c.place) ∙ asks_none r h cs

  lower_true : (r : Rule) → ((f : ℕ → Bool) (p : PlaceInValue) → rule_below f x r p ≡ true) → (cs : List Child) → rule_lower known x r cs ≡ true
  lower_true r h [] = refl
  lower_true r h (c ∷ cs) = ap (λ b. b && rule_lower known x r cs) (h (λ j. known j c.value) c.place) ∙ lower_true r h cs

  -- a rule that speaks of the elements together asks each of them
  told_items : (r : Rule) (j : ℕ) → ((n : ℕ) → below x r (index n) ≡ Some j) → (n : ℕ) (ds : Elements) → told_by known (ask_children x r (items_from n ds)) ≡ map (known j) (elements_list ds)
  told_items r j h n no_elements = refl
  told_items r j h n (element d ds) = ap (λ o. told_by known (ask_found o d (ask_children x r (items_from (suc n) ds)))) (h n) ∙ ap (λ bs. known j d ∷ bs) (told_items r j h (suc n) ds)

  items_join : (r : Rule) (j : ℕ) (test : List Bool → Bool) → ((n : ℕ) → below x r (index n) ≡ Some j) → ((f : ℕ → Bool) (p : PlaceInValue) → rule_below f x r p ≡ true) → (ds : Elements)
      → test (told_by known (ask_children x r (items_from 0 ds))) ≡ (rule_lower known x r (items_from 0 ds) && test (map (known j) (elements_list ds)))
  items_join r j test h g ds = ap test (told_items r j h 0 ds) ∙ sym (ap (λ b. b && test (map (known j) (elements_list ds))) (lower_true r g (items_from 0 ds)))

  together_step : (r : Rule) (rs : List Rule) (t : Doc) → rules_together known (r ∷ rs) t ≡ (rule_together known r t && rules_together known rs t)
  together_step r rs (list ds) = refl
  together_step r rs null = refl
  together_step r rs (boolean b) = refl
  together_step r rs (int z) = refl
  together_step r rs (text s) = refl
  together_step r rs (object ms) = refl

  together_none : (t : Doc) → rules_together known [] t ≡ true
  together_none (list ds) = refl
  together_none null = refl
  together_none (boolean b) = refl
  together_none (int z) = refl
  together_none (text s) = refl
  together_none (object ms) = refl

  together_true : (r : Rule) → ((found : ℕ → Bool) (many : ℕ → ℕ) → rule_says found many r ≡ true) → (t : Doc) → rule_together known r t ≡ true
  together_true r h (list ds) = h (λ j. some (map (known j) (elements_list ds))) (λ j. how_many (map (known j) (elements_list ds)))
  together_true r h null = refl
  together_true r h (boolean b) = refl
  together_true r h (int z) = refl
  together_true r h (text s) = refl
  together_true r h (object ms) = refl

  told_here : (js : List ℕ) (t : Doc) → told_by known (ask_here js t) ≡ map (λ j. known j t) js
  told_here [] t = refl
  told_here (j ∷ js) t = ap (λ bs. known j t ∷ bs) (told_here js t)

  contains_join : (t : Doc) (j : ℕ) → joined_by (Contains j) t (told_by known (ask_here [] t ++ ask_children x (Contains j) (children t))) ≡ (rule_lower known x (Contains j) (children t) && rule_together known (Contains j) t)
  contains_join (list ds) j = items_join (Contains j) j some (λ n. refl) (λ f p. refl) ds
  contains_join null j = sym (ap (λ b. b && true) (lower_true (Contains j) (λ f p. refl) (children null)))
  contains_join (boolean b) j = sym (ap (λ b. b && true) (lower_true (Contains j) (λ f p. refl) (children (boolean b))))
  contains_join (int z) j = sym (ap (λ b. b && true) (lower_true (Contains j) (λ f p. refl) (children (int z))))
  contains_join (text s) j = sym (ap (λ b. b && true) (lower_true (Contains j) (λ f p. refl) (children (text s))))
  contains_join (object ms) j = sym (ap (λ b. b && true) (lower_true (Contains j) (λ f p. refl) (children (object ms))))

  at_least_join : (t : Doc) (j : ℕ) (v : Tree) → joined_by (AtLeast j v) t (told_by known (ask_here [] t ++ ask_children x (AtLeast j v) (children t))) ≡ (rule_lower known x (AtLeast j v) (children t) && rule_together known (AtLeast j v) t)
  at_least_join (list ds) j v = items_join (AtLeast j v) j (λ bs. at_least (view v) (how_many bs)) (λ n. refl) (λ f p. refl) ds
  at_least_join null j v = sym (ap (λ b. b && true) (lower_true (AtLeast j v) (λ f p. refl) (children null)))
  at_least_join (boolean b) j v = sym (ap (λ b. b && true) (lower_true (AtLeast j v) (λ f p. refl) (children (boolean b))))
  at_least_join (int z) j v = sym (ap (λ b. b && true) (lower_true (AtLeast j v) (λ f p. refl) (children (int z))))
  at_least_join (text s) j v = sym (ap (λ b. b && true) (lower_true (AtLeast j v) (λ f p. refl) (children (text s))))
  at_least_join (object ms) j v = sym (ap (λ b. b && true) (lower_true (AtLeast j v) (λ f p. refl) (children (object ms))))

  at_most_join : (t : Doc) (j : ℕ) (v : Tree) → joined_by (AtMost j v) t (told_by known (ask_here [] t ++ ask_children x (AtMost j v) (children t))) ≡ (rule_lower known x (AtMost j v) (children t) && rule_together known (AtMost j v) t)
  at_most_join (list ds) j v = items_join (AtMost j v) j (λ bs. at_most (view v) (how_many bs)) (λ n. refl) (λ f p. refl) ds
  at_most_join null j v = sym (ap (λ b. b && true) (lower_true (AtMost j v) (λ f p. refl) (children null)))
  at_most_join (boolean b) j v = sym (ap (λ b. b && true) (lower_true (AtMost j v) (λ f p. refl) (children (boolean b))))
  at_most_join (int z) j v = sym (ap (λ b. b && true) (lower_true (AtMost j v) (λ f p. refl) (children (int z))))
  at_most_join (text s) j v = sym (ap (λ b. b && true) (lower_true (AtMost j v) (λ f p. refl) (children (text s))))
  at_most_join (object ms) j v = sym (ap (λ b. b && true) (lower_true (AtMost j v) (λ f p. refl) (children (object ms))))

  module _ (t : Doc) where
    told_alone : (r : Rule) → ((p : PlaceInValue) → below x r p ≡ None) → told_by known (ask_here (here r) t ++ ask_children x r (children t)) ≡ map (λ j. known j t) (here r)
    told_alone r h = ap (λ l. told_by known (ask_here (here r) t ++ l)) (asks_none r h (children t)) ∙ ap (told_by known) (append_nil (ask_here (here r) t)) ∙ told_here (here r) t

    alone : (r : Rule) (b : Bool) → ((f : ℕ → Bool) (p : PlaceInValue) → rule_below f x r p ≡ true) → b ≡ (b && rule_lower known x r (children t))
    alone r b h = sym (ap (λ c. b && c) (lower_true r h (children t)) ∙ and_true b)

    -- a rule that doesn't speak of the elements together
    child_by_child : (r : Rule) (b c : Bool) → ((found : ℕ → Bool) (many : ℕ → ℕ) → rule_says found many r ≡ true) → b ≡ (c && rule_lower known x r (children t)) → b ≡ (c && (rule_lower known x r (children t) && rule_together known r t))
    child_by_child r b c h e =
        let l = rule_lower known x r (children t) in
        e ∙ ap (λ a. c && a) (sym (and_true l) ∙ ap (λ a. l && a) (sym (together_true r h t)))

    -- one rule
    pub rule_join : (r : Rule) → joined_by r t (told_by known (ask_here (here r) t ++ ask_children x r (children t))) ≡ (rule_here (λ j. known j t) t r && (rule_lower known x r (children t) && rule_together known r t))
    rule_join (Says b) = child_by_child (Says b) _ (rule_here (λ j. known j t) t (Says b)) (λ f m. refl) (alone (Says b) b (λ f p. refl))
    rule_join (Asserts a) = child_by_child (Asserts a) _ (rule_here (λ j. known j t) t (Asserts a)) (λ f m. refl) (alone (Asserts a) _ (λ f p. refl))
    rule_join (Matches n v) = child_by_child (Matches n v) _ (rule_here (λ j. known j t) t (Matches n v)) (λ f m. refl) (alone (Matches n v) _ (λ f p. refl))
    rule_join (All v) = child_by_child (All v) _ (rule_here (λ j. known j t) t (All v)) (λ f m. refl) (ap every (told_alone (All v) (λ p. refl)) ∙ alone (All v) _ (λ f p. refl))
    rule_join (Any v) = child_by_child (Any v) _ (rule_here (λ j. known j t) t (Any v)) (λ f m. refl) (ap some (told_alone (Any v) (λ p. refl)) ∙ alone (Any v) _ (λ f p. refl))
    rule_join (One v) = child_by_child (One v) _ (rule_here (λ j. known j t) t (One v)) (λ f m. refl) (ap (λ bs. how_many bs == 1) (told_alone (One v) (λ p. refl)) ∙ alone (One v) _ (λ f p. refl))
    rule_join (Not j) = child_by_child (Not j) _ (rule_here (λ j. known j t) t (Not j)) (λ f m. refl) (ap (λ bs. not (every bs)) (told_alone (Not j) (λ p. refl)) ∙ ap not (and_true (known j t)) ∙ alone (Not j) _ (λ f p. refl))
    rule_join (Then n j) = child_by_child (Then n j) _ (rule_here (λ j. known j t) t (Then n j)) (λ f m. refl) (ap where_true (told_alone (Then n j) (λ p. refl)) ∙ alone (Then n j) _ (λ f p. refl))
    rule_join (Else n j) = child_by_child (Else n j) _ (rule_here (λ j. known j t) t (Else n j)) (λ f m. refl) (ap where_false (told_alone (Else n j) (λ p. refl)) ∙ alone (Else n j) _ (λ f p. refl))
    rule_join (Dependent ns v) = child_by_child (Dependent ns v) _ (rule_here (λ j. known j t) t (Dependent ns v)) (λ f m. refl) (ap (where_present (map string_bytes ns.items) t) (told_alone (Dependent ns v) (λ p. refl)) ∙ alone (Dependent ns v) _ (λ f p. refl))
    rule_join (Refers j) = child_by_child (Refers j) _ (rule_here (λ j. known j t) t (Refers j)) (λ f m. refl) (ap every (told_alone (Refers j) (λ p. refl)) ∙ and_true (known j t) ∙ alone (Refers j) _ (λ f p. refl))
    rule_join Properties = child_by_child Properties _ true (λ f m. refl) (every_lower Properties (λ f p. refl) (children t))
    rule_join (Matching q j) = child_by_child (Matching q j) _ true (λ f m. refl) (every_lower (Matching q j) (λ f p. refl) (children t))
    rule_join (Others qs j) = child_by_child (Others qs j) _ true (λ f m. refl) (every_lower (Others qs j) (λ f p. refl) (children t))
    rule_join (Names j) = child_by_child (Names j) _ true (λ f m. refl) (every_lower (Names j) (λ f p. refl) (children t))
    rule_join (ByPlace v) = child_by_child (ByPlace v) _ true (λ f m. refl) (every_lower (ByPlace v) (λ f p. refl) (children t))
    rule_join (Rest j) = child_by_child (Rest j) _ true (λ f m. refl) (every_lower (Rest j) (λ f p. refl) (children t))
    rule_join (Contains j) = contains_join t j
    rule_join (AtLeast j v) = at_least_join t j v
    rule_join (AtMost j v) = at_most_join t j v

    pub rules_join : (rs : List Rule) → rules_pass known (map (rule_of x) rs) t ≡ (rules_here (λ j. known j t) t rs && (rules_lower known x rs (children t) && rules_together known rs t))
    rules_join [] = sym (ap₂ (λ a b. a && b) (lower_none (children t)) (together_none t))
    rules_join (r ∷ rs) =
        let h = rule_here (λ j. known j t) t r in
        let hs = rules_here (λ j. known j t) t rs in
        let l = rule_lower known x r (children t) in
        let ls = rules_lower known x rs (children t) in
        let g = rule_together known r t in
        let gs = rules_together known rs t in
        ap₂ (λ a b. a && b) (rule_join r) (rules_join rs) ∙ and_swap h (l && g) hs (ls && gs) ∙ ap (λ b. (h && hs) && b) (and_swap l g ls gs)
        ∙ ap₂ (λ a b. (h && hs) && (a && b)) (sym (lower_rule r rs (children t))) (sym (together_step r rs t))

-- ---- nodes by their numbers

pub passes_at_get : (known : ℕ → Doc → Bool) (nodes : List Node) (i : ℕ) (x : Node) (t : Doc) → node_get nodes i ≡ Some x → passes_at known nodes i t ≡ node_passes known x t
passes_at_get known [] i x t e = absurd cc
passes_at_get known (y ∷ ys) zero x t e = let is : y ≡ x = cc in ap (λ z. node_passes known z t) is
passes_at_get known (y ∷ ys) (suc i) x t e = passes_at_get known ys i x t e

pub passes_past : (known : ℕ → Doc → Bool) (nodes : List Node) (i : ℕ) (t : Doc) → node_get nodes i ≡ None → passes_at known nodes i t ≡ true
passes_past known [] i t e = refl
passes_past known (y ∷ ys) zero t e = absurd cc
passes_past known (y ∷ ys) (suc i) t e = passes_past known ys i t e

pub rules_at_get : (nodes : List Node) (i : ℕ) (x : Node) → node_get nodes i ≡ Some x → rules_at nodes i ≡ x.rules.items
rules_at_get [] i x e = absurd cc
rules_at_get (y ∷ ys) zero x e = let is : y ≡ x = cc in ap (λ z. z.rules.items) is
rules_at_get (y ∷ ys) (suc i) x e = rules_at_get ys i x e

pub get_within : (nodes : List Node) (i : ℕ) → i < length nodes → (x : Node) × (node_get nodes i ≡ Some x)
get_within [] i lt = absurd (omega arith)
get_within (x ∷ xs) zero lt = (x, refl)
get_within (x ∷ xs) (suc i) lt = get_within xs i (omega arith)

pub within_get : (nodes : List Node) (i : ℕ) (x : Node) → node_get nodes i ≡ Some x → i < length nodes
within_get [] i x e = absurd cc
within_get (y ∷ ys) zero x e = omega arith
within_get (y ∷ ys) (suc i) x e = omega (arith, within_get ys i x e)

-- what a number leads to, by its rules alone
pub lead_from : (nodes : List Node) (i j : ℕ) → In j (asked_here (rules_at nodes i)) → (x : Node) × (node_get nodes i ≡ Some x)
lead_from [] i j at = absurd (elim at [ ])
lead_from (x ∷ xs) zero j at = (x, refl)
lead_from (x ∷ xs) (suc i) j at = lead_from xs i j at

module _ (nodes : List Node) (known : ℕ → Doc → Bool) (table : IsTable nodes known) where
  pub table_at : (i : ℕ) (x : Node) (t : Doc) → node_get nodes i ≡ Some x → known i t ≡ (said known x t && rules_here (λ j. known j t) t x.rules.items)
  table_at i x t e = table i t ∙ passes_at_get known nodes i x t e ∙ rules_join known x t x.rules.items ∙ and_comm (rules_here (λ j. known j t) t x.rules.items) (said known x t)

  -- the way up
  module _ (order : AreOrdered nodes) (asked : List ℕ) (closed : (i : ℕ) → LeadsIn nodes asked i) (t : Doc) where
    pub settle_right : (i : ℕ) (xs : List Node) (bs : List ℕ) → ((k : ℕ) (x : Node) → node_get xs k ≡ Some x → node_get nodes (i + k) ≡ Some x)
        → ((m : ℕ) → m < i → bit asked m ≡ true → bit bs m ≡ known m t)
        → ((k : ℕ) (x : Node) → node_get xs k ≡ Some x → bit asked (i + k) ≡ true → bit bs (i + k) ≡ said known x t)
        → i + length xs ≤ size bs → (m : ℕ) → m < i + length xs → bit asked m ≡ true → bit (conclude t asked i xs bs) m ≡ known m t
    settle_right i [] bs part done start len m lt on = done m (omega (arith, lt)) on
    settle_right i (y ∷ ys) bs part done start len m lt on =
        let says : List ℕ → Node → Bool = λ now x. rules_here (bit now) t x.rules.items in
        let bs' = if bit asked i then put bs i (bit bs i && says bs y) else bs in
        let zero_is : i + zero ≡ i = omega arith in
        let at : node_get nodes i ≡ Some y = subst (λ n. node_get nodes n ≡ Some y) zero_is (part zero y refl) in
        let here_is : bit asked i ≡ true → bit bs' i ≡ known i t = λ on'.
        one_same says asked (bit asked i) i y bs on' (omega (arith, len))
        ∙ ap₂ (λ a b. a && b) (subst (λ n. bit bs n ≡ said known y t) zero_is (start zero y refl (subst (λ n. bit asked n ≡ true) (sym zero_is) on')))
        (here_agrees (bit bs) (λ j. known j t) t y.rules.items (λ j at'. done j (order.falls i j y at at') (closed i on' j (subst (λ rs. In j (asked_here rs)) (sym (rules_at_get nodes i y at)) at'))))
        ∙ sym (table_at i y t at) in
        settle_right (suc i) ys bs'
        (λ k x e. let s : i + suc k ≡ suc i + k = omega arith in subst (λ n. node_get nodes n ≡ Some x) s (part (suc k) x e))
        (λ n less on'. ⊎_elim
        (λ (same : n ≡ i). subst (λ z. bit bs' z ≡ known z t) (sym same) (here_is (subst (λ z. bit asked z ≡ true) same on')))
        (λ ne. one_other says asked (bit asked i) i n y bs ne ∙ done n (omega arith) on')
        (same_or_not n i))
        (λ k x e on'.
        let s : i + suc k ≡ suc i + k = omega arith in
        let ne : suc i + k ≢ i = λ h. absurd (omega (arith, h)) in
        one_other says asked (bit asked i) i (suc i + k) y bs ne ∙ subst (λ n. bit bs n ≡ said known x t) s (start (suc k) x e (subst (λ n. bit asked n ≡ true) (sym s) on')))
        (let l = one_len says asked (bit asked i) i y bs in omega (arith, l, len)) m (omega (arith, lt)) on

    pub settled_is : (bs : List ℕ) → length nodes ≤ size bs → ((k : ℕ) (x : Node) → node_get nodes k ≡ Some x → bit asked k ≡ true → bit bs k ≡ said known x t)
        → (m : ℕ) → m < length nodes → bit asked m ≡ true → bit (conclude t asked 0 nodes bs) m ≡ known m t
    settled_is bs len start m lt on =
        settle_right 0 nodes bs
        (λ k x e. let z : k ≡ 0 + k = omega arith in subst (λ n. node_get nodes n ≡ Some x) z e)
        (λ n less. absurd (omega arith))
        (λ k x e on'. let z : k ≡ 0 + k = omega arith in subst (λ n. bit bs n ≡ said known x t) z (start k x e (subst (λ n. bit asked n ≡ true) (sym z) on')))
        (omega (arith, len)) m (omega (arith, lt)) on

  -- one child's answers
  module _ (order : AreOrdered nodes) (asked : List ℕ) (c : Child) (clear child : List ℕ) (fits : length nodes ≤ size clear)
      (right : (j : ℕ) → j < length nodes → bit (collect asked c.place 0 nodes clear) j ≡ true → bit child j ≡ known j c.value) where
    pub child_is : (k : ℕ) (x : Node) → node_get nodes k ≡ Some x → bit asked k ≡ true → rules_below (bit child) x c.place x.rules.items ≡ rules_below (λ j. known j c.value) x c.place x.rules.items
    child_is k x e on =
        let z : k ≡ 0 + k = omega arith in
        below_agrees (bit child) (λ j. known j c.value) x c.place x.rules.items (λ j at. let lt = order.among k j x c.place e at in right j lt (collect_in asked c.place 0 k j x nodes clear e (subst (λ n. bit asked n ≡ true) z on) at (omega (arith, lt, fits))))

    pub fold_is : (bs : List ℕ) (cs : List Child) → length nodes ≤ size bs → (k : ℕ) (x : Node) → node_get nodes k ≡ Some x → bit asked k ≡ true
        → (bit (fold (bit child) asked c.place 0 nodes bs) k && lower known x cs) ≡ (bit bs k && lower known x (c ∷ cs))
    fold_is bs cs len k x e on =
        let z : k ≡ 0 + k = omega arith in
        let lt = within_get nodes k x e in
        let part : Node → Bool = λ y. rules_below (bit child) y c.place y.rules.items in
        let at : bit (fold (bit child) asked c.place 0 nodes bs) k ≡ (bit bs k && part x) =
        subst (λ n. bit (fold (bit child) asked c.place 0 nodes bs) n ≡ (bit bs n && part x)) (sym z) (sweep_at (λ _ y. part y) asked part (λ b y. refl) 0 k x nodes bs e (subst (λ n. bit asked n ≡ true) z on) (omega (arith, lt, len))) in
        ap (λ b. b && lower known x cs) (at ∙ ap (λ b. bit bs k && b) (child_is k x e on)) ∙ and_assoc (bit bs k) (rules_below (λ j. known j c.value) x c.place x.rules.items) (lower known x cs)
