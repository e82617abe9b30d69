-- A rule holds of a value and of its children where what must pass does, and what is judged again holds.
use Rattle.std.proofs.Common.{◌≡◌, ℕ, ⊎_elim, List, [], ◌∷◌, map, Bool, true, false, ◌&&◌, ◌||◌, Option, Some, None, refl, sym, ap, ap₂, ◌∙◌}
use Rattle.std.specs.Option.{option_to_list}
use Rattle.doc_tree.specs.Doc.{Doc, null, boolean, int, text, list, object}
use Rattle.doc_tree.specs.Lists.{elements_list}
use Rattle.schema_graph.specs.Walks.{In, first, later}
use Rattle.schema_graph.proofs.Among.{In-left, In-right, In-parts, none_in}
use Rattle.schema_rules.specs.Rules.{every, some, how_many}
use Rattle.schema_levels.specs.Below.{found_passes, rule_below, rules_below}
use Rattle.schema_levels.specs.Counters.{rule_says, rules_say}
use Rattle.schema_levels.specs.Conclude.{rule_here, rules_here}
use Rattle.schema_levels.specs.PlaceInValue.{PlaceInValue}
use Rattle.schema_levels.specs.Table.{Child, rules_lower, rules_together}
use Rattle.schema_levels.specs.declared.node.Node.{Node}
use Rattle.schema_levels.specs.declared.node.Rule.{Rule}
use Rattle.schema_levels.specs.declared.node.Rule.TheVariants.{Says, Asserts, Matches, All, Any, One, Not, Then, Else, Dependent, Refers, Properties, Matching, Others, Names, ByPlace, Rest, Contains, AtLeast, AtMost}
use Rattle.schema_levels.proofs.Sweeps.{rule_agrees}
use Rattle.schema_changes.specs.Again.{anew_here, counts, is_list, must_below, must_all_below, must_here, must_all_here, rule_again, rules_again, some_counts}
use Rattle.schema_changes.proofs.Marking.{anew_all_here}
use Rattle.schema_changes.proofs.Children.{both_true, each, left_true, right_true}

-- ---- the value itself

every_true : (f : ℕ → Bool) (js : List ℕ) → ((j : ℕ) → In j js → f j ≡ true) → every (map f js) ≡ true
every_true f [] h = refl
every_true f (j ∷ js) h = both_true (f j) (every (map f js)) (h j first) (every_true f js (λ k i. h k (later i)))

every_of : (f : ℕ → Bool) (j : ℕ) (js : List ℕ) → every (map f js) ≡ true → In j js → f j ≡ true
every_of f j [] e i = none_in j i
every_of f j (_ ∷ js) e first = left_true (f j) (every (map f js)) e
every_of f j (k ∷ js) e (later i) = every_of f j js (right_true (f k) (every (map f js)) e) i

module _ (f : ℕ → Bool) (t : Doc) where
  here_from : (r : Rule) → ((j : ℕ) → In j (must_here r) → f j ≡ true) → rule_again f t r ≡ true → rule_here f t r ≡ true
  here_from (All v) h e = every_true f v.items h
  here_from (Refers j) h e = h j first
  here_from (Says b) h e = e
  here_from (Asserts a) h e = e
  here_from (Any v) h e = e
  here_from (One v) h e = e
  here_from (Not j) h e = e
  here_from (Then c j) h e = e
  here_from (Else c j) h e = e
  here_from (Dependent ns v) h e = e
  here_from (Matches n v) h e = e
  here_from Properties h e = e
  here_from (Matching q j) h e = e
  here_from (Others qs j) h e = e
  here_from (Names j) h e = e
  here_from (ByPlace v) h e = e
  here_from (Rest j) h e = e
  here_from (Contains j) h e = e
  here_from (AtLeast j v) h e = e
  here_from (AtMost j v) h e = e

  again_from : (r : Rule) → rule_here f t r ≡ true → rule_again f t r ≡ true
  again_from (All v) e = refl
  again_from (Refers j) e = refl
  again_from (Says b) e = e
  again_from (Asserts a) e = e
  again_from (Any v) e = e
  again_from (One v) e = e
  again_from (Not j) e = e
  again_from (Then c j) e = e
  again_from (Else c j) e = e
  again_from (Dependent ns v) e = e
  again_from (Matches n v) e = e
  again_from Properties e = e
  again_from (Matching q j) e = e
  again_from (Others qs j) e = e
  again_from (Names j) e = e
  again_from (ByPlace v) e = e
  again_from (Rest j) e = e
  again_from (Contains j) e = e
  again_from (AtLeast j v) e = e
  again_from (AtMost j v) e = e

  must_from : (r : Rule) (j : ℕ) → rule_here f t r ≡ true → In j (must_here r) → f j ≡ true
  must_from (All v) j e i = every_of f j v.items e i
  must_from (Refers _) j e first = e
  must_from (Refers k) j e (later i) = none_in j i
  must_from (Says b) j e i = none_in j i
  must_from (Asserts a) j e i = none_in j i
  must_from (Any v) j e i = none_in j i
  must_from (One v) j e i = none_in j i
  must_from (Not k) j e i = none_in j i
  must_from (Then c k) j e i = none_in j i
  must_from (Else c k) j e i = none_in j i
  must_from (Dependent ns v) j e i = none_in j i
  must_from (Matches n v) j e i = none_in j i
  must_from Properties j e i = none_in j i
  must_from (Matching q k) j e i = none_in j i
  must_from (Others qs k) j e i = none_in j i
  must_from (Names k) j e i = none_in j i
  must_from (ByPlace v) j e i = none_in j i
  must_from (Rest k) j e i = none_in j i
  must_from (Contains k) j e i = none_in j i
  must_from (AtLeast k v) j e i = none_in j i
  must_from (AtMost k v) j e i = none_in j i

  pub rules_here_from : (rs : List Rule) → ((j : ℕ) → In j (must_all_here rs) → f j ≡ true) → rules_again f t rs ≡ true → rules_here f t rs ≡ true
  rules_here_from [] h e = refl
  rules_here_from (r ∷ rs) h e =
      both_true (rule_here f t r) (rules_here f t rs) (here_from r (λ j i. h j (In-left j (must_here r) (must_all_here rs) i)) (left_true (rule_again f t r) (rules_again f t rs) e))
      (rules_here_from rs (λ j i. h j (In-right j (must_here r) (must_all_here rs) i)) (right_true (rule_again f t r) (rules_again f t rs) e))

  pub rules_again_from : (rs : List Rule) → rules_here f t rs ≡ true → rules_again f t rs ≡ true
  rules_again_from [] e = refl
  rules_again_from (r ∷ rs) e =
      both_true (rule_again f t r) (rules_again f t rs) (again_from r (left_true (rule_here f t r) (rules_here f t rs) e)) (rules_again_from rs (right_true (rule_here f t r) (rules_here f t rs) e))

  pub rules_must : (rs : List Rule) (j : ℕ) → rules_here f t rs ≡ true → In j (must_all_here rs) → f j ≡ true
  rules_must [] j e i = none_in j i
  rules_must (r ∷ rs) j e i = ⊎_elim
      (λ (h : In j (must_here r)). must_from r j (left_true (rule_here f t r) (rules_here f t rs) e) h)
      (λ h. rules_must rs j (right_true (rule_here f t r) (rules_here f t rs) e) h)
      (In-parts j (must_here r) (must_all_here rs) i)

-- answers that agree on what is judged whole
again_agrees : (f g : ℕ → Bool) (t : Doc) (r : Rule) → ((j : ℕ) → In j (anew_here r) → f j ≡ g j) → rule_again f t r ≡ rule_again g t r
again_agrees f g t (All v) h = refl
again_agrees f g t (Refers j) h = refl
again_agrees f g t (Says b) h = refl
again_agrees f g t (Asserts a) h = refl
again_agrees f g t (Any v) h = rule_agrees f g t (Any v) h
again_agrees f g t (One v) h = rule_agrees f g t (One v) h
again_agrees f g t (Not j) h = rule_agrees f g t (Not j) h
again_agrees f g t (Then c j) h = rule_agrees f g t (Then c j) h
again_agrees f g t (Else c j) h = rule_agrees f g t (Else c j) h
again_agrees f g t (Dependent ns v) h = rule_agrees f g t (Dependent ns v) h
again_agrees f g t (Matches n v) h = refl
again_agrees f g t Properties h = refl
again_agrees f g t (Matching q j) h = refl
again_agrees f g t (Others qs j) h = refl
again_agrees f g t (Names j) h = refl
again_agrees f g t (ByPlace v) h = refl
again_agrees f g t (Rest j) h = refl
again_agrees f g t (Contains j) h = refl
again_agrees f g t (AtLeast j v) h = refl
again_agrees f g t (AtMost j v) h = refl

pub rules_again_agree : (f g : ℕ → Bool) (t : Doc) (rs : List Rule) → ((j : ℕ) → In j (anew_all_here rs) → f j ≡ g j) → rules_again f t rs ≡ rules_again g t rs
rules_again_agree f g t [] h = refl
rules_again_agree f g t (r ∷ rs) h =
    ap₂ (λ a b. a && b) (again_agrees f g t r (λ j i. h j (In-left j (anew_here r) (anew_all_here rs) i))) (rules_again_agree f g t rs (λ j i. h j (In-right j (anew_here r) (anew_all_here rs) i)))

-- ---- a child

found_true : (f : ℕ → Bool) (o : Option ℕ) → ((j : ℕ) → In j (option_to_list o) → f j ≡ true) → found_passes f o ≡ true
found_true f None h = refl
found_true f (Some j) h = h j first

found_of : (f : ℕ → Bool) (o : Option ℕ) (j : ℕ) → found_passes f o ≡ true → In j (option_to_list o) → f j ≡ true
found_of f None j e i = none_in j i
found_of f (Some _) j e first = e
found_of f (Some k) j e (later i) = none_in j i

module _ (f : ℕ → Bool) (x : Node) (p : PlaceInValue) where
  rule_below_is : (r : Rule) → rule_below f x r p ≡ found_passes f (must_below x r p)
  rule_below_is (Says b) = refl
  rule_below_is (Asserts a) = refl
  rule_below_is (All v) = refl
  rule_below_is (Any v) = refl
  rule_below_is (One v) = refl
  rule_below_is (Not j) = refl
  rule_below_is (Then c j) = refl
  rule_below_is (Else c j) = refl
  rule_below_is (Dependent ns v) = refl
  rule_below_is (Refers j) = refl
  rule_below_is (Matches n v) = refl
  rule_below_is Properties = refl
  rule_below_is (Matching q j) = refl
  rule_below_is (Others qs j) = refl
  rule_below_is (Names j) = refl
  rule_below_is (ByPlace v) = refl
  rule_below_is (Rest j) = refl
  rule_below_is (Contains j) = refl
  rule_below_is (AtLeast j v) = refl
  rule_below_is (AtMost j v) = refl

  pub rules_below_from : (rs : List Rule) → ((j : ℕ) → In j (must_all_below x p rs) → f j ≡ true) → rules_below f x p rs ≡ true
  rules_below_from [] h = refl
  rules_below_from (r ∷ rs) h =
      both_true (rule_below f x r p) (rules_below f x p rs) (rule_below_is r ∙ found_true f (must_below x r p) (λ j i. h j (In-left j (option_to_list (must_below x r p)) (must_all_below x p rs) i)))
      (rules_below_from rs (λ j i. h j (In-right j (option_to_list (must_below x r p)) (must_all_below x p rs) i)))

  pub rules_below_must : (rs : List Rule) (j : ℕ) → rules_below f x p rs ≡ true → In j (must_all_below x p rs) → f j ≡ true
  rules_below_must [] j e i = none_in j i
  rules_below_must (r ∷ rs) j e i = ⊎_elim
      (λ (h : In j (option_to_list (must_below x r p))). found_of f (must_below x r p) j (sym (rule_below_is r) ∙ left_true (rule_below f x r p) (rules_below f x p rs) e) h)
      (λ h. rules_below_must rs j (right_true (rule_below f x r p) (rules_below f x p rs) e) h)
      (In-parts j (option_to_list (must_below x r p)) (must_all_below x p rs) i)

-- ---- all children, and the elements together

pub lower_each : (known : ℕ → Doc → Bool) (x : Node) (rs : List Rule) (cs : List Child) → rules_lower known x rs cs ≡ each (λ c. rules_below (λ j. known j c.value) x c.place rs) cs
lower_each known x rs [] = refl
lower_each known x rs (c ∷ cs) = ap (λ b. rules_below (λ j. known j c.value) x c.place rs && b) (lower_each known x rs cs)

neither : (a b : Bool) → (a || b) ≡ false → (a ≡ false) × (b ≡ false)
neither false b e = (refl, e)
neither true b e = absurd cc

module _ (found : ℕ → Bool) (many : ℕ → ℕ) where
  says_alone : (r : Rule) → counts r ≡ false → rule_says found many r ≡ true
  says_alone (Contains j) e = absurd cc
  says_alone (AtLeast j v) e = absurd cc
  says_alone (AtMost j v) e = absurd cc
  says_alone (Says b) e = refl
  says_alone (Asserts a) e = refl
  says_alone (All v) e = refl
  says_alone (Any v) e = refl
  says_alone (One v) e = refl
  says_alone (Not j) e = refl
  says_alone (Then c j) e = refl
  says_alone (Else c j) e = refl
  says_alone (Dependent ns v) e = refl
  says_alone (Refers j) e = refl
  says_alone (Matches n v) e = refl
  says_alone Properties e = refl
  says_alone (Matching q j) e = refl
  says_alone (Others qs j) e = refl
  says_alone (Names j) e = refl
  says_alone (ByPlace v) e = refl
  says_alone (Rest j) e = refl

  say_alone : (rs : List Rule) → some_counts rs ≡ false → rules_say found many rs ≡ true
  say_alone [] e = refl
  say_alone (r ∷ rs) e = let both = neither (counts r) (some_counts rs) e in both_true (rule_says found many r) (rules_say found many rs) (says_alone r both.0) (say_alone rs both.1)

pub together_alone : (known : ℕ → Doc → Bool) (rs : List Rule) (t : Doc) → (is_list t && some_counts rs) ≡ false → rules_together known rs t ≡ true
together_alone known rs (list ds) e = say_alone (λ j. some (map (known j) (elements_list ds))) (λ j. how_many (map (known j) (elements_list ds))) rs e
together_alone known rs null e = refl
together_alone known rs (boolean b) e = refl
together_alone known rs (int z) e = refl
together_alone known rs (text s) e = refl
together_alone known rs (object ms) e = refl
