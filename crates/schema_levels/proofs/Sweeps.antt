-- What one way over the nodes makes of their answers.
use Rattle.std.proofs.Common.{◌≡◌, ◌≢◌, ℕ, zero, suc, ◌+◌, ◌<◌, List, [], ◌∷◌, ◌++◌, map, string_bytes, Bool, true, false, ◌&&◌, length, Option, Some, None, refl, sym, ap, ap₂, subst, ◌∙◌, if◌then◌else◌, arith}
use Rattle.std.specs.Option.{option_to_list}
use Rattle.doc_tree.specs.Doc.{Doc}
use Rattle.schema_levels.specs.PlaceInValue.{PlaceInValue}
use Rattle.schema_graph.specs.Walks.{In, first, later}
use Rattle.schema_graph.proofs.Among.{In-left, In-right, none_in}
use Rattle.schema_rules.specs.Rules.{every, some, where_present}
use Rattle.schema_levels.specs.Bits.{bit, put, size}
use Rattle.schema_levels.specs.Closure.{here}
use Rattle.schema_levels.specs.Below.{below, found_passes, rule_below, rules_below, mark_found, collect_rules, collect}
use Rattle.schema_levels.specs.Conclude.{rule_here, rules_here}
use Rattle.schema_levels.specs.EachInSet.{sweep}
use Rattle.schema_levels.specs.Nodes.{node_get, asked_here, asked_below}
use Rattle.schema_levels.specs.declared.node.Node.{Node}
use Rattle.schema_levels.specs.declared.node.Rule.{Rule}
use Rattle.schema_levels.specs.declared.node.Rule.TheVariants.{Says, Asserts, Matches, All, Any, One, Not, Then, Else, Dependent, Refers, Properties, Matching, Others, Names, ByPlace, Rest, Contains, AtLeast, AtMost}
use Rattle.schema_levels.proofs.Marks.{bit_same, bit_other, set_len, stays}

module _ (says : List ℕ → Node → Bool) (asked : List ℕ) where
  one : ℕ → Node → List ℕ → List ℕ
  one i x bs = if bit asked i then put bs i (bit bs i && says bs x) else bs

  pub one_len : (b : Bool) (i : ℕ) (x : Node) (bs : List ℕ) → length (if b then put bs i (bit bs i && says bs x) else bs) ≡ length bs
  one_len true i x bs = set_len bs i (bit bs i && says bs x)
  one_len false i x bs = refl

  pub one_other : (b : Bool) (i j : ℕ) (x : Node) (bs : List ℕ) → j ≢ i → bit (if b then put bs i (bit bs i && says bs x) else bs) j ≡ bit bs j
  one_other true i j x bs ne = bit_other bs i j (bit bs i && says bs x) ne
  one_other false i j x bs ne = refl

  pub one_same : (b : Bool) (i : ℕ) (x : Node) (bs : List ℕ) → b ≡ true → i < size bs → bit (if b then put bs i (bit bs i && says bs x) else bs) i ≡ (bit bs i && says bs x)
  one_same true i x bs e lt = bit_same bs i (bit bs i && says bs x) lt
  one_same false i x bs e lt = absurd cc

  pub sweep_len : (i : ℕ) (xs : List Node) (bs : List ℕ) → length (sweep says asked i xs bs) ≡ length bs
  sweep_len i [] bs = refl
  sweep_len i (x ∷ xs) bs = sweep_len (suc i) xs (if bit asked i then put bs i (bit bs i && says bs x) else bs) ∙ one_len (bit asked i) i x bs

  -- numbers before the first are as they were
  pub sweep_before : (i j : ℕ) (xs : List Node) (bs : List ℕ) → j < i → bit (sweep says asked i xs bs) j ≡ bit bs j
  sweep_before i j [] bs lt = refl
  sweep_before i j (x ∷ xs) bs lt = sweep_before (suc i) j xs (if bit asked i then put bs i (bit bs i && says bs x) else bs) (omega arith) ∙ one_other (bit asked i) i j x bs (λ e. absurd (omega (arith, e)))

  -- where a node's part rests on the node alone: each asked number has its part added
  pub sweep_at : (part : Node → Bool) → ((bs : List ℕ) (x : Node) → says bs x ≡ part x) → (i k : ℕ) (x : Node) (xs : List Node) (bs : List ℕ) → node_get xs k ≡ Some x → bit asked (i + k) ≡ true → i + k < size bs
      → bit (sweep says asked i xs bs) (i + k) ≡ (bit bs (i + k) && part x)
  sweep_at part same i k x [] bs g on lt = absurd cc
  sweep_at part same i zero x (y ∷ ys) bs g on lt =
      let e : i + zero ≡ i = omega arith in
      let is : y ≡ x = cc in
      rw e (
      let on' : bit asked i ≡ true = subst (λ n. bit asked n ≡ true) e on in
      let lt' : i < size bs = omega (arith, lt) in
      sweep_before (suc i) i ys (if bit asked i then put bs i (bit bs i && says bs y) else bs) (omega arith) ∙ one_same (bit asked i) i y bs on' lt' ∙ ap (λ b. bit bs i && b) (same bs y ∙ ap part is))
  sweep_at part same i (suc k) x (y ∷ ys) bs g on lt =
      let e : i + suc k ≡ suc i + k = omega arith in
      let ne : suc i + k ≢ i = λ h. absurd (omega (arith, h)) in
      rw e (sweep_at part same (suc i) k x ys (if bit asked i then put bs i (bit bs i && says bs y) else bs) g (subst (λ n. bit asked n ≡ true) e on) (rw (one_len (bit asked i) i y bs) (omega (arith, lt)))
      ∙ ap (λ b. b && part x) (one_other (bit asked i) i (suc i + k) y bs ne))

-- ---- what is asked below

found_len : (o : Option ℕ) (bs : List ℕ) → length (mark_found o bs) ≡ length bs
found_len None bs = refl
found_len (Some i) bs = set_len bs i true

found_stays : (o : Option ℕ) (bs : List ℕ) (j : ℕ) → bit bs j ≡ true → j < size bs → bit (mark_found o bs) j ≡ true
found_stays None bs j h lt = h
found_stays (Some i) bs j h lt = stays bs i j h lt

found_in : (o : Option ℕ) (bs : List ℕ) (j : ℕ) → o ≡ Some j → j < size bs → bit (mark_found o bs) j ≡ true
found_in None bs j e lt = absurd cc
found_in (Some i) bs j e lt = let is : i ≡ j = cc in rw is (bit_same bs j true lt)

module _ (x : Node) (p : PlaceInValue) where
  rules_len : (rs : List Rule) (bs : List ℕ) → length (collect_rules x p rs bs) ≡ length bs
  rules_len [] bs = refl
  rules_len (r ∷ rs) bs = rules_len rs (mark_found (below x r p) bs) ∙ found_len (below x r p) bs

  rules_stay : (rs : List Rule) (bs : List ℕ) (j : ℕ) → bit bs j ≡ true → j < size bs → bit (collect_rules x p rs bs) j ≡ true
  rules_stay [] bs j h lt = h
  rules_stay (r ∷ rs) bs j h lt = rules_stay rs (mark_found (below x r p) bs) j (found_stays (below x r p) bs j h lt) (rw (found_len (below x r p) bs) lt)

  found_or_later : (o : Option ℕ) (rs : List Rule) (bs : List ℕ) (j : ℕ) → (In j (asked_below x p rs) → bit (collect_rules x p rs (mark_found o bs)) j ≡ true)
      → In j (option_to_list o ++ asked_below x p rs) → j < size bs → bit (collect_rules x p rs (mark_found o bs)) j ≡ true
  found_or_later None rs bs j rest i lt = rest i
  found_or_later (Some _) rs bs j rest first lt = rules_stay rs (mark_found (Some j) bs) j (found_in (Some j) bs j refl lt) (rw (found_len (Some j) bs) lt)
  found_or_later (Some k) rs bs j rest (later i) lt = rest i

  rules_in : (rs : List Rule) (bs : List ℕ) (j : ℕ) → In j (asked_below x p rs) → j < size bs → bit (collect_rules x p rs bs) j ≡ true
  rules_in [] bs j i lt = none_in j i
  rules_in (r ∷ rs) bs j i lt = found_or_later (below x r p) rs bs j (λ at. rules_in rs (mark_found (below x r p) bs) j at (rw (found_len (below x r p) bs) lt)) i lt

module _ (asked : List ℕ) (p : PlaceInValue) where
  one_rules_len : (b : Bool) (x : Node) (bs : List ℕ) → length (if b then collect_rules x p x.rules.items bs else bs) ≡ length bs
  one_rules_len true x bs = rules_len x p x.rules.items bs
  one_rules_len false x bs = refl

  one_rules_stay : (b : Bool) (x : Node) (bs : List ℕ) (j : ℕ) → bit bs j ≡ true → j < size bs → bit (if b then collect_rules x p x.rules.items bs else bs) j ≡ true
  one_rules_stay true x bs j h lt = rules_stay x p x.rules.items bs j h lt
  one_rules_stay false x bs j h lt = h

  one_rules_in : (b : Bool) (x : Node) (bs : List ℕ) (j : ℕ) → b ≡ true → In j (asked_below x p x.rules.items) → j < size bs → bit (if b then collect_rules x p x.rules.items bs else bs) j ≡ true
  one_rules_in true x bs j e i lt = rules_in x p x.rules.items bs j i lt
  one_rules_in false x bs j e i lt = absurd cc

  pub collect_len : (i : ℕ) (xs : List Node) (bs : List ℕ) → length (collect asked p i xs bs) ≡ length bs
  collect_len i [] bs = refl
  collect_len i (x ∷ xs) bs = collect_len (suc i) xs (if bit asked i then collect_rules x p x.rules.items bs else bs) ∙ one_rules_len (bit asked i) x bs

  collect_stays : (i : ℕ) (xs : List Node) (bs : List ℕ) (j : ℕ) → bit bs j ≡ true → j < size bs → bit (collect asked p i xs bs) j ≡ true
  collect_stays i [] bs j h lt = h
  collect_stays i (x ∷ xs) bs j h lt = collect_stays (suc i) xs (if bit asked i then collect_rules x p x.rules.items bs else bs) j (one_rules_stay (bit asked i) x bs j h lt) (rw (one_rules_len (bit asked i) x bs) lt)

  -- what an asked node asks of the child is in the child's set
  pub collect_in : (i k j : ℕ) (x : Node) (xs : List Node) (bs : List ℕ) → node_get xs k ≡ Some x → bit asked (i + k) ≡ true → In j (asked_below x p x.rules.items) → j < size bs → bit (collect asked p i xs bs) j ≡ true
  collect_in i k j x [] bs g on at lt = absurd cc
  collect_in i zero j x (y ∷ ys) bs g on at lt =
      let e : i + zero ≡ i = omega arith in
      let is : y ≡ x = cc in
      let on' : bit asked i ≡ true = subst (λ n. bit asked n ≡ true) e on in
      collect_stays (suc i) ys (if bit asked i then collect_rules y p y.rules.items bs else bs) j (one_rules_in (bit asked i) y bs j on' (subst (λ z. In j (asked_below z p z.rules.items)) (sym is) at) lt) (rw (one_rules_len (bit asked i) y bs) lt)
  collect_in i (suc k) j x (y ∷ ys) bs g on at lt =
      let e : i + suc k ≡ suc i + k = omega arith in
      collect_in (suc i) k j x ys (if bit asked i then collect_rules y p y.rules.items bs else bs) g (subst (λ n. bit asked n ≡ true) e on) at (rw (one_rules_len (bit asked i) y bs) lt)

-- ---- answers that agree where they are asked

map_agree : (f g : ℕ → Bool) (js : List ℕ) → ((j : ℕ) → In j js → f j ≡ g j) → map f js ≡ map g js
map_agree f g [] h = refl
map_agree f g (j ∷ js) h = ap₂ (λ b bs. b ∷ bs) (h j first) (map_agree f g js (λ k i. h k (later i)))

pub rule_agrees : (f g : ℕ → Bool) (t : Doc) (r : Rule) → ((j : ℕ) → In j (here r) → f j ≡ g j) → rule_here f t r ≡ rule_here g t r
rule_agrees f g t (All v) h = ap every (map_agree f g v.items h)
rule_agrees f g t (Any v) h = ap some (map_agree f g v.items h)
rule_agrees f g t (One v) h = rw (map_agree f g v.items h) refl
rule_agrees f g t (Not j) h = rw (h j first) refl
rule_agrees f g t (Then c j) h = rw (h c first, h j (later first)) refl
rule_agrees f g t (Else c j) h = rw (h c first, h j (later first)) refl
rule_agrees f g t (Dependent ns v) h = ap (where_present (map string_bytes ns.items) t) (map_agree f g v.items h)
rule_agrees f g t (Refers j) h = h j first
rule_agrees f g t (Says b) h = refl
rule_agrees f g t (Asserts a) h = refl
rule_agrees f g t (Matches n v) h = refl
rule_agrees f g t Properties h = refl
rule_agrees f g t (Matching q j) h = refl
rule_agrees f g t (Others qs j) h = refl
rule_agrees f g t (Names j) h = refl
rule_agrees f g t (ByPlace v) h = refl
rule_agrees f g t (Rest j) h = refl
rule_agrees f g t (Contains j) h = refl
rule_agrees f g t (AtLeast j v) h = refl
rule_agrees f g t (AtMost j v) h = refl

pub here_agrees : (f g : ℕ → Bool) (t : Doc) (rs : List Rule) → ((j : ℕ) → In j (asked_here rs) → f j ≡ g j) → rules_here f t rs ≡ rules_here g t rs
here_agrees f g t [] h = refl
here_agrees f g t (r ∷ rs) h = ap₂ (λ a b. a && b) (rule_agrees f g t r (λ j i. h j (In-left j _ _ i))) (here_agrees f g t rs (λ j i. h j (In-right j (here r) _ i)))

found_agrees : (f g : ℕ → Bool) (o : Option ℕ) → ((j : ℕ) → In j (option_to_list o) → f j ≡ g j) → found_passes f o ≡ found_passes g o
found_agrees f g None h = refl
found_agrees f g (Some j) h = h j first

rule_below_agrees : (f g : ℕ → Bool) (x : Node) (p : PlaceInValue) (r : Rule) → ((j : ℕ) → In j (option_to_list (below x r p)) → f j ≡ g j) → rule_below f x r p ≡ rule_below g x r p
rule_below_agrees f g x p (Says b) h = found_agrees f g (below x (Says b) p) h
rule_below_agrees f g x p (Asserts a) h = found_agrees f g (below x (Asserts a) p) h
rule_below_agrees f g x p (Matches n v) h = found_agrees f g (below x (Matches n v) p) h
rule_below_agrees f g x p (All v) h = found_agrees f g (below x (All v) p) h
rule_below_agrees f g x p (Any v) h = found_agrees f g (below x (Any v) p) h
rule_below_agrees f g x p (One v) h = found_agrees f g (below x (One v) p) h
rule_below_agrees f g x p (Not j) h = found_agrees f g (below x (Not j) p) h
rule_below_agrees f g x p (Then n j) h = found_agrees f g (below x (Then n j) p) h
rule_below_agrees f g x p (Else n j) h = found_agrees f g (below x (Else n j) p) h
rule_below_agrees f g x p (Dependent ns v) h = found_agrees f g (below x (Dependent ns v) p) h
rule_below_agrees f g x p (Refers j) h = found_agrees f g (below x (Refers j) p) h
rule_below_agrees f g x p Properties h = found_agrees f g (below x Properties p) h
rule_below_agrees f g x p (Matching q j) h = found_agrees f g (below x (Matching q j) p) h
rule_below_agrees f g x p (Others qs j) h = found_agrees f g (below x (Others qs j) p) h
rule_below_agrees f g x p (Names j) h = found_agrees f g (below x (Names j) p) h
rule_below_agrees f g x p (ByPlace v) h = found_agrees f g (below x (ByPlace v) p) h
rule_below_agrees f g x p (Rest j) h = found_agrees f g (below x (Rest j) p) h
rule_below_agrees f g x p (Contains j) h = refl
rule_below_agrees f g x p (AtLeast j v) h = refl
rule_below_agrees f g x p (AtMost j v) h = refl

pub below_agrees : (f g : ℕ → Bool) (x : Node) (p : PlaceInValue) (rs : List Rule) → ((j : ℕ) → In j (asked_below x p rs) → f j ≡ g j) → rules_below f x p rs ≡ rules_below g x p rs
below_agrees f g x p [] h = refl
below_agrees f g x p (r ∷ rs) h = ap₂ (λ a b. a && b) (rule_below_agrees f g x p r (λ j i. h j (In-left j _ _ i))) (below_agrees f g x p rs (λ j i. h j (In-right j (option_to_list (below x r p)) _ i)))
