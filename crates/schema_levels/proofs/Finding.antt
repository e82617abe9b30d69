-- What is known of the patterns that are found in a name.
use Rattle.std.proofs.Common.{◌≡◌, ◌≢◌, ℕ, zero, suc, ◌+◌, ◌<◌, ◌≤◌, ◌⊎◌, ⊎_elim, List, [], ◌∷◌, ◌++◌, map, string_bytes, Bool, true, false, ◌||◌, length, drop, drop-cons, get_or, Some, refl, sym, ap, subst, ◌∙◌, if◌then◌else◌, arith}
use Rattle.std.specs.List.{list_any}
use Rattle.schema_graph.specs.Walks.{In, first, later}
use Rattle.schema_graph.proofs.Among.{In-left, In-right, In-parts, none_in}
use Rattle.schema_graph.proofs.Numbers.{same_or_not}
use Rattle.schema_pattern.specs.Patterns.{is_found, pattern_in}
use Rattle.schema_pattern.specs.Tables.{source_at, some_found}
use Rattle.schema_levels.specs.Bits.{bit, put, size}
use Rattle.schema_levels.specs.Known.{has, Keeps, AllIn, AreSought, AreFound, SaysOf, Knows, KnowsAsked}
use Rattle.schema_levels.specs.NamePatterns.{patterns_by, patterns_in, texts_of}
use Rattle.schema_levels.specs.Nodes.{node_get}
use Rattle.schema_levels.specs.Searched.{IsNameSearched, AreNamesSearched, AreRulesSearched, AreSearched}
use Rattle.schema_levels.specs.declared.node.ChildPlace.{ChildPlace}
use Rattle.schema_levels.specs.declared.node.ChildPlace.TheVariants.{Name, Index, MemberName}
use Rattle.schema_levels.specs.declared.node.NamePattern.{NamePattern}
use Rattle.schema_levels.specs.declared.node.Node.{Node}
use Rattle.schema_levels.specs.declared.node.Rule.{Rule}
use Rattle.schema_levels.proofs.Marks.{bit_same, bit_other, stays}

pub get_is : (nodes : List Node) (i : ℕ) (x : Node) → i < length nodes → x ≡ get_or nodes i x → node_get nodes i ≡ Some x
get_is nodes i x lt is = got nodes i x lt ∙ ap (λ y. Some y) (sym is)
  where
    got : (nodes : List Node) (i : ℕ) (d : Node) → i < length nodes → node_get nodes i ≡ Some (get_or nodes i d)
    got [] i d lt = absurd (omega arith)
    got (x ∷ xs) zero d lt = refl
    got (x ∷ xs) (suc i) d lt = got xs i d (omega arith)

-- ---- the patterns of a rule among those of all

in_rules : (rs : List Rule) (i : ℕ) (d : Rule) (p : NamePattern) → i < length rs → In p (patterns_by (get_or rs i d)) → In p (patterns_in rs)
in_rules [] i d p lt at = absurd (omega arith)
in_rules (r ∷ rs) zero d p lt at = In-left p (patterns_by r) (patterns_in rs) at
in_rules (r ∷ rs) (suc i) d p lt at = In-right p (patterns_by r) (patterns_in rs) (in_rules rs i d p (omega arith) at)

pub knows_rule : (place : ChildPlace) (rs : List Rule) (i : ℕ) (r : Rule) → i < length rs → r ≡ get_or rs i r → Knows place (patterns_in rs) → Knows place (patterns_by r)
knows_rule (Name s found) rs i r lt is h = λ p at. h p (in_rules rs i r p lt (subst (λ y. In p (patterns_by y)) is at))
knows_rule (Index n) rs i r lt is h = tt
knows_rule MemberName rs i r lt is h = tt

-- ---- sets that grow

pub kept : (w : ℕ) → Keeps w w
kept w n lt h = h

pub kept_on : (a b c : ℕ) → Keeps a b → Keeps b c → Keeps a c
kept_on a b c h g n lt on = g n lt (h n lt on)

pub kept_with : (w v n : ℕ) → v ∷ [] ≡ put (w ∷ []) n true → Keeps w v
kept_with w v n e j lt on = ap (λ ws. bit ws j) e ∙ stays (w ∷ []) n j on lt

pub is_with : (w v n : ℕ) → v ∷ [] ≡ put (w ∷ []) n true → n < 64 → has v n ≡ true
is_with w v n e lt = ap (λ ws. bit ws n) e ∙ bit_same (w ∷ []) n true lt

-- what is left of the patterns stands for all of them
abbrev pub Left : ℕ → List NamePattern → List NamePattern → Type 0
Left now left all = (w : ℕ) → Keeps now w → AllIn w left → AllIn w all

pub begins_left : (w : ℕ) (ps : List NamePattern) → Left w ps ps
begins_left w ps v keeps h = h

pub ends_left : (w : ℕ) (left all : List NamePattern) → left ≡ [] → Left w left all → AllIn w all
ends_left w left all e h = h w (kept w) (λ p at. none_in p (subst (λ l. In p l) e at))

pub goes_left : (now now' : ℕ) (some left all : List NamePattern) → Left now (some ++ left) all → Keeps now now' → AllIn now' some → Left now' left all
goes_left now now' some left all h keeps has w keeps' rest =
    h w (kept_on now now' w keeps keeps') (λ p at lt. ⊎_elim (λ i. keeps' p.number lt (has p i lt)) (λ i. rest p i lt) (In-parts p some left at))

pub rules_left : (rs : List Rule) (i : ℕ) (r : Rule) → i < length rs → r ≡ get_or rs i r → patterns_in (drop i rs) ≡ patterns_by r ++ patterns_in (drop (i + 1) rs)
rules_left rs i r lt is =
    let next : suc i ≡ i + 1 = omega arith in
    ap patterns_in (drop-cons rs i r lt) ∙ ap (λ n. patterns_by (get_or rs i r) ++ patterns_in (drop n rs)) next ∙ ap (λ y. patterns_by y ++ patterns_in (drop (i + 1) rs)) (sym is)

pub patterns_left : (ps : List NamePattern) (i : ℕ) (p : NamePattern) → i < length ps → p ≡ get_or ps i p → drop i ps ≡ (p ∷ []) ++ drop (i + 1) ps
patterns_left ps i p lt is =
    let next : suc i ≡ i + 1 = omega arith in
    drop-cons ps i p lt ∙ ap (λ n. get_or ps i p ∷ drop n ps) next ∙ ap (λ y. y ∷ drop (i + 1) ps) (sym is)

past : {A : Type 0} (xs : List A) (i : ℕ) → length xs ≤ i → drop i xs ≡ []
past [] zero le = refl
past [] (suc i) le = refl
past (x ∷ xs) zero le = absurd (omega arith)
past (x ∷ xs) (suc i) le = past xs i (omega arith)

pub rules_past : (rs : List Rule) (i : ℕ) → length rs ≤ i → patterns_in (drop i rs) ≡ []
rules_past rs i le = ap patterns_in (past rs i le)

pub patterns_past : (ps : List NamePattern) (i : ℕ) → length ps ≤ i → drop i ps ≡ []
patterns_past ps i le = past ps i le

pub only : (w : ℕ) (p : NamePattern) → (p.number < 64 → has w p.number ≡ true) → AllIn w (p ∷ [])
only w p h _ first lt = h lt
only w p h q (later i) lt = none_in q i

-- ---- some pattern is found

abbrev pub Looking : ℕ → List NamePattern → List NamePattern → Type 0
Looking found left all = (k : List ℕ) → SaysOf found k all → some_found (texts_of left) k ≡ some_found (texts_of all) k

in_left : (ps : List NamePattern) (i : ℕ) (d : NamePattern) → i < length ps → In (get_or ps i d) ps
in_left [] i d lt = absurd (omega arith)
in_left (p ∷ ps) zero d lt = first
in_left (p ∷ ps) (suc i) d lt = later (in_left ps i d (omega arith))

pub in_patterns : (ps : List NamePattern) (i : ℕ) (p : NamePattern) → i < length ps → p ≡ get_or ps i p → In p ps
in_patterns ps i p lt is = subst (λ q. In q ps) (sym is) (in_left ps i p lt)

looked : (found : ℕ) (ps : List NamePattern) (i : ℕ) (p : NamePattern) (b : Bool) → i < length ps → p ≡ get_or ps i p → b ≡ has found p.number → (k : List ℕ) → SaysOf found k ps → some_found (texts_of (drop i ps)) k ≡ (b || some_found (texts_of (drop (i + 1) ps)) k)
looked found ps i p b lt is e k says =
    ap (λ l. some_found (texts_of l) k) (patterns_left ps i p lt is) ∙ ap (λ c. c || some_found (texts_of (drop (i + 1) ps)) k) (sym (e ∙ says p (in_patterns ps i p lt is)))

pub looking_on : (found : ℕ) (ps : List NamePattern) (i : ℕ) (p : NamePattern) → i < length ps → p ≡ get_or ps i p → false ≡ has found p.number → Looking found (drop i ps) ps → Looking found (drop (i + 1) ps) ps
looking_on found ps i p lt is e h k says = sym (looked found ps i p false lt is e k says) ∙ h k says

pub looking_found : (found : ℕ) (ps : List NamePattern) (i : ℕ) (p : NamePattern) → i < length ps → p ≡ get_or ps i p → true ≡ has found p.number → Looking found (drop i ps) ps → (k : List ℕ) → SaysOf found k ps → true ≡ some_found (texts_of ps) k
looking_found found ps i p lt is e h k says = sym (looked found ps i p true lt is e k says) ∙ h k says

-- ---- a name that was searched

pub knows_name : (ss : List (List ℕ)) (nodes : List Node) (asked : List ℕ) (sought : ℕ) (k : List ℕ) (found : ℕ) → AreSearched ss nodes → AreSought nodes asked sought → AreFound ss sought k found
    → (i : ℕ) (x : Node) → node_get nodes i ≡ Some x → bit asked i ≡ true → SaysOf found k (patterns_in x.rules.items)
knows_name ss nodes asked sought k found searched are says i x at on p among =
    let is = of_rules ss x.rules.items p (of_nodes ss nodes i x at searched) among in
    says p.number is.small is.within (are i x at on p among is.small) ∙ ap (λ s. is_found (pattern_in s) k) (sym is.is_text)
  where
    of_nodes : (ss : List (List ℕ)) (nodes : List Node) (i : ℕ) (x : Node) → node_get nodes i ≡ Some x → AreSearched ss nodes → AreRulesSearched ss x.rules.items
    of_nodes ss [] i x e h = absurd cc
    of_nodes ss (y ∷ ys) zero x e h = (let same : y ≡ x = cc in subst (λ (z : Node). AreRulesSearched ss z.rules.items) same h.0)
    of_nodes ss (y ∷ ys) (suc i) x e h = of_nodes ss ys i x e h.1

    of_rules : (ss : List (List ℕ)) (rs : List Rule) (p : NamePattern) → AreRulesSearched ss rs → In p (patterns_in rs) → IsNameSearched ss p
    of_rules ss [] p h at = none_in p at
    of_rules ss (r ∷ rs) p h at = ⊎_elim (λ i. h.1 p i) (λ i. of_rules ss rs p h.2 i) (In-parts p (patterns_by r) (patterns_in rs) at)

-- ---- the loop over the asked nodes

-- the patterns of those below that number are in the set
abbrev pub SoughtBelow : List Node → List ℕ → ℕ → ℕ → Type 0
SoughtBelow nodes asked upto w = (k : ℕ) (x : Node) → k < upto → node_get nodes k ≡ Some x → bit asked k ≡ true → AllIn w (patterns_in x.rules.items)

pub sought_none : (nodes : List Node) (asked : List ℕ) (upto w : ℕ) → ((k : ℕ) → 0 ≤ k → k < upto → bit asked k ≡ false) → SoughtBelow nodes asked upto w
sought_none nodes asked upto w none k x lt at on = (let off = none k (omega arith) lt in absurd cc)

-- a number that isn't asked for has nothing to add, and one that is has its own
pub sought_on : (nodes : List Node) (asked : List ℕ) (i j : ℕ) (w w' : ℕ) (x : Node) → i < length nodes → x ≡ get_or nodes i x → SoughtBelow nodes asked i w → Keeps w w' → (bit asked i ≡ true → AllIn w' (patterns_in x.rules.items))
    → ((k : ℕ) → i + 1 ≤ k → k < j → bit asked k ≡ false) → SoughtBelow nodes asked j w'
sought_on nodes asked i j w w' x lt is h keeps has none k y less at on = ⊎_elim
    (λ (e : k ≡ i).
    let same : x ≡ y = some_is x y (sym (get_is nodes i x lt is) ∙ sym (ap (node_get nodes) e) ∙ at) in
    subst (λ (z : Node). AllIn w' (patterns_in z.rules.items)) same (has (subst (λ n. bit asked n ≡ true) e on)))
    (λ ne. ⊎_elim
    (λ (below : k < i). λ p among small. keeps p.number small (h k y below at on p among small))
    (λ (above : i ≤ k). (let off = none k (omega (arith, ne, above)) less in absurd cc))
    (cases k i))
    (same_or_not k i)
  where
    cases : (a b : ℕ) → (a < b) ⊎ (b ≤ a)
    cases a b = grind arith

    some_is : (a b : Node) → Some a ≡ Some b → a ≡ b
    some_is a b e = cc

pub sought_all : (nodes : List Node) (asked : List ℕ) (upto w : ℕ) → length nodes ≤ upto → SoughtBelow nodes asked upto w → AreSought nodes asked w
sought_all nodes asked upto w le h k x at on = h k x (omega (arith, le, within nodes k x at)) at on
  where
    within : (nodes : List Node) (k : ℕ) (x : Node) → node_get nodes k ≡ Some x → k < length nodes
    within [] k x e = absurd cc
    within (y ∷ ys) zero x e = omega arith
    within (y ∷ ys) (suc k) x e = omega (arith, within ys k x e)

-- ---- the loop over the numbers

abbrev pub FoundBelow : List (List ℕ) → ℕ → List ℕ → ℕ → ℕ → Type 0
FoundBelow ss sought k upto w = (n : ℕ) → n < upto → n < 64 → n < length ss → has sought n ≡ true → has w n ≡ is_found (pattern_in (source_at ss n)) k

pub found_none : (ss : List (List ℕ)) (sought : ℕ) (k : List ℕ) (upto w : ℕ) → ((n : ℕ) → 0 ≤ n → n < upto → has sought n ≡ false) → FoundBelow ss sought k upto w
found_none ss sought k upto w none n lt small within on = (let off = none n (omega arith) lt in absurd cc)

-- the number itself is said, if it is sought
pub found_on : (ss : List (List ℕ)) (sought : ℕ) (k : List ℕ) (i j w w' : ℕ) → FoundBelow ss sought k i w → w' ∷ [] ≡ (if has sought i then put (w ∷ []) i (is_found (pattern_in (source_at ss i)) k) else w ∷ [])
    → ((n : ℕ) → i + 1 ≤ n → n < j → has sought n ≡ false) → FoundBelow ss sought k j w'
found_on ss sought k i j w w' h e none n lt small within on = ⊎_elim
    (λ (same : n ≡ i).
    let on' : has sought i ≡ true = subst (λ m. has sought m ≡ true) same on in
    let says = is_found (pattern_in (source_at ss i)) k in
    subst (λ m. has w' m ≡ is_found (pattern_in (source_at ss m)) k) (sym same) (ap (λ ws. bit ws i) e ∙ ap (λ b. bit (if b then put (w ∷ []) i says else w ∷ []) i) on' ∙ bit_same (w ∷ []) i says (omega (arith, same, small))))
    (λ ne. ⊎_elim
    (λ (below : n < i). ap (λ ws. bit ws n) e ∙ either (has sought i) (is_found (pattern_in (source_at ss i)) k) n ne ∙ h n below small within on)
    (λ (above : i ≤ n). (let off = none n (omega (arith, ne, above)) lt in absurd cc))
    (cases n i))
    (same_or_not n i)
  where
    cases : (a b : ℕ) → (a < b) ⊎ (b ≤ a)
    cases a b = grind arith

    either : (on says : Bool) (n : ℕ) → n ≢ i → bit (if on then put (w ∷ []) i says else w ∷ []) n ≡ has w n
    either true says n ne = bit_other (w ∷ []) i n says ne
    either false says n ne = refl
