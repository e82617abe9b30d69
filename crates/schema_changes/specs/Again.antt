-- The second judgement of a value that certain nodes must pass: the rules that rest on what may have changed.
use Rattle.std.specs.Prelude.{◌≡◌, ◌⊎◌, ⊤, ℕ, zero, suc, List, [], ◌∷◌, ◌++◌, length, replicate, Bool, true, false, nat_le, ◌&&◌, ◌||◌, Option, Some, None, if◌then◌else◌}
use Rattle.std.specs.Option.{option_to_list}
use Rattle.doc_tree.specs.Doc.{Doc, text, list, object, Members, no_members, member, Place, name, index, child}
use Rattle.doc_tree.specs.Sound.{IsBefore}
use Rattle.schema_graph.specs.Walks.{In}
use Rattle.schema_levels.specs.Below.{below}
use Rattle.schema_levels.specs.Bits.{bit, mark_all, put}
use Rattle.schema_levels.specs.Closure.{rules_at}
use Rattle.schema_levels.specs.Nodes.{node_get}
use Rattle.schema_levels.specs.Conclude.{rule_here}
use Rattle.schema_levels.specs.PlaceInValue as sites
use Rattle.schema_levels.specs.PlaceInValue.{PlaceInValue}
use Rattle.schema_levels.specs.EachInSet.{walk}
use Rattle.schema_levels.specs.declared.node.Node.{Node}
use Rattle.schema_levels.specs.declared.node.Rule.{Rule}
use Rattle.schema_levels.specs.declared.node.Rule.TheVariants.{All, Any, One, Not, Then, Else, Dependent, Refers, ByPlace, Rest, Contains, AtLeast, AtMost}
use Rattle.schema_changes.specs.Agree.{AgreeButShifted, AgreeOff, AgreeOffEach}

-- ---- what must hold

-- each node in the set passes the value
abbrev pub AllPass : (ℕ → Doc → Bool) → List ℕ → Doc → Type 0
AllPass known asked t = (i : ℕ) → bit asked i ≡ true → known i t ≡ true

-- the nodes that must pass the value itself if the rule holds of it: `allOf` and `$ref` (JSON Schema Core, sections
-- 10.2.1.1 and 8.2.3.1)
abbrev pub must_here : Rule → List ℕ
must_here (All v) = v.items
must_here (Refers j) = j ∷ []
must_here _ = []

abbrev pub must_all_here : List Rule → List ℕ
must_all_here [] = []
must_all_here (r ∷ rs) = must_here r ++ must_all_here rs

-- the node that must pass the child at that place; one that counts elements rests on them together
abbrev pub must_below : Node → Rule → PlaceInValue → Option ℕ
must_below x (Contains j) p = None
must_below x (AtLeast j v) p = None
must_below x (AtMost j v) p = None
must_below x r p = below x r p

abbrev pub must_all_below : Node → PlaceInValue → List Rule → List ℕ
must_all_below x p [] = []
must_all_below x p (r ∷ rs) = option_to_list (must_below x r p) ++ must_all_below x p rs

-- ---- the set of those nodes

abbrev pub mark_must : List Rule → List ℕ → List ℕ
mark_must [] bs = bs
mark_must (r ∷ rs) bs = mark_must rs (mark_all (must_here r) bs)

-- at the value itself, from the highest of the first n down
abbrev pub close_must : List Node → ℕ → List ℕ → List ℕ
close_must nodes zero bs = bs
close_must nodes (suc i) bs = close_must nodes i (if bit bs i then mark_must (rules_at nodes i) bs else bs)

abbrev pub mark_must_below : Node → PlaceInValue → List Rule → List ℕ → List ℕ
mark_must_below x p [] bs = bs
mark_must_below x p (r ∷ rs) bs = mark_must_below x p rs (mark_all (option_to_list (must_below x r p)) bs)

-- at a child
abbrev pub collect_must : List ℕ → PlaceInValue → ℕ → List Node → List ℕ → List ℕ
collect_must asked p i nodes bs = walk (λ n x now. mark_must_below x p x.rules.items now) asked i nodes bs

-- ---- what is judged again

-- the nodes whose answers at the value itself a rule joins: they are judged whole
abbrev pub anew_here : Rule → List ℕ
anew_here (Any v) = v.items
anew_here (One v) = v.items
anew_here (Not j) = j ∷ []
anew_here (Then c j) = c ∷ j ∷ []
anew_here (Else c j) = c ∷ j ∷ []
anew_here (Dependent names v) = v.items
anew_here _ = []

-- the rule speaks of the elements together
abbrev pub counts : Rule → Bool
counts (Contains j) = true
counts (AtLeast j v) = true
counts (AtMost j v) = true
counts _ = false

abbrev pub some_counts : List Rule → Bool
some_counts [] = false
some_counts (r ∷ rs) = counts r || some_counts rs

abbrev pub is_list : Doc → Bool
is_list (list ds) = true
is_list _ = false

abbrev pub mark_anew_rules : List Rule → List ℕ → List ℕ
mark_anew_rules [] bs = bs
mark_anew_rules (r ∷ rs) bs = mark_anew_rules rs (mark_all (anew_here r) bs)

abbrev pub one_if : Bool → ℕ → List ℕ
one_if true n = n ∷ []
one_if false n = []

-- a node that counts elements is judged whole at a list
abbrev pub mark_anew : Bool → ℕ → Node → List ℕ → List ℕ
mark_anew in_list n x bs = mark_anew_rules x.rules.items (mark_all (one_if (in_list && some_counts x.rules.items) n) bs)

abbrev pub collect_anew : Bool → List ℕ → ℕ → List Node → List ℕ → List ℕ
collect_anew in_list asked i nodes bs = walk (mark_anew in_list) asked i nodes bs

-- the answer of a rule on the value, if the nodes pass that must pass it
abbrev pub rule_again : (ℕ → Bool) → Doc → Rule → Bool
rule_again known t (All v) = true
rule_again known t (Refers j) = true
rule_again known t r = rule_here known t r

abbrev pub rules_again : (ℕ → Bool) → Doc → List Rule → Bool
rules_again known t [] = true
rules_again known t (r ∷ rs) = rule_again known t r && rules_again known t rs

abbrev pub node_again : (ℕ → Bool) → Bool → Doc → ℕ → Node → Bool
node_again known in_list t n x = if in_list && some_counts x.rules.items then known n else rules_again known t x.rules.items

-- each node in the set holds again
abbrev pub AllAgain : (ℕ → Bool) → Bool → Doc → List Node → List ℕ → Type 0
AllAgain known in_list t nodes asked = (i : ℕ) (x : Node) → node_get nodes i ≡ Some x → bit asked i ≡ true → node_again known in_list t i x ≡ true

-- ---- places

-- the site of the child at that place
abbrev pub site_of : Place → PlaceInValue
site_of (name k) = sites.name k
site_of (index n) = sites.index n

-- each name comes before those after it
abbrev pub AreSorted : Members → Type 0
AreSorted no_members = ⊤
AreSorted (member k d ms) = IsBefore k ms × AreSorted ms

-- in an object they do
abbrev pub IsSorted : Doc → Type 0
IsSorted (object ms) = AreSorted ms
IsSorted _ = ⊤

-- a test that answers whether something is so
pub record Tells (result : Bool) (P : Type 0) : Type 0 where
  pub yes : result ≡ true → P
  pub all : P → result ≡ true

-- ---- along a location

-- the nodes that must pass the child at that place pass this value
abbrev pub ValuePasses : (ℕ → Doc → Bool) → List Node → List ℕ → PlaceInValue → Doc → Type 0
ValuePasses known nodes asked p d = (i j : ℕ) (x : Node) → node_get nodes i ≡ Some x → bit asked i ≡ true → In j (must_all_below x p x.rules.items) → known j d ≡ true

-- the name that leads there, if a name does, passes the nodes that names must pass
abbrev pub NamePasses : (ℕ → Doc → Bool) → List Node → List ℕ → Place → Type 0
NamePasses known nodes asked p = (k : List ℕ) → p ≡ name k → ValuePasses known nodes asked sites.member_name (text k)

-- a child at that place
pub record PassBelow (known : ℕ → Doc → Bool) (nodes : List Node) (asked : List ℕ) (p : Place) (d : Doc) : Type 0 where
  pub value : ValuePasses known nodes asked (site_of p) d
  pub named : NamePasses known nodes asked p

-- what must hold again at a value that changed below it
pub record HoldsHere (known : ℕ → Doc → Bool) (nodes : List Node) (asked : List ℕ) (t : Doc) : Type 0 where
  pub sorted : IsSorted t
  pub again : AllAgain (λ j. known j t) (is_list t) t nodes asked

-- the nodes that must pass a value: those of the set, and those that must because they do
abbrev pub closed : List Node → List ℕ → List ℕ
closed nodes asked = close_must nodes (length nodes) asked

-- the nodes that must pass the child at that place if those of the set pass the value
abbrev pub asked_at : List Node → List ℕ → Place → List ℕ
asked_at nodes asked p = collect_must asked (site_of p) 0 nodes (replicate (length asked) 0)

-- what must hold again of a value that changed at the location: at itself, and at each value on the way there
abbrev pub HoldsAlong : (ℕ → Doc → Bool) → List Node → List ℕ → List Place → Doc → Type 0
HoldsAlong known nodes asked [] t = AllPass known asked t
HoldsAlong known nodes asked (p ∷ ps) t =
    HoldsHere known nodes (closed nodes asked) t
    × ((d : Doc) → child p t ≡ Some d → NamePasses known nodes (closed nodes asked) p × HoldsAlong known nodes (asked_at nodes (closed nodes asked) p) ps d)

-- the rule asks the same of each element from that index on
abbrev pub is_steady : ℕ → Node → Rule → Bool
is_steady n x (ByPlace v) = nat_le (length v.items) n
is_steady n x (Rest j) = nat_le x.prefix n
is_steady n x _ = true

abbrev pub all_steady : ℕ → Node → List Rule → Bool
all_steady n x [] = true
all_steady n x (r ∷ rs) = is_steady n x r && all_steady n x rs

-- each node in the set does
abbrev pub AreSteady : ℕ → List Node → List ℕ → Type 0
AreSteady n nodes asked = (i : ℕ) (x : Node) → node_get nodes i ≡ Some x → bit asked i ≡ true → all_steady n x x.rules.items ≡ true

-- if the location ends here at an element that may have moved others
abbrev pub IsSteadyAt : Bool → Place → List Place → List Node → List ℕ → Type 0
IsSteadyAt false p ps nodes asked = ⊤
IsSteadyAt true (index n) [] nodes asked = AreSteady n nodes asked
IsSteadyAt true (name k) [] nodes asked = ⊥
IsSteadyAt true p (q ∷ ps) nodes asked = ⊤

-- the same as along a location, if an element came to its end, or went from there: those after it are asked the same as before, or
-- the list is judged whole
abbrev pub HoldsShifted : (ℕ → Doc → Bool) → List Node → List ℕ → List Place → Doc → Type 0
HoldsShifted known nodes asked [] t = AllPass known asked t
HoldsShifted known nodes asked (p ∷ []) t = AllPass known asked t ⊎ (IsSteadyAt true p [] nodes (closed nodes asked) × HoldsAlong known nodes asked (p ∷ []) t)
HoldsShifted known nodes asked (p ∷ q ∷ ps) t =
    HoldsHere known nodes (closed nodes asked) t
    × ((d : Doc) → child p t ≡ Some d → NamePasses known nodes (closed nodes asked) p × HoldsShifted known nodes (asked_at nodes (closed nodes asked) p) (q ∷ ps) d)

abbrev pub HoldsBy : Bool → (ℕ → Doc → Bool) → List Node → List ℕ → List Place → Doc → Type 0
HoldsBy false known nodes asked ps t = HoldsAlong known nodes asked ps t
HoldsBy true known nodes asked ps t = HoldsShifted known nodes asked ps t

-- the set of one number, in that many words
abbrev pub only : ℕ → ℕ → List ℕ
only words n = put (replicate words 0) n true

-- if true, what must hold along the location does; and it is true if the node passes
pub record TellsBy (shifts : Bool) (known : ℕ → Doc → Bool) (nodes : List Node) (words n : ℕ) (ps : List Place) (t : Doc) (b : Bool) : Type 0 where
  pub holds : b ≡ true → HoldsBy shifts known nodes (only words n) ps t
  pub all : known n t ≡ true → b ≡ true

-- the result is whether the node passes, if it passed a value that agrees with this one off the location
abbrev pub IsPassedAgain : (ℕ → Doc → Bool) → ℕ → List Place → Doc → Bool → Type 0
IsPassedAgain known n ps t b = (old : Doc) → known n old ≡ true → AgreeOff ps old t → b ≡ known n t

-- the same of one that agrees with it off all of these locations
abbrev pub IsPassedAfter : (ℕ → Doc → Bool) → ℕ → List (List Place) → Doc → Bool → Type 0
IsPassedAfter known n pss t b = (old : Doc) → known n old ≡ true → AgreeOffEach pss old t → b ≡ known n t

-- the same of one in which an element came to the end of the location, or went from there
abbrev pub IsPassedShifted : (ℕ → Doc → Bool) → ℕ → List Place → Doc → Bool → Type 0
IsPassedShifted known n ps t b = (old : Doc) → known n old ≡ true → AgreeButShifted ps old t → b ≡ known n t
