-- The answers of numbered nodes on a value, if it is known what each says of each value.
use Rattle.std.specs.Prelude.{◌≡◌, ◌==◌, ℕ, zero, suc, List, [], ◌∷◌, ◌++◌, map, string_bytes, Bool, true, not, ◌&&◌, Option, Some, None}
use Rattle.doc_tree.specs.Doc.{Doc, text, list, object, Elements, no_elements, element, Members, no_members, member}
use Rattle.schema_levels.specs.PlaceInValue.{PlaceInValue, name, index, member_name}
use Rattle.doc_tree.specs.Lists.{elements_list}
use Rattle.doc_tree.specs.TreeView.{view}
use Rattle.schema_rules.specs.Holds.{holds}
use Rattle.schema_rules.specs.Patterns.{fits}
use Rattle.schema_rules.specs.Assertions.{at_least, at_most, on_list}
use Rattle.schema_rules.specs.Rules.{every, some, how_many, where_true, where_false, where_present}
use Rattle.schema_levels.specs.Counters.{rules_say}
use Rattle.schema_levels.specs.Rules as alone
use Rattle.schema_levels.specs.Closure.{here}
use Rattle.schema_levels.specs.Below.{below, rules_below}
use Rattle.schema_levels.specs.declared.node.Node.{Node}
use Rattle.schema_levels.specs.declared.node.Rule.{Rule}
use Rattle.schema_levels.specs.declared.node.Rule.TheVariants.{Says, Asserts, Matches, Any, One, Not, Then, Else, Dependent, Contains, AtLeast, AtMost}

-- ---- children

pub record Child : Type 0 where
  pub place : PlaceInValue
  pub value : Doc

abbrev pub child_at : PlaceInValue → Doc → Child
child_at p d = record { place = p; value = d }

-- elements, the first of which has the index n
abbrev pub items_from : ℕ → Elements → List Child
items_from n no_elements = []
items_from n (element d ds) = child_at (index n) d ∷ items_from (suc n) ds

abbrev pub members_each : Members → List Child
members_each no_members = []
members_each (member k d ms) = child_at (name k) d ∷ members_each ms

-- the names of the members, as texts
abbrev pub titles : Members → List Child
titles no_members = []
titles (member k d ms) = child_at member_name (text k) ∷ titles ms

abbrev pub children : Doc → List Child
children (list ds) = items_from 0 ds
children (object ms) = members_each ms ++ titles ms
children _ = []

-- ---- a rule, given by what it asks and how it joins the answers

abbrev pub ask_found : Option ℕ → Doc → List (ℕ × Doc) → List (ℕ × Doc)
ask_found None d rest = rest
ask_found (Some j) d rest = (j, d) ∷ rest

abbrev pub ask_children : Node → Rule → List Child → List (ℕ × Doc)
ask_children x r [] = []
ask_children x r (c ∷ cs) = ask_found (below x r c.place) c.value (ask_children x r cs)

abbrev pub ask_here : List ℕ → Doc → List (ℕ × Doc)
ask_here [] t = []
ask_here (j ∷ js) t = (j, t) ∷ ask_here js t

abbrev pub joined_by : Rule → Doc → List Bool → Bool
joined_by (Says b) t answers = b
joined_by (Asserts a) t answers = holds a t
joined_by (Matches n v) t answers = fits (view v) t
joined_by (Any v) t answers = some answers
joined_by (One v) t answers = how_many answers == 1
joined_by (Not j) t answers = not (every answers)
joined_by (Then c j) t answers = where_true answers
joined_by (Else c j) t answers = where_false answers
joined_by (Dependent names v) t answers = where_present (map string_bytes names.items) t answers
joined_by (Contains j) t answers = on_list (λ _. some answers) t
joined_by (AtLeast j v) t answers = on_list (λ _. at_least (view v) (how_many answers)) t
joined_by (AtMost j v) t answers = on_list (λ _. at_most (view v) (how_many answers)) t
joined_by _ t answers = every answers

abbrev pub rule_of : Node → Rule → alone.Rule
rule_of x r = record { asked = λ t. ask_here (here r) t ++ ask_children x r (children t); joined = joined_by r }

-- ---- if each part is known

abbrev pub told_by : (ℕ → Doc → Bool) → List (ℕ × Doc) → List Bool
told_by known [] = []
told_by known (a ∷ rest) = known a.0 a.1 ∷ told_by known rest

-- all rules of a node apply together
abbrev pub rules_pass : (ℕ → Doc → Bool) → List alone.Rule → Doc → Bool
rules_pass known [] t = true
rules_pass known (r ∷ rules) t = r.joined t (told_by known (r.asked t)) && rules_pass known rules t

abbrev pub node_passes : (ℕ → Doc → Bool) → Node → Doc → Bool
node_passes known x t = rules_pass known (map (rule_of x) x.rules.items) t

-- the node with that number passes the value; past the last all values pass
abbrev pub passes_at : (ℕ → Doc → Bool) → List Node → ℕ → Doc → Bool
passes_at known [] p t = true
passes_at known (x ∷ xs) zero t = node_passes known x t
passes_at known (x ∷ xs) (suc p) t = passes_at known xs p t

-- what is known of each number and value is what its node's rules say of what is known
abbrev pub IsTable : List Node → (ℕ → Doc → Bool) → Type 0
IsTable nodes known = (p : ℕ) (t : Doc) → known p t ≡ passes_at known nodes p t

-- ---- what is said of children, child by child

abbrev pub rules_lower : (ℕ → Doc → Bool) → Node → List Rule → List Child → Bool
rules_lower known x rs [] = true
rules_lower known x rs (c ∷ cs) = rules_below (λ j. known j c.value) x c.place rs && rules_lower known x rs cs

abbrev pub lower : (ℕ → Doc → Bool) → Node → List Child → Bool
lower known x cs = rules_lower known x x.rules.items cs

-- what is said of the elements together
abbrev pub rules_together : (ℕ → Doc → Bool) → List Rule → Doc → Bool
rules_together known rs (list ds) = rules_say (λ j. some (map (known j) (elements_list ds))) (λ j. how_many (map (known j) (elements_list ds))) rs
rules_together known rs _ = true

-- all that is said of the children
abbrev pub said : (ℕ → Doc → Bool) → Node → Doc → Bool
said known x t = lower known x (children t) && rules_together known x.rules.items t
