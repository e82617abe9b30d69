-- The work of judging a value by numbered nodes: of each value in it, and of each name of a member, the nodes that are asked of it, each once, by their weights. What is asked doesn't depend on the answers.
use Rattle.std.specs.Prelude.{ℕ, suc, ◌+◌, ◌/◌, List, [], ◌∷◌, length, replicate, true, Option, Some, None, if◌then◌else◌, nat_lt}
use Rattle.doc_tree.specs.Doc.{Doc, text, list, object, Elements, no_elements, element, Members, no_members, member}
use Rattle.doc_tree.specs.TreeView.{view}
use Rattle.schema_rules.specs.declared.assertion.Assertion.{Assertion}
use Rattle.schema_rules.specs.declared.assertion.Assertion.TheVariants.{Among, Stated}
use Rattle.schema_rules.specs.declared.keyword.Keyword.TheVariants.{Constant, DependentRequired, Enumeration, UniqueItems}
use Rattle.schema_levels.specs.Below.{collect}
use Rattle.schema_levels.specs.Bits.{bit, put}
use Rattle.schema_levels.specs.Closure.{close}
use Rattle.schema_levels.specs.PlaceInValue.{PlaceInValue, name, index, member_name}
use Rattle.schema_levels.specs.declared.node.Node.{Node}
use Rattle.schema_levels.specs.declared.node.Rule.{Rule}
use Rattle.schema_levels.specs.declared.node.Rule.TheVariants.{Asserts, Matching}
use Rattle.judged_work.specs.Sizes.{names_size, own_size, whole_size}

-- ---- what a node weighs on a value

-- the names of an object's members
abbrev pub size_of_names : Doc → ℕ
size_of_names (object ms) = names_size ms
size_of_names _ = 0

-- what an assertion goes through that isn't the value by itself: `const`, `enum` and `uniqueItems` compare all that is in the value, and `dependentRequired` looks for each name that it lists
abbrev pub beyond : Assertion → Doc → ℕ
beyond (Stated Constant v) t = whole_size t
beyond (Stated Enumeration v) t = whole_size t
beyond (Stated UniqueItems v) t = whole_size t
beyond (Stated DependentRequired v) t = whole_size (view v)
beyond (Stated keyword v) t = 0
beyond (Among choices) t = whole_size t

-- each rule is gone through once for the value and once for each child, or looks at all of a text; no more members are found for `required` than there are; a pattern for names is searched for in each name too
abbrev pub rule_weight : Rule → Doc → ℕ
rule_weight (Asserts a) t = own_size t + beyond a t
rule_weight (Matching pattern j) t = own_size t + size_of_names t
rule_weight rule t = own_size t

abbrev pub rules_weight : List Rule → Doc → ℕ
rules_weight [] t = 0
rules_weight (r ∷ rs) t = rule_weight r t + rules_weight rs t

-- a node is found in sets of that many words, which are cleared and searched for the value, and its rules are gone through; the nodes that rules ask of the value itself have weights of their own
abbrev pub node_weight : ℕ → Node → Doc → ℕ
node_weight words x t = words / 16 + own_size t + rules_weight x.rules.items t

-- of those nodes that are in the set; the first one of these has the number i
abbrev pub weight_from : List ℕ → ℕ → List Node → Doc → ℕ
weight_from asked i [] t = 0
weight_from asked i (x ∷ xs) t = (if bit asked i then node_weight (length asked) x t else 0) + weight_from asked (suc i) xs t

-- of all
abbrev pub weight : List Node → List ℕ → Doc → ℕ
weight nodes asked t = weight_from asked 0 nodes t

-- ---- which nodes are asked

-- of a value, with those that these lead to at the same value
abbrev pub closed : List Node → List ℕ → List ℕ
closed nodes asked = close nodes (length nodes) asked

-- of the child at that place
abbrev pub asked_at : List Node → List ℕ → PlaceInValue → List ℕ
asked_at nodes asked p = collect asked p 0 nodes (replicate (length asked) 0)

-- ---- the work

abbrev mutual
  -- on a value, of which these nodes are asked
  pub work : List Node → List ℕ → Doc → ℕ
  work nodes asked (list ds) = weight nodes (closed nodes asked) (list ds) + elements_work nodes (closed nodes asked) 0 ds
  work nodes asked (object ms) = weight nodes (closed nodes asked) (object ms) + members_work nodes (closed nodes asked) ms
  work nodes asked t = weight nodes (closed nodes asked) t

  -- on elements, the first of which has that index; these nodes are asked of their list
  pub elements_work : List Node → List ℕ → ℕ → Elements → ℕ
  elements_work nodes asked i no_elements = 0
  elements_work nodes asked i (element d ds) = work nodes (asked_at nodes asked (index i)) d + elements_work nodes asked (suc i) ds

  -- on members, and on their names as texts
  pub members_work : List Node → List ℕ → Members → ℕ
  members_work nodes asked no_members = 0
  members_work nodes asked (member k d ms) =
      work nodes (asked_at nodes asked (name k)) d + weight nodes (closed nodes (asked_at nodes asked member_name)) (text k) + members_work nodes asked ms

-- the set with the one number, and a place for each node
abbrev pub only : List Node → ℕ → List ℕ
only nodes n = put (replicate ((length nodes + 63) / 64) 0) n true

-- of judging the value by the node with that number
abbrev pub judged_work : List Node → ℕ → Doc → ℕ
judged_work nodes n t = work nodes (only nodes n) t

-- the work, unless it is more than the limit
abbrev pub within : ℕ → ℕ → Option ℕ
within limit n = if nat_lt limit n then None else Some n
