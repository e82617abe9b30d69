-- The answers of nodes on a value once its children are judged.
use Rattle.std.specs.Prelude.{ℕ, ◌==◌, List, [], ◌∷◌, map, string_bytes, Bool, true, not, ◌&&◌, ◌||◌}
use Rattle.doc_tree.specs.Doc.{Doc}
use Rattle.doc_tree.specs.TreeView.{view}
use Rattle.schema_rules.specs.Holds.{holds}
use Rattle.schema_rules.specs.Patterns.{fits}
use Rattle.schema_rules.specs.Rules.{every, some, how_many, where_present}
use Rattle.schema_levels.specs.Bits.{bit}
use Rattle.schema_levels.specs.EachInSet.{sweep}
use Rattle.schema_levels.specs.declared.node.Node.{Node}
use Rattle.schema_levels.specs.declared.node.Rule.{Rule}
use Rattle.schema_levels.specs.declared.node.Rule.TheVariants.{Says, Asserts, Matches, All, Any, One, Not, Then, Else, Dependent, Refers}

-- the answer of a rule on the value itself, if the nodes that it asks are known
abbrev pub rule_here : (ℕ → Bool) → Doc → Rule → Bool
rule_here known t (Says b) = b
rule_here known t (Asserts a) = holds a t
rule_here known t (Matches n v) = fits (view v) t
rule_here known t (All v) = every (map known v.items)
rule_here known t (Any v) = some (map known v.items)
rule_here known t (One v) = how_many (map known v.items) == 1
rule_here known t (Not j) = not (known j)
rule_here known t (Then c j) = not (known c) || known j
rule_here known t (Else c j) = known c || known j
rule_here known t (Dependent names v) = where_present (map string_bytes names.items) t (map known v.items)
rule_here known t (Refers j) = known j
rule_here known t _ = true

abbrev pub rules_here : (ℕ → Bool) → Doc → List Rule → Bool
rules_here known t [] = true
rules_here known t (r ∷ rs) = rule_here known t r && rules_here known t rs

-- of the nodes in the set
abbrev pub conclude : Doc → List ℕ → ℕ → List Node → List ℕ → List ℕ
conclude t asked i nodes bs = sweep (λ now x. rules_here (bit now) t x.rules.items) asked i nodes bs
