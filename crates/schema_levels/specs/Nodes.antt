-- Numbered nodes, and what their numbers must keep to.
use Rattle.std.specs.Prelude.{◌≡◌, ℕ, zero, suc, ◌<◌, List, [], ◌∷◌, ◌++◌, length, Option, Some, None}
use Rattle.std.specs.Option.{option_to_list}
use Rattle.schema_levels.specs.PlaceInValue.{PlaceInValue}
use Rattle.schema_graph.specs.Walks.{In}
use Rattle.schema_levels.specs.Closure.{here}
use Rattle.schema_levels.specs.Below.{below}
use Rattle.schema_levels.specs.declared.node.Node.{Node}
use Rattle.schema_levels.specs.declared.node.Rule.{Rule}

-- the node with that number
abbrev pub node_get : List Node → ℕ → Option Node
node_get [] i = None
node_get (x ∷ xs) zero = Some x
node_get (x ∷ xs) (suc i) = node_get xs i

-- all that rules ask of the value itself
abbrev pub asked_here : List Rule → List ℕ
asked_here [] = []
asked_here (r ∷ rs) = here r ++ asked_here rs

-- all that they ask of the child at a place
abbrev pub asked_below : Node → PlaceInValue → List Rule → List ℕ
asked_below x p [] = []
asked_below x p (r ∷ rs) = option_to_list (below x r p) ++ asked_below x p rs

-- at the value itself nodes lead to lower numbers, and at children to nodes
pub record AreOrdered (nodes : List Node) : Type 0 where
  pub falls : (i j : ℕ) (x : Node) → node_get nodes i ≡ Some x → In j (asked_here x.rules.items) → j < i
  pub among : (i j : ℕ) (x : Node) (p : PlaceInValue) → node_get nodes i ≡ Some x → In j (asked_below x p x.rules.items) → j < length nodes
