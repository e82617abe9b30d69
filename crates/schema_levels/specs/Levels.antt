-- The answers on a value, node by node.
use Rattle.std.specs.Prelude.{◌≡◌, ℕ, ◌<◌, List, length, Bool, true, ◌&&◌, Some}
use Rattle.doc_tree.specs.Doc.{Doc}
use Rattle.schema_graph.specs.Walks.{In}
use Rattle.schema_levels.specs.Bits.{bit}
use Rattle.schema_levels.specs.PlaceInValue.{PlaceInValue}
use Rattle.schema_levels.specs.Nodes.{node_get, asked_below}
use Rattle.schema_levels.specs.Table.{Child, IsTable, lower, said}
use Rattle.schema_levels.specs.declared.node.Node.{Node}

-- of each asked node it is known whether the value passes, whatever table the nodes have
abbrev pub AreJudged : List Node → Doc → List ℕ → List ℕ → Type 0
AreJudged nodes t asked passed = (known : ℕ → Doc → Bool) → IsTable nodes known → (i : ℕ) → i < length nodes → bit asked i ≡ true → bit passed i ≡ known i t

-- each node that was asked is
abbrev pub AreKept : List Node → List ℕ → List ℕ → Type 0
AreKept nodes old new = (i : ℕ) → i < length nodes → bit old i ≡ true → bit new i ≡ true

-- what the asked nodes say of the children is joined to their answers
abbrev pub AreFolded : List Node → List ℕ → List Child → List ℕ → List ℕ → Type 0
AreFolded nodes asked cs old new = (known : ℕ → Doc → Bool) → IsTable nodes known → (k : ℕ) (x : Node) → node_get nodes k ≡ Some x → bit asked k ≡ true → bit new k ≡ (bit old k && lower known x cs)

-- the same of all that they say of the children of a value
abbrev pub AreLowered : List Node → List ℕ → Doc → List ℕ → List ℕ → Type 0
AreLowered nodes asked t old new = (known : ℕ → Doc → Bool) → IsTable nodes known → (k : ℕ) (x : Node) → node_get nodes k ≡ Some x → bit asked k ≡ true → bit new k ≡ (bit old k && said known x t)

-- for each node that an asked one asks of a child: that it was asked, and whether the child passes
abbrev pub AreTold : List Node → List ℕ → PlaceInValue → Doc → List ℕ → List ℕ → Type 0
AreTold nodes asked p t child_asked child_passed = (known : ℕ → Doc → Bool) → IsTable nodes known → (k j : ℕ) (x : Node) → node_get nodes k ≡ Some x → bit asked k ≡ true → In j (asked_below x p x.rules.items)
    → (bit child_asked j ≡ true) × (bit child_passed j ≡ known j t)

-- the asked nodes ask nothing of a child
abbrev pub AskNothing : List Node → List ℕ → PlaceInValue → Type 0
AskNothing nodes asked p = (k j : ℕ) (x : Node) → node_get nodes k ≡ Some x → bit asked k ≡ true → In j (asked_below x p x.rules.items) → ⊥
