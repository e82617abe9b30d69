-- The patterns that are found in a name. Their numbers are in a set of one word.
use Rattle.std.specs.Prelude.{◌≡◌, ⊤, ℕ, ◌<◌, List, [], ◌∷◌, length, string_bytes, Bool, true, Some}
use Rattle.schema_pattern.specs.Patterns.{is_found, pattern_in}
use Rattle.schema_pattern.specs.Tables.{source_at}
use Rattle.schema_graph.specs.Walks.{In}
use Rattle.schema_levels.specs.Bits.{bit}
use Rattle.schema_levels.specs.NamePatterns.{patterns_in}
use Rattle.schema_levels.specs.Nodes.{node_get}
use Rattle.schema_levels.specs.declared.node.ChildPlace.{ChildPlace}
use Rattle.schema_levels.specs.declared.node.ChildPlace.TheVariants.{Name}
use Rattle.schema_levels.specs.declared.node.NamePattern.{NamePattern}
use Rattle.schema_levels.specs.declared.node.Node.{Node}

-- the number is in the set
abbrev pub has : ℕ → ℕ → Bool
has w n = bit (w ∷ []) n

-- what is in the first set is in the second
abbrev pub Keeps : ℕ → ℕ → Type 0
Keeps v w = (n : ℕ) → n < 64 → has v n ≡ true → has w n ≡ true

-- the numbers of these patterns are in the set, as far as it has places
abbrev pub AllIn : ℕ → List NamePattern → Type 0
AllIn w ps = (p : NamePattern) → In p ps → p.number < 64 → has w p.number ≡ true

-- those of all patterns that the asked nodes have
abbrev pub AreSought : List Node → List ℕ → ℕ → Type 0
AreSought nodes asked w = (k : ℕ) (x : Node) → node_get nodes k ≡ Some x → bit asked k ≡ true → AllIn w (patterns_in x.rules.items)

-- of each number that is sought the set says whether the text of that number is found, as a pattern, in the name
abbrev pub AreFound : List (List ℕ) → ℕ → List ℕ → ℕ → Type 0
AreFound ss sought k w = (n : ℕ) → n < 64 → n < length ss → has sought n ≡ true → has w n ≡ is_found (pattern_in (source_at ss n)) k

-- of each of these patterns the set says whether it is found in the name
abbrev pub SaysOf : ℕ → List ℕ → List NamePattern → Type 0
SaysOf w k ps = (p : NamePattern) → In p ps → has w p.number ≡ is_found (pattern_in (string_bytes p.text)) k

-- of all patterns that the asked nodes have
abbrev pub SaysOfAsked : List Node → List ℕ → ℕ → List ℕ → Type 0
SaysOfAsked nodes asked w k = (i : ℕ) (x : Node) → node_get nodes i ≡ Some x → bit asked i ≡ true → SaysOf w k (patterns_in x.rules.items)

-- a place at a name says so
abbrev pub Knows : ChildPlace → List NamePattern → Type 0
Knows (Name s found) ps = SaysOf found s.now ps
Knows _ ps = ⊤

-- of all patterns that the asked nodes have
abbrev pub KnowsAsked : List Node → List ℕ → ChildPlace → Type 0
KnowsAsked nodes asked place = (k : ℕ) (x : Node) → node_get nodes k ≡ Some x → bit asked k ≡ true → Knows place (patterns_in x.rules.items)
