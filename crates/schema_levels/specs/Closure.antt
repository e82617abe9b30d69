-- The nodes that are asked of a value because another is.
use Rattle.std.specs.Prelude.{ℕ, zero, suc, List, [], ◌∷◌, if◌then◌else◌}
use Rattle.schema_levels.specs.Bits.{bit, mark_all}
use Rattle.schema_levels.specs.declared.node.Node.{Node}
use Rattle.schema_levels.specs.declared.node.Rule.{Rule}
use Rattle.schema_levels.specs.declared.node.Rule.TheVariants.{All, Any, One, Not, Then, Else, Dependent, Refers}

-- the nodes that a rule asks of the value itself
abbrev pub here : Rule → List ℕ
here (All v) = v.items
here (Any v) = v.items
here (One v) = v.items
here (Not j) = j ∷ []
here (Then c j) = c ∷ j ∷ []
here (Else c j) = c ∷ j ∷ []
here (Dependent names v) = v.items
here (Refers j) = j ∷ []
here _ = []

abbrev pub mark_rule : Rule → List ℕ → List ℕ
mark_rule r bs = mark_all (here r) bs

abbrev pub mark_rules : List Rule → List ℕ → List ℕ
mark_rules [] bs = bs
mark_rules (r ∷ rs) bs = mark_rules rs (mark_rule r bs)

-- the rules of the node with that number, none past the last
abbrev pub rules_at : List Node → ℕ → List Rule
rules_at [] i = []
rules_at (x ∷ xs) zero = x.rules.items
rules_at (x ∷ xs) (suc i) = rules_at xs i

-- from the highest of the first n down
abbrev pub close : List Node → ℕ → List ℕ → List ℕ
close nodes zero bs = bs
close nodes (suc i) bs = close nodes i (if bit bs i then mark_rules (rules_at nodes i) bs else bs)
