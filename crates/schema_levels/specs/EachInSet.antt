-- For the clauses within the crate: one way over the nodes upward: each that is in a set does something.
use Rattle.std.specs.Prelude.{ℕ, suc, List, [], ◌∷◌, Bool, ◌&&◌, if◌then◌else◌}
use Rattle.schema_levels.specs.Bits.{bit, put}
use Rattle.schema_levels.specs.declared.node.Node.{Node}

-- from the node with the number i on
abbrev pub walk : (ℕ → Node → List ℕ → List ℕ) → List ℕ → ℕ → List Node → List ℕ → List ℕ
walk each asked i [] bs = bs
walk each asked i (x ∷ xs) bs = walk each asked (suc i) xs (if bit asked i then each i x bs else bs)

-- each adds to its answer
abbrev pub sweep : (List ℕ → Node → Bool) → List ℕ → ℕ → List Node → List ℕ → List ℕ
sweep says asked i nodes bs = walk (λ n x now. put now n (bit now n && says now x)) asked i nodes bs
