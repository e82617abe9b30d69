-- The patterns that rules search the names of members for.
use Rattle.std.specs.Prelude.{ℕ, List, [], ◌∷◌, ◌++◌, map, string_bytes}
use Rattle.schema_levels.specs.declared.node.NamePattern.{NamePattern}
use Rattle.schema_levels.specs.declared.node.Rule.{Rule}
use Rattle.schema_levels.specs.declared.node.Rule.TheVariants.{Matching, Others}

-- those of a rule
abbrev pub patterns_by : Rule → List NamePattern
patterns_by (Matching p j) = p ∷ []
patterns_by (Others ps j) = ps.items
patterns_by _ = []

abbrev pub patterns_in : List Rule → List NamePattern
patterns_in [] = []
patterns_in (r ∷ rs) = patterns_by r ++ patterns_in rs

-- their texts
abbrev pub texts_of : List NamePattern → List (List ℕ)
texts_of = map (λ p. string_bytes p.text)
