-- The searches that the rules of nodes need.
use Rattle.std.specs.Prelude.{◌≡◌, ⊤, ℕ, ◌<◌, List, [], ◌∷◌, length, string_bytes}
use Rattle.doc_tree.specs.Doc.{text}
use Rattle.doc_tree.specs.TreeView.{view}
use Rattle.schema_pattern.specs.Tables.{source_at}
use Rattle.schema_graph.specs.Walks.{In}
use Rattle.schema_levels.specs.NamePatterns.{patterns_by}
use Rattle.schema_levels.specs.declared.node.NamePattern.{NamePattern}
use Rattle.schema_levels.specs.declared.node.Node.{Node}
use Rattle.schema_levels.specs.declared.node.Rule.{Rule}
use Rattle.schema_levels.specs.declared.node.Rule.TheVariants.{Matches}

-- the pattern of a rule is the one that its number is searched for by
abbrev pub IsSearched : List (List ℕ) → Rule → Type 0
IsSearched ss (Matches n v) = (n < length ss) × (view v ≡ text (source_at ss n))
IsSearched ss _ = ⊤

-- a pattern for names is the one that its number is searched for by, and a word has a place for its number
pub record IsNameSearched (ss : List (List ℕ)) (p : NamePattern) : Type 0 where
  pub small : p.number < 64
  pub within : p.number < length ss
  pub is_text : string_bytes p.text ≡ source_at ss p.number

abbrev pub AreNamesSearched : List (List ℕ) → List NamePattern → Type 0
AreNamesSearched ss ps = (p : NamePattern) → In p ps → IsNameSearched ss p

abbrev pub AreRulesSearched : List (List ℕ) → List Rule → Type 0
AreRulesSearched ss [] = ⊤
AreRulesSearched ss (r ∷ rs) = IsSearched ss r × AreNamesSearched ss (patterns_by r) × AreRulesSearched ss rs

-- those of all nodes
abbrev pub AreSearched : List (List ℕ) → List Node → Type 0
AreSearched ss [] = ⊤
AreSearched ss (x ∷ xs) = AreRulesSearched ss x.rules.items × AreSearched ss xs
