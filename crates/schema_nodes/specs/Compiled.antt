-- A compiled schema.
use Rattle.std.specs.Prelude.{◌≡◌, ℕ, ◌*◌, ◌<◌, ◌≤◌, List, length, Option, MatchOption}
use Rattle.doc_tree.specs.Doc.{Doc}
use Rattle.schema_levels.specs.Counters.{AreCounted}
use Rattle.schema_levels.specs.Nodes.{AreOrdered}
use Rattle.schema_levels.specs.Searched.{AreSearched}
use Rattle.schema_levels.specs.declared.node.Node.{Node}
use Rattle.schema_levels.specs.declared.run.TheConstants.{MOST_WORDS}
use Rattle.schema_nodes.specs.Nodes.{AreNodesFor, AreNumbers}
use Rattle.schema_graph.specs.Walks.{IsLooped}
use Rattle.schema_nodes.specs.declared.tree.Compiled.{Compiled}
use Rattle.schema_rules.specs.PatternTexts.{pattern_texts}
use Rattle.schema_rules.specs.Schemas.{applied, schemas}

-- one node for each schema in the whole one; the nodes say what the schemas of their numbers say, what they ask of the value itself has lower numbers, and each pattern has the number of one of the schema's patterns, if these are few enough for one word
pub record IsCompiled (root : Doc) (nodes : List Node) (whole : ℕ) : Type 0 where
  pub schema : ℕ → Doc
  pub numbers : AreNumbers root schema
  pub says : AreNodesFor root schema nodes
  pub is_whole : schema whole ≡ root
  pub many : length nodes ≡ length (schemas root)
  pub order : AreOrdered nodes
  pub within : whole < length nodes
  pub room : length nodes ≤ 64 * MOST_WORDS
  pub searched : length (pattern_texts root) ≤ 64 → AreSearched (pattern_texts root) nodes

-- it is there, with its counters, if no schema leads back to itself at one and the same instance, and is not there if
-- one does
abbrev pub IsFound : Doc → Option Compiled → Type 0
IsFound root found = MatchOption found (IsLooped (applied root) (schemas root)) (λ c. IsCompiled root c.nodes.items c.whole × AreCounted c.nodes.items c.counters × (IsLooped (applied root) (schemas root) → ⊥))
