-- A rule of a node by itself: what it asks, and what it makes of the answers.
use Rattle.std.specs.Prelude.{ℕ, List, Bool}
use Rattle.doc_tree.specs.Doc.{Doc}

-- of an instance: which nodes it asks of which values, and how it joins their answers
pub record Rule : Type 0 where
  pub asked : Doc → List (ℕ × Doc)
  pub joined : Doc → List Bool → Bool
