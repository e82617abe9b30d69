-- For the clauses within the crate: the numbers of schemas by their anchors.
use Rattle.std.specs.Prelude.{◌≡◌, ℕ, List, Option, Some, None, String, cond}
use Rattle.std.specs.Str.{bytes_eq}
use Rattle.std.specs.declared.alloc.Global.{Global}
use Rattle.doc_tree.specs.Doc.{Doc}
use Rattle.schema_levels.specs.Below.{number_named}
use Rattle.schema_rules.specs.Anchors.{anchor_of}
use Rattle.schema_nodes.specs.Entries.{doc_at}
use Rattle.schema_nodes.specs.declared.entries.Entry.{Entry}

-- the schema of that number has this anchor
abbrev pub HasAnchor : List Entry → List ℕ → ℕ → Type 0
HasAnchor es s n = (d : Doc) × (doc_at es n ≡ Some d) × (anchor_of d ≡ Some s)

-- each number is that of a schema that has the anchor, and each anchor that a schema has is there
pub record AreAnchors (es : List Entry) (names : List (String Global × ℕ)) : Type 0 where
  pub has : (s : List ℕ) (n : ℕ) → number_named s names ≡ Some n → HasAnchor es s n
  pub all : (s : List ℕ) (n : ℕ) → HasAnchor es s n → number_named s names ≡ None → ⊥

-- the number is added at the anchor, if there is one
abbrev pub AddsAnchor : Option (List ℕ) → ℕ → List (String Global × ℕ) → List (String Global × ℕ) → Type 0
AddsAnchor None n old new = new ≡ old
AddsAnchor (Some a) n old new = (s : List ℕ) → number_named s new ≡ cond (bytes_eq a s) (Some n) (number_named s old)
