-- The place that a `Step` is.
use Rattle.std.specs.Prelude.{string_bytes}
use Rattle.doc_tree.specs.Doc.{Place, name, index}
use Rattle.doc_tree.specs.declared.tree.Step.{Step}
use Rattle.doc_tree.specs.declared.tree.Step.TheVariants.{Name, Index}

-- a name by its bytes, or an index
abbrev pub place_of : Step → Place
place_of (Name s) = name (string_bytes s)
place_of (Index n) = index n
