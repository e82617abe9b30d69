-- The place that a lent step is.
use Rattle.std.specs.Prelude.{List, map, string_bytes}
use Rattle.doc_tree.specs.Doc.{Place, name, index}
use Rattle.path_grammar.specs.declared.lent_step.LentStep.{LentStep}
use Rattle.path_grammar.specs.declared.lent_step.LentStep.TheVariants.{Name, Index}

-- a name by its bytes, or an index
abbrev pub lent_place : LentStep → Place
lent_place (Name s) = name (string_bytes s.now)
lent_place (Index n) = index n

abbrev pub lent_places : List LentStep → List Place
lent_places steps = map lent_place steps
