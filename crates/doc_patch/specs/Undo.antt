-- The steps that take operations back, one after another.
use Rattle.std.specs.Prelude.{List, [], ◌∷◌, map, Option, Some, option_and_then}
use Rattle.doc_tree.specs.Doc.{Doc}
use Rattle.doc_edits.specs.Back.{Step, step_back, step_of}
use Rattle.doc_patch.specs.declared.undo.Undo.{Undo}

-- the document before all of these, which are taken back from the last to the first
abbrev pub steps_back : List Step → Doc → Option Doc
steps_back [] d = Some d
steps_back (s ∷ ss) d = option_and_then (step_back s) (steps_back ss d)

-- the document that it takes the given one back to
abbrev pub taken_back : Undo → Doc → Option Doc
taken_back u d = steps_back (map step_of u.steps.items) d
