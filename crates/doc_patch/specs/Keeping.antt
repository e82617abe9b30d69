-- The part of a document that is kept before an operation changes it.
use Rattle.std.specs.Prelude.{◌≡◌, List, map, true}
use Rattle.doc_tree.specs.Doc.{Doc}
use Rattle.doc_edits.specs.Back.{Step, step_of}
use Rattle.doc_patch.specs.Undo.{steps_back}
use Rattle.doc_patch.specs.declared.log.Log.{Log}

-- the steps that are kept
abbrev pub kept : Log → List Step
kept log = map step_of log.steps.items

-- if the whole document is kept, these steps answer it whatever was made of it
abbrev pub IsWhole : Log → Type 0
IsWhole log = log.is_whole ≡ true → (d e : Doc) → steps_back (kept log) d ≡ steps_back (kept log) e
