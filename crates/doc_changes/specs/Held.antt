-- The memory that changes take beyond their documents and what came with them, as bytes of text.
use Rattle.std.specs.Prelude.{ℕ, List, Option, None, Some, Result, Ok, Err}
use Rattle.doc_tree.specs.Doc.{Doc}
use Rattle.doc_edits.specs.Operation.{Operation}
use Rattle.doc_patch.specs.Held.{held}
use Rattle.doc_patch.specs.Reading.{operations_of}
use Rattle.doc_patch.specs.declared.fault.PatchFault.{PatchFault}
use Rattle.record_text.specs.Change.{Change, create, delete, patch, set_schema}
use Rattle.doc_changes.specs.State.{Document, find}
use Rattle.doc_changes.specs.declared.undo.Undo.{Undo}
use Rattle.doc_changes.specs.declared.undo.Undo.TheVariants.{Added, Patched, Ruled, Removed}

-- what the operations take in the document, if they were read
abbrev pub held_by : Result (List Operation) PatchFault → Doc → ℕ
held_by (Ok os) d = held os d
held_by (Err fault) d = 0

-- the same, if there is a document
abbrev pub held_at : Doc → Option Document → ℕ
held_at ops None = 0
held_at ops (Some d) = held_by (operations_of ops) d.doc

-- what a change takes
abbrev pub held_in : List Document → Change → ℕ
held_in ds (create name schema doc) = 0
held_in ds (patch name ops if_rev) = held_at ops (find name ds)
held_in ds (set_schema name schema) = 0
held_in ds (delete name) = 0

-- what the change took that this takes back
abbrev pub held_of : Undo → ℕ
held_of Added = 0
held_of (Patched name r rev) = r.held
held_of (Ruled name rules rev) = 0
held_of (Removed index name stored) = 0
