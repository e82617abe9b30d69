-- The document that a patch makes, as the patch is spelled.
use Rattle.std.specs.Prelude.{List, Option, None, Result, Ok, Err}
use Rattle.doc_tree.specs.Doc.{Doc}
use Rattle.doc_edits.specs.Operation.{Operation}
use Rattle.doc_patch.specs.Patch.{patch}
use Rattle.doc_patch.specs.Reading.{operations_of}
use Rattle.doc_patch.specs.declared.fault.PatchFault.{PatchFault}
use Rattle.doc_changes.specs.Refusals.{of_patch}
use Rattle.doc_changes.specs.declared.refusal.Refusal.{Refusal}

-- with the fault of a patch as a refusal
abbrev pub or_refused : Result Doc PatchFault → Result Doc Refusal
or_refused (Ok d) = Ok d
or_refused (Err fault) = Err (of_patch fault)

-- what the operations make of the document, if they were read
abbrev pub made_by : Result (List Operation) PatchFault → Doc → Result Doc Refusal
made_by (Ok os) d = or_refused (patch os d)
made_by (Err fault) d = Err (of_patch fault)

-- what the patch makes of the document, or why it is refused: read first, and then applied
abbrev pub patched : Doc → Doc → Result Doc Refusal
patched ops d = made_by (operations_of ops) d

-- what was made; if nothing was, the old document
abbrev pub made_or : Doc → Result Doc Refusal → Doc
made_or d (Ok made) = made
made_or d (Err r) = d

-- why what was made is refused, if anything was
abbrev pub on_made : (Doc → Option Refusal) → Result Doc Refusal → Option Refusal
on_made f (Ok made) = f made
on_made f (Err r) = None
