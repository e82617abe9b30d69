-- The operations that a `Patch` holds, and those that the spellings which are read represent.
use Rattle.std.specs.Prelude.{List, map}
use Rattle.doc_tree.specs.TreeView.{view}
use Rattle.doc_edits.specs.Meaning.{meaning}
use Rattle.doc_edits.specs.Operation as pure
use Rattle.doc_edits.specs.declared.operation.Operation.{Operation}
use Rattle.doc_patch.specs.Reading as reading
use Rattle.doc_patch.specs.declared.spelling.Spelling.{Spelling}
use Rattle.doc_patch.specs.declared.spelling.Spelling.TheVariants as spelling
use Rattle.doc_patch.specs.declared.patch.Patch.{Patch}

-- the spelling that the code's value holds
abbrev pub spelled : Spelling → reading.Spelling
spelled (spelling.Add path value) = reading.with_value pure.add path.now (view value.now)
spelled (spelling.Remove path) = reading.with_path pure.remove path.now
spelled (spelling.Replace path value) = reading.with_value pure.replace path.now (view value.now)
spelled (spelling.Move from path) = reading.with_from pure.move from.now path.now
spelled (spelling.Copy from path) = reading.with_from pure.copy from.now path.now
spelled (spelling.Test path value) = reading.with_value pure.test path.now (view value.now)

-- the operations that these values hold
abbrev pub meanings : List Operation → List pure.Operation
meanings os = map meaning os

-- the operations of a patch, in order
abbrev pub operations : Patch → List pure.Operation
operations p = meanings p.operations.items
