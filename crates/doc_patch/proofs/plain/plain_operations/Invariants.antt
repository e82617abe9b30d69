use Rattle.std.proofs.Common.{List, ◌++◌, false}
use Rattle.doc_patch.specs.Meaning.{meanings}
use Rattle.doc_edits.specs.Operation.{Operation}
use Rattle.doc_patch.specs.Plain.{IsTextOfOperations}
use Rattle.doc_patch.proofs.plain.plain_operations.Given as goal

-- whatever operations are spelled by the rest here, those before them and they are spelled by the whole
abbrev pub invariant-loop : goal.invariant-loop
invariant-loop l =
    (os : List Operation) → IsTextOfOperations l.later l.rest os → IsTextOfOperations false l.initial.rest (meanings l.operations.items ++ os)
