use Rattle.std.proofs.Common.{codes, refl}
use Rattle.json.specs.Print.{escape_byte}
use Rattle.json.proofs.Printed.Utf8.{IsUtf8-are_ascii}
use Rattle.doc_edits.specs.Meaning.{meaning}
use Rattle.doc_edits.specs.Operation.{move, copy}
use Rattle.doc_patch.proofs.PlainTexts.{an_operation_with_source}
use Rattle.doc_patch.proofs.plain.operation_with_from.Goals as goal

pub returns-in-Some : goal.returns-in-Some
unfolding escape_byte
returns-in-Some c =
    an_operation_with_source (codes "copy") copy c.args.bytes.now c.in_ok-from.rest.now c.in-Some.rest.now c.in_ok-from.from c.in_ok-path.path (copy c.in_ok-from.from c.in_ok-path.path) c.in_ok-path.rest.now
    c.in_ok-from.ensures c.in-Some.ensures c.in_ok-path.ensures (IsUtf8-are_ascii _ refl) (λ p q. refl) refl

pub returns-in-Ok : goal.returns-in-Ok
unfolding escape_byte
returns-in-Ok c =
    an_operation_with_source (codes "move") move c.args.bytes.now c.in_ok-from.rest.now c.in_ok-strip_bytes.field-0.now c.in_ok-from.from c.in_ok-path-2.path (meaning c.in-Ok.operation) c.in_ok-path-2.rest.now
    c.in_ok-from.ensures c.in_ok-strip_bytes.ensures c.in_ok-path-2.ensures (IsUtf8-are_ascii _ refl) (λ p q. refl) c.in-Ok.ensures
