use Rattle.std.proofs.Common.{IfSome, codes, refl, sym, subst}
use Rattle.json.specs.Print.{escape_byte}
use Rattle.json.proofs.Printed.Utf8.{IsUtf8-are_ascii}
use Rattle.doc_tree.specs.TreeView.{view}
use Rattle.doc_edits.specs.Meaning.{meaning}
use Rattle.doc_edits.specs.Operation.{add, remove, replace, test}
use Rattle.doc_patch.specs.Plain.{BeginsWithOperation}
use Rattle.doc_patch.proofs.PlainTexts.{an_operation_with_both, an_operation_with_one}
use Rattle.doc_patch.proofs.plain.plain_operation.Goals as goal

pub returns-in_ok-path : goal.returns-in_ok-path
unfolding escape_byte
returns-in_ok-path c =
    an_operation_with_both (codes "replace") replace c.args.bytes.now c.in-Some.rest.now c.in_ok-path.path (view c.in_ok-path.value) c.in_ok-path.rest.now
    c.in-Some.ensures c.in_ok-path.ensures (IsUtf8-are_ascii _ refl) (λ path. refl) refl

pub returns-in_ok-path-2 : goal.returns-in_ok-path-2
unfolding escape_byte
returns-in_ok-path-2 c =
    an_operation_with_both (codes "add") add c.args.bytes.now c.in-Some-strip_bytes.rest.now c.in_ok-path-2.path (view c.in_ok-path-2.value) c.in_ok-path-2.rest.now
    c.in-Some-strip_bytes.ensures c.in_ok-path-2.ensures (IsUtf8-are_ascii _ refl) (λ path. refl) refl

pub returns-in_ok-path-3 : goal.returns-in_ok-path-3
unfolding escape_byte
returns-in_ok-path-3 c =
    an_operation_with_both (codes "test") test c.args.bytes.now c.in-Some-strip_bytes-2.rest.now c.in_ok-path-3.path (view c.in_ok-path-3.value) c.in_ok-path-3.rest.now
    c.in-Some-strip_bytes-2.ensures c.in_ok-path-3.ensures (IsUtf8-are_ascii _ refl) (λ path. refl) refl

pub returns-in_ok-path-4 : goal.returns-in_ok-path-4
unfolding escape_byte
returns-in_ok-path-4 c =
    an_operation_with_one (codes "remove") remove c.args.bytes.now c.in-Some-strip_bytes-3.rest.now c.in_ok-path-4.path c.in_ok-path-4.rest.now
    c.in-Some-strip_bytes-3.ensures c.in_ok-path-4.ensures (IsUtf8-are_ascii _ refl) (λ path. refl) refl

pub returns-in_ok-strip_bytes : goal.returns-in_ok-strip_bytes
unfolding escape_byte
returns-in_ok-strip_bytes c =
    subst (λ x. IfSome c.operation_with_from.result (λ r. BeginsWithOperation x (meaning r.0) r.1.now)) (sym c.in_ok-strip_bytes.ensures) c.operation_with_from.ensures
