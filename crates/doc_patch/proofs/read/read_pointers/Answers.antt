use Rattle.std.proofs.Common.{◌≡◌, refl, inr, sym, ap, ◌∙◌, subst, option_map, Ok, MatchResult}
use Rattle.doc_tree.specs.TreeView.{view}
use Rattle.doc_pointer.specs.Reading.{pointer_of}
use Rattle.doc_edits.specs.Meaning.{meaning}
use Rattle.doc_patch.specs.Meaning.{spelled}
use Rattle.doc_edits.specs.OperationFault.{IsOperationFaultOf}
use Rattle.doc_edits.specs.Operation as pure
use Rattle.doc_patch.specs.Reading.{checked, meant}
use Rattle.doc_patch.proofs.Unread.{refused_spelling, unread, unread_path, unread_from, read_both, read_value}
use Rattle.doc_patch.proofs.read.read_pointers.Goals as goal

pub returns-in_err-read_pointer-in-Add : goal.returns-in_err-read_pointer-in-Add
returns-in_err-read_pointer-in-Add c =
    refused_spelling c.args.spelling.now _ c.from_residual.result c.in_err-read_pointer-in-Add.field-0.0 _ c.in-Add.is (unread (λ p. pure.add p (view c.in-Add.value.now)) (pointer_of c.in-Add.path.now) _ c.in_err-read_pointer-in-Add.ensures) c.from_residual.ensures.1

pub returns-in_err-copy-in-Add : goal.returns-in_err-copy-in-Add
returns-in_err-copy-in-Add c =
    refused_spelling c.args.spelling.now _ c.from_residual-in_err-copy-in-Add.result _ _ c.in-Add.is (inr refl) c.from_residual-in_err-copy-in-Add.ensures.1

pub returns-in_ok-copy-in-Add : goal.returns-in_ok-copy-in-Add
returns-in_ok-copy-in-Add c =
    ap (λ s. meant (spelled s)) c.in-Add.is ∙ read_value pure.add (pointer_of c.in-Add.path.now) c.in_ok-read_pointer-in-Add.field-0 (view c.in-Add.value.now) (view c.in_ok-copy-in-Add.field-0) c.in_ok-read_pointer-in-Add.ensures c.in_ok-copy-in-Add.ensures.same

pub returns-in_err-read_pointer-in-Replace : goal.returns-in_err-read_pointer-in-Replace
returns-in_err-read_pointer-in-Replace c =
    refused_spelling c.args.spelling.now _ c.from_residual-in_err-read_pointer-in-Replace.result c.in_err-read_pointer-in-Replace.field-0.0 _ c.in-Replace.is (unread (λ p. pure.replace p (view c.in-Replace.value.now)) (pointer_of c.in-Replace.path.now) _ c.in_err-read_pointer-in-Replace.ensures) c.from_residual-in_err-read_pointer-in-Replace.ensures.1

pub returns-in_err-copy-in-Replace : goal.returns-in_err-copy-in-Replace
returns-in_err-copy-in-Replace c =
    refused_spelling c.args.spelling.now _ c.from_residual-in_err-copy-in-Replace.result _ _ c.in-Replace.is (inr refl) c.from_residual-in_err-copy-in-Replace.ensures.1

pub returns-in_ok-copy-in-Replace : goal.returns-in_ok-copy-in-Replace
returns-in_ok-copy-in-Replace c =
    ap (λ s. meant (spelled s)) c.in-Replace.is ∙ read_value pure.replace (pointer_of c.in-Replace.path.now) c.in_ok-read_pointer-in-Replace.field-0 (view c.in-Replace.value.now) (view c.in_ok-copy-in-Replace.field-0) c.in_ok-read_pointer-in-Replace.ensures c.in_ok-copy-in-Replace.ensures.same

pub returns-in_err-read_pointer-in-Test : goal.returns-in_err-read_pointer-in-Test
returns-in_err-read_pointer-in-Test c =
    refused_spelling c.args.spelling.now _ c.from_residual-in_err-read_pointer-in-Test.result c.in_err-read_pointer-in-Test.field-0.0 _ c.in-Test.is (unread (λ p. pure.test p (view c.in-Test.value.now)) (pointer_of c.in-Test.path.now) _ c.in_err-read_pointer-in-Test.ensures) c.from_residual-in_err-read_pointer-in-Test.ensures.1

pub returns-in_err-copy-in-Test : goal.returns-in_err-copy-in-Test
returns-in_err-copy-in-Test c =
    refused_spelling c.args.spelling.now _ c.from_residual-in_err-copy-in-Test.result _ _ c.in-Test.is (inr refl) c.from_residual-in_err-copy-in-Test.ensures.1

pub returns-in_ok-copy-in-Test : goal.returns-in_ok-copy-in-Test
returns-in_ok-copy-in-Test c =
    ap (λ s. meant (spelled s)) c.in-Test.is ∙ read_value pure.test (pointer_of c.in-Test.path.now) c.in_ok-read_pointer-in-Test.field-0 (view c.in-Test.value.now) (view c.in_ok-copy-in-Test.field-0) c.in_ok-read_pointer-in-Test.ensures c.in_ok-copy-in-Test.ensures.same

pub returns-in_err-read_pointer-in-Remove : goal.returns-in_err-read_pointer-in-Remove
returns-in_err-read_pointer-in-Remove c =
    refused_spelling c.args.spelling.now _ c.from_residual-in_err-read_pointer-in-Remove.result c.in_err-read_pointer-in-Remove.field-0.0 _ c.in-Remove.is (unread pure.remove (pointer_of c.in-Remove.path.now) _ c.in_err-read_pointer-in-Remove.ensures) c.from_residual-in_err-read_pointer-in-Remove.ensures.1

pub returns-in_ok-read_pointer-in-Remove : goal.returns-in_ok-read_pointer-in-Remove
returns-in_ok-read_pointer-in-Remove c =
    ap (λ s. meant (spelled s)) c.in-Remove.is ∙ ap (λ o. checked (option_map pure.remove o)) c.in_ok-read_pointer-in-Remove.ensures

pub returns-in_err-path-in-Move : goal.returns-in_err-path-in-Move
returns-in_err-path-in-Move c =
    refused_spelling c.args.spelling.now _ c.from_residual-in_err-path-in-Move.result c.in_err-path-in-Move.field-0.0 _ c.in-Move.is (unread_path pure.move (pointer_of c.in-Move.from.now) (pointer_of c.in-Move.path.now) _ c.in_err-path-in-Move.ensures) c.from_residual-in_err-path-in-Move.ensures.1

pub returns-in_err-read_pointer-in-Move : goal.returns-in_err-read_pointer-in-Move
returns-in_err-read_pointer-in-Move c =
    refused_spelling c.args.spelling.now _ c.from_residual-in_err-read_pointer-in-Move.result c.in_err-read_pointer-in-Move.field-0.0 _ c.in-Move.is (unread_from pure.move (pointer_of c.in-Move.from.now) (pointer_of c.in-Move.path.now) c.in_ok-path-in-Move.path _ c.in_ok-path-in-Move.ensures c.in_err-read_pointer-in-Move.ensures) c.from_residual-in_err-read_pointer-in-Move.ensures.1

pub returns-in_ok-read_pointer-in-Move : goal.returns-in_ok-read_pointer-in-Move
returns-in_ok-read_pointer-in-Move c =
    subst (λ read. MatchResult c.move_from.result (λ o. read ≡ Ok (meaning o)) (IsOperationFaultOf read)) (sym (ap (λ s. meant (spelled s)) c.in-Move.is ∙ read_both pure.move (pointer_of c.in-Move.from.now) (pointer_of c.in-Move.path.now) c.in_ok-read_pointer-in-Move.field-0 c.in_ok-path-in-Move.path c.in_ok-path-in-Move.ensures c.in_ok-read_pointer-in-Move.ensures)) c.move_from.ensures

pub returns-in_err-path-in-Copy : goal.returns-in_err-path-in-Copy
returns-in_err-path-in-Copy c =
    refused_spelling c.args.spelling.now _ c.from_residual-in_err-path-in-Copy.result c.in_err-path-in-Copy.field-0.0 _ c.in-Copy.is (unread_path pure.copy (pointer_of c.in-Copy.from.now) (pointer_of c.in-Copy.path.now) _ c.in_err-path-in-Copy.ensures) c.from_residual-in_err-path-in-Copy.ensures.1

pub returns-in_err-read_pointer-in-Copy : goal.returns-in_err-read_pointer-in-Copy
returns-in_err-read_pointer-in-Copy c =
    refused_spelling c.args.spelling.now _ c.from_residual-in_err-read_pointer-in-Copy.result c.in_err-read_pointer-in-Copy.field-0.0 _ c.in-Copy.is (unread_from pure.copy (pointer_of c.in-Copy.from.now) (pointer_of c.in-Copy.path.now) c.in_ok-path-in-Copy.path _ c.in_ok-path-in-Copy.ensures c.in_err-read_pointer-in-Copy.ensures) c.from_residual-in_err-read_pointer-in-Copy.ensures.1

pub returns-in_ok-read_pointer-in-Copy : goal.returns-in_ok-read_pointer-in-Copy
returns-in_ok-read_pointer-in-Copy c =
    ap (λ s. meant (spelled s)) c.in-Copy.is ∙ read_both pure.copy (pointer_of c.in-Copy.from.now) (pointer_of c.in-Copy.path.now) c.in_ok-read_pointer-in-Copy.field-0 c.in_ok-path-in-Copy.path c.in_ok-path-in-Copy.ensures c.in_ok-read_pointer-in-Copy.ensures
