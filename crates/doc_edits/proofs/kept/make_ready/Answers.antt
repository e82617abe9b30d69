use Rattle.std.proofs.Common.{◌≡◌, ◌∙◌, IfOk, Ok, Some, sym, subst}
use Rattle.doc_tree.specs.Doc.{Doc}
use Rattle.doc_tree.specs.Sound.{IsSound}
use Rattle.doc_tree.specs.TreeView.{view}
use Rattle.doc_edits.specs.Back.{exchanged}
use Rattle.doc_edits.specs.Change.{tokens_of}
use Rattle.doc_edits.specs.Keeping.{Restores, step_with}
use Rattle.doc_edits.specs.Meaning.{meaning}
use Rattle.doc_edits.specs.Operation.{change, gone}
use Rattle.doc_edits.proofs.Restored.{add_ready, copy_ready, replace_ready, remove_ready, test_ready, readied}
use Rattle.doc_edits.proofs.kept.make_ready.Goals as goal

pub returns-in-Add : goal.returns-in-Add
returns-in-Add c =
    let d = view c.args.tree.now in
    subst (λ o. IfOk c.ready_to_add.result (λ ready. (e : Doc) → IsSound d → change (meaning o) d ≡ Ok e → Restores (step_with ready (gone (meaning o) d)) d e)) (sym c.in-Add.is)
    (readied c.ready_to_add.result _ _ c.ready_to_add.ensures (λ r back e sound. add_ready r c.in-Add.path (view c.in-Add.value) d e back))

pub returns-in-Copy : goal.returns-in-Copy
returns-in-Copy c =
    let d = view c.args.tree.now in
    subst (λ o. IfOk c.ready_to_add-in-Copy.result (λ ready. (e : Doc) → IsSound d → change (meaning o) d ≡ Ok e → Restores (step_with ready (gone (meaning o) d)) d e)) (sym c.in-Copy.is)
    (readied c.ready_to_add-in-Copy.result _ _ c.ready_to_add-in-Copy.ensures (λ r back e sound. copy_ready r c.in-Copy.from c.in-Copy.path d e back))

pub returns-in_ok-copy_path-in-Replace : goal.returns-in_ok-copy_path-in-Replace
returns-in_ok-copy_path-in-Replace c = λ e sound.
    let d = view c.args.tree.now in
    let same = c.in_ok-copy_path-in-Replace.ensures ∙ c.tokens.ensures in
    subst (λ o. change (meaning o) d ≡ Ok e → exchanged (tokens_of c.in_ok-copy_path-in-Replace.field-0.items) (gone (meaning o) d) e ≡ Some d) (sym c.in-Replace.is)
    (replace_ready (tokens_of c.in_ok-copy_path-in-Replace.field-0.items) c.in-Replace.path (view c.in-Replace.value) d e same)

pub returns-in-Remove : goal.returns-in-Remove
returns-in-Remove c =
    let d = view c.args.tree.now in
    subst (λ o. IfOk c.ready_to_remove.result (λ ready. (e : Doc) → IsSound d → change (meaning o) d ≡ Ok e → Restores (step_with ready (gone (meaning o) d)) d e)) (sym c.in-Remove.is)
    (readied c.ready_to_remove.result _ _ c.ready_to_remove.ensures (λ r back e. remove_ready r c.in-Remove.path d e back))

pub returns-in-Test : goal.returns-in-Test
returns-in-Test c = λ e sound.
    let d = view c.args.tree.now in
    subst (λ o. change (meaning o) d ≡ Ok e → e ≡ d) (sym c.in-Test.is) (test_ready c.in-Test.path (view c.in-Test.value) d e)
