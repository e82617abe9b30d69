use Rattle.std.proofs.Common.{Option, IfNone, true, subst}
use Rattle.doc_tree.specs.TreeView.{view}
use Rattle.doc_patch.specs.Meaning.{operations}
use Rattle.doc_patch.specs.Within.{Unchanging}
use Rattle.doc_schema.specs.Judge.{Judges}
use Rattle.patched_places.specs.declared.places.Changed.{Changed}
use Rattle.judged_patches.proofs.judging.accepts_patched.Goals as goal

-- no operation changes anything
pub returns-in-Ok-None-clause-judged : goal.returns-in-Ok-None-clause-judged
returns-in-Ok-None-clause-judged c = λ before valid patched.
    let unchanging : Unchanging (operations c.args.changes.now) =
    subst (λ (o : Option Changed). IfNone o (Unchanging (operations c.args.changes.now))) c.in-Ok-None.field-0-is c.in-Ok-None.ensures.none in
    subst (λ d. Judges (view c.args.schema.now) d true) (unchanging before (view c.args.made.now) patched) valid
