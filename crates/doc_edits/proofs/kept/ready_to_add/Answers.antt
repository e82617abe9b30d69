use Rattle.std.proofs.Common.{subst}
use Rattle.doc_tree.specs.TreeView.{view}
use Rattle.doc_edits.specs.Change.{tokens_of}
use Rattle.doc_edits.specs.Keeping.{LeadsBack}
use Rattle.doc_edits.proofs.kept.ready_to_add.Goals as goal

pub returns : goal.returns
returns c = λ v e made.
    let leads = subst (λ ks. LeadsBack (tokens_of c.in_ok-path_of_addition.field-0.items) ks (view c.args.tree.now)) c.tokens.ensures c.in_ok-path_of_addition.ensures in
    (leads v e made).1
