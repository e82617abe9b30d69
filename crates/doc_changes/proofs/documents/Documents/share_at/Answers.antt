use Rattle.doc_tree.specs.TreeView.{view}
use Rattle.doc_changes.specs.StateView.{named}
use Rattle.doc_changes.proofs.EqualSchemas.{accepted_at, shared_so}
use Rattle.doc_changes.proofs.documents.Documents.share_at.Goals as goal

pub returns : goal.returns
returns c =
    let source = view c.args.source.now in
    let d = named c.stored_at-kept.result.0.now c.stored_at-kept.result.1.now in
    shared_so c.share_if_equal.result source d.schema
    (λ same. accepted_at c.first_faults_are_found.ensures.none c.args.self.now c.know.ensures d source same c.args.place c.stored_at-kept.ensures) c.share_if_equal.ensures
