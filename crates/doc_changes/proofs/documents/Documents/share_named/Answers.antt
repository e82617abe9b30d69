use Rattle.doc_tree.specs.TreeView.{view}
use Rattle.doc_changes.specs.StateView.{named}
use Rattle.doc_changes.proofs.EqualSchemas.{accepted_named, shared_so}
use Rattle.doc_changes.proofs.documents.Documents.share_named.Goals as goal

pub returns-in-Some : goal.returns-in-Some
returns-in-Some c =
    let source = view c.args.source.now in
    let d = named c.args.name.now c.in-Some.stored.now in
    shared_so c.share_if_equal.result source d.schema
    (λ same. accepted_named c.first_faults_are_found.ensures.none c.args.self.now c.know.ensures d source same c.args.name.now c.in-Some.ensures) c.share_if_equal.ensures
