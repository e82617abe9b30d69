use Rattle.std.proofs.Common.{sym, ap, ◌∙◌}
use Rattle.doc_tree.specs.Read.{read_of}
use Rattle.doc_tree.specs.TreeView.{view}
use Rattle.doc_tree.proofs.RoundTrip.{read_of-text_of}
use Rattle.protocol.proofs.request.document_in.Goals as goal

pub returns-in-Some-clause-ok : goal.returns-in-Some-clause-ok
returns-in-Some-clause-ok c =
    let t = c.in-Some.ensures in
    ap read_of (sym t.text) ∙ read_of-text_of (view c.in-Some.tree) t.sound t.low
