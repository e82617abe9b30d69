use Rattle.std.proofs.Common.{sym, ◌∙◌, ap, is_some}
use Rattle.doc_changes.specs.State.{State, find}
use Rattle.doc_changes.proofs.Entries.{is_some-find-map}
use Rattle.doc_changes.proofs.documents.Documents.has.Goals as goal

pub returns : goal.returns
returns c =
    c.contains_key.ensures ∙ sym (is_some-find-map c.args.name.now c.self.inside.documents.now.entries)
    ∙ ap (λ (s : State). is_some (find c.args.name.now s.documents)) c.self.view_is
