use Rattle.std.proofs.Common.{sym, ◌∙◌, ap, ◌≡◌, option_map, option_copied}
use Rattle.doc_changes.specs.State.{State, find}
use Rattle.doc_changes.specs.StateView.{named}
use Rattle.doc_changes.proofs.Entries.{find-map, stored_at}
use Rattle.doc_changes.proofs.documents.Documents.stored.Goals as goal

pub returns : goal.returns
returns c =
    let there : find c.args.name.now c.args.self.now.documents ≡ option_map (named c.args.name.now) (option_copied c.get.result) =
    sym (ap (λ (s : State). find c.args.name.now s.documents) c.self.view_is) ∙ find-map c.args.name.now c.self.inside.documents.now.entries
    ∙ ap (option_map (named c.args.name.now)) (sym c.get.ensures.value) in
    stored_at c.args.name.now c.args.self.now.documents c.get.result there
