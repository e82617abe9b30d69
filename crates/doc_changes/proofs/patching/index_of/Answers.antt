use Rattle.std.proofs.Common.{◌≡◌, sym, ◌∙◌, ap, subst, map, is_some, false}
use Rattle.record_text.specs.Change as commands
use Rattle.doc_changes.specs.Judged.{RefusesIn}
use Rattle.doc_changes.specs.State.{find}
use Rattle.doc_changes.specs.StateView.{document_of}
use Rattle.doc_changes.proofs.Entries.{is_some-find-map, none_found}
use Rattle.doc_changes.proofs.PatchedAt.{absent_there}
use Rattle.doc_changes.proofs.patching.index_of.Goals as goal

pub returns-in-None-clause-refused : goal.returns-in-None-clause-refused
returns-in-None-clause-refused c = λ p ops if_rev.
    let n = c.args.name.now in
    let es = c.args.documents.now.entries in
    let ds = map document_of es in
    let none : is_some (find n ds) ≡ false = is_some-find-map n es ∙ sym c.get_index_of.ensures.found ∙ ap is_some c.in-None.is in
    subst (RefusesIn p ds (commands.patch n ops if_rev)) (sym c.plain.ensures)
    (absent_there p n ds ops if_rev (sym c.in_ok-check_name.ensures) (none_found (find n ds) none))
