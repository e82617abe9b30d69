use Rattle.std.proofs.Common.{◌≡◌, ℕ, List, None, ap, subst, sym, ◌∙◌}
use Rattle.record_text.specs.Change.{change_of, object_of, patch}
use Rattle.record_text.specs.Fault.{IsTextOf}
use Rattle.doc_machine.specs.Spelled.{change_in}
use Rattle.doc_machine.proofs.SpelledTexts.{one_document}
use Rattle.doc_machine.proofs.spelled.SpelledPatch.command.Goals as goal

pub returns-in-Ok : goal.returns-in-Ok
returns-in-Ok c =
    let spells = c.self.invariant.spells in
    let here = change_of c.in-Ok.command in
    let there = patch spells.name spells.ops None in
    let text : IsTextOf c.self.inside.text.items (object_of here) = subst (λ (bytes : List ℕ). IsTextOf bytes (object_of here)) c.deref.ensures.value c.in-Ok.ensures in
    c.objects_differ.ensures here there (one_document c.self.inside.text.items (object_of here) (object_of there) text spells.text)
    ∙ sym spells.is ∙ ap change_in c.self.view_is
