use Rattle.std.proofs.Common.{sym, ◌∙◌}
use Rattle.std.proofs.lemmas.Slice.Eq.{bytes_eq-Decides}
use Rattle.doc_tree.proofs.Cursors.{next_named}
use Rattle.doc_tree.proofs.cursor.MemberCursor.is_at.Goals as goal

pub returns-in-Some : goal.returns-in-Some
returns-in-Some c =
    let next = next_named c.args.self.now.left.entries (c.in-Some.key.now, c.in-Some.field-0-1.now) c.in-Some.ensures.first c.args.name.now in
    let decides = bytes_eq-Decides c.as_str.result.now c.args.name.now in
    (λ h. next.0 (sym c.as_str.ensures.value ∙ decides.0 (sym c.eq.ensures ∙ h)), λ h. c.eq.ensures ∙ decides.1 (c.as_str.ensures.value ∙ next.1 h))
