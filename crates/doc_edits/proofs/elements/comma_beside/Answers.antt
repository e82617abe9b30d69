use Rattle.std.proofs.Common.{sym, ◌∙◌}
use Rattle.doc_edits.proofs.Grown.{comma_of_some}
use Rattle.doc_edits.proofs.elements.comma_beside.Goals as goal

pub returns-else-is_empty : goal.returns-else-is_empty
returns-else-is_empty c = comma_of_some c.args.items.now.items _ c.args.items.now.ok.0 (sym c.is_empty.ensures ∙ c.if-is_empty.false)
