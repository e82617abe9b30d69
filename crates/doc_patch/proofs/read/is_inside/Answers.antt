use Rattle.std.proofs.Common.{sym, ◌∙◌}
use Rattle.doc_patch.proofs.Operations.{inside, not_inside}
use Rattle.doc_patch.proofs.read.is_inside.Goals as goal

pub returns-then-starts_with : goal.returns-then-starts_with
returns-then-starts_with c = inside c.args.from.now c.args.path.now (sym c.starts_with.ensures.value ∙ c.if-starts_with.true)

pub returns-else-starts_with : goal.returns-else-starts_with
returns-else-starts_with c = c.if-starts_with.false ∙ not_inside c.args.from.now c.args.path.now (sym c.starts_with.ensures.value ∙ c.if-starts_with.false)
