use Rattle.std.proofs.Common.{sym, ap, ◌∙◌}
use Rattle.schema_graph.proofs.Numbers.{row_is}
use Rattle.schema_graph.proofs.walk.row.Goals as goal

pub returns : goal.returns
returns c = c.as_slice.ensures.value ∙ (ap (λ r. r.items) c.index-graph-place.is ∙ sym (row_is c.args.graph.now c.args.place c.index-graph-place.result c.requires))
