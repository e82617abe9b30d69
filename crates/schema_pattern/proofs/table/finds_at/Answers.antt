use Rattle.std.proofs.Common.{ap}
use Rattle.std.proofs.Math.Seq.{map-set_same}
use Rattle.schema_pattern.specs.declared.pattern.Search.{Search}
use Rattle.schema_pattern.proofs.table.finds_at.Goals as goal

-- src/table.rt:14:1
pub returns-clause-same : goal.returns-clause-same
returns-clause-same c = map-set_same (λ (s : Search). s.source.now) c.args.searches.now c.args.number _ c.index-searches-number.result
    (ap (λ s. s.now) c.finds.ensures.same)
