use Rattle.path_parse.proofs.Rows.{query_view-Query}
use Rattle.path_parse.proofs.make.query.Goals as goal

pub returns : goal.returns
returns c = query_view-Query c.args.segments
