use Rattle.path_parse.proofs.Rows.{expression_view-Or}
use Rattle.path_parse.proofs.make.or.Goals as goal

pub returns : goal.returns
returns c = expression_view-Or c.args.parts
