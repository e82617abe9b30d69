use Rattle.path_parse.proofs.Rows.{expression_view-And}
use Rattle.path_parse.proofs.make.and.Goals as goal

pub returns : goal.returns
returns c = expression_view-And c.args.parts
