use Rattle.path_parse.proofs.Answered.{read_is_spelled}
use Rattle.path_parse.proofs.laws.reads_what_is_spelled.Goals as goal

pub returns : goal.returns
returns c query spelled in_profile = read_is_spelled c.args.text.now query c.requires spelled in_profile c.read.result c.read.ensures.ok c.read.ensures.err
