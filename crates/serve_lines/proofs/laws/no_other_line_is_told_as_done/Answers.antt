use Rattle.serve_lines.proofs.Answering.{not_done}
use Rattle.serve_lines.proofs.laws.no_other_line_is_told_as_done.Goals as goal

pub returns : goal.returns
returns c = not_done
