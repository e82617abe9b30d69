use Rattle.store_commits.proofs.Notes.{framed_mark}
use Rattle.store_commits.proofs.laws.marks_are_framed.Goals as goal

pub returns : goal.returns
returns c = framed_mark
