use Rattle.record_text.proofs.Parts.{framed}
use Rattle.record_text.proofs.laws.changes_of_small_parts_are_framed.Goals as goal

pub returns : goal.returns
returns c = framed
