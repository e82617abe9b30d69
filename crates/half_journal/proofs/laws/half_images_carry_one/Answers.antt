use Rattle.half_journal.proofs.Unique.{carries_one}
use Rattle.half_journal.proofs.laws.half_images_carry_one.Goals as goal

pub returns : goal.returns
returns c = carries_one
