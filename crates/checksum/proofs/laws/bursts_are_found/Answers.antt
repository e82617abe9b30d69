use Rattle.checksum.proofs.Finds.{burst}
use Rattle.checksum.proofs.laws.bursts_are_found.Goals as goal

pub returns : goal.returns
returns c = λ front one other back same le differ e. differ (burst front one other back same le e)
