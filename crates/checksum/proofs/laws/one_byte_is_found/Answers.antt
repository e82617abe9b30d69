use Rattle.checksum.proofs.Finds.{one_byte}
use Rattle.checksum.proofs.laws.one_byte_is_found.Goals as goal

pub returns : goal.returns
returns c = λ front back one other lo lt differ e. differ (one_byte front back one other lo lt e)
