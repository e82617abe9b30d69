use Rattle.std.proofs.Common.{[], refl}
use Rattle.checksum.proofs.crc.crc32c.Goals as goal

pub returns : goal.returns
returns c = c.append.ensures [] refl
