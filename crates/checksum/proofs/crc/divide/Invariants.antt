use Rattle.std.proofs.Common.{◌≡◌, length}
use Rattle.checksum.specs.Crc.{bits_of, divided}
use Rattle.checksum.proofs.crc.divide.Given as goal

abbrev pub invariant-eights : goal.invariant-eights
invariant-eights l = divided l.left (bits_of l.rest) ≡ divided l.initial.left (bits_of l.initial.rest)

abbrev pub decreases-eights : goal.decreases-eights
decreases-eights l = length l.rest
