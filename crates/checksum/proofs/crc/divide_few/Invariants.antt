use Rattle.std.proofs.Common.{◌≡◌, drop}
use Rattle.checksum.specs.Crc.{bits_of, divided}
use Rattle.checksum.proofs.crc.divide_few.Given as goal

abbrev pub invariant-loop-byte : goal.invariant-loop-byte
invariant-loop-byte l = divided l.left (bits_of (drop l.byte-index l.bytes)) ≡ divided l.initial.left (bits_of l.bytes)
