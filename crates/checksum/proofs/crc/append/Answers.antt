use Rattle.std.proofs.Common.{ℕ, ◌∙◌, ◌-◌, ◌^◌, ap, sym}
use Rattle.checksum.specs.Crc.{bits_of, divided, turned}
use Rattle.checksum.proofs.Bits.{bits_joined, divided_joined}
use Rattle.checksum.proofs.Steps.{twice}
use Rattle.checksum.proofs.crc.append.Goals as goal

pub returns : goal.returns
returns c = λ front is.
    let start : ℕ = 2 ^ 32 - 1 in
    let bytes = c.args.bytes.now in
    ap turned (c.divide.ensures ∙ ap (λ (n : ℕ). divided n (bits_of bytes)) (ap turned is ∙ twice (divided start (bits_of front)) start)
    ∙ sym (divided_joined (bits_of front) (bits_of bytes) start) ∙ ap (divided start) (sym (bits_joined front bytes)))
