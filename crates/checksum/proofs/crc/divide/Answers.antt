use Rattle.std.proofs.Common.{List, ℕ, ◌∙◌, ap, take}
use Rattle.checksum.specs.Crc.{bits_of, divided}
use Rattle.checksum.proofs.Bytes.{next_ones}
use Rattle.checksum.proofs.crc.divide.Goals as goal

pub eights-preserved : goal.eights-preserved
eights-preserved c =
    let left = c.eights.left in
    let rest = c.eights.rest.now in
    let cut = c.in-Some.ensures.cases in
    ap (λ (n : ℕ). divided n (bits_of c.in-Some.more.now)) (c.divide_eight-left.ensures ∙ ap (λ (l : List ℕ). divided left (bits_of l)) cut.0)
    ∙ ap (λ (l : List ℕ). divided (divided left (bits_of (take 8 rest))) (bits_of l)) cut.1 ∙ next_ones left 8 rest ∙ c.eights.invariant
