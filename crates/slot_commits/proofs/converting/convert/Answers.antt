use Rattle.std.proofs.Common.{◌≡◌, ◌*◌, ◌/◌, ℕ, length, take, drop, refl, ap, ◌∙◌, arith}
use Rattle.std.proofs.lemmas.List.{take_rest}
use Rattle.checksum.specs.Crc.{crc_of}
use Rattle.slot_commits.specs.Formats.{formatted}
use Rattle.slot_commits.specs.States.{slot_of}
use Rattle.slot_commits.proofs.converting.convert.Goals as goal

pub returns-clause-converted : goal.returns-clause-converted
returns-clause-converted g c = λ torn can.
    let old = g.D.SectorDevice.disk c.args.device.now in
    let bytes = c.args.bytes.now in
    let turned : length bytes / 4096 * 4096 ≡ 4096 * (length bytes / 4096) = omega arith in
    let check = c.crc32c.ensures ∙ ap (λ (n : ℕ). crc_of (take n bytes)) turned in
    let named : record { number = c.args.number; length = length bytes; seq = c.args.seq; opens = c.args.opens; sectors = c.sectors.result; half = 0; blocks = length bytes / 4096; check = c.crc32c.result; identity = c.args.identity } ≡ slot_of (formatted bytes c.args.seq c.args.opens c.args.identity) old.sectors c.args.number
    = (λ i. record { number = c.args.number; length = length bytes; seq = c.args.seq; opens = c.args.opens; sectors = c.sectors.ensures i; half = 0; blocks = length bytes / 4096; check = check i; identity = c.args.identity }) in
    c.write_pairs.ensures.converted torn (formatted bytes c.args.seq c.args.opens c.args.identity) can named (take_rest bytes (length bytes / 4096 * 4096) ∙ ap (λ (n : ℕ). drop n bytes) turned) refl
