use Rattle.std.proofs.Common.{◌≡◌, ◌*◌, ◌/◌, ℕ, length, take, drop, refl, ap, ◌∙◌, arith}
use Rattle.std.proofs.lemmas.List.{take_rest}
use Rattle.checksum.specs.Crc.{crc_of}
use Rattle.slot_commits.specs.Formats.{formatted}
use Rattle.slot_commits.specs.States.{slot_of}
use Rattle.slot_commits.proofs.formatting.format_slots.Goals as goal

pub returns-clause-formatted : goal.returns-clause-formatted
returns-clause-formatted g c = λ torn told honest unmarked.
    let old = g.D.SectorDevice.disk c.args.device.now in
    let bytes = c.args.bytes.now in
    let turned : length bytes / 4096 * 4096 ≡ 4096 * (length bytes / 4096) = omega arith in
    let check = c.crc32c.ensures ∙ ap (λ (n : ℕ). crc_of (take n bytes)) turned in
    let named : record { number = 0; length = length bytes; seq = c.args.seq; opens = c.args.opens; sectors = c.sectors.result; half = 0; blocks = length bytes / 4096; check = c.crc32c.result; identity = c.args.identity } ≡ slot_of (formatted bytes c.args.seq c.args.opens c.args.identity) old.sectors 0
    = (λ i. record { number = 0; length = length bytes; seq = c.args.seq; opens = c.args.opens; sectors = c.sectors.ensures i; half = 0; blocks = length bytes / 4096; check = check i; identity = c.args.identity }) in
    c.fill.ensures.formatted torn (formatted bytes c.args.seq c.args.opens c.args.identity) told honest unmarked named (take_rest bytes (length bytes / 4096 * 4096) ∙ ap (λ (n : ℕ). drop n bytes) turned) refl
