use Rattle.std.proofs.Common.{◌∙◌, ◌%◌, ◌^◌, ap}
use Rattle.std.specs.Prelude.{bit_xor}
use Rattle.checksum.specs.Rows.{past_byte}
use Rattle.checksum.proofs.Bytes.{one_more}
use Rattle.checksum.proofs.crc.divide_few.Goals as goal

pub loop-byte-preserved : goal.loop-byte-preserved
loop-byte-preserved c =
    let xs = c.args.bytes.now in
    let i = c.loop-byte.byte-index in
    let left = c.loop-byte.left in
    one_more left i xs c.row.result (c.type_inv.bytes i).fits c.loop-byte-test.true (c.row.ensures ∙ ap (λ n. past_byte (n % 2 ^ 8)) c.from-in-loop-byte.ensures ∙ ap (λ n. past_byte (bit_xor left n % 2 ^ 8)) c.from.ensures) ∙ c.loop-byte.invariant
