use Rattle.std.proofs.Common.{◌∙◌, ◌+◌, ap}
use Rattle.std.specs.Prelude.{bit_and}
use lib.Bits.{mask_lt}
use Rattle.std.proofs.lemmas.Nat.{and_mask}
use Rattle.checksum.specs.Rows.{past_bytes}
use Rattle.checksum.proofs.Table.{row_at}
use Rattle.checksum.proofs.crc.row.Goals as goal

pub returns : goal.returns
returns c = row_at _ c.args.more (bit_and c.args.number 255) c.requires (mask_lt c.args.number 8) ∙ ap (past_bytes (c.args.more + 1)) (and_mask c.args.number 8)
