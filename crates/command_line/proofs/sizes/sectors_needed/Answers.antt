use Rattle.std.proofs.Common.{◌∙◌, Some, ap, sym}
use Rattle.command_line.proofs.Sized.{rounded_up, same_sectors}
use Rattle.command_line.proofs.sizes.sectors_needed.Goals as goal

pub returns-clause-held : goal.returns-clause-held
returns-clause-held c = λ sectors most spells.
    ap Some (c.div_ceil.ensures ∙ rounded_up c.in_ok-bytes.bytes ∙ sym (same_sectors c.args.text.now c.in_ok-bytes.bytes sectors c.in_ok-bytes.ensures.held most spells))
