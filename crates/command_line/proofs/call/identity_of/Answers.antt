use Rattle.std.proofs.Common.{◌≡◌, ◌∙◌, Ok, Err, Some, sym, ap}
use Rattle.command_line.proofs.call.identity_of.Goals as goal

pub returns-in-Ok-clause-sound : goal.returns-in-Ok-clause-sound
returns-in-Ok-clause-sound c = (c.in-Ok.bytes, sym c.from_hex.ensures ∙ c.in-Ok.is, sym c.from_be_bytes.ensures)

pub returns-in-Ok-clause-held : goal.returns-in-Ok-clause-held
returns-in-Ok-clause-held c = λ identity spells.
    let same : Ok c.in-Ok.bytes ≡ Ok spells.0 = sym c.in-Ok.is ∙ c.from_hex.ensures ∙ spells.1 in
    ap Some (c.from_be_bytes.ensures ∙ cc same ∙ spells.2)

pub returns-in-Err-clause-held : goal.returns-in-Err-clause-held
returns-in-Err-clause-held c = λ identity spells.
    let bad : Err c.in-Err.field-0 ≡ Ok spells.0 = sym c.in-Err.is ∙ c.from_hex.ensures ∙ spells.1 in
    cc bad
