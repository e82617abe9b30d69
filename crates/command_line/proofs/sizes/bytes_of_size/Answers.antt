use Rattle.std.proofs.Common.{◌∙◌, ◌*◌, ◌<◌, ◌^◌, ap, ap₂, subst, sym, List, ℕ}
use Rattle.std.specs.Str.Parse.{IsNumeral, digits_value, without_leading_plus}
use Rattle.command_line.proofs.Sized.{some_product, value_fits}
use Rattle.command_line.proofs.sizes.bytes_of_size.Goals as goal

pub returns-in-Ok-clause-held : goal.returns-in-Ok-clause-held
returns-in-Ok-clause-held c = λ bytes small spells.
    let one = c.split_unit-unit.ensures.one spells.digits spells.letter spells.unit spells.text_is spells.unit_is spells.numeral in
    let number = c.in-Ok.ensures.value.1 ∙ ap (λ (ds : List ℕ). digits_value 10 (without_leading_plus ds)) (sym one.0) in
    some_product c.checked_mul.result _ bytes c.checked_mul.ensures (ap₂ (λ a b. a * b) number (sym one.1) ∙ sym spells.bytes_are) small

pub returns-in-Err-clause-held : goal.returns-in-Err-clause-held
returns-in-Err-clause-held c = λ bytes small spells.
    let one = c.split_unit-unit.ensures.one spells.digits spells.letter spells.unit spells.text_is spells.unit_is spells.numeral in
    let fits = value_fits spells.letter (digits_value 10 (without_leading_plus spells.digits)) spells.unit bytes spells.unit_is spells.bytes_are small in
    absurd (c.in-Err.ensures.value (subst (λ (ds : List ℕ). IsNumeral 10 (without_leading_plus ds)) one.0 spells.numeral, subst (λ (ds : List ℕ). digits_value 10 (without_leading_plus ds) < 2 ^ 64) one.0 fits))
