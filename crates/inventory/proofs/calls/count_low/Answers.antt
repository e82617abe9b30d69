use Rattle.std.proofs.Common.{Some, length, sym, ap, ◌∙◌}
use Rattle.std.proofs.lemmas.List.{length-map}
use Rattle.std.specs.Option.{option_map}
use Rattle.std.specs.Result.{result_ok}
use Rattle.inventory.proofs.calls.count_low.Goals as goal

pub returns : goal.returns
returns g c =
    (c.in_ok-low.low, c.in_ok-low.ensures.ok, ap (λ r. option_map length (result_ok r)) c.in_ok-query.ensures ∙ ap Some (length-map c.in_ok-query.field-0.items _ ∙ sym (c.len.ensures ∙ c.in_ok-query.field-0.ok.0)))
