use Rattle.std.proofs.Common.{◌≡◌, ◌++◌, ◌∷◌, [], ap, ◌∙◌}
use Rattle.std.specs.Str.{IsUtf8}
use Rattle.json.specs.Print.{escape_byte}
use Rattle.record_text.proofs.Patches.{patch_parts}
use Rattle.record_text.proofs.plain.patch_parts.Goals as goal

pub returns : goal.returns
unfolding escape_byte
returns c = λ ops is sound low.
    let utf8 : IsUtf8 c.in_ok-name.name.now = c.in_ok-name.ensures in
    let last : c.in_ok-rest-2.rest.now ≡ c.in_ok-last.ops.now ++ 125 ∷ [] = c.in_ok-last.ensures.cases.0 ∙ ap (λ x. c.in_ok-last.ops.now ++ x ∷ []) c.if-last-ne125.false in
    patch_parts c.in_ok-name.name.now ops c.args.body.now c.in_ok-rest.rest.now c.in_ok-strip_quoted.field-0.now c.in_ok-rest-2.rest.now c.in_ok-last.ops.now
    c.in_ok-rest.ensures c.in_ok-strip_quoted.ensures c.in_ok-rest-2.ensures last is utf8 sound low
