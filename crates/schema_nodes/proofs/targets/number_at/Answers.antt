use Rattle.std.proofs.Common.{rules, ◌+◌, ◌<◌, ◌≤◌, ◌^◌, decimal, option_to_list, arith, refl, sym, ap, zero-add, length, ◌∙◌}
use Rattle.std.proofs.lemmas.Option.{slice_get_read, slice_get_past}
use Rattle.schema_nodes.proofs.Reaching.{number_at_at, number_at_none}
use Rattle.schema_nodes.proofs.targets.number_at.Goals as goal

pub returns-in_default : goal.returns-in_default
returns-in_default c =
    let small : 0 + length c.args.row.now ≤ 2 ^ 64 = search rules in
    ap option_to_list (sym (number_at_none 0 c.args.token.now c.args.row.now small c.in_default.ensures))

pub returns-in-Some-get : goal.returns-in-Some-get
returns-in-Some-get c =
    let i = c.in-Some.index in
    let small : i < 2 ^ 64 = search rules in
    let same = number_at_at 0 i c.args.token.now c.args.row.now (omega (arith, small)) (ap decimal (zero-add i) ∙ c.in-Some.ensures) in
    let a = c.in-Some-get.ensures.lookup in
    let found = slice_get_read c.args.row.now (length c.args.row.now) i c.in-Some-get.number.now refl a.3.0 a.1 in
    c.from_ref.ensures.value ∙ sym (ap option_to_list found) ∙ ap option_to_list (sym same)

pub returns-in-None : goal.returns-in-None
returns-in-None c =
    let i = c.in-Some.index in
    let small : i < 2 ^ 64 = search rules in
    let same = number_at_at 0 i c.args.token.now c.args.row.now (omega (arith, small)) (ap decimal (zero-add i) ∙ c.in-Some.ensures) in
    sym (ap option_to_list (slice_get_past c.args.row.now i c.in-None.ensures.lookup.3)) ∙ ap option_to_list (sym same)
