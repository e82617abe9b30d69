use Rattle.std.proofs.Common.{◌∙◌, ap, option_map, option_to_list}
use Rattle.path_select.specs.ChildView.{child_of}
use Rattle.path_select.proofs.Views.{found_some, found_none}
use Rattle.path_select.proofs.select.entry.Goals as goal

pub returns-in_err-name : goal.returns-in_err-name
returns-in_err-name c = ap (λ o. option_to_list (option_map child_of o)) c.from_residual.ensures ∙ found_none c.args.name.now c.args.members.now.entries c.in_err-name.ensures.value

pub returns : goal.returns
returns c = found_some c.args.name.now c.in_ok-name.name.now c.in_ok-name.value.now c.args.members.now.entries c.in_ok-name.ensures.same_key c.in_ok-name.ensures.value
