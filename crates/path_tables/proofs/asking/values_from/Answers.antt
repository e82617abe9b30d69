use Rattle.std.proofs.Common.{◌∙◌, ap, subst, sym}
use Rattle.std.proofs.lemmas.Result.{err_from_is_err_and}
use Rattle.path_tables.proofs.Answered.{listed_anywhere, refused_anywhere}
use Rattle.path_tables.specs.FilterTables.{phases_view}
use Rattle.path_select.specs.Indexed.{at_number}
use Rattle.path_select.specs.Gives.{Stops}
use Rattle.path_select.specs.Values.{values}
use Rattle.path_tables.proofs.asking.values_from.Goals as goal

pub returns-in_err-numbers : goal.returns-in_err-numbers
returns-in_err-numbers c =
    let q = phases_view c.args.phases.now.items in
    let u = at_number c.args.index.now c.args.number in
    let p = err_from_is_err_and c.from_residual.result c.from_residual.ensures.1 in
    rw (p.1, p.2) (subst (Stops c.in_err-numbers.field-0.0) (refused_anywhere q u) c.in_err-numbers.ensures)

pub returns : goal.returns
returns c =
    let q = phases_view c.args.phases.now.items in
    let u = at_number c.args.index.now c.args.number in
    let h = c.in_ok-numbers.ensures in
    (sym (refused_anywhere q u) ∙ h.0, c.in_ok-values.ensures ∙ ap values h.1 ∙ listed_anywhere q u)
