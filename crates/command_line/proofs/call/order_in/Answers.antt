use Rattle.std.proofs.Common.{◌≡◌, Some, None, sym, ap, subst, unwrap_or}
use Rattle.clap.specs.Words.{subcommand_rows_of}
use Rattle.command_line.specs.Call.{Asked, asked_of}
use Rattle.command_line.specs.Options.{MeansWhy}
use Rattle.command_line.proofs.call.order_in.Goals as goal

pub returns-in_err-why-clause-meant : goal.returns-in_err-why-clause-meant
returns-in_err-why-clause-meant c = λ asked why range means order.
    let same : Some (asked_of c.in_ok-call.call) ≡ Some asked = c.in_ok-call.ensures.meant asked range means in
    let is = ap (λ o. unwrap_or o asked) same in
    let bad : None ≡ Some why = c.in_err-why.ensures.meant why (subst (λ (a : Asked). MeansWhy (subcommand_rows_of c.args.matches.now) a why) (sym is) order) in
    cc bad
