use Rattle.std.proofs.Common.{◌≡◌, Some, None, true}
use Rattle.command_line.proofs.call.dump_in.Goals as goal

pub returns-in_err-read_only-clause-meant : goal.returns-in_err-read_only-clause-meant
returns-in_err-read_only-clause-meant c = λ file strict h.
    let bad : None ≡ Some true = c.in_err-read_only.ensures.held true h.1 in
    cc bad

pub returns-in_err-strict-clause-meant : goal.returns-in_err-strict-clause-meant
returns-in_err-strict-clause-meant c = λ file strict h.
    let bad : None ≡ Some strict = c.in_err-strict.ensures.held strict h.2 in
    cc bad
