use Rattle.std.proofs.Common.{◌≡◌, ◌∙◌, Some, None, true, false}
use Rattle.command_line.proofs.call.check_in.Goals as goal

pub returns-in_err-file-clause-meant : goal.returns-in_err-file-clause-meant
returns-in_err-file-clause-meant c = λ file strict h.
    let bad : None ≡ Some file = c.in_err-file.ensures ∙ h.0 in
    cc bad

pub returns-in_err-file-clause-meant_deep : goal.returns-in_err-file-clause-meant_deep
returns-in_err-file-clause-meant_deep c = λ file h.
    let bad : None ≡ Some file = c.in_err-file.ensures ∙ h.0 in
    cc bad

pub returns-in_err-strict-clause-meant : goal.returns-in_err-strict-clause-meant
returns-in_err-strict-clause-meant c = λ file strict h.
    let bad : None ≡ Some strict = c.in_err-strict.ensures.held strict h.1 in
    cc bad

pub returns-in_err-deep-clause-meant : goal.returns-in_err-deep-clause-meant
returns-in_err-deep-clause-meant c = λ file strict h.
    let bad : None ≡ Some false = c.in_err-deep.ensures.held false h.2 in
    cc bad

pub returns-in_err-deep-clause-meant_deep : goal.returns-in_err-deep-clause-meant_deep
returns-in_err-deep-clause-meant_deep c = λ file h.
    let bad : None ≡ Some true = c.in_err-deep.ensures.held true h.1 in
    cc bad
