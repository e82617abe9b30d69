use Rattle.std.proofs.Common.{◌≡◌, ◌∙◌, Some, None}
use Rattle.command_line.proofs.call.repair_in.Goals as goal

pub returns-in_err-file-clause-meant : goal.returns-in_err-file-clause-meant
returns-in_err-file-clause-meant c = λ file h.
    let bad : None ≡ Some file = c.in_err-file.ensures ∙ h in
    cc bad

pub returns-clause-meant : goal.returns-clause-meant
returns-clause-meant c = λ file h.
    let same : Some c.in_ok-file.file.now ≡ Some file = c.in_ok-file.ensures ∙ h in
    cc same
