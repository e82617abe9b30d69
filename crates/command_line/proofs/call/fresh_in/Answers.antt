use Rattle.std.proofs.Common.{◌≡◌, ◌∙◌, Some, None}
use Rattle.command_line.proofs.call.fresh_in.Goals as goal

pub returns-in_err-file-clause-meant : goal.returns-in_err-file-clause-meant
returns-in_err-file-clause-meant c = λ file n identity range h.
    let bad : None ≡ Some file = c.in_err-file.ensures ∙ h.0 in
    cc bad

pub returns-in_err-sectors-clause-meant : goal.returns-in_err-sectors-clause-meant
returns-in_err-sectors-clause-meant c = λ file n identity range h.
    let bad : None ≡ Some n = c.in_err-sectors.ensures.held n range.0 range.1 h.1 in
    cc bad

pub returns-in_err-identity-clause-meant : goal.returns-in_err-identity-clause-meant
returns-in_err-identity-clause-meant c = λ file n identity range h.
    let bad : None ≡ Some identity = c.in_err-identity.ensures.held identity h.2 in
    cc bad

pub returns-clause-meant : goal.returns-clause-meant
returns-clause-meant c = λ file n identity range h.
    let same_file : Some c.in_ok-file.file.now ≡ Some file = c.in_ok-file.ensures ∙ h.0 in
    let same_number : Some c.in_ok-sectors.sectors ≡ Some n = c.in_ok-sectors.ensures.held n range.0 range.1 h.1 in
    let same_identity : Some c.in_ok-identity.identity ≡ Some identity = c.in_ok-identity.ensures.held identity h.2 in
    cc (same_file, same_number, same_identity)
