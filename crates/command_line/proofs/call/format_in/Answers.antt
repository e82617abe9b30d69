use Rattle.std.proofs.Common.{◌≡◌, ◌∙◌, Some, None}
use Rattle.command_line.proofs.call.format_in.Goals as goal

pub returns-in_err-file-clause-meant : goal.returns-in_err-file-clause-meant
returns-in_err-file-clause-meant c = λ file n version mode sparse identity range h.
    let bad : None ≡ Some file = c.in_err-file.ensures ∙ h.0 in
    cc bad

pub returns-in_err-sectors-clause-meant : goal.returns-in_err-sectors-clause-meant
returns-in_err-sectors-clause-meant c = λ file n version mode sparse identity range h.
    let bad : None ≡ Some n = c.in_err-sectors.ensures.held n range.0.0 range.0.1 h.1 in
    cc bad

pub returns-in_err-format-clause-meant : goal.returns-in_err-format-clause-meant
returns-in_err-format-clause-meant c = λ file n version mode sparse identity range h.
    let bad : None ≡ Some version = c.in_err-format.ensures.held version range.1.0 range.1.1 h.2 in
    cc bad

pub returns-in_err-mode-clause-meant : goal.returns-in_err-mode-clause-meant
returns-in_err-mode-clause-meant c = λ file n version mode sparse identity range h.
    let bad : None ≡ Some mode = c.in_err-mode.ensures.held mode range.2 h.3 in
    cc bad

pub returns-in_err-sparse-clause-meant : goal.returns-in_err-sparse-clause-meant
returns-in_err-sparse-clause-meant c = λ file n version mode sparse identity range h.
    let bad : None ≡ Some sparse = c.in_err-sparse.ensures.held sparse h.4 in
    cc bad

pub returns-in_err-identity-clause-meant : goal.returns-in_err-identity-clause-meant
returns-in_err-identity-clause-meant c = λ file n version mode sparse identity range h.
    let bad : None ≡ Some identity = c.in_err-identity.ensures.held identity h.5 in
    cc bad

pub returns-clause-meant : goal.returns-clause-meant
returns-clause-meant c = λ file n version mode sparse identity range h.
    let same_file : Some c.in_ok-file.file.now ≡ Some file = c.in_ok-file.ensures ∙ h.0 in
    let same_number : Some c.in_ok-sectors.sectors ≡ Some n = c.in_ok-sectors.ensures.held n range.0.0 range.0.1 h.1 in
    let same_version : Some c.in_ok-format.format ≡ Some version = c.in_ok-format.ensures.held version range.1.0 range.1.1 h.2 in
    let same_mode : Some c.in_ok-mode.mode ≡ Some mode = c.in_ok-mode.ensures.held mode range.2 h.3 in
    let same_flag : Some c.in_ok-sparse.sparse ≡ Some sparse = c.in_ok-sparse.ensures.held sparse h.4 in
    let same_identity : Some c.in_ok-identity.identity ≡ Some identity = c.in_ok-identity.ensures.held identity h.5 in
    cc (same_file, same_number, same_version, same_mode, same_flag, same_identity)
