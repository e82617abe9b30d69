use Rattle.std.proofs.Common.{◌≡◌, ◌∙◌, Some, None}
use Rattle.command_line.proofs.call.upgrade_in.Goals as goal

pub returns-in_err-file-clause-meant : goal.returns-in_err-file-clause-meant
returns-in_err-file-clause-meant c = λ file version identity strict range h.
    let bad : None ≡ Some file = c.in_err-file.ensures ∙ h.0 in
    cc bad

pub returns-in_err-format-clause-meant : goal.returns-in_err-format-clause-meant
returns-in_err-format-clause-meant c = λ file version identity strict range h.
    let bad : None ≡ Some version = c.in_err-format.ensures.held version range.0 range.1 h.1 in
    cc bad

pub returns-in_err-identity-clause-meant : goal.returns-in_err-identity-clause-meant
returns-in_err-identity-clause-meant c = λ file version identity strict range h.
    let bad : None ≡ Some identity = c.in_err-identity.ensures.held identity h.2 in
    cc bad

pub returns-in_err-strict-clause-meant : goal.returns-in_err-strict-clause-meant
returns-in_err-strict-clause-meant c = λ file version identity strict range h.
    let bad : None ≡ Some strict = c.in_err-strict.ensures.held strict h.3 in
    cc bad

pub returns-clause-meant : goal.returns-clause-meant
returns-clause-meant c = λ file version identity strict range h.
    let same_file : Some c.in_ok-file.file.now ≡ Some file = c.in_ok-file.ensures ∙ h.0 in
    let same_version : Some c.in_ok-format.format ≡ Some version = c.in_ok-format.ensures.held version range.0 range.1 h.1 in
    let same_identity : Some c.in_ok-identity.identity ≡ Some identity = c.in_ok-identity.ensures.held identity h.2 in
    let same_strict : Some c.in_ok-strict.strict ≡ Some strict = c.in_ok-strict.ensures.held strict h.3 in
    cc (same_file, same_version, same_identity, same_strict)
