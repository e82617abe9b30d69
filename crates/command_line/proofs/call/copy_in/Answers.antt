use Rattle.std.proofs.Common.{◌≡◌, ◌∙◌, Some, None}
use Rattle.command_line.proofs.call.copy_in.Goals as goal

pub returns-in_err-file-clause-meant : goal.returns-in_err-file-clause-meant
returns-in_err-file-clause-meant c = λ file new n version identity strict range h.
    let bad : None ≡ Some file = c.in_err-file.ensures ∙ h.0 in
    cc bad

pub returns-in_err-new-clause-meant : goal.returns-in_err-new-clause-meant
returns-in_err-new-clause-meant c = λ file new n version identity strict range h.
    let bad : None ≡ Some new = c.in_err-new.ensures ∙ h.1 in
    cc bad

pub returns-in_err-sectors-clause-meant : goal.returns-in_err-sectors-clause-meant
returns-in_err-sectors-clause-meant c = λ file new n version identity strict range h.
    let bad : None ≡ Some n = c.in_err-sectors.ensures.held n range.0.0 range.0.1 h.2 in
    cc bad

pub returns-in_err-format-clause-meant : goal.returns-in_err-format-clause-meant
returns-in_err-format-clause-meant c = λ file new n version identity strict range h.
    let bad : None ≡ Some version = c.in_err-format.ensures.held version range.1 h.3 in
    cc bad

pub returns-in_err-identity-clause-meant : goal.returns-in_err-identity-clause-meant
returns-in_err-identity-clause-meant c = λ file new n version identity strict range h.
    let bad : None ≡ Some identity = c.in_err-identity.ensures.held identity h.4 in
    cc bad

pub returns-in_err-strict-clause-meant : goal.returns-in_err-strict-clause-meant
returns-in_err-strict-clause-meant c = λ file new n version identity strict range h.
    let bad : None ≡ Some strict = c.in_err-strict.ensures.held strict h.5 in
    cc bad

pub returns-clause-meant : goal.returns-clause-meant
returns-clause-meant c = λ file new n version identity strict range h.
    let same_file : Some c.in_ok-file.file.now ≡ Some file = c.in_ok-file.ensures ∙ h.0 in
    let same_new : Some c.in_ok-new.new.now ≡ Some new = c.in_ok-new.ensures ∙ h.1 in
    let same_number : Some c.in_ok-sectors.sectors ≡ Some n = c.in_ok-sectors.ensures.held n range.0.0 range.0.1 h.2 in
    let same_version : Some c.in_ok-format.format ≡ Some version = c.in_ok-format.ensures.held version range.1 h.3 in
    let same_identity : Some c.in_ok-identity.identity ≡ Some identity = c.in_ok-identity.ensures.held identity h.4 in
    let same_strict : Some c.in_ok-strict.strict ≡ Some strict = c.in_ok-strict.ensures.held strict h.5 in
    cc (same_file, same_new, same_number, same_version, same_identity, same_strict)
