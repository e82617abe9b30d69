use Rattle.std.proofs.Common.{◌≡◌, Some, None}
use Rattle.command_line.proofs.call.mem_in.Goals as goal

pub returns-in_err-sectors-clause-meant : goal.returns-in_err-sectors-clause-meant
returns-in_err-sectors-clause-meant c = λ n version history range h.
    let bad : None ≡ Some n = c.in_err-sectors.ensures.held n range.0.0 range.0.1 h.0 in
    cc bad

pub returns-in_err-format-clause-meant : goal.returns-in_err-format-clause-meant
returns-in_err-format-clause-meant c = λ n version history range h.
    let bad : None ≡ Some version = c.in_err-format.ensures.held version range.1.0 range.1.1 h.1 in
    cc bad

pub returns-in_err-history-clause-meant : goal.returns-in_err-history-clause-meant
returns-in_err-history-clause-meant c = λ n version history range h.
    let bad : None ≡ Some history = c.in_err-history.ensures.held history range.2 h.2 in
    cc bad

pub returns-clause-meant : goal.returns-clause-meant
returns-clause-meant c = λ n version history range h.
    let same : Some c.in_ok-sectors.sectors ≡ Some n = c.in_ok-sectors.ensures.held n range.0.0 range.0.1 h.0 in
    let same_history : Some c.in_ok-history.history ≡ Some history = c.in_ok-history.ensures.held history range.2 h.2 in
    let same_version : Some c.in_ok-format.format ≡ Some version = c.in_ok-format.ensures.held version range.1.0 range.1.1 h.1 in
    cc (same, same_version, same_history)
