use Rattle.std.proofs.Common.{◌≡◌, ◌∙◌, Some, None}
use Rattle.command_line.proofs.call.serve_in.Goals as goal

pub returns-in_err-file-clause-meant : goal.returns-in_err-file-clause-meant
returns-in_err-file-clause-meant c = λ file batch pump history strict range h.
    let bad : None ≡ Some file = c.in_err-file.ensures ∙ h.0 in
    cc bad

pub returns-in_err-batch-clause-meant : goal.returns-in_err-batch-clause-meant
returns-in_err-batch-clause-meant c = λ file batch pump history strict range h.
    let bad : None ≡ Some batch = c.in_err-batch.ensures.held batch range.0.1 h.1 in
    cc bad

pub returns-in_err-pump-clause-meant : goal.returns-in_err-pump-clause-meant
returns-in_err-pump-clause-meant c = λ file batch pump history strict range h.
    let bad : None ≡ Some pump = c.in_err-pump.ensures.held pump range.1 h.2 in
    cc bad

pub returns-in_err-history-clause-meant : goal.returns-in_err-history-clause-meant
returns-in_err-history-clause-meant c = λ file batch pump history strict range h.
    let bad : None ≡ Some history = c.in_err-history.ensures.held history range.2 h.3 in
    cc bad

pub returns-in_err-strict-clause-meant : goal.returns-in_err-strict-clause-meant
returns-in_err-strict-clause-meant c = λ file batch pump history strict range h.
    let bad : None ≡ Some strict = c.in_err-strict.ensures.held strict h.4 in
    cc bad

pub returns-clause-meant : goal.returns-clause-meant
returns-clause-meant c = λ file batch pump history strict range h.
    let same_file : Some c.in_ok-file.file.now ≡ Some file = c.in_ok-file.ensures ∙ h.0 in
    let same_batch : Some c.in_ok-batch.batch ≡ Some batch = c.in_ok-batch.ensures.held batch range.0.1 h.1 in
    let same_pump : Some c.in_ok-pump.pump ≡ Some pump = c.in_ok-pump.ensures.held pump range.1 h.2 in
    let same_history : Some c.in_ok-history.history ≡ Some history = c.in_ok-history.ensures.held history range.2 h.3 in
    let same_flag : Some c.in_ok-strict.strict ≡ Some strict = c.in_ok-strict.ensures.held strict h.4 in
    cc (same_file, same_batch, same_pump, same_history, same_flag)
