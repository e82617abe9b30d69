use Rattle.std.proofs.Common.{◌≡◌, Some, None, arith}
use Rattle.command_line.proofs.call.number_in.Goals as goal

pub returns-in_err-number-clause-held : goal.returns-in_err-number-clause-held
returns-in_err-number-clause-held c = λ n low high h.
    let fits = c.ranges.most.fits in
    let bad : None ≡ Some n = c.in_err-number.ensures.held n (omega (arith, fits)) h in
    cc bad
