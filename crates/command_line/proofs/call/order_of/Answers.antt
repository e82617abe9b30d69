use Rattle.command_line.proofs.call.order_of.Goals as goal

pub returns-in-Some-clause-row : goal.returns-in-Some-clause-row
returns-in-Some-clause-row c = λ asked why range row.
    let means = c.in_ok-matches.ensures.row asked why range row in
    c.in-Some.ensures.meant asked why range means.0 means.1

pub returns-in_err-wrong_text-in-None-clause-row : goal.returns-in_err-wrong_text-in-None-clause-row
returns-in_err-wrong_text-in-None-clause-row c = λ asked why range row.
    let means = c.in_ok-matches.ensures.row asked why range row in
    absurd (c.in-None.ensures.meant asked why range means.0 means.1)

pub returns-clause-row : goal.returns-clause-row
returns-clause-row c = λ asked why range row.
    let means = c.in_ok-matches.ensures.row asked why range row in
    absurd (c.in-None.ensures.meant asked why range means.0 means.1)
