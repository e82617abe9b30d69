use Rattle.store_commits.proofs.segment.replace.Goals as goal

pub returns-in-Ok-clause-replaced : goal.returns-in-Ok-clause-replaced
returns-in-Ok-clause-replaced g c =
    let is = c.commit_replacement.ensures in
    record { outcome = ((λ _. c.in-Ok.ensures.ok), (λ no. absurd (cc no))); any_moment = is.any_moment; kept = is.kept; honest = is.honest }

pub returns-in-Err-clause-replaced : goal.returns-in-Err-clause-replaced
returns-in-Err-clause-replaced g c =
    let is = c.commit_replacement.ensures in
    record { outcome = ((λ no. absurd (cc no)), (λ _. c.in-Err.ensures.err.1)); any_moment = is.any_moment; kept = is.kept; honest = is.honest }
